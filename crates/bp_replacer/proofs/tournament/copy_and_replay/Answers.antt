use Rattle.std.proofs.Common.{◌≡◌, ◌∙◌, ◌+◌, ◌/◌, ◌<◌, set, length, sym, subst, inl, inr, arith}
use Rattle.std.proofs.lemmas.Bool.{cases_eq, cases_lt}
use Rattle.std.proofs.lemmas.List.{length-set}
use Rattle.bp_replacer.specs.Tree.{blocks, node, IsFirstOfBlock}
use Rattle.bp_replacer.proofs.PassLaws.{known_past}
use Rattle.bp_replacer.proofs.TreeLaws.{block_within, node_changed, node_kept, first_elsewhere}
use Rattle.bp_replacer.proofs.tournament.copy_and_replay.Goals as goal

pub loop-block-preserved : goal.loop-block-preserved
loop-block-preserved c =
    let v = c.loop-block.invariant in
    let e = c.copy_block.ensures in
    let nodes = c.loop-block.nodes in
    let known' = c.copy_block.new.known in
    let block = c.loop-block.block in
    let leaves = blocks (length c.args.seats.now) in
    let half : leaves ≡ length c.args.nodes.now / 2 = omega (arith, c.requires.nodes) in
    let at = length c.args.nodes.now / 2 + block in
    let inside : at < length nodes = omega (arith, v.size, half, c.loop-block-test.true) in
    record {
      size = length-set nodes at c.copy_block.result ∙ v.size;
      length_is = e.copied.length_is;
      anew = e.anew;
      known_is = λ k less. elim (cases_eq (k / 16) block) [
        | inl here ↦ e.copied.known_is k here
        | inr other ↦ rw (e.copied.same_known k other, e.copied.same_times k other) (v.known_is k (omega (arith, less, other)))
      ];
      not_yet = λ k le. e.copied.same_times k (omega (arith, le)) ∙ v.not_yet k (omega (arith, le));
      firsts = λ b less. elim (cases_eq b block) [
        | inl here ↦ subst (λ n. IsFirstOfBlock known' n (node (set nodes at c.copy_block.result) (leaves + n))) (sym here)
            (subst (λ n. IsFirstOfBlock known' block (node (set nodes at c.copy_block.result) (n + block))) (sym half)
            (subst (IsFirstOfBlock known' block) (sym (node_changed nodes at c.copy_block.result inside)) e.first))
        | inr other ↦ subst (IsFirstOfBlock known' b) (sym (node_kept nodes at c.copy_block.result (leaves + b) (omega (arith, other, half))))
            (first_elsewhere c.loop-block.known known' b (node nodes (leaves + b)) (e.copied.length_is ∙ sym v.length_is) (λ k here. e.copied.same_known k (omega (arith, here, other))) (v.firsts b (omega (arith, less, other))))
      ];
    }

pub returns-clause-known : goal.returns-clause-known
returns-clause-known c =
    let v = c.loop-block.invariant in
    let seats = c.args.seats.now in
    record {
      length_is = v.length_is;
      known_is = λ k. elim (cases_lt k (length seats)) [
        | inl lt ↦ v.known_is k (omega (arith, block_within (length seats) k lt, c.requires.nodes, c.loop-block-test.false))
        | inr past ↦ known_past c.loop-block.known seats c.loop-block.young k v.length_is past
      ];
    }

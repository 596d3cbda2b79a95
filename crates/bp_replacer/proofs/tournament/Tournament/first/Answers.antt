use Rattle.std.proofs.Common.{◌≡◌, ◌∙◌, ap, sym, subst, arith, length, List, Option}
use Rattle.std.proofs.lemmas.List.{get_or_default}
use Rattle.bp_references.specs.Candidates.{Candidate}
use Rattle.bp_replacer.specs.Seats.{winner, seat_at}
use Rattle.bp_replacer.specs.Tree.{node}
use Rattle.bp_replacer.proofs.TreeLaws.{block_some, root_leads}
use Rattle.bp_replacer.proofs.tournament.Tournament.first.Goals as goal

pub index-requires : goal.index-requires
index-requires c =
    let i = c.self.inside in
    omega (arith, c.self.invariant.leaves.size, block_some (length i.seats), i.nodes.ok.0)

pub returns : goal.returns
returns c k =
    let i = c.self.inside in
    let root = c.index.ensures ∙ get_or_default i.nodes.items 1 c.index.result.now 0 (omega (arith, c.self.invariant.leaves.size, block_some (length i.seats))) in
    let first : c.at.result ≡ seat_at i.seats (node i.nodes.items 1) = c.at.ensures ∙ ap (seat_at i.seats) root in
    subst (λ (s : List (Option Candidate)). winner c.at.result (seat_at s k) ≡ c.at.result) c.self.view_is
    (subst (λ (e : Option Candidate). winner e (seat_at i.seats k) ≡ e) (sym first) (root_leads i.nodes.items i.seats c.self.invariant k))

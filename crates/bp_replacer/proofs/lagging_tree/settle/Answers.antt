use Rattle.std.proofs.Common.{◌≡◌, ◌∙◌, false, set, Option, Some, None, refl, ap, sym, subst, inl, inr, arith}
use Rattle.std.specs.Option.{is_some}
use Rattle.std.proofs.lemmas.Bool.{true≢false}
use Rattle.std.proofs.lemmas.List.{set-get_or}
use Rattle.bp_references.specs.Candidates.{Candidate}
use Rattle.bp_replacer.specs.Seats.{seat_at}
use Rattle.bp_replacer.specs.Young.{since, AreYoung}
use Rattle.bp_replacer.proofs.lagging_tree.settle.Goals as goal

nobody_there : (e : Option Candidate) → is_some e ≡ false → e ≡ None
nobody_there None empty = refl
nobody_there (Some e) full = absurd (true≢false full)

pub returns-else-is_some : goal.returns-else-is_some
returns-else-is_some c =
    let known = c.args.tree.now in
    let seat = c.args.seat in
    let nobody : seat_at known seat ≡ None = nobody_there (seat_at known seat) (ap is_some (sym c.find.ensures) ∙ sym c.is_some.ensures ∙ c.if-is_some.false) in
    inl (
      omega arith,
      inr (record {
        known_is = sym (subst (λ e. set known seat e ≡ known) nobody (set-get_or known seat None));
        young = subst (AreYoung (since c.wait_from.new.self seat)) c.find-entry.ensures (c.wait_from.ensures.waits c.if-not-wait_from.false);
        later = c.wait_from.ensures.later;
      }),
    )

use Rattle.std.proofs.Common.{◌≡◌, sym, ◌∙◌, ap, subst, slice_index, Some}
use Rattle.bp_sweep.specs.Dense.{page_of}
use Rattle.bp_sweep.proofs.DenseNumbers.{dense-at, dense-below, dense-count, dense-each, page-one}
use Rattle.bp_sweep.proofs.laws.one_page_a_number.Goals as goal

pub returns-clause-same : goal.returns-clause-same
returns-clause-same c = λ numbers pages seen i j are here there.
    let a = dense-at numbers pages seen i 0 0 are here in
    let b = dense-at numbers pages seen j 0 0 are there in (
      λ same. page-one (slice_index numbers i) (slice_index numbers j) (slice_index pages i) seen a (subst (λ p. page_of (slice_index numbers j) seen ≡ Some p) (sym same) b),
      λ same. let one : Some (slice_index pages i) ≡ Some (slice_index pages j) = sym a ∙ ap (λ n. page_of n seen) same ∙ b in cc,
    )

pub returns-clause-count : goal.returns-clause-count
returns-clause-count c = dense-count

pub returns-clause-below : goal.returns-clause-below
returns-clause-below c = dense-below

pub returns-clause-each : goal.returns-clause-each
returns-clause-each c = dense-each

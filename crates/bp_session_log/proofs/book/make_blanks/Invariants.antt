-- All blanks do for an image of a page.
use Rattle.std.proofs.Common.{◌≡◌, ◌+◌, ◌≤◌, All, vec_len, vec_capacity}
use Rattle.bp_session_log.proofs.book.make_blanks.Given as goal

abbrev pub invariant-loop : goal.invariant-loop
invariant-loop g l = All (λ b. g.K.ListKeeper.fits b l.geometry.size) l.blanks.items × (vec_len l.blanks ≡ vec_len l.initial.blanks + l.counter) × (vec_capacity l.initial.blanks ≤ vec_capacity l.blanks)

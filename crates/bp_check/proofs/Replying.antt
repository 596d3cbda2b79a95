-- The replies that a call may have.
use Rattle.std.proofs.Common.{◌≡◌, Bool, true, false, None, refl, inl, inr, sym, ◌∙◌}
use Rattle.std.specs.Prelude.{◌↔◌, IsTrue, IfOk, Result, Ok, Err}
use Rattle.bp_trail.specs.declared.entries.Call.{Call}
use Rattle.bp_trail.specs.declared.entries.Call.TheVariants.{ReadEnd}
use Rattle.bp_trail.specs.declared.entries.Reply.{Reply}
use Rattle.bp_trail.specs.declared.entries.Reply.TheVariants.{WrongPage}
use Rattle.bp_trail.specs.Parameters.{Parameters}
use Rattle.bp_trail.specs.Trail.{Trail}
use Rattle.bp_trail.specs.PageMap.{reply_of, MayReply, FindsWrongPage}
use Rattle.bp_trail.specs.PageMap.FindsWrongPage.{another_page}
use Rattle.bp_check.specs.Seen.{tells_wrong_page}

finds : (call : Call) (reply : Reply) → tells_wrong_page call reply ≡ true → FindsWrongPage call reply
finds (ReadEnd t p None) WrongPage told = another_page t p
finds _ _ told = cc

tells : (call : Call) (reply : Reply) → FindsWrongPage call reply → tells_wrong_page call reply ≡ true
tells _ _ (another_page t p) = refl

pub may_by_page : (c : Parameters) (past : Trail) (call : Call) (reply : Reply) → tells_wrong_page call reply ≡ true → MayReply c past call reply
may_by_page c past call reply told = inr (finds call reply told)

may-by-reply : (c : Parameters) (past : Trail) (call : Call) (reply : Reply) (same : Bool) → tells_wrong_page call reply ≡ false → (IsTrue same ↔ (reply ≡ reply_of c past call)) → IsTrue same ↔ MayReply c past call reply
may-by-reply c past call reply same silent is = ((λ s. inl (is.0 s)), back)
  where
    back : MayReply c past call reply → IsTrue same
    back (inl known) = is.1 known
    back (inr found) = absurd (let no : true ≡ false = sym (tells call reply found) ∙ silent in cc)

pub may-by-answer : {E : Type 0} (c : Parameters) (past : Trail) (call : Call) (reply : Reply) (same : Result Bool E) → tells_wrong_page call reply ≡ false → IfOk same (λ b. IsTrue b ↔ (reply ≡ reply_of c past call)) → IfOk same (λ b. IsTrue b ↔ MayReply c past call reply)
may-by-answer c past call reply (Ok b) silent is = may-by-reply c past call reply b silent is
may-by-answer c past call reply (Err why) silent is = tt

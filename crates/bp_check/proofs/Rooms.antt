-- Which trails are legal does not hang on the room.
use Rattle.std.proofs.Common.{◌≡◌, ℕ, Bool, not, ◌&&◌, cond, List, [], ◌∷◌, filter, find, Some, None, inl, inr, refl, sym, ap, ◌∙◌}
use Rattle.std.specs.Prelude.{if◌then◌else◌}
use Rattle.bp_references.specs.Burst.{last_time}
use Rattle.bp_replacer.proofs.PurgeLaws.{count_below_same}
use Rattle.bp_references.specs.Stamp.{stamp}
use Rattle.bp_trail.specs.declared.entries.Entry.{Entry}
use Rattle.bp_trail.specs.declared.entries.Call.{Call}
use Rattle.bp_trail.specs.declared.entries.Call.TheVariants.{Tick, Mark, Fix, ReadEnd, WriteEnd, Read, Write, Unfix, Flush, Discard, Purge}
use Rattle.bp_trail.specs.declared.entries.Reply.{Reply}
use Rattle.bp_trail.specs.declared.entries.Reply.TheVariants.{Hit, Load, Busy, Forgot}
use Rattle.bp_trail.specs.Trail.{Trail}
use Rattle.bp_trail.specs.Lists.{every}
use Rattle.bp_trail.specs.Passes.{passes, tickets}
use Rattle.bp_trail.specs.Places.{residents, resident, loading}
use Rattle.bp_trail.specs.References.{references, references_with, forgets, last}
use Rattle.bp_trail.specs.Victim.{rank, before, candidate, candidates, victim}
use Rattle.bp_trail.specs.PageMap.{has_free_frame, replace_reply, reply_of, MayReply}
use Rattle.bp_trail.specs.Legal.{allowed, IsLawful, Legal}
use Rattle.bp_check.specs.declared.setup.Setup.{Setup}
use Rattle.bp_check.specs.Setups.{parameters_of}

filter-agree : {X : Type 0} (p q : X → Bool) → ((x : X) → p x ≡ q x) → (xs : List X) → filter p xs ≡ filter q xs
filter-agree p q same [] = refl
filter-agree p q same (x ∷ xs) = ap (λ b. cond b (x ∷ filter p xs) (filter p xs)) (same x) ∙ ap (λ ys. cond (q x) (x ∷ ys) ys) (filter-agree p q same xs)

find-agree : {X : Type 0} (p q : X → Bool) → ((x : X) → p x ≡ q x) → (xs : List X) → find p xs ≡ find q xs
find-agree p q same [] = refl
find-agree p q same (x ∷ xs) = ap (λ b. cond b (Some x) (find p xs)) (same x) ∙ ap (λ o. cond (q x) (Some x) o) (find-agree p q same xs)

every-agree : {X : Type 0} (p q : X → Bool) → ((x : X) → p x ≡ q x) → (xs : List X) → every p xs ≡ every q xs
every-agree p q same [] = refl
every-agree p q same (x ∷ xs) = ap (λ b. b && every p xs) (same x) ∙ ap (λ b. q x && b) (every-agree p q same xs)

module _ (s : Setup) (r : ℕ) where
  same-references : (past : Trail) (p : ℕ) → references (parameters_of s r) past p ≡ references (parameters_of s 0) past p
  same-references [] p = refl
  same-references (e ∷ past) p = ap (references_with (parameters_of s 0) e past p) (same-references past p)

  same-forgets : (past : Trail) (p : ℕ) → forgets (parameters_of s r) past p (references (parameters_of s r) past p) ≡ forgets (parameters_of s 0) past p (references (parameters_of s 0) past p)
  same-forgets past p = ap (forgets (parameters_of s 0) past p) (same-references past p)

  same-last : (past : Trail) (p : ℕ) → last (parameters_of s r) past p ≡ last (parameters_of s 0) past p
  same-last past p = ap last_time (same-references past p)

  same-rank : (past : Trail) (p : ℕ) → rank (parameters_of s r) past p ≡ rank (parameters_of s 0) past p
  same-rank past p = ap (λ known. record { stamp = stamp s.settings.k s.settings.correlated s.settings.k known; last = last_time known; page = p }) (same-references past p)

  same-candidate : (past : Trail) (p : ℕ) → candidate (parameters_of s r) past p ≡ candidate (parameters_of s 0) past p
  same-candidate past p = rw (same-last past p) refl

  same-candidates : (past : Trail) → candidates (parameters_of s r) past ≡ candidates (parameters_of s 0) past
  same-candidates past = filter-agree (candidate (parameters_of s r) past) (candidate (parameters_of s 0) past) (same-candidate past) (residents past)

  same-first : (past : Trail) (pages : List ℕ) (v : ℕ) → every (λ q. not (before (rank (parameters_of s r) past q) (rank (parameters_of s r) past v))) pages ≡ every (λ q. not (before (rank (parameters_of s 0) past q) (rank (parameters_of s 0) past v))) pages
  same-first past pages v =
      every-agree (λ q. not (before (rank (parameters_of s r) past q) (rank (parameters_of s r) past v))) (λ q. not (before (rank (parameters_of s 0) past q) (rank (parameters_of s 0) past v)))
      (λ q. ap (λ x. not (before x (rank (parameters_of s r) past v))) (same-rank past q) ∙ ap (λ x. not (before (rank (parameters_of s 0) past q) x)) (same-rank past v)) pages

  same-victim : (past : Trail) → victim (parameters_of s r) past ≡ victim (parameters_of s 0) past
  same-victim past =
      find-agree (λ v. every (λ q. not (before (rank (parameters_of s r) past q) (rank (parameters_of s r) past v))) (candidates (parameters_of s r) past))
      (λ v. every (λ q. not (before (rank (parameters_of s 0) past q) (rank (parameters_of s 0) past v))) (candidates (parameters_of s r) past)) (same-first past (candidates (parameters_of s r) past)) (candidates (parameters_of s r) past)
      ∙ ap (λ pages. find (λ v. every (λ q. not (before (rank (parameters_of s 0) past q) (rank (parameters_of s 0) past v))) pages) pages) (same-candidates past)

  same-reply : (past : Trail) (call : Call) → reply_of (parameters_of s r) past call ≡ reply_of (parameters_of s 0) past call
  same-reply past (Fix p) = ap (λ o. if loading past p then Busy else if resident past p then Hit (passes past) else if has_free_frame (parameters_of s 0) past then Load (tickets past) None else replace_reply past o) (same-victim past)
  same-reply past Purge = ap Forgot (count_below_same (λ p. forgets (parameters_of s 0) past p (references (parameters_of s 0) past p)) (λ p. forgets (parameters_of s r) past p (references (parameters_of s r) past p)) s.geometry.pages (λ p below. same-forgets past p))
  same-reply past (Flush p) = refl
  same-reply past (Discard p) = refl
  same-reply past (ReadEnd t p image) = refl
  same-reply past (WriteEnd t p good) = refl
  same-reply past (Read n p) = refl
  same-reply past (Tick n) = refl
  same-reply past (Mark lsn) = refl
  same-reply past (Write n p offset bytes lsn) = refl
  same-reply past (Unfix n p) = refl

  same-allowed : (past : Trail) (who : ℕ) (call : Call) → allowed (parameters_of s r) past who call ≡ allowed (parameters_of s 0) past who call
  same-allowed past who (Fix p) = refl
  same-allowed past who Purge = refl
  same-allowed past who (Flush p) = refl
  same-allowed past who (Discard p) = refl
  same-allowed past who (ReadEnd t p None) = refl
  same-allowed past who (ReadEnd t p (Some image)) = refl
  same-allowed past who (WriteEnd t p good) = refl
  same-allowed past who (Read n p) = refl
  same-allowed past who (Tick n) = refl
  same-allowed past who (Mark lsn) = refl
  same-allowed past who (Write n p offset bytes lsn) = refl
  same-allowed past who (Unfix n p) = refl

  may-there : (past : Trail) (call : Call) (reply : Reply) → MayReply (parameters_of s 0) past call reply → MayReply (parameters_of s r) past call reply
  may-there past call reply (inl is) = inl (is ∙ sym (same-reply past call))
  may-there past call reply (inr found) = inr found

  may-here : (past : Trail) (call : Call) (reply : Reply) → MayReply (parameters_of s r) past call reply → MayReply (parameters_of s 0) past call reply
  may-here past call reply (inl is) = inl (is ∙ same-reply past call)
  may-here past call reply (inr found) = inr found

  pub lawful-there : (past : Trail) (e : Entry) → IsLawful (parameters_of s 0) past e → IsLawful (parameters_of s r) past e
  lawful-there past e l = record { client = l.client; allowed = same-allowed past e.client e.call ∙ l.allowed; reply = may-there past e.call e.reply l.reply }

  pub lawful-here : (past : Trail) (e : Entry) → IsLawful (parameters_of s r) past e → IsLawful (parameters_of s 0) past e
  lawful-here past e l = record { client = l.client; allowed = sym (same-allowed past e.client e.call) ∙ l.allowed; reply = may-here past e.call e.reply l.reply }

  pub legal-there : (past : Trail) → Legal (parameters_of s 0) past → Legal (parameters_of s r) past
  legal-there [] l = tt
  legal-there (e ∷ past) l = record { here = lawful-there past e l.here; before = legal-there past l.before }

  pub legal-here : (past : Trail) → Legal (parameters_of s r) past → Legal (parameters_of s 0) past
  legal-here [] l = tt
  legal-here (e ∷ past) l = record { here = lawful-here past e l.here; before = legal-here past l.before }

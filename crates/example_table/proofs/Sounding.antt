-- Each page is sound: of each that redo writes the log has all bytes, and of each other no write is open.
use Rattle.std.proofs.Common.{◌≡◌, inl, inr, refl, sym, ap, subst, ◌∙◌, ℕ, ◌+◌, ◌≤◌, Bool, false, List, [], ◌∷◌, ◌++◌, length, reverse, filter, append-nil, arith}
use Rattle.std.specs.Prelude.{◌⊎◌}
use Rattle.std.proofs.lemmas.List.{reverse-append}
use Rattle.std.proofs.lemmas.List.Elements.{filter-append}
use Rattle.bp_trail.specs.declared.records.LogRecord.{LogRecord}
use Rattle.bp_trail.specs.Parameters.{Parameters}
use Rattle.bp_trail.specs.Lists.{some}
use Rattle.bp_trail.specs.Trail.{Trail}
use Rattle.bp_trail.specs.Event.{discards}
use Rattle.bp_trail.specs.Legal.{Legal}
use Rattle.bp_trail.specs.Recovery.{HasFullImage, records_from, wanted}
use Rattle.bp_trail.specs.Saved.{unsaved}
use Rattle.example_log.specs.Commits.{AreCommits, Kept, changes_of}
use Rattle.example_log.specs.Disk.{DeviceCall}
use Rattle.example_log.specs.Files.{FileCall}
use Rattle.example_table.specs.Images.{FirstsAreFull}
use Rattle.example_table.specs.Tables.{Cut, TableRan, writes_of}
use Rattle.example_table.proofs.Wholes.{firsts-older, full-of}
use Rattle.example_table.proofs.PoolLives.{IsSound, NoneFailed, NoneOpen, legal-then, none-front, since-begun, then-life}
use Rattle.example_table.proofs.Shut.{Written, saved-shut, shut-or-written, synced-shut, written-wanted}
use Rattle.example_table.proofs.Tables.{changes-append, kept-of, since-written, up_to, wanted-within, within_of}

rest-none : (xs ys : List LogRecord) → xs ++ ys ≡ [] → ys ≡ []
rest-none [] ys e = e
rest-none (x ∷ xs) ys e = absurd (cc)

module _ (c : Parameters) (table : List ℕ) (cut : Cut) (file : List ℕ) (start : ℕ) (alive : Bool) (past synced : Trail) (calls : List DeviceCall) (log_calls : List FileCall) (commits : List (List LogRecord)) (count : ℕ) (pending : List LogRecord)
    (ran : TableRan c table cut file start alive past synced calls log_calls commits count pending) where
  parts : ((x : Trail) × (past ≡ x ++ cut.past)) × ((y : Trail) × (synced ≡ y ++ cut.past))
  parts = since-begun cut.past cut.calls past synced calls ran.pool

  cut-failed : (p : ℕ) → NoneFailed p cut.calls
  cut-failed p =
      saved-shut c p cut.past cut.past cut.calls ran.cut_is.life (legal-then c parts.0.0 cut.past (subst (Legal c) parts.0.1 ran.legal))
      (none-front (discards p) parts.0.0 cut.past (subst (λ (t : Trail). some (discards p) t ≡ false) parts.0.1 (ran.kept p))) (ran.cut_is.saved p)

  pub sound : (tears : Bool) (found last : ℕ) (changes : List LogRecord) → Kept start count commits found last changes → (p : ℕ) → IsSound tears c.size 0 (reverse changes) calls p
  sound tears found last changes k p = go (full-of c.size (reverse changes) firsts p)
    where
      end : ℕ
      end = start + length k.kept

      firsts : FirstsAreFull c.size (reverse changes)
      firsts =
          firsts-older c.size (reverse (changes_of k.lost)) (reverse changes)
          (subst (FirstsAreFull c.size)
          (ap (λ (cs : List (List LogRecord)). reverse (changes_of cs)) k.stands ∙ ap reverse (changes-append k.kept k.lost) ∙ reverse-append (changes_of k.kept) (changes_of k.lost)
          ∙ ap (λ (t : List LogRecord). reverse (changes_of k.lost) ++ reverse t) (sym k.changes_are)) ran.full)

      by : records_from 0 (reverse changes) p ≡ [] → (NoneOpen p calls × NoneFailed p calls) ⊎ Written c p cut.past past → IsSound tears c.size 0 (reverse changes) calls p
      by none (inl shut) = inr (inr (none, shut.0))
      by none (inr w) =
          let told = since-written cut commits pending w.since past w.parts ran.cut_is.written ran.written in
          let kept = kept-of (start + 1) end k.kept k.lost (subst (AreCommits (start + 1)) k.stands ran.are) (omega arith) in
          let all : reverse changes ≡ filter (up_to end) (pending ++ writes_of w.since) =
          ap reverse k.changes_are ∙ sym kept ∙ ap (λ (cs : List (List LogRecord)). filter (up_to end) (reverse (changes_of cs))) (sym k.stands) ∙ ap (filter (up_to end)) told in
          let of_page = sym (wanted-within end p (pending ++ writes_of w.since)) ∙ sym (ap (filter (wanted 0 p)) all) ∙ none in
          let since_none = rest-none (filter (within_of end p) pending) (filter (within_of end p) (writes_of w.since)) (sym (filter-append (within_of end p) pending (writes_of w.since)) ∙ of_page) in
          let low = w.durably in
          let mark = ran.mark in
          let enough = k.durably in
          absurd (written-wanted c p w.lsn end w.since (omega arith) w.writes_it since_none)

      go : (records_from 0 (reverse changes) p ≡ []) ⊎ HasFullImage c.size (records_from 0 (reverse changes) p) → IsSound tears c.size 0 (reverse changes) calls p
      go (inr full) = inr (inl full)
      go (inl none) = by none (shut-or-written c p cut.past cut.calls (ran.cut_is.saved p) (synced-shut c p cut.past cut.past cut.calls ran.cut_is.life (cut-failed p) refl) (cut-failed p) past synced calls ran.pool ran.legal (ran.kept p))

  -- once all is saved and synced no write is open, and all commits are sound
  pub all-shut : synced ≡ past → ((p : ℕ) → unsaved past p ≡ false) → (p : ℕ) → NoneOpen p calls
  all-shut all saved p =
      let life = then-life cut.past cut.calls ran.cut_is.life past synced calls ran.pool in
      synced-shut c p past synced calls life (saved-shut c p past synced calls life ran.legal (ran.kept p) (saved p)) all

  pub all-sound : (tears : Bool) → count ≤ 1 + length commits → (p : ℕ) → IsSound tears c.size 0 (reverse (changes_of commits)) calls p
  all-sound tears le = sound tears start (start + length commits) (changes_of commits) (record { kept = commits; lost = []; stands = sym (append-nil commits); durably = le; first_is = refl; last_is = refl; changes_are = refl })

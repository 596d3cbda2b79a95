-- Worked trails, oldest first: legal ones, and wrong ones.
use Rattle.std.proofs.Common.{◌≡◌, refl, ◌⊎◌, inl, inr, ℕ, Bool, List, [], ◌∷◌, replicate, reverse, Some, None, true, false}
use Rattle.bp_trail.specs.declared.entries.Entry.{Entry}
use Rattle.bp_trail.specs.declared.entries.Call.{Call}
use Rattle.bp_trail.specs.declared.entries.Call.TheVariants.{Tick, Mark, Fix, ReadEnd, WriteEnd, Read, Write, Unfix, Flush, Purge}
use Rattle.bp_trail.specs.declared.entries.Reply.{Reply}
use Rattle.bp_trail.specs.declared.entries.Reply.TheVariants.{Done, Hit, Load, WriteFirst, NoVictim, Busy, Fixed, ReadFailed, WrongPage, Cleaned, StillDirty, WriteFailed, Content, Forgot}
use Rattle.bp_trail.specs.Parameters.{Parameters}
use Rattle.bp_trail.specs.Trail.{Trail}
use Rattle.bp_trail.specs.References.{hist, last}
use Rattle.bp_trail.specs.PageMap.{FindsWrongPage}
use Rattle.bp_trail.specs.PageMap.FindsWrongPage.{another_page}
use Rattle.bp_trail.specs.Legal.{Legal}

abbrev with_k : ℕ → ℕ → ℕ → ℕ → Parameters
with_k frames k correlated retained = record { frames = frames; k = k; correlated = correlated; retained = retained; pages = 16; size = 16; clients = 2; room = 100 }

abbrev by : ℕ → Call → Reply → Entry
by client call reply = record { client = client; call = call; reply = reply }

abbrev blank : List ℕ
blank = replicate 16 0

abbrev first_byte : ℕ → List ℕ
first_byte b = b ∷ replicate 15 0

abbrev second_reference_kept : Trail
second_reference_kept =
    by 0 (Fix 1) (Load 0 None) ∷
    by 0 (ReadEnd 0 1 (Some blank)) (Fixed 0) ∷
    by 0 (Unfix 0 1) (Done) ∷
    by 0 (Tick 1) (Done) ∷
    by 0 (Fix 1) (Hit 1) ∷
    by 0 (Unfix 1 1) (Done) ∷
    by 0 (Tick 1) (Done) ∷
    by 0 (Fix 2) (Load 1 None) ∷
    by 0 (ReadEnd 1 2 (Some blank)) (Fixed 2) ∷
    by 0 (Unfix 2 2) (Done) ∷
    by 0 (Tick 1) (Done) ∷
    by 0 (Fix 3) (Load 2 (Some 2)) ∷
    by 0 (ReadEnd 2 3 (Some blank)) (Fixed 3) ∷
    by 0 (Unfix 3 3) (Done) ∷ []

pub second_reference_kept-legal : Legal (with_k 2 2 0 1000) (reverse second_reference_kept)
second_reference_kept-legal = record { here = record { client = refl; allowed = refl; reply = inl refl }; before = record { here = record { client = refl; allowed = refl; reply = inl refl }; before = record { here = record { client = refl; allowed = refl; reply = inl refl }; before = record { here = record { client = refl; allowed = refl; reply = inl refl }; before = record { here = record { client = refl; allowed = refl; reply = inl refl }; before = record { here = record { client = refl; allowed = refl; reply = inl refl }; before = record { here = record { client = refl; allowed = refl; reply = inl refl }; before = record { here = record { client = refl; allowed = refl; reply = inl refl }; before = record { here = record { client = refl; allowed = refl; reply = inl refl }; before = record { here = record { client = refl; allowed = refl; reply = inl refl }; before = record { here = record { client = refl; allowed = refl; reply = inl refl }; before = record { here = record { client = refl; allowed = refl; reply = inl refl }; before = record { here = record { client = refl; allowed = refl; reply = inl refl }; before = record { here = record { client = refl; allowed = refl; reply = inl refl }; before = tt } } } } } } } } } } } } } }

abbrev classical_lru : Trail
classical_lru =
    by 0 (Fix 1) (Load 0 None) ∷
    by 0 (ReadEnd 0 1 (Some blank)) (Fixed 0) ∷
    by 0 (Unfix 0 1) (Done) ∷
    by 0 (Tick 1) (Done) ∷
    by 0 (Fix 1) (Hit 1) ∷
    by 0 (Unfix 1 1) (Done) ∷
    by 0 (Tick 1) (Done) ∷
    by 0 (Fix 2) (Load 1 None) ∷
    by 0 (ReadEnd 1 2 (Some blank)) (Fixed 2) ∷
    by 0 (Unfix 2 2) (Done) ∷
    by 0 (Tick 1) (Done) ∷
    by 0 (Fix 3) (Load 2 (Some 1)) ∷
    by 0 (ReadEnd 2 3 (Some blank)) (Fixed 3) ∷
    by 0 (Unfix 3 3) (Done) ∷ []

pub classical_lru-legal : Legal (with_k 2 1 0 1000) (reverse classical_lru)
classical_lru-legal = record { here = record { client = refl; allowed = refl; reply = inl refl }; before = record { here = record { client = refl; allowed = refl; reply = inl refl }; before = record { here = record { client = refl; allowed = refl; reply = inl refl }; before = record { here = record { client = refl; allowed = refl; reply = inl refl }; before = record { here = record { client = refl; allowed = refl; reply = inl refl }; before = record { here = record { client = refl; allowed = refl; reply = inl refl }; before = record { here = record { client = refl; allowed = refl; reply = inl refl }; before = record { here = record { client = refl; allowed = refl; reply = inl refl }; before = record { here = record { client = refl; allowed = refl; reply = inl refl }; before = record { here = record { client = refl; allowed = refl; reply = inl refl }; before = record { here = record { client = refl; allowed = refl; reply = inl refl }; before = record { here = record { client = refl; allowed = refl; reply = inl refl }; before = record { here = record { client = refl; allowed = refl; reply = inl refl }; before = record { here = record { client = refl; allowed = refl; reply = inl refl }; before = tt } } } } } } } } } } } } } }

abbrev too_young : Trail
too_young =
    by 0 (Fix 1) (Load 0 None) ∷
    by 0 (ReadEnd 0 1 (Some blank)) (Fixed 0) ∷
    by 0 (Unfix 0 1) (Done) ∷
    by 0 (Tick 5) (Done) ∷
    by 0 (Fix 2) (NoVictim) ∷
    by 0 (Tick 1) (Done) ∷
    by 0 (Fix 2) (Load 1 (Some 1)) ∷
    by 0 (ReadEnd 1 2 (Some blank)) (Fixed 1) ∷
    by 0 (Unfix 1 2) (Done) ∷ []

pub too_young-legal : Legal (with_k 1 2 5 1000) (reverse too_young)
too_young-legal = record { here = record { client = refl; allowed = refl; reply = inl refl }; before = record { here = record { client = refl; allowed = refl; reply = inl refl }; before = record { here = record { client = refl; allowed = refl; reply = inl refl }; before = record { here = record { client = refl; allowed = refl; reply = inl refl }; before = record { here = record { client = refl; allowed = refl; reply = inl refl }; before = record { here = record { client = refl; allowed = refl; reply = inl refl }; before = record { here = record { client = refl; allowed = refl; reply = inl refl }; before = record { here = record { client = refl; allowed = refl; reply = inl refl }; before = record { here = record { client = refl; allowed = refl; reply = inl refl }; before = tt } } } } } } } } }

abbrev lower_number_first : Trail
lower_number_first =
    by 0 (Fix 5) (Load 0 None) ∷
    by 0 (ReadEnd 0 5 (Some blank)) (Fixed 0) ∷
    by 0 (Unfix 0 5) (Done) ∷
    by 0 (Fix 3) (Load 1 None) ∷
    by 0 (ReadEnd 1 3 (Some blank)) (Fixed 1) ∷
    by 0 (Unfix 1 3) (Done) ∷
    by 0 (Tick 1) (Done) ∷
    by 0 (Fix 9) (Load 2 (Some 3)) ∷
    by 0 (ReadEnd 2 9 (Some blank)) (Fixed 2) ∷
    by 0 (Unfix 2 9) (Done) ∷ []

pub lower_number_first-legal : Legal (with_k 2 2 0 1000) (reverse lower_number_first)
lower_number_first-legal = record { here = record { client = refl; allowed = refl; reply = inl refl }; before = record { here = record { client = refl; allowed = refl; reply = inl refl }; before = record { here = record { client = refl; allowed = refl; reply = inl refl }; before = record { here = record { client = refl; allowed = refl; reply = inl refl }; before = record { here = record { client = refl; allowed = refl; reply = inl refl }; before = record { here = record { client = refl; allowed = refl; reply = inl refl }; before = record { here = record { client = refl; allowed = refl; reply = inl refl }; before = record { here = record { client = refl; allowed = refl; reply = inl refl }; before = record { here = record { client = refl; allowed = refl; reply = inl refl }; before = record { here = record { client = refl; allowed = refl; reply = inl refl }; before = tt } } } } } } } } } }

abbrev written_meanwhile : Trail
written_meanwhile =
    by 0 (Fix 1) (Load 0 None) ∷
    by 0 (ReadEnd 0 1 (Some blank)) (Fixed 0) ∷
    by 0 (Write 0 1 0 (1 ∷ []) 1) (Done) ∷
    by 0 (Mark 1) (Done) ∷
    by 1 (Flush 1) (WriteFirst 1 1 (first_byte 1)) ∷
    by 0 (Write 0 1 0 (2 ∷ []) 1) (Done) ∷
    by 1 (WriteEnd 1 1 true) (StillDirty) ∷
    by 0 (Unfix 0 1) (Done) ∷
    by 0 (Tick 1) (Done) ∷
    by 0 (Fix 2) (WriteFirst 2 1 (first_byte 2)) ∷
    by 0 (WriteEnd 2 1 true) (Cleaned) ∷
    by 0 (Fix 2) (Load 3 (Some 1)) ∷ []

pub written_meanwhile-legal : Legal (with_k 1 2 0 1000) (reverse written_meanwhile)
written_meanwhile-legal = record { here = record { client = refl; allowed = refl; reply = inl refl }; before = record { here = record { client = refl; allowed = refl; reply = inl refl }; before = record { here = record { client = refl; allowed = refl; reply = inl refl }; before = record { here = record { client = refl; allowed = refl; reply = inl refl }; before = record { here = record { client = refl; allowed = refl; reply = inl refl }; before = record { here = record { client = refl; allowed = refl; reply = inl refl }; before = record { here = record { client = refl; allowed = refl; reply = inl refl }; before = record { here = record { client = refl; allowed = refl; reply = inl refl }; before = record { here = record { client = refl; allowed = refl; reply = inl refl }; before = record { here = record { client = refl; allowed = refl; reply = inl refl }; before = record { here = record { client = refl; allowed = refl; reply = inl refl }; before = record { here = record { client = refl; allowed = refl; reply = inl refl }; before = tt } } } } } } } } } } } }

abbrev failed_read : Trail
failed_read =
    by 0 (Fix 4) (Load 0 None) ∷
    by 0 (ReadEnd 0 4 None) (ReadFailed) ∷
    by 0 (Fix 5) (Load 1 None) ∷
    by 0 (ReadEnd 1 5 (Some blank)) (Fixed 0) ∷
    by 0 (Unfix 0 5) (Done) ∷
    by 0 (Tick 1) (Done) ∷
    by 0 (Fix 4) (Load 2 (Some 5)) ∷
    by 0 (ReadEnd 2 4 (Some blank)) (Fixed 1) ∷ []

pub failed_read-legal : Legal (with_k 1 2 0 1000) (reverse failed_read)
failed_read-legal = record { here = record { client = refl; allowed = refl; reply = inl refl }; before = record { here = record { client = refl; allowed = refl; reply = inl refl }; before = record { here = record { client = refl; allowed = refl; reply = inl refl }; before = record { here = record { client = refl; allowed = refl; reply = inl refl }; before = record { here = record { client = refl; allowed = refl; reply = inl refl }; before = record { here = record { client = refl; allowed = refl; reply = inl refl }; before = record { here = record { client = refl; allowed = refl; reply = inl refl }; before = record { here = record { client = refl; allowed = refl; reply = inl refl }; before = tt } } } } } } } }

abbrev failed_write : Trail
failed_write =
    by 0 (Fix 1) (Load 0 None) ∷
    by 0 (ReadEnd 0 1 (Some blank)) (Fixed 0) ∷
    by 0 (Write 0 1 0 (9 ∷ []) 1) (Done) ∷
    by 0 (Unfix 0 1) (Done) ∷
    by 0 (Tick 1) (Done) ∷
    by 0 (Mark 1) (Done) ∷
    by 0 (Fix 2) (WriteFirst 1 1 (first_byte 9)) ∷
    by 0 (WriteEnd 1 1 false) (WriteFailed) ∷
    by 0 (Fix 1) (Hit 1) ∷
    by 0 (Read 1 1) (Content (first_byte 9)) ∷ []

pub failed_write-legal : Legal (with_k 1 2 0 1000) (reverse failed_write)
failed_write-legal = record { here = record { client = refl; allowed = refl; reply = inl refl }; before = record { here = record { client = refl; allowed = refl; reply = inl refl }; before = record { here = record { client = refl; allowed = refl; reply = inl refl }; before = record { here = record { client = refl; allowed = refl; reply = inl refl }; before = record { here = record { client = refl; allowed = refl; reply = inl refl }; before = record { here = record { client = refl; allowed = refl; reply = inl refl }; before = record { here = record { client = refl; allowed = refl; reply = inl refl }; before = record { here = record { client = refl; allowed = refl; reply = inl refl }; before = record { here = record { client = refl; allowed = refl; reply = inl refl }; before = record { here = record { client = refl; allowed = refl; reply = inl refl }; before = tt } } } } } } } } } }

abbrev loading_is_busy : Trail
loading_is_busy =
    by 0 (Fix 7) (Load 0 None) ∷
    by 1 (Fix 7) (Busy) ∷
    by 0 (ReadEnd 0 7 (Some blank)) (Fixed 0) ∷
    by 1 (Fix 7) (Hit 1) ∷ []

pub loading_is_busy-legal : Legal (with_k 2 2 0 1000) (reverse loading_is_busy)
loading_is_busy-legal = record { here = record { client = refl; allowed = refl; reply = inl refl }; before = record { here = record { client = refl; allowed = refl; reply = inl refl }; before = record { here = record { client = refl; allowed = refl; reply = inl refl }; before = record { here = record { client = refl; allowed = refl; reply = inl refl }; before = tt } } } }

abbrev purge_after_the_period : Trail
purge_after_the_period =
    by 0 (Fix 1) (Load 0 None) ∷
    by 0 (ReadEnd 0 1 (Some blank)) (Fixed 0) ∷
    by 0 (Unfix 0 1) (Done) ∷
    by 0 (Tick 9) (Done) ∷
    by 0 (Fix 2) (Load 1 (Some 1)) ∷
    by 0 (ReadEnd 1 2 (Some blank)) (Fixed 1) ∷
    by 0 (Unfix 1 2) (Done) ∷
    by 0 (Tick 1) (Done) ∷
    by 0 (Purge) (Forgot 0) ∷
    by 0 (Tick 1) (Done) ∷
    by 0 (Purge) (Forgot 1) ∷ []

pub purge_after_the_period-legal : Legal (with_k 1 2 0 10) (reverse purge_after_the_period)
purge_after_the_period-legal = record { here = record { client = refl; allowed = refl; reply = inl refl }; before = record { here = record { client = refl; allowed = refl; reply = inl refl }; before = record { here = record { client = refl; allowed = refl; reply = inl refl }; before = record { here = record { client = refl; allowed = refl; reply = inl refl }; before = record { here = record { client = refl; allowed = refl; reply = inl refl }; before = record { here = record { client = refl; allowed = refl; reply = inl refl }; before = record { here = record { client = refl; allowed = refl; reply = inl refl }; before = record { here = record { client = refl; allowed = refl; reply = inl refl }; before = record { here = record { client = refl; allowed = refl; reply = inl refl }; before = record { here = record { client = refl; allowed = refl; reply = inl refl }; before = record { here = record { client = refl; allowed = refl; reply = inl refl }; before = tt } } } } } } } } } } }

pub second_reference_kept-stamps : (hist (with_k 2 2 0 1000) (reverse second_reference_kept) 1 2 ∷ []) ≡ 1 ∷ []
second_reference_kept-stamps = refl

pub failed_read-stamps : (hist (with_k 1 2 0 1000) (reverse failed_read) 4 1 ∷ hist (with_k 1 2 0 1000) (reverse failed_read) 4 2 ∷ []) ≡ 2 ∷ 0 ∷ []
failed_read-stamps = refl

pub purge_after_the_period-last : last (with_k 1 2 0 10) (reverse purge_after_the_period) 1 ≡ 0
purge_after_the_period-last = refl

abbrev pub is_wrong_page : Reply → Bool
is_wrong_page WrongPage = true
is_wrong_page _ = false

-- a reply other than `WrongPage` is that of the table
pub lawful : {A : Type 0} (call : Call) (reply : Reply) → A ⊎ FindsWrongPage call reply → is_wrong_page reply ≡ false → A
lawful _ _ (inl is) other = is
lawful _ _ (inr (another_page t p)) other = absurd (let no : true ≡ false = other in cc)

abbrev evicts_least_recent : Trail
evicts_least_recent =
    by 0 (Fix 1) (Load 0 None) ∷
    by 0 (ReadEnd 0 1 (Some blank)) (Fixed 0) ∷
    by 0 (Unfix 0 1) (Done) ∷
    by 0 (Tick 1) (Done) ∷
    by 0 (Fix 1) (Hit 1) ∷
    by 0 (Unfix 1 1) (Done) ∷
    by 0 (Tick 1) (Done) ∷
    by 0 (Fix 2) (Load 1 None) ∷
    by 0 (ReadEnd 1 2 (Some blank)) (Fixed 2) ∷
    by 0 (Unfix 2 2) (Done) ∷
    by 0 (Tick 1) (Done) ∷
    by 0 (Fix 3) (Load 2 (Some 1)) ∷ []

pub evicts_least_recent-refused : Legal (with_k 2 2 0 1000) (reverse evicts_least_recent) → ⊥
evicts_least_recent-refused l = let e = lawful _ _ l.here.reply refl in cc

abbrev evicts_higher_number : Trail
evicts_higher_number =
    by 0 (Fix 5) (Load 0 None) ∷
    by 0 (ReadEnd 0 5 (Some blank)) (Fixed 0) ∷
    by 0 (Unfix 0 5) (Done) ∷
    by 0 (Fix 3) (Load 1 None) ∷
    by 0 (ReadEnd 1 3 (Some blank)) (Fixed 1) ∷
    by 0 (Unfix 1 3) (Done) ∷
    by 0 (Tick 1) (Done) ∷
    by 0 (Fix 9) (Load 2 (Some 5)) ∷ []

pub evicts_higher_number-refused : Legal (with_k 2 2 0 1000) (reverse evicts_higher_number) → ⊥
evicts_higher_number-refused l = let e = lawful _ _ l.here.reply refl in cc

abbrev forgets_the_later_write : Trail
forgets_the_later_write =
    by 0 (Fix 1) (Load 0 None) ∷
    by 0 (ReadEnd 0 1 (Some blank)) (Fixed 0) ∷
    by 0 (Write 0 1 0 (1 ∷ []) 1) (Done) ∷
    by 0 (Mark 1) (Done) ∷
    by 1 (Flush 1) (WriteFirst 1 1 (first_byte 1)) ∷
    by 0 (Write 0 1 0 (2 ∷ []) 1) (Done) ∷
    by 1 (WriteEnd 1 1 true) (Cleaned) ∷ []

pub forgets_the_later_write-refused : Legal (with_k 1 2 0 1000) (reverse forgets_the_later_write) → ⊥
forgets_the_later_write-refused l = let e = lawful _ _ l.here.reply refl in cc

abbrev takes_failed_write_for_saved : Trail
takes_failed_write_for_saved =
    by 0 (Fix 1) (Load 0 None) ∷
    by 0 (ReadEnd 0 1 (Some blank)) (Fixed 0) ∷
    by 0 (Write 0 1 0 (9 ∷ []) 1) (Done) ∷
    by 0 (Unfix 0 1) (Done) ∷
    by 0 (Tick 1) (Done) ∷
    by 0 (Mark 1) (Done) ∷
    by 0 (Fix 2) (WriteFirst 1 1 (first_byte 9)) ∷
    by 0 (WriteEnd 1 1 false) (WriteFailed) ∷
    by 0 (Fix 2) (Load 2 (Some 1)) ∷ []

pub takes_failed_write_for_saved-refused : Legal (with_k 1 2 0 1000) (reverse takes_failed_write_for_saved) → ⊥
takes_failed_write_for_saved-refused l = let e = lawful _ _ l.here.reply refl in cc

abbrev writes_beyond_the_log : Trail
writes_beyond_the_log =
    by 0 (Fix 1) (Load 0 None) ∷
    by 0 (ReadEnd 0 1 (Some blank)) (Fixed 0) ∷
    by 0 (Write 0 1 0 (9 ∷ []) 1) (Done) ∷
    by 0 (Unfix 0 1) (Done) ∷
    by 0 (Tick 1) (Done) ∷
    by 0 (Fix 2) (WriteFirst 1 1 (first_byte 9)) ∷ []

pub writes_beyond_the_log-refused : Legal (with_k 1 2 0 1000) (reverse writes_beyond_the_log) → ⊥
writes_beyond_the_log-refused l = let e = lawful _ _ l.here.reply refl in cc

abbrev purges_at_the_period : Trail
purges_at_the_period =
    by 0 (Fix 1) (Load 0 None) ∷
    by 0 (ReadEnd 0 1 (Some blank)) (Fixed 0) ∷
    by 0 (Unfix 0 1) (Done) ∷
    by 0 (Tick 9) (Done) ∷
    by 0 (Fix 2) (Load 1 (Some 1)) ∷
    by 0 (ReadEnd 1 2 (Some blank)) (Fixed 1) ∷
    by 0 (Unfix 1 2) (Done) ∷
    by 0 (Tick 1) (Done) ∷
    by 0 (Purge) (Forgot 1) ∷ []

pub purges_at_the_period-refused : Legal (with_k 1 2 0 10) (reverse purges_at_the_period) → ⊥
purges_at_the_period-refused l = let e = lawful _ _ l.here.reply refl in cc

abbrev counts_failed_read : Trail
counts_failed_read =
    by 0 (Fix 4) (Load 0 None) ∷
    by 0 (ReadEnd 0 4 None) (Fixed 0) ∷ []

pub counts_failed_read-refused : Legal (with_k 1 2 0 1000) (reverse counts_failed_read) → ⊥
counts_failed_read-refused l = let e = lawful _ _ l.here.reply refl in cc

abbrev hands_out_loading_page : Trail
hands_out_loading_page =
    by 0 (Fix 7) (Load 0 None) ∷
    by 1 (Fix 7) (Hit 0) ∷ []

pub hands_out_loading_page-refused : Legal (with_k 2 2 0 1000) (reverse hands_out_loading_page) → ⊥
hands_out_loading_page-refused l = let e = lawful _ _ l.here.reply refl in cc

-- another page was found where a page stands, which leaves nothing of it
abbrev wrong_page : Trail
wrong_page =
    by 0 (Fix 4) (Load 0 None) ∷
    by 0 (ReadEnd 0 4 None) (WrongPage) ∷
    by 0 (Fix 4) (Load 1 None) ∷
    by 0 (ReadEnd 1 4 (Some blank)) (Fixed 0) ∷ []

pub wrong_page-legal : Legal (with_k 1 2 0 1000) (reverse wrong_page)
wrong_page-legal = record { here = record { client = refl; allowed = refl; reply = inl refl }; before = record { here = record { client = refl; allowed = refl; reply = inl refl }; before = record { here = record { client = refl; allowed = refl; reply = inr (another_page 0 4) }; before = record { here = record { client = refl; allowed = refl; reply = inl refl }; before = tt } } } }

abbrev has_image : Call → Bool
has_image (ReadEnd t p (Some image)) = true
has_image _ = false

imageless : (call : Call) (reply : Reply) → FindsWrongPage call reply → has_image call ≡ false
imageless _ _ (another_page t p) = refl

abbrev good_read_of_wrong_page : Trail
good_read_of_wrong_page =
    by 0 (Fix 4) (Load 0 None) ∷
    by 0 (ReadEnd 0 4 (Some blank)) (WrongPage) ∷ []

pub good_read_of_wrong_page-refused : Legal (with_k 1 2 0 1000) (reverse good_read_of_wrong_page) → ⊥
good_read_of_wrong_page-refused l = go l.here.reply
  where
    go : (WrongPage ≡ Fixed 0) ⊎ FindsWrongPage (ReadEnd 0 4 (Some blank)) WrongPage → ⊥
    go (inl is) = cc
    go (inr found) = let no : true ≡ false = imageless _ _ found in cc

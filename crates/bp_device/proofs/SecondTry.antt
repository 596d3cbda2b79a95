-- After a write-out of the victim that ended well, the same fix made again answers a load.
use Rattle.std.proofs.Common.{◌≡◌, refl, ◌∙◌, ap, subst, ◌⊎◌, inl, inr, ℕ, Bool, true, false, ◌∷◌, Some, Ok}
use Rattle.bp_core.specs.declared.passes.WriteTicket.{WriteTicket}
use Rattle.bp_core.specs.declared.passes.Fix.TheVariants as fixing
use Rattle.bp_trail.specs.declared.ends.Ended.{Ended}
use Rattle.bp_trail.specs.declared.ends.Ended.TheVariants as ended
use Rattle.bp_trail.specs.declared.entries.Call.{Call}
use Rattle.bp_trail.specs.declared.entries.Call.TheVariants.{Fix, ReadEnd, WriteEnd}
use Rattle.bp_trail.specs.declared.entries.Reply.{Reply}
use Rattle.bp_trail.specs.declared.entries.Reply.TheVariants.{Load, WriteFirst, Cleaned, StillDirty}
use Rattle.bp_trail.specs.Passes.{tickets}
use Rattle.bp_trail.specs.PageMap.{reply_of, write_end_reply, FindsWrongPage}
use Rattle.bp_trail.specs.PageMap.FindsWrongPage.{another_page}
use Rattle.bp_trail.specs.Legal.{Legal}
use Rattle.bp_core.specs.CoreView.{CoreView, with_entry}
use Rattle.bp_core.specs.Outcomes.{Adds, FixOutcome}
use Rattle.bp_trail.specs.Pieces.{by}
use Rattle.bp_trail.proofs.SecondFix.{begun, cleaned, not-dirty, cleaned-loads}
use Rattle.bp_device.specs.Drivers.{SaveOutcome}

-- the trail with an added entry, which is lawful
lawful : (old new : CoreView) (client : ℕ) (call : _) (reply : Reply) → Adds old client call reply new → Legal old.parameters (by client call reply ∷ old.past)
lawful old new client call reply a = subst (λ core. Legal core.parameters core.past) a.is a.legal

-- any call but the end of a read has the one reply of the table
abbrev pub is_read_end : Call → Bool
is_read_end (ReadEnd t p image) = true
is_read_end _ = false

pub reply-is : {A : Type 0} (call : Call) (reply : Reply) → is_read_end call ≡ false → A ⊎ FindsWrongPage call reply → A
reply-is _ _ other (inl is) = is
reply-is _ _ other (inr (another_page t p)) = absurd (let no : true ≡ false = other in cc)

-- it loads the page into the victim's frame
record IsLoad (reply : Reply) (victim : ℕ) : Type 0 where
  ticket : ℕ
  is : reply ≡ Load ticket (Some victim)

second-loads : (old written mid new : CoreView) (client page : ℕ) (ticket : WriteTicket) (end : Ended) (reply : Reply) → FixOutcome old client page (Ok (fixing.WriteFirst ticket)) written
    → SaveOutcome written ticket (Ok end) mid → Adds mid client (Fix page) reply new → IsLoad reply ticket.page
second-loads old written mid new client page ticket end reply h s third = go end s
  where
    first : Legal old.parameters (begun old.parameters old.past client page ticket.serial ticket.page ticket.image)
    first = lawful old written client (Fix page) (WriteFirst ticket.serial ticket.page ticket.image) h.3

    again : reply ≡ reply_of mid.parameters mid.past (Fix page)
    again = reply-is (Fix page) reply refl (lawful mid new client (Fix page) reply third).here.reply

    go : (end : Ended) → SaveOutcome written ticket (Ok end) mid → IsLoad reply ticket.page
    go ended.Cleaned s =
        let is : mid ≡ with_entry (with_entry old client (Fix page) (WriteFirst ticket.serial ticket.page ticket.image)) client (WriteEnd ticket.serial ticket.page true) Cleaned =
        s.is ∙ ap (λ who. with_entry written who (WriteEnd ticket.serial ticket.page true) Cleaned) h.1 ∙ ap (λ core. with_entry core client (WriteEnd ticket.serial ticket.page true) Cleaned) h.3.is in
        record {
          ticket = tickets (cleaned old.parameters old.past client page ticket.serial ticket.page ticket.image);
          is = again ∙ ap (λ core. reply_of core.parameters core.past (Fix page)) is ∙ cleaned-loads old.parameters old.past client page ticket.serial ticket.page ticket.image first.before
              (reply-is (Fix page) (WriteFirst ticket.serial ticket.page ticket.image) refl first.here.reply);
        }
    go ended.StillDirty s = absurd (not-dirty old.parameters old.past client page ticket.serial ticket.page ticket.image
        (subst (λ core. StillDirty ≡ write_end_reply core.past ticket.serial ticket.page true) h.3.is
        (reply-is (WriteEnd ticket.serial ticket.page true) StillDirty refl (lawful written mid ticket.client (WriteEnd ticket.serial ticket.page true) StillDirty s).here.reply)))

pub no-second-write : (old written mid new : CoreView) (client page : ℕ) (ticket other : WriteTicket) (end : Ended) → FixOutcome old client page (Ok (fixing.WriteFirst ticket)) written
    → SaveOutcome written ticket (Ok end) mid → FixOutcome mid client page (Ok (fixing.WriteFirst other)) new → ⊥
no-second-write old written mid new client page ticket other end h s third = let l = (second-loads old written mid new client page ticket end (WriteFirst other.serial other.page other.image) h s third.3).is in cc

-- A victim that was written out well is still the victim, and saved: the same fix made again finds its frame.
use Rattle.std.proofs.Common.{◌≡◌, refl, sym, ◌∙◌, ap, subst, ℕ, ◌-◌, nat_lt, Bool, true, false, not, ◌&&◌, ◌==◌, if◌then◌else◌, List, filter, Option, Some, None}
use Rattle.std.specs.Prelude.{find}
use Rattle.std.proofs.lemmas.Bool.{eq-eqb}
use Rattle.bp_trail.specs.declared.entries.Call.TheVariants.{Fix}
use Rattle.bp_trail.specs.declared.entries.Reply.TheVariants.{Busy, Hit, Load, WriteFirst, NeedLog, Cleaned, StillDirty}
use Rattle.bp_trail.specs.Parameters.{Parameters}
use Rattle.bp_trail.specs.Lists.{some, every}
use Rattle.bp_trail.specs.Event.{Grant}
use Rattle.bp_trail.specs.Trail.{Trail}
use Rattle.bp_trail.specs.Clock.{clock, durable}
use Rattle.bp_trail.specs.Passes.{is_of, passes, tickets, writes_out, pins}
use Rattle.bp_trail.specs.Places.{residents, resident, loading}
use Rattle.bp_trail.specs.Saved.{unsaved, page_lsn}
use Rattle.bp_trail.specs.Images.{held}
use Rattle.bp_trail.specs.References.{last}
use Rattle.bp_trail.specs.Victim.{rank, before, victim}
use Rattle.bp_trail.specs.PageMap.{has_free_frame, replace_reply, write_end_reply, reply_of}
use Rattle.bp_trail.specs.Legal.{Legal}
use Rattle.bp_trail.specs.Sentences.{victim_begun, victim_saved}
use Rattle.bp_trail.proofs.Serials.{has_serial, fresh, none-goes, numbered}

module _ (c : Parameters) (past : Trail) (who p t v : ℕ) (image : List ℕ) where
  -- the write-out of v by a fix of p, and its good end
  abbrev pub begun : Trail
  begun = victim_begun who p t v image past

  abbrev pub cleaned : Trail
  cleaned = victim_saved who p t v image past

  saved : unsaved cleaned v ≡ false
  saved = rw (eq-eqb v v refl, eq-eqb t t refl) refl

  -- the victim, where these write-outs are under way
  victim_writing : List Grant → Option ℕ
  victim_writing ws = find (λ v. every (λ q. not (before (rank c past q) (rank c past v))) (filter (free ws) (residents past))) (filter (free ws) (residents past))
    where
      free : List Grant → ℕ → Bool
      free ws q = resident past q && ((pins past q == 0) && (not (some (is_of q) ws) && nat_lt c.correlated (clock past - last c past q)))

  module _ (legal : Legal c past) (next : t ≡ tickets past) where
    landed : writes_out cleaned ≡ writes_out past
    landed = rw (eq-eqb t t refl) (none-goes t (writes_out past) (subst (λ n. some (has_serial n) (writes_out past) ≡ false) (sym next) (fresh (tickets past) (writes_out past) (numbered c past legal).writes_below)))

    victim-stays : victim c cleaned ≡ victim c past
    unfolding victim_writing
    victim-stays = ap victim_writing landed

  -- no write of the page stands after the begin
  pub ends-cleaned : write_end_reply begun t v true ≡ Cleaned
  ends-cleaned = rw (eq-eqb t t refl) refl

  pub not-dirty : StillDirty ≡ write_end_reply begun t v true → ⊥
  not-dirty is = let e = ends-cleaned in cc

  pub cleaned-loads : Legal c past → WriteFirst t v image ≡ reply_of c past (Fix p) → reply_of c cleaned (Fix p) ≡ Load (tickets cleaned) (Some v)
  cleaned-loads legal is = go (loading past p) (resident past p) (has_free_frame c past) (victim c past) refl is
    where
      chosen : (w : ℕ) → victim c past ≡ Some w → (u d : Bool) → WriteFirst t v image ≡ (if u then (if d then NeedLog (page_lsn past w) else WriteFirst (tickets past) w (held past w)) else Load (tickets past) (Some w))
          → replace_reply cleaned (victim c cleaned) ≡ Load (tickets cleaned) (Some v)
      chosen w e false d is = cc
      chosen w e true true is = cc
      chosen w e true false is =
          let next : t ≡ tickets past = cc in
          let same : v ≡ w = cc in
          ap (replace_reply cleaned) (victim-stays legal next ∙ e ∙ ap Some (sym same)) ∙ ap (λ b. if b then (if nat_lt (durable cleaned) (page_lsn cleaned v) then NeedLog (page_lsn cleaned v) else WriteFirst (tickets cleaned) v (held cleaned v)) else Load (tickets cleaned) (Some v)) saved

      go : (l r f : Bool) (o : Option ℕ) → victim c past ≡ o → WriteFirst t v image ≡ (if l then Busy else if r then Hit (passes past) else if f then Load (tickets past) None else replace_reply past o)
          → (if l then Busy else if r then Hit (passes cleaned) else if f then Load (tickets cleaned) None else replace_reply cleaned (victim c cleaned)) ≡ Load (tickets cleaned) (Some v)
      go true r f o e is = cc
      go false true f o e is = cc
      go false false true o e is = cc
      go false false false None e is = cc
      go false false false (Some w) e is = chosen w e (unsaved past w) (nat_lt (durable past) (page_lsn past w)) is

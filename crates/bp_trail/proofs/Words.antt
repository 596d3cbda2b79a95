-- The words on one entry of a legal trail say what they seem to.
use Rattle.std.proofs.Common.{◌≡◌, refl, sym, ap, subst, ◌∙◌, ℕ, Bool, true, false, ◌==◌, if◌then◌else◌, List, [], ◌∷◌, Option, Some, None, ◌⊎◌, inl, inr}
use Rattle.std.specs.Option.{option_map_or}
use Rattle.std.proofs.lemmas.Bool.{cases_Bool, eqb-true, eq-eqb}
use Rattle.std.proofs.lemmas.Option.{none-some, same_Some}
use Rattle.bp_trail.specs.declared.entries.Entry.{Entry}
use Rattle.bp_trail.specs.declared.entries.Call.{Call}
use Rattle.bp_trail.specs.declared.entries.Call.TheVariants.{Tick, Mark, Fix, ReadEnd, WriteEnd, Write, Unfix, Flush, Discard}
use Rattle.bp_trail.specs.declared.entries.Reply.{Reply}
use Rattle.bp_trail.specs.declared.entries.Reply.TheVariants.{Hit, Load, WriteFirst, Fixed, ReadFailed, WrongPage, Cleaned, StillDirty, Discarded, Pinned}
use Rattle.bp_trail.specs.Parameters.{Parameters}
use Rattle.bp_trail.specs.Lists.{EachEntry}
use Rattle.bp_trail.specs.Event.{Grant, grant, ticks, marked, lsn_of, lsn_written, hits, loads, writes, discards, begins_of, ends_well, page_of, pass_given, read_ticket_given, write_ticket_given, pass_back, read_ticket_back, write_ticket_back}
use Rattle.bp_trail.specs.Trail.{Trail}
use Rattle.bp_trail.specs.Passes.{passes, tickets}
use Rattle.bp_trail.specs.Images.{held}
use Rattle.bp_trail.specs.Legal.{Legal}
use Rattle.bp_trail.specs.Sentences.{evicts, leaves}
use Rattle.bp_trail.specs.Wording.{can_answer, FitsItsCall, IsHit, IsGoodReadEnd, IsEviction, IsDiscard, IsLeaving, IsWrite, IsBegin, IsGoodWriteEnd, GivesPass, GivesReadTicket, GivesWriteTicket, SaysSo}
use Rattle.bp_trail.proofs.Events.{Event, event-of}
use Rattle.bp_trail.proofs.Events.Event.{fix_hit, fix_load, fix_replace, fix_write, flush_write, discard_absent, discard_pinned, discarded, read_good, read_bad, read_wrong, write_clean, write_dirty, page_written}

abbrev entry : ℕ → Call → Reply → Entry
entry who call reply = record { client = who; call = call; reply = reply }

-- a fact of each lawful entry, and so of all
module _ (c : Parameters) (P : Trail → Entry → Type 0) (each : (past : Trail) (e : Entry) → Legal c (e ∷ past) → P past e) where
  pub of-all : (past : Trail) → Legal c past → EachEntry P past
  of-all [] l = tt
  of-all (e ∷ past) l = record { here = each past e l; before = of-all past l.before }

-- ---- replies and their calls

module _ (c : Parameters) (past : Trail) (who : ℕ) where
  hit-call : (call : Call) (reply : Reply) → Event c past who call reply → (n : ℕ) → reply ≡ Hit n → (p : ℕ) × (call ≡ Fix p)
  hit-call _ _ (fix_hit p l r) n i = (p, refl)
  hit-call _ _ _ n i = cc

  load-call : (call : Call) (reply : Reply) → Event c past who call reply → (t : ℕ) (victim : Option ℕ) → reply ≡ Load t victim → (p : ℕ) × (call ≡ Fix p)
  load-call _ _ (fix_load p m f) t victim i = (p, refl)
  load-call _ _ (fix_replace p v m w u) t victim i = (p, refl)
  load-call _ _ _ t victim i = cc

  write-call : (call : Call) (reply : Reply) → Event c past who call reply → (t p : ℕ) (image : List ℕ) → reply ≡ WriteFirst t p image → ((q : ℕ) × (call ≡ Fix q)) ⊎ (call ≡ Flush p)
  write-call _ _ (fix_write q v m w g) t p image i = inl (q, refl)
  write-call _ _ (flush_write q r w g) t p image i = let j : q ≡ p = cc in inr (ap Flush j)
  write-call _ _ _ t p image i = cc

  fixed-call : (call : Call) (reply : Reply) → Event c past who call reply → (n : ℕ) → reply ≡ Fixed n → (t : ℕ) × (p : ℕ) × (image : List ℕ) × (call ≡ ReadEnd t p (Some image))
  fixed-call _ _ (read_good t p image o) n i = (t, p, image, refl)
  fixed-call _ _ _ n i = cc

  read-reply : (call : Call) (reply : Reply) → Event c past who call reply → (t p : ℕ) (image : List ℕ) → call ≡ ReadEnd t p (Some image) → (n : ℕ) × (reply ≡ Fixed n)
  read-reply _ _ (read_good u q given o) t p image i = (passes past, refl)
  read-reply _ _ _ t p image i = cc

  unread-call : (call : Call) (reply : Reply) → Event c past who call reply → (reply ≡ ReadFailed) ⊎ (reply ≡ WrongPage) → (t : ℕ) × (p : ℕ) × (call ≡ ReadEnd t p None)
  unread-call _ _ (read_bad t p o) i = (t, p, refl)
  unread-call _ _ (read_wrong t p o) i = (t, p, refl)
  unread-call _ _ _ (inl i) = cc
  unread-call _ _ _ (inr i) = cc

  unread-reply : (call : Call) (reply : Reply) → Event c past who call reply → (t p : ℕ) → call ≡ ReadEnd t p None → (reply ≡ ReadFailed) ⊎ (reply ≡ WrongPage)
  unread-reply _ _ (read_bad u q o) t p i = inl refl
  unread-reply _ _ (read_wrong u q o) t p i = inr refl
  unread-reply _ _ _ t p i = cc

  saved-call : (call : Call) (reply : Reply) → Event c past who call reply → (reply ≡ Cleaned) ⊎ (reply ≡ StillDirty) → (t : ℕ) × (p : ℕ) × (call ≡ WriteEnd t p true)
  saved-call _ _ (write_clean t p o w) i = (t, p, refl)
  saved-call _ _ (write_dirty t p o w) i = (t, p, refl)
  saved-call _ _ _ (inl i) = cc
  saved-call _ _ _ (inr i) = cc

  end-reply : (call : Call) (reply : Reply) → Event c past who call reply → (t p : ℕ) → call ≡ WriteEnd t p true → (reply ≡ Cleaned) ⊎ (reply ≡ StillDirty)
  end-reply _ _ (write_clean u q o w) t p i = inl refl
  end-reply _ _ (write_dirty u q o w) t p i = inr refl
  end-reply _ _ _ t p i = cc

  discard-call : (call : Call) (reply : Reply) → Event c past who call reply → (reply ≡ Discarded) ⊎ (reply ≡ Pinned) → (p : ℕ) × (call ≡ Discard p)
  discard-call _ _ (discarded p x) i = (p, refl)
  discard-call _ _ (discard_pinned p) i = (p, refl)
  discard-call _ _ _ (inl i) = cc
  discard-call _ _ _ (inr i) = cc

  table-answers : (call : Call) (reply : Reply) → Event c past who call reply → can_answer call reply ≡ true
  table-answers _ _ (flush_write q r w g) = eq-eqb q q refl
  table-answers _ _ _ = refl

  -- each word, read off the form of the entry
  hits-sound : (call : Call) (reply : Reply) → Event c past who call reply → (p : ℕ) → hits p (entry who call reply) ≡ true → IsHit p (entry who call reply)
  hits-sound _ _ (fix_hit q l r) p h = record { pass = passes past; call = ap Fix (eqb-true q p h); reply = refl }
  hits-sound _ _ _ p h = cc

  loads-sound : (call : Call) (reply : Reply) → Event c past who call reply → (p : ℕ) → loads p (entry who call reply) ≡ true → IsGoodReadEnd p (entry who call reply)
  loads-sound _ _ (read_good t q image o) p h = record { ticket = t; image = image; pass = passes past; call = ap (λ x. ReadEnd t x (Some image)) (eqb-true q p h); reply = refl }
  loads-sound _ _ _ p h = cc

  evicts-sound : (call : Call) (reply : Reply) → Event c past who call reply → (p : ℕ) → evicts p (entry who call reply) ≡ true → IsEviction p (entry who call reply)
  evicts-sound _ _ (fix_replace q v m w u) p h = record { asked = q; ticket = tickets past; call = refl; reply = ap (λ x. Load (tickets past) (Some x)) (eqb-true v p h) }
  evicts-sound _ _ _ p h = cc

  discards-sound : (call : Call) (reply : Reply) → Event c past who call reply → (p : ℕ) → discards p (entry who call reply) ≡ true → IsDiscard p (entry who call reply)
  discards-sound _ _ (discard_absent q x) p h = record { call = ap Discard (eqb-true q p h); reply = inr refl }
  discards-sound _ _ (discarded q x) p h = record { call = ap Discard (eqb-true q p h); reply = inl refl }
  discards-sound _ _ _ p h = cc

  leaves-sound : (call : Call) (reply : Reply) → Event c past who call reply → (p : ℕ) → leaves p (entry who call reply) ≡ true → IsLeaving p (entry who call reply)
  leaves-sound _ _ (fix_replace q v m w u) p h = inl (record { asked = q; ticket = tickets past; call = refl; reply = ap (λ x. Load (tickets past) (Some x)) (eqb-true v p h) })
  leaves-sound _ _ (discarded q x) p h = inr (ap Discard (eqb-true q p h), refl)
  leaves-sound _ _ _ p h = cc

  writes-sound : (call : Call) (reply : Reply) → Event c past who call reply → (p : ℕ) → writes p (entry who call reply) ≡ true → IsWrite p (entry who call reply)
  writes-sound _ _ (page_written n q offset bytes lsn o) p h = record { pass = n; offset = offset; bytes = bytes; lsn = lsn; call = ap (λ x. Write n x offset bytes lsn) (eqb-true q p h); reply = refl }
  writes-sound _ _ _ p h = cc

  begins-sound : (call : Call) (reply : Reply) → Event c past who call reply → (p : ℕ) → begins_of p reply ≡ true → IsBegin p (entry who call reply)
  begins-sound _ _ (fix_write q v m w g) p h = record { ticket = tickets past; image = held past v; reply = ap (λ x. WriteFirst (tickets past) x (held past v)) (eqb-true v p h) }
  begins-sound _ _ (flush_write v r w g) p h = record { ticket = tickets past; image = held past v; reply = ap (λ x. WriteFirst (tickets past) x (held past v)) (eqb-true v p h) }
  begins-sound _ _ _ p h = cc

  ends-sound : (call : Call) (reply : Reply) → Event c past who call reply → (t : ℕ) → ends_well t call ≡ true → IsGoodWriteEnd t (entry who call reply)
  ends-sound _ _ (write_clean u q o w) t h = record { page = q; good = true; call = ap (λ x. WriteEnd x q true) (sym (eqb-true t u h)); reply = inl refl }
  ends-sound _ _ (write_dirty u q o w) t h = record { page = q; good = true; call = ap (λ x. WriteEnd x q true) (sym (eqb-true t u h)); reply = inr refl }
  ends-sound _ _ _ t h = cc

  ends-complete : (call : Call) (reply : Reply) → Event c past who call reply → (t : ℕ) → IsGoodWriteEnd t (entry who call reply) → ends_well t call ≡ true
  ends-complete call reply v t w =
      let s = saved-call call reply v w.reply in
      let i : WriteEnd s.0 s.1 true ≡ WriteEnd t w.page w.good = sym s.2 ∙ w.call in
      let j : t ≡ s.0 = cc in
      subst (λ x. ends_well t x ≡ true) (sym s.2) (eq-eqb t s.0 j)

  pass-sound : (call : Call) (reply : Reply) → Event c past who call reply → (g : Grant) → pass_given who (page_of call) reply ≡ Some g → GivesPass g (entry who call reply)
  pass-sound _ _ (fix_hit p l r) g h = let j : grant who p (passes past) ≡ g = cc in record { client = ap (λ x. x.client) j; how = inl (ap (λ x. Fix x.page) j, ap (λ x. Hit x.serial) j) }
  pass-sound _ _ (read_good t p image o) g h = let j : grant who p (passes past) ≡ g = cc in record { client = ap (λ x. x.client) j; how = inr (t, image, ap (λ x. ReadEnd t x.page (Some image)) j, ap (λ x. Fixed x.serial) j) }
  pass-sound _ _ _ g h = cc

  read-sound : (call : Call) (reply : Reply) → Event c past who call reply → (g : Grant) → read_ticket_given who (page_of call) reply ≡ Some g → GivesReadTicket g (entry who call reply)
  read-sound _ _ (fix_load p m f) g h = let j : grant who p (tickets past) ≡ g = cc in record { client = ap (λ x. x.client) j; victim = None; call = ap (λ x. Fix x.page) j; reply = ap (λ x. Load x.serial None) j }
  read-sound _ _ (fix_replace p v m w u) g h = let j : grant who p (tickets past) ≡ g = cc in record { client = ap (λ x. x.client) j; victim = Some v; call = ap (λ x. Fix x.page) j; reply = ap (λ x. Load x.serial (Some v)) j }
  read-sound _ _ _ g h = cc

  write-sound : (call : Call) (reply : Reply) → Event c past who call reply → (g : Grant) → write_ticket_given who reply ≡ Some g → GivesWriteTicket g (entry who call reply)
  write-sound _ _ (fix_write q v m w b) g h = let j : grant who v (tickets past) ≡ g = cc in record { client = ap (λ x. x.client) j; image = held past v; reply = ap (λ x. WriteFirst x.serial x.page (held past v)) j }
  write-sound _ _ (flush_write v r w b) g h = let j : grant who v (tickets past) ≡ g = cc in record { client = ap (λ x. x.client) j; image = held past v; reply = ap (λ x. WriteFirst x.serial x.page (held past v)) j }
  write-sound _ _ _ g h = cc

  written-sound : (call : Call) (reply : Reply) → Event c past who call reply → (p lsn : ℕ) → lsn_written p (entry who call reply) ≡ Some lsn → (w : IsWrite p (entry who call reply)) × (w.lsn ≡ lsn)
  written-sound call reply v p lsn h =
      let found : (b : Bool) → writes p (entry who call reply) ≡ b → (if b then Some (lsn_of call) else None) ≡ Some lsn = λ b is. sym (ap (λ b. if b then Some (lsn_of call) else None) is) ∙ h in
      elim (cases_Bool (writes p (entry who call reply))) [
        | inl is ↦ (let w = writes-sound call reply v p is in (w, sym (ap lsn_of w.call) ∙ same_Some (lsn_of call) lsn (found true is)))
        | inr not ↦ absurd (none-some lsn (found false not))
      ]

pub fits : (c : Parameters) (past : Trail) → Legal c past → EachEntry (λ past e. FitsItsCall e) past
fits c = of-all c (λ past e. FitsItsCall e) (λ past e l. let v = event-of c past e l.here in record {
  hit = hit-call c past e.client e.call e.reply v;
  load = load-call c past e.client e.call e.reply v;
  write_first = write-call c past e.client e.call e.reply v;
  fixed = fixed-call c past e.client e.call e.reply v;
  read_well = read-reply c past e.client e.call e.reply v;
  unread = unread-call c past e.client e.call e.reply v;
  read_badly = unread-reply c past e.client e.call e.reply v;
  saved = saved-call c past e.client e.call e.reply v;
  written_well = end-reply c past e.client e.call e.reply v;
  discarded = discard-call c past e.client e.call e.reply v;
})

pub answers : (c : Parameters) (past : Trail) → Legal c past → EachEntry (λ past e. can_answer e.call e.reply ≡ true) past
answers c = of-all c (λ past e. can_answer e.call e.reply ≡ true) (λ past e l. table-answers c past e.client e.call e.reply (event-of c past e l.here))

-- the other way, of any entry
module _ (e : Entry) where
  hits-complete : (p : ℕ) → IsHit p e → hits p e ≡ true
  hits-complete p w = rw (w.call, w.reply) (eq-eqb p p refl)

  loads-complete : (p : ℕ) → IsGoodReadEnd p e → loads p e ≡ true
  loads-complete p w = rw (w.call, w.reply) (eq-eqb p p refl)

  evicts-complete : (p : ℕ) → IsEviction p e → evicts p e ≡ true
  evicts-complete p w = rw w.reply (eq-eqb p p refl)

  discards-complete : (p : ℕ) → IsDiscard p e → discards p e ≡ true
  discards-complete p w = elim w.reply as (λ _. discards p e ≡ true) [ inl i ↦ rw (w.call, i) (eq-eqb p p refl) | inr i ↦ rw (w.call, i) (eq-eqb p p refl) ]

  leaves-complete : (p : ℕ) → IsLeaving p e → leaves p e ≡ true
  leaves-complete p w = elim w as (λ _. leaves p e ≡ true) [ inl i ↦ rw i.reply (eq-eqb p p refl) | inr i ↦ rw (i.0, i.1) (eq-eqb p p refl) ]

  writes-complete : (p : ℕ) → IsWrite p e → writes p e ≡ true
  writes-complete p w = rw w.call (eq-eqb p p refl)

  written-complete : (p lsn : ℕ) → (w : IsWrite p e) × (w.lsn ≡ lsn) → lsn_written p e ≡ Some lsn
  written-complete p lsn w = ap (λ b. if b then Some (lsn_of e.call) else None) (writes-complete p w.0) ∙ ap Some (ap lsn_of w.0.call ∙ w.1)

  begins-complete : (p : ℕ) → IsBegin p e → begins_of p e.reply ≡ true
  begins-complete p w = rw w.reply (eq-eqb p p refl)

  same : (g : Grant) (who : ℕ) → who ≡ g.client → Some (grant who g.page g.serial) ≡ Some g
  same g who i = ap (λ x. Some (grant x g.page g.serial)) i

  pass-complete : (g : Grant) → GivesPass g e → pass_given e.client (page_of e.call) e.reply ≡ Some g
  pass-complete g w = elim w.how as (λ _. pass_given e.client (page_of e.call) e.reply ≡ Some g)
      [ inl h ↦ rw (h.0, h.1) (same g e.client w.client) | inr h ↦ rw (h.2, h.3) (same g e.client w.client) ]

  read-complete : (g : Grant) → GivesReadTicket g e → read_ticket_given e.client (page_of e.call) e.reply ≡ Some g
  read-complete g w = rw (w.call, w.reply) (same g e.client w.client)

  write-complete : (g : Grant) → GivesWriteTicket g e → write_ticket_given e.client e.reply ≡ Some g
  write-complete g w = rw w.reply (same g e.client w.client)

-- the clock's steps, and the mark
ticks-sound : (n : ℕ) (call : Call) → ticks call ≡ Some n → call ≡ Tick n
ticks-sound n (Tick m) h = let j : m ≡ n = cc in ap Tick j
ticks-sound n _ h = cc

marked-sound : (lsn : ℕ) (call : Call) → marked call ≡ Some lsn → call ≡ Mark lsn
marked-sound lsn (Mark m) h = let j : m ≡ lsn = cc in ap Mark j
marked-sound lsn _ h = cc

-- what a call gives back
unfix-sound : (g : Grant) (call : Call) → option_map_or (λ n. g.serial == n) (pass_back call) false ≡ true → (p : ℕ) × (call ≡ Unfix g.serial p)
unfix-sound g (Unfix n p) h = (p, ap (λ x. Unfix x p) (sym (eqb-true g.serial n h)))
unfix-sound g _ h = cc

end_read-sound : (g : Grant) (call : Call) → option_map_or (λ n. g.serial == n) (read_ticket_back call) false ≡ true → (p : ℕ) × (image : Option (List ℕ)) × (call ≡ ReadEnd g.serial p image)
end_read-sound g (ReadEnd t p image) h = (p, image, ap (λ x. ReadEnd x p image) (sym (eqb-true g.serial t h)))
end_read-sound g _ h = cc

end_write-sound : (g : Grant) (call : Call) → option_map_or (λ n. g.serial == n) (write_ticket_back call) false ≡ true → (p : ℕ) × (good : Bool) × (call ≡ WriteEnd g.serial p good)
end_write-sound g (WriteEnd t p good) h = (p, good, ap (λ x. WriteEnd x p good) (sym (eqb-true g.serial t h)))
end_write-sound g _ h = cc

back : (o : Option ℕ) (n : ℕ) → o ≡ Some n → option_map_or (λ m. n == m) o false ≡ true
back o n i = ap (λ o. option_map_or (λ m. n == m) o false) i ∙ eq-eqb n n refl

pub says : (c : Parameters) (past : Trail) → Legal c past → EachEntry (λ past e. SaysSo e) past
says c = of-all c (λ past e. SaysSo e) (λ past e l. let v = event-of c past e l.here in record {
  hits = λ p. (hits-sound c past e.client e.call e.reply v p, hits-complete e p);
  loads = λ p. (loads-sound c past e.client e.call e.reply v p, loads-complete e p);
  evicts = λ p. (evicts-sound c past e.client e.call e.reply v p, evicts-complete e p);
  leaves = λ p. (leaves-sound c past e.client e.call e.reply v p, leaves-complete e p);
  discards = λ p. (discards-sound c past e.client e.call e.reply v p, discards-complete e p);
  writes = λ p. (writes-sound c past e.client e.call e.reply v p, writes-complete e p);
  begins_of = λ p. (begins-sound c past e.client e.call e.reply v p, begins-complete e p);
  ends_well = λ t. (ends-sound c past e.client e.call e.reply v t, ends-complete c past e.client e.call e.reply v t);
  pass_of = λ g. (pass-sound c past e.client e.call e.reply v g, pass-complete e g);
  read_ticket_of = λ g. (read-sound c past e.client e.call e.reply v g, read-complete e g);
  write_ticket_of = λ g. (write-sound c past e.client e.call e.reply v g, write-complete e g);
  unfixes = λ g. (unfix-sound g e.call, λ w. back (pass_back e.call) g.serial (ap pass_back w.1));
  ends_read = λ g. (end_read-sound g e.call, λ w. back (read_ticket_back e.call) g.serial (ap read_ticket_back w.2));
  ends_write = λ g. (end_write-sound g e.call, λ w. back (write_ticket_back e.call) g.serial (ap write_ticket_back w.2));
  ticks = λ n. (ticks-sound n e.call, λ w. ap ticks w);
  marked = λ lsn. (marked-sound lsn e.call, λ w. ap marked w);
  lsn_written = λ p lsn. (written-sound c past e.client e.call e.reply v p lsn, written-complete e p lsn);
})

-- Each kind of step keeps the rule of a frame.
use Rattle.std.proofs.Common.{◌≡◌, ◌≢◌, ◌⊎◌, ℕ, zero, suc, ◌+◌, ◌-◌, ◌*◌, ◌/◌, ◌%◌, ◌<◌, ◌≤◌, ◌^◌, true, false, Option, Some, None, refl, sym, ap, ◌∙◌, subst, inl, inr, arith}
use Rattle.std.specs.Prelude.{slice_index, ◌==◌}
use mathlib.Core.Option.{some, none}
use mathlib.Core.Logic.{dite}
use native.Mathlib.Decide.{ℕ_discrete}
use lib.ListN.{get_elem?}
use prog.Atomic.{either}
use Rattle.atomic_table.specs.Table.{Me, Act, step, keeps, stepped, Valid, carried_after, Allows}
use Rattle.atomic_table.proofs.Lists.{exchanged}
use Rattle.bp_words.specs.declared.views.View.{View}
use Rattle.bp_words.specs.Shares.{given}
use Rattle.bp_words.specs.Fields.{packed, fields, IsReadable, IsPinnable, IsWritable, some_of}
use Rattle.bp_words.specs.Views.{guest, idle, held, queue, uses, blind, waiting, in_readers, in_pins, ComesToRead, ComesToPin, Leaves, Looks, TurnsToPin, ComesAlone, Turns, Adds, Stays, Finds, Waits, FindsRoom, LetsIn, LetsWriterIn, Tells}
use Rattle.bp_words.specs.Rule.{total, out_of, Fits, FrameRule}
use Rattle.bp_words.proofs.Totals.{total_at, total_le, total_plus}
use Rattle.bp_words.proofs.Changes.{Local, changed, unmoved, first_word, second_word, reader_fits, pin_fits, turn_fits, blind_few, only_queue}

pub not_yes : false ≡ true → ⊥
not_yes e = let z : ◌≡◌ {A = ℕ} 0 1 = cc in omega arith

-- A guest fits that has no share, or shares of the page whose pass is out.
pub guest_fits : (out page seat r h s p l w t : ℕ) → out ≡ 1 → h + s + l ≤ t → Fits out page seat (guest r h s p l w t (Some page))
guest_fits out page seat r h s p l w t is few =
    record { used = λ _. (is, refl); blind = omega arith; queue = λ up. absurd (omega arith); keeper = λ e. absurd (not_yes e); out = λ e. absurd (not_yes e); home = λ e. absurd (not_yes e) }

pub stray_fits : (out page seat s l t : ℕ) → s + l ≤ t → Fits out page seat (guest 0 0 s 0 l 0 t None)
stray_fits out page seat s l t few =
    record { used = λ some_use. absurd (omega arith); blind = omega arith; queue = λ up. absurd (omega arith); keeper = λ e. absurd (not_yes e); out = λ e. absurd (not_yes e); home = λ e. absurd (not_yes e) }

-- whether a word is readable, and pinnable, as one number that is 0 then
readable? : (n : ℕ) {P : Type 0} → (IsReadable (fields n) → P) → (¬ (IsReadable (fields n)) → P) → P
readable? n holds fails = dite (ℕ_discrete (1 - n / 4398046511104 % 2 + n / 1099511627776 % 2 + n / 17592186044416 % 2 + n % 1048576 / 524288 + n / 1048576 % 1048576 / 524288) 0)
    (λ e. holds (omega arith, omega arith, omega arith, (omega arith, omega arith)))
    (λ ne. fails (λ is. ne (clear is.0 is.1 is.2 is.3.0 is.3.1)))
  where
    clear : n / 4398046511104 % 2 ≡ 1 → n / 1099511627776 % 2 ≡ 0 → n / 17592186044416 % 2 ≡ 0 → n % 1048576 < 524288 → n / 1048576 % 1048576 < 524288 → 1 - n / 4398046511104 % 2 + n / 1099511627776 % 2 + n / 17592186044416 % 2 + n % 1048576 / 524288 + n / 1048576 % 1048576 / 524288 ≡ 0
    clear a b c d e = omega arith

pinnable? : (n : ℕ) {P : Type 0} → (IsPinnable (fields n) → P) → (¬ (IsPinnable (fields n)) → P) → P
pinnable? n holds fails = dite (ℕ_discrete (1 - n / 4398046511104 % 2 + n % 1048576 / 524288 + n / 1048576 % 1048576 / 524288) 0)
    (λ e. holds (omega arith, (omega arith, omega arith)))
    (λ ne. fails (λ is. ne (clear is.0 is.1.0 is.1.1)))
  where
    clear : n / 4398046511104 % 2 ≡ 1 → n % 1048576 < 524288 → n / 1048576 % 1048576 < 524288 → 1 - n / 4398046511104 % 2 + n % 1048576 / 524288 + n / 1048576 % 1048576 / 524288 ≡ 0
    clear a b c = omega arith

-- A thread adds a share to the readers, before it knows what it is.
pub come_read_kept : (slots id : ℕ) (me : Me ℕ View) → me.0 ≡ idle → Allows FrameRule slots id me 0 (λ n. (n + 35184372088833) % 2 ^ 64) (ComesToRead (step slots 0 35184372088833 0 none) me)
come_read_kept slots id me is s rule homes there small =
    let n : ℕ = slice_index s.words 0 in
    let same : n ≡ rule.word = first_word s rule in
    let at : get_elem? s.views id ≡ some idle = there ∙ ap some is in
    let fits : n % 1048576 + 1 < 1048576 = subst (λ (k : ℕ). k % 1048576 + 1 < 1048576) (sym same) (reader_fits s rule id idle at (omega arith)) in
    let n' : ℕ = (n + 35184372088833) % 2 ^ 64 in
    let stays : n / 8796093022208 % 2 ≤ n / 4398046511104 % 2 = subst (λ (k : ℕ). k / 8796093022208 % 2 ≤ k / 4398046511104 % 2) (sym same) rule.sound.staying in
    let e = bits n small fits in
    let out : out_of n' ≡ out_of rule.word = e.3 ∙ ap out_of same in
    let still : n' / 8796093022208 % 2 ≤ out_of n' = omega arith in
    readable? n
    (λ r. let w : View = guest 1 0 0 0 0 0 1 (Some rule.page) in
    let l : Local n idle w n' = record { readers = e.0; pins = ap (λ (k : ℕ). k + 0) e.1; writers = ap (λ (k : ℕ). k + 0) e.2; staying = still; reads_up = λ _. (r.1, omega arith); more = λ _. (r.3.0, omega arith); writes_up = λ up. absurd (omega arith); pins_up = λ up. absurd (omega arith); tickets = refl; flag = inl (e.5, refl); queues = refl } in
    (w, keeps, tt, changed s rule id n' idle w at (subst (λ (k : ℕ). Local k idle w n') same l) out (guest_fits (out_of rule.word) rule.page id 1 0 0 0 0 0 1 (ap out_of (sym same) ∙ r.0) (omega arith)), ((λ _. (rule.page, refl)), (λ un. absurd (un r)), λ un. absurd (un (r.0, r.3)))))
    (λ nr. pinnable? n
    (λ p. let w : View = guest 0 1 0 0 0 0 1 (Some rule.page) in
    let l : Local n idle w n' = record { readers = e.0; pins = ap (λ (k : ℕ). k + 0) e.1; writers = ap (λ (k : ℕ). k + 0) e.2; staying = still; reads_up = λ up. absurd (omega arith); more = λ up. absurd (omega arith); writes_up = λ up. absurd (omega arith); pins_up = λ _. (p.1.1, omega arith); tickets = refl; flag = inl (e.5, refl); queues = refl } in
    (w, keeps, tt, changed s rule id n' idle w at (subst (λ (k : ℕ). Local k idle w n') same l) out (guest_fits (out_of rule.word) rule.page id 0 1 0 0 0 0 1 (ap out_of (sym same) ∙ p.0) (omega arith)), ((λ r. absurd (nr r)), (λ _ _. (rule.page, refl)), λ un. absurd (un p))))
    (λ np. let w : View = guest 0 0 1 0 0 0 1 None in
    let l : Local n idle w n' = record { readers = e.0; pins = ap (λ (k : ℕ). k + 0) e.1; writers = ap (λ (k : ℕ). k + 0) e.2; staying = still; reads_up = λ up. absurd (omega arith); more = λ up. absurd (omega arith); writes_up = λ up. absurd (omega arith); pins_up = λ up. absurd (omega arith); tickets = refl; flag = inl (e.5, refl); queues = refl } in
    (w, keeps, tt, changed s rule id n' idle w at (subst (λ (k : ℕ). Local k idle w n') same l) out (stray_fits (out_of rule.word) rule.page id 1 0 1 (omega arith)), ((λ r. absurd (nr r)), (λ _ p. absurd (np p)), λ _. refl))))
  where
    bits : (n : ℕ) → n < 18446744073709551616 → n % 1048576 + 1 < 1048576
        → ((n + 35184372088833) % 2 ^ 64 % 1048576 + 0 ≡ n % 1048576 + 1) × ((n + 35184372088833) % 2 ^ 64 / 1048576 % 1048576 ≡ n / 1048576 % 1048576) × ((n + 35184372088833) % 2 ^ 64 / 1099511627776 % 2 ≡ n / 1099511627776 % 2)
        × ((n + 35184372088833) % 2 ^ 64 / 4398046511104 % 2 ≡ n / 4398046511104 % 2) × ((n + 35184372088833) % 2 ^ 64 / 8796093022208 % 2 ≡ n / 8796093022208 % 2)
        × ((n + 35184372088833) % 2 ^ 64 / 2199023255552 % 2 ≡ n / 2199023255552 % 2)
    bits n small fits = (omega arith, omega arith, omega arith, omega arith, omega arith, omega arith)

-- What a thread has after that is one share among the readers.
pub came_to_read : (found : ℕ) (before after : Me ℕ View) → ComesToRead (step 0 0 35184372088833 0 none) before found after
    → (in_readers after.0 ≡ 1) × (in_pins after.0 ≡ 0) × (after.0.writes ≡ 0) × (after.0.waits + (after.0.wants + after.0.queues) ≡ 0) × (after.0.tickets ≡ 1) × (after.1 ≡ before.1)
came_to_read found before after then =
    let P : Me ℕ View → Type 0 = λ me. (in_readers me.0 ≡ 1) × (in_pins me.0 ≡ 0) × (me.0.writes ≡ 0) × (me.0.waits + (me.0.wants + me.0.queues) ≡ 0) × (me.0.tickets ≡ 1) × (me.1 ≡ before.1) in
    readable? found
    (λ r. subst P (sym (then.0 r).1) (refl, refl, refl, refl, refl, refl))
    (λ nr. pinnable? found
    (λ p. subst P (sym (then.1 nr p).1) (refl, refl, refl, refl, refl, refl))
    (λ np. subst P (sym (then.2 np)) (refl, refl, refl, refl, refl, refl)))

-- Who does not wait does not in any way.
no_waits : (v : View) → v.waits + (v.wants + v.queues) ≡ 0 → (0 + 0 ≡ v.waits + v.wants) × (0 ≡ v.queues)
no_waits v e = (omega arith, omega arith)

-- A seat gives its shares back.
pub leave_kept : (slots id a b c : ℕ) (me : Me ℕ View) → in_readers me.0 ≡ a → in_pins me.0 ≡ b → me.0.writes ≡ c → me.0.waits + (me.0.wants + me.0.queues) ≡ 0 → a < 1048576 → b < 1048576 → c < 2
    → Allows FrameRule slots id me 0 (λ n. (n + (2 ^ 64 - (a + 1048576 * b + 1099511627776 * c))) % 2 ^ 64) (Leaves (step slots 0 (a + 1048576 * b + 1099511627776 * c) 0 none) me)
leave_kept slots id a b c me isa isb isc no_wait la lb lc s rule homes there small =
    let n : ℕ = slice_index s.words 0 in
    let same : n ≡ rule.word = first_word s rule in
    let v : View = me.0 in
    let w : View = guest 0 0 0 0 0 0 v.tickets None in
    let n' : ℕ = (n + (2 ^ 64 - (a + 1048576 * b + 1099511627776 * c))) % 2 ^ 64 in
    let ra : a ≤ n % 1048576 = subst (λ (t : ℕ × ℕ). t.0 ≤ t.1) (λ i. (isa i, (sym rule.sound.readers ∙ ap (λ (k : ℕ). k % 1048576) (sym same)) i)) (total_at in_readers s.views id v there) in
    let rb : b ≤ n / 1048576 % 1048576 = subst (λ (t : ℕ × ℕ). t.0 ≤ t.1) (λ i. (isb i, (sym rule.sound.pins ∙ ap (λ (k : ℕ). k / 1048576 % 1048576) (sym same)) i)) (total_at in_pins s.views id v there) in
    let rc : c ≤ n / 1099511627776 % 2 = subst (λ (t : ℕ × ℕ). t.0 ≤ t.1) (λ i. (isc i, (sym rule.sound.writers ∙ ap (λ (k : ℕ). k / 1099511627776 % 2) (sym same)) i)) (total_at (λ u. u.writes) s.views id v there) in
    let stays : n / 8796093022208 % 2 ≤ n / 4398046511104 % 2 = subst (λ (k : ℕ). k / 8796093022208 % 2 ≤ k / 4398046511104 % 2) (sym same) rule.sound.staying in
    let e = bits n a b c small la lb lc ra rb rc in
    let l : Local n v w n' = record {
      readers = ap (λ (k : ℕ). n' % 1048576 + k) isa ∙ e.0;
      pins = ap (λ (k : ℕ). n' / 1048576 % 1048576 + k) isb ∙ e.1;
      writers = ap (λ (k : ℕ). n' / 1099511627776 % 2 + k) isc ∙ e.2;
      staying = let e3 = e.3 in let e4 = e.4 in omega arith;
      reads_up = λ up. absurd (omega arith);
      more = λ up. absurd (omega arith);
      writes_up = λ up. absurd (omega arith);
      pins_up = λ up. absurd (omega arith);
      tickets = refl;
      flag = inl (e.5, (no_waits me.0 no_wait).0);
      queues = (no_waits me.0 no_wait).1;
    } in
    (w, keeps, tt, changed s rule id n' v w there (subst (λ (k : ℕ). Local k v w n') same l) (e.3 ∙ ap out_of same) (stray_fits (out_of rule.word) rule.page id 0 0 v.tickets (omega arith)), refl)
  where
    taken : (n a b c : ℕ) → n < 18446744073709551616 → a < 1048576 → b < 1048576 → c < 2 → a ≤ n % 1048576 → b ≤ n / 1048576 % 1048576 → c ≤ n / 1099511627776 % 2
        → (n + (2 ^ 64 - (a + 1048576 * b + 1099511627776 * c))) % 2 ^ 64 + (a + 1048576 * b + 1099511627776 * c) ≡ n
    taken n a b c small la lb lc ra rb rc = omega arith

    bits : (n a b c : ℕ) → n < 18446744073709551616 → a < 1048576 → b < 1048576 → c < 2 → a ≤ n % 1048576 → b ≤ n / 1048576 % 1048576 → c ≤ n / 1099511627776 % 2
        → ((n + (2 ^ 64 - (a + 1048576 * b + 1099511627776 * c))) % 2 ^ 64 % 1048576 + a ≡ n % 1048576 + 0) × ((n + (2 ^ 64 - (a + 1048576 * b + 1099511627776 * c))) % 2 ^ 64 / 1048576 % 1048576 + b ≡ n / 1048576 % 1048576 + 0)
        × ((n + (2 ^ 64 - (a + 1048576 * b + 1099511627776 * c))) % 2 ^ 64 / 1099511627776 % 2 + c ≡ n / 1099511627776 % 2 + 0)
        × ((n + (2 ^ 64 - (a + 1048576 * b + 1099511627776 * c))) % 2 ^ 64 / 4398046511104 % 2 ≡ n / 4398046511104 % 2) × ((n + (2 ^ 64 - (a + 1048576 * b + 1099511627776 * c))) % 2 ^ 64 / 8796093022208 % 2 ≡ n / 8796093022208 % 2)
        × ((n + (2 ^ 64 - (a + 1048576 * b + 1099511627776 * c))) % 2 ^ 64 / 2199023255552 % 2 ≡ n / 2199023255552 % 2)
    bits n a b c small la lb lc ra rb rc =
        let m : ℕ = (n + (2 ^ 64 - (a + 1048576 * b + 1099511627776 * c))) % 2 ^ 64 in
        let less : m + (a + 1048576 * b + 1099511627776 * c) ≡ n = taken n a b c small la lb lc ra rb rc in
        (omega arith, omega arith, omega arith, omega arith, omega arith, omega arith)

pub look_kept : (slots id : ℕ) (me : Me ℕ View) → Allows FrameRule slots id me 1 (λ n. n) (Looks (step slots 1 0 0 none) me)
look_kept slots id me s rule homes there small =
    let found = second_word s rule in
    let mine = rule.fit id me.0 there in
    (me.0, keeps, tt, unmoved s rule 1 id me.0 there, (refl, λ some_use. (mine.used some_use).1 ∙ ap (λ (k : ℕ). Some k) (sym found)))

-- A share that keeps the page alone becomes a pin.
pub turn_kept : (slots id page : ℕ) (me : Me ℕ View) → me.0 ≡ guest 0 1 0 0 0 0 1 (Some page) → Allows FrameRule slots id me 0 (λ n. (n + 1048575) % 2 ^ 64) (TurnsToPin (step slots 0 1048575 0 none) me)
turn_kept slots id page me is s rule homes there small =
    let n : ℕ = slice_index s.words 0 in
    let same : n ≡ rule.word = first_word s rule in
    let v : View = guest 0 1 0 0 0 0 1 (Some page) in
    let w : View = guest 0 0 0 1 0 0 1 me.0.page in
    let told : me.0.page ≡ Some page = ap (λ (u : View). u.page) is in
    let at : get_elem? s.views id ≡ some v = there ∙ ap some is in
    let n' : ℕ = (n + 1048575) % 2 ^ 64 in
    let ra : 1 ≤ n % 1048576 = subst (λ (k : ℕ). 1 ≤ k) (sym rule.sound.readers ∙ ap (λ (k : ℕ). k % 1048576) (sym same)) (total_at in_readers s.views id v at) in
    let rb : n / 1048576 % 1048576 + 1 < 1048576 = subst (λ (k : ℕ). k / 1048576 % 1048576 + 1 < 1048576) (sym same) (turn_fits s rule id v at (omega arith)) in
    let stays : n / 8796093022208 % 2 ≤ n / 4398046511104 % 2 = subst (λ (k : ℕ). k / 8796093022208 % 2 ≤ k / 4398046511104 % 2) (sym same) rule.sound.staying in
    let e = bits n small ra rb in
    let mine = (rule.fit id v at).used (omega arith) in
    let l : Local n v w n' = record {
      readers = e.0;
      pins = e.1;
      writers = ap (λ (k : ℕ). k + 0) e.2;
      staying = let e3 = e.3 in let e4 = e.4 in omega arith;
      reads_up = λ up. absurd (omega arith);
      more = λ up. absurd (omega arith);
      writes_up = λ up. absurd (omega arith);
      pins_up = λ up. absurd (omega arith);
      tickets = refl;
      flag = inl (e.5, refl);
      queues = refl;
    } in
    let fits : Fits (out_of rule.word) rule.page id w = record { used = λ _. (mine.0, told ∙ mine.1); blind = omega arith; queue = λ up. absurd (omega arith); keeper = λ e. absurd (not_yes e); out = λ e. absurd (not_yes e); home = λ e. absurd (not_yes e) } in
    (w, keeps, tt, changed s rule id n' v w at (subst (λ (k : ℕ). Local k v w n') same l) (e.3 ∙ ap out_of same) fits, refl)
  where
    bits : (n : ℕ) → n < 18446744073709551616 → 1 ≤ n % 1048576 → n / 1048576 % 1048576 + 1 < 1048576
        → ((n + 1048575) % 2 ^ 64 % 1048576 + 1 ≡ n % 1048576 + 0) × ((n + 1048575) % 2 ^ 64 / 1048576 % 1048576 + 0 ≡ n / 1048576 % 1048576 + 1) × ((n + 1048575) % 2 ^ 64 / 1099511627776 % 2 ≡ n / 1099511627776 % 2)
        × ((n + 1048575) % 2 ^ 64 / 4398046511104 % 2 ≡ n / 4398046511104 % 2) × ((n + 1048575) % 2 ^ 64 / 8796093022208 % 2 ≡ n / 8796093022208 % 2)
        × ((n + 1048575) % 2 ^ 64 / 2199023255552 % 2 ≡ n / 2199023255552 % 2)
    bits n small ra rb = (omega arith, omega arith, omega arith, omega arith, omega arith, omega arith)

-- The same after a look at the page's number.
pub came_and_looked : (found page : ℕ) (before after later : Me ℕ View) → ComesToRead (step 0 0 35184372088833 0 none) before found after → later ≡ after
    → (in_readers later.0 ≡ 1) × (in_pins later.0 ≡ 0) × (later.0.writes ≡ 0) × (later.0.waits + (later.0.wants + later.0.queues) ≡ 0) × (later.0.tickets ≡ 1) × (later.1 ≡ before.1)
came_and_looked found page before after later then same =
    subst (λ (me : Me ℕ View). (in_readers me.0 ≡ 1) × (in_pins me.0 ≡ 0) × (me.0.writes ≡ 0) × (me.0.waits + (me.0.wants + me.0.queues) ≡ 0) × (me.0.tickets ≡ 1) × (me.1 ≡ before.1)) (sym same) (came_to_read found before after then)

-- A thread adds a share to the pins, with a join or without, before it knows what it is.
pub come_pin_kept : (slots id j : ℕ) (me : Me ℕ View) → j < 2 → me.0 ≡ idle → Allows FrameRule slots id me 0 (λ n. (n + (1048576 + 35184372088832 * j)) % 2 ^ 64) (ComesToPin (step slots 0 (1048576 + 35184372088832 * j) 0 none) me)
come_pin_kept slots id j me lj is s rule homes there small =
    let n : ℕ = slice_index s.words 0 in
    let same : n ≡ rule.word = first_word s rule in
    let at : get_elem? s.views id ≡ some idle = there ∙ ap some is in
    let fits : n / 1048576 % 1048576 + 1 < 1048576 = subst (λ (k : ℕ). k / 1048576 % 1048576 + 1 < 1048576) (sym same) (pin_fits s rule id idle at (omega arith)) in
    let n' : ℕ = (n + (1048576 + 35184372088832 * j)) % 2 ^ 64 in
    let stays : n / 8796093022208 % 2 ≤ n / 4398046511104 % 2 = subst (λ (k : ℕ). k / 8796093022208 % 2 ≤ k / 4398046511104 % 2) (sym same) rule.sound.staying in
    let e = bits n j lj small fits in
    let out : out_of n' ≡ out_of rule.word = e.3 ∙ ap out_of same in
    let still : n' / 8796093022208 % 2 ≤ out_of n' = let e3 = e.3 in let e4 = e.4 in omega arith in
    pinnable? n
    (λ p. let w : View = guest 0 0 0 1 0 0 1 (Some rule.page) in
    let l : Local n idle w n' = record { readers = ap (λ (k : ℕ). k + 0) e.0; pins = e.1; writers = ap (λ (k : ℕ). k + 0) e.2; staying = still; reads_up = λ up. absurd (omega arith); more = λ up. absurd (omega arith); writes_up = λ up. absurd (omega arith); pins_up = λ _. (p.1.1, omega arith); tickets = refl; flag = inl (e.5, refl); queues = refl } in
    (w, keeps, tt, changed s rule id n' idle w at (subst (λ (k : ℕ). Local k idle w n') same l) out (guest_fits (out_of rule.word) rule.page id 0 0 0 1 0 0 1 (ap out_of (sym same) ∙ p.0) (omega arith)), ((λ _. (rule.page, refl)), λ un. absurd (un p))))
    (λ np. let w : View = guest 0 0 0 0 1 0 1 None in
    let l : Local n idle w n' = record { readers = ap (λ (k : ℕ). k + 0) e.0; pins = e.1; writers = ap (λ (k : ℕ). k + 0) e.2; staying = still; reads_up = λ up. absurd (omega arith); more = λ up. absurd (omega arith); writes_up = λ up. absurd (omega arith); pins_up = λ up. absurd (omega arith); tickets = refl; flag = inl (e.5, refl); queues = refl } in
    (w, keeps, tt, changed s rule id n' idle w at (subst (λ (k : ℕ). Local k idle w n') same l) out (stray_fits (out_of rule.word) rule.page id 0 1 1 (omega arith)), ((λ p. absurd (np p)), λ _. refl)))
  where
    bits : (n j : ℕ) → j < 2 → n < 18446744073709551616 → n / 1048576 % 1048576 + 1 < 1048576
        → ((n + (1048576 + 35184372088832 * j)) % 2 ^ 64 % 1048576 ≡ n % 1048576) × ((n + (1048576 + 35184372088832 * j)) % 2 ^ 64 / 1048576 % 1048576 + 0 ≡ n / 1048576 % 1048576 + 1) × ((n + (1048576 + 35184372088832 * j)) % 2 ^ 64 / 1099511627776 % 2 ≡ n / 1099511627776 % 2)
        × ((n + (1048576 + 35184372088832 * j)) % 2 ^ 64 / 4398046511104 % 2 ≡ n / 4398046511104 % 2) × ((n + (1048576 + 35184372088832 * j)) % 2 ^ 64 / 8796093022208 % 2 ≡ n / 8796093022208 % 2)
        × ((n + (1048576 + 35184372088832 * j)) % 2 ^ 64 / 2199023255552 % 2 ≡ n / 2199023255552 % 2)
    bits n j lj small fits = (omega arith, omega arith, omega arith, omega arith, omega arith, omega arith)

-- What a thread has after that is one share among the pins.
pub came_to_pin : (found : ℕ) (before after later : Me ℕ View) → ComesToPin (step 0 0 0 0 none) before found after → later ≡ after
    → (in_readers later.0 ≡ 0) × (in_pins later.0 ≡ 1) × (later.0.writes ≡ 0) × (later.0.waits + (later.0.wants + later.0.queues) ≡ 0) × (later.0.tickets ≡ 1) × (later.1 ≡ before.1)
came_to_pin found before after later then same =
    let P : Me ℕ View → Type 0 = λ me. (in_readers me.0 ≡ 0) × (in_pins me.0 ≡ 1) × (me.0.writes ≡ 0) × (me.0.waits + (me.0.wants + me.0.queues) ≡ 0) × (me.0.tickets ≡ 1) × (me.1 ≡ before.1) in
    subst P (sym same) (pinnable? found
    (λ p. subst P (sym (then.0 p).1) (refl, refl, refl, refl, refl, refl))
    (λ np. subst P (sym (then.1 np)) (refl, refl, refl, refl, refl, refl)))

-- the fields of a word that is made of fields
pub parts_of : (r p w q o s c j : ℕ) → r < 1048576 → p < 1048576 → w < 2 → q < 2 → o < 2 → s < 2 → c < 2
    → (packed r p w q o s c j % 1048576 ≡ r) × (packed r p w q o s c j / 1048576 % 1048576 ≡ p) × (packed r p w q o s c j / 1099511627776 % 2 ≡ w) × (packed r p w q o s c j / 4398046511104 % 2 ≡ o) × (packed r p w q o s c j / 8796093022208 % 2 ≡ s)
    × (packed r p w q o s c j / 2199023255552 % 2 ≡ q)
parts_of r p w q o s c j lr lp lw lq lo ls lc = (omega arith, omega arith, omega arith, omega arith, omega arith, omega arith)

-- A step that does something only where the word was as expected, and leaves the pass as it was.
pub cas_kept : (slots id seen next : ℕ) (me : Me ℕ View) (then : ℕ → Me ℕ View → Type 0) (w : ℕ → View)
    → ((page : ℕ) → Local seen me.0 (w page) next) → out_of next ≡ out_of seen → ((page seat : ℕ) → Fits (out_of seen) page seat me.0 → Fits (out_of seen) page seat (w page))
    → ((page : ℕ) → then seen (w page, me.1)) → ((n : ℕ) → n ≢ seen → then n me) → Allows FrameRule slots id me 0 (λ n. either (n == seen) next n) then
cas_kept slots id seen next me then w local out fits hit miss s rule homes there small =
    let found : ℕ = slice_index s.words 0 in
    let F : ℕ → Type 0 = λ m. (v : View) × (a : Act ℕ) × Valid s.homes me.1 a × FrameRule (stepped s 0 m id me.1 v a) × then found (v, carried_after me.1 a) in
    exchanged found seen next F
    (λ is. let same : seen ≡ rule.word = sym is ∙ first_word s rule in
    let new : View = w rule.page in (
      new,
      keeps,
      tt,
      changed s rule id next me.0 new there (subst (λ (k : ℕ). Local k me.0 new next) same (local rule.page)) (out ∙ ap out_of same)
          (subst (λ (k : ℕ). Fits (out_of k) rule.page id new) same (fits rule.page id (subst (λ (k : ℕ). Fits (out_of k) rule.page id me.0) (sym same) (rule.fit id me.0 there)))),
      subst (λ (k : ℕ). then k (new, me.1)) (sym is) (hit rule.page),
    ))
    (λ ne. (me.0, keeps, tt, unmoved s rule 0 id me.0 there, miss found ne))

-- What a seat finds in the word is no less than its own shares.
pub find_kept : (slots id : ℕ) (me : Me ℕ View) → Allows FrameRule slots id me 0 (λ n. n) (Finds (step slots 0 0 0 none) me)
find_kept slots id me s rule homes there small =
    let n : ℕ = slice_index s.words 0 in
    let same : n ≡ rule.word = first_word s rule in
    let a = subst (λ (k : ℕ). in_readers me.0 ≤ k) (sym rule.sound.readers ∙ ap (λ (k : ℕ). k % 1048576) (sym same)) (total_at in_readers s.views id me.0 there) in
    let b = subst (λ (k : ℕ). in_pins me.0 ≤ k) (sym rule.sound.pins ∙ ap (λ (k : ℕ). k / 1048576 % 1048576) (sym same)) (total_at in_pins s.views id me.0 there) in
    let o = λ (some_use : 0 < uses me.0). ap out_of same ∙ ((rule.fit id me.0 there).used some_use).0 in
    let st = subst (λ (k : ℕ). k / 8796093022208 % 2 ≤ k / 4398046511104 % 2) (sym same) rule.sound.staying in
    (me.0, keeps, tt, unmoved s rule 0 id me.0 there, (refl, a, b, o, st))

-- A thread with a ticket takes the share that writes.
pub come_alone_kept : (slots id seen next : ℕ) (me : Me ℕ View) → me.0 ≡ idle → seen < 2 ^ 64 → IsWritable (fields seen) → seen / 8796093022208 % 2 ≤ seen / 4398046511104 % 2
    → next ≡ packed (seen % 1048576) (seen / 1048576 % 1048576) 1 (seen / 2199023255552 % 2) (seen / 4398046511104 % 2) (seen / 8796093022208 % 2) (seen / 17592186044416 % 2) (seen / 35184372088832 + 1)
    → Allows FrameRule slots id me 0 (λ n. either (n == seen) next n) (ComesAlone (step slots 0 seen next none) me)
come_alone_kept slots id seen next me is small free stays made =
    let e = parts_of (seen % 1048576) (seen / 1048576 % 1048576) 1 (seen / 2199023255552 % 2) (seen / 4398046511104 % 2) (seen / 8796093022208 % 2) (seen / 17592186044416 % 2) (seen / 35184372088832 + 1) (omega arith) (omega arith) (omega arith) (omega arith) (omega arith) (omega arith) (omega arith) in
    let e0 : next % 1048576 ≡ seen % 1048576 = ap (λ (k : ℕ). k % 1048576) made ∙ e.0 in
    let e1 : next / 1048576 % 1048576 ≡ seen / 1048576 % 1048576 = ap (λ (k : ℕ). k / 1048576 % 1048576) made ∙ e.1 in
    let e2 : next / 1099511627776 % 2 ≡ 1 = ap (λ (k : ℕ). k / 1099511627776 % 2) made ∙ e.2 in
    let e3 : next / 4398046511104 % 2 ≡ seen / 4398046511104 % 2 = ap (λ (k : ℕ). k / 4398046511104 % 2) made ∙ e.3 in
    let e4 : next / 8796093022208 % 2 ≡ seen / 8796093022208 % 2 = ap (λ (k : ℕ). k / 8796093022208 % 2) made ∙ e.4 in
    let e5 : next / 2199023255552 % 2 ≡ seen / 2199023255552 % 2 = ap (λ (k : ℕ). k / 2199023255552 % 2) made ∙ e.5 in
    let none_writes : seen / 1099511627776 % 2 ≡ 0 = free.2 in
    cas_kept slots id seen next me (ComesAlone (step slots 0 seen next none) me) (λ page. guest 0 0 0 0 0 1 1 (Some page))
    (λ page. subst (λ (v : View). Local seen v (guest 0 0 0 0 0 1 1 (Some page)) next) (sym is) (record { readers = ap (λ (k : ℕ). k + 0) e0; pins = ap (λ (k : ℕ). k + 0) e1; writers = omega arith; staying = omega arith; reads_up = λ up. absurd (omega arith); more = λ up. absurd (omega arith); writes_up = λ up. (free.1, refl); pins_up = λ up. absurd (omega arith); tickets = refl; flag = inl (e5, refl); queues = refl }))
    e3
    (λ page seat _. guest_fits (seen / 4398046511104 % 2) page seat 0 0 0 0 0 1 1 free.0 (omega arith))
    (λ page. ((λ _. (page, refl)), λ miss. absurd (miss refl)))
    (λ n ne. ((λ hit. absurd (ne hit)), λ _. refl))

-- A pin becomes a latch.
pub to_latch_kept : (slots id seen next page r w : ℕ) (me : Me ℕ View) → me.0 ≡ held 0 1 0 page → seen < 2 ^ 64 → r + w ≡ 1 → 1 ≤ seen / 1048576 % 1048576 → seen / 8796093022208 % 2 ≤ seen / 4398046511104 % 2
    → seen % 1048576 < 524288 → seen / 1099511627776 % 2 ≡ 0 → (0 < w → seen % 1048576 ≡ 0) → next ≡ seen - 1048576 + (r + 1099511627776 * w)
    → Allows FrameRule slots id me 0 (λ n. either (n == seen) next n) (Turns r 0 w (step slots 0 seen next none) me)
to_latch_kept slots id seen next page r w me is small one some_pin stays room unwritten unread made =
    let told : me.0.page ≡ Some page = ap (λ (u : View). u.page) is in
    let v : View = held 0 1 0 page in
    let w' : View = held r 0 w (given me.0.page) in
    let e = bits seen next r w small one some_pin room unwritten made in
    cas_kept slots id seen next me (Turns r 0 w (step slots 0 seen next none) me) (λ _. w')
    (λ _. subst (λ (x : View). Local seen x w' next) (sym is) (record { readers = e.0; pins = e.1; writers = e.2; staying = let e3 = e.3 in let e4 = e.4 in omega arith; reads_up = λ up. (unwritten, omega arith); more = λ up. (room, omega arith); writes_up = λ up. (unread up, omega arith); pins_up = λ up. absurd (omega arith); tickets = refl; flag = inl (e.5, refl); queues = refl }))
    e.3
    (λ page' seat fits. let mine = (subst (λ (x : View). Fits (out_of seen) page' seat x) is fits).used (omega arith) in
    record { used = λ _. (mine.0, ap (λ p. Some (given p)) told ∙ mine.1); blind = omega arith; queue = λ up. absurd (omega arith); keeper = λ e. absurd (not_yes e); out = λ e. absurd (not_yes e); home = λ e. absurd (not_yes e) })
    (λ _. ((λ _. refl), λ miss. absurd (miss refl)))
    (λ n ne. ((λ hit. absurd (ne hit)), λ _. refl))
  where
    bits : (n n' r w : ℕ) → n < 2 ^ 64 → r + w ≡ 1 → 1 ≤ n / 1048576 % 1048576 → n % 1048576 < 524288 → n / 1099511627776 % 2 ≡ 0 → n' ≡ n - 1048576 + (r + 1099511627776 * w)
        → (n' % 1048576 + 0 ≡ n % 1048576 + (r + 0)) × (n' / 1048576 % 1048576 + 1 ≡ n / 1048576 % 1048576 + 0) × (n' / 1099511627776 % 2 + 0 ≡ n / 1099511627776 % 2 + w)
        × (n' / 4398046511104 % 2 ≡ n / 4398046511104 % 2) × (n' / 8796093022208 % 2 ≡ n / 8796093022208 % 2)
        × (n' / 2199023255552 % 2 ≡ n / 2199023255552 % 2)
    bits n n' r w small one some_pin room unwritten made = (omega arith, omega arith, omega arith, omega arith, omega arith, omega arith)

-- The flags change, and no share.
pub flag_kept : (slots id seen next : ℕ) (me : Me ℕ View) → next % 1048576 ≡ seen % 1048576 → next / 1048576 % 1048576 ≡ seen / 1048576 % 1048576 → next / 1099511627776 % 2 ≡ seen / 1099511627776 % 2 → out_of next ≡ out_of seen → next / 8796093022208 % 2 ≤ out_of next
    → ((next / 2199023255552 % 2 ≡ seen / 2199023255552 % 2) × (waiting me.0 ≡ waiting me.0)) ⊎ ((me.0.queues ≡ 1) × (next / 2199023255552 % 2 ≡ some_of (waiting me.0)))
    → Allows FrameRule slots id me 0 (λ n. either (n == seen) next n) (Stays (step slots 0 seen next none) me)
flag_kept slots id seen next me e0 e1 e2 e3 stays flag =
    cas_kept slots id seen next me (Stays (step slots 0 seen next none) me) (λ _. me.0)
    (λ _. record { readers = ap (λ (k : ℕ). k + in_readers me.0) e0; pins = ap (λ (k : ℕ). k + in_pins me.0) e1; writers = ap (λ (k : ℕ). k + me.0.writes) e2; staying = stays; reads_up = λ up. absurd (omega arith); more = λ up. absurd (omega arith); writes_up = λ up. absurd (omega arith); pins_up = λ up. absurd (omega arith); tickets = refl; flag = flag; queues = refl })
    e3
    (λ page seat fits. fits)
    (λ _. refl)
    (λ n _. refl)

-- Such a word has flags that changed alone, and says as before whether threads wait.
pub flag_word : (slots id seen next t c j : ℕ) (me : Me ℕ View) → t ≤ seen / 4398046511104 % 2 → c < 2
    → next ≡ packed (seen % 1048576) (seen / 1048576 % 1048576) (seen / 1099511627776 % 2) (seen / 2199023255552 % 2) (seen / 4398046511104 % 2) t c j
    → Allows FrameRule slots id me 0 (λ n. either (n == seen) next n) (Stays (step slots 0 seen next none) me)
flag_word slots id seen next t c j me lt lc made =
    let e = parts_of (seen % 1048576) (seen / 1048576 % 1048576) (seen / 1099511627776 % 2) (seen / 2199023255552 % 2) (seen / 4398046511104 % 2) t c j (omega arith) (omega arith) (omega arith) (omega arith) (omega arith) (omega arith) lc in
    let e3 : next / 4398046511104 % 2 ≡ seen / 4398046511104 % 2 = ap (λ (k : ℕ). k / 4398046511104 % 2) made ∙ e.3 in
    let e4 : next / 8796093022208 % 2 ≡ t = ap (λ (k : ℕ). k / 8796093022208 % 2) made ∙ e.4 in
    flag_kept slots id seen next me (ap (λ (k : ℕ). k % 1048576) made ∙ e.0) (ap (λ (k : ℕ). k / 1048576 % 1048576) made ∙ e.1) (ap (λ (k : ℕ). k / 1099511627776 % 2) made ∙ e.2) e3 (omega arith)
    (inl (ap (λ (k : ℕ). k / 2199023255552 % 2) made ∙ e.5, refl))

pub some_is : (n : ℕ) → 0 < n → some_of n ≡ 1
some_is zero up = absurd (omega arith)
some_is (suc n) up = refl

-- The queue says that threads wait, some of which do.
pub flag_queue_kept : (slots id seen next n m g : ℕ) (page : Option ℕ) (me : Me ℕ View) → me.0 ≡ queue n m g 0 0 page → 0 < m → seen / 8796093022208 % 2 ≤ seen / 4398046511104 % 2
    → next ≡ packed (seen % 1048576) (seen / 1048576 % 1048576) (seen / 1099511627776 % 2) 1 (seen / 4398046511104 % 2) (seen / 8796093022208 % 2) 1 (seen / 35184372088832)
    → Allows FrameRule slots id me 0 (λ n. either (n == seen) next n) (Stays (step slots 0 seen next none) me)
flag_queue_kept slots id seen next n m g page me is some_writer stays made =
    let e = parts_of (seen % 1048576) (seen / 1048576 % 1048576) (seen / 1099511627776 % 2) 1 (seen / 4398046511104 % 2) (seen / 8796093022208 % 2) 1 (seen / 35184372088832) (omega arith) (omega arith) (omega arith) (omega arith) (omega arith) (omega arith) (omega arith) in
    let e3 : next / 4398046511104 % 2 ≡ seen / 4398046511104 % 2 = ap (λ (k : ℕ). k / 4398046511104 % 2) made ∙ e.3 in
    let e4 : next / 8796093022208 % 2 ≡ seen / 8796093022208 % 2 = ap (λ (k : ℕ). k / 8796093022208 % 2) made ∙ e.4 in
    let all : waiting me.0 ≡ n + m = ap waiting is in
    flag_kept slots id seen next me (ap (λ (k : ℕ). k % 1048576) made ∙ e.0) (ap (λ (k : ℕ). k / 1048576 % 1048576) made ∙ e.1) (ap (λ (k : ℕ). k / 1099511627776 % 2) made ∙ e.2) e3 (omega arith)
    (inr (ap (λ (u : View). u.queues) is, ap (λ (k : ℕ). k / 2199023255552 % 2) made ∙ (e.5 ∙ sym (ap some_of all ∙ some_is (n + m) (omega arith)))))

-- A pin gets a latch beside it.
pub beside_kept : (slots id seen next page r w : ℕ) (me : Me ℕ View) → me.0 ≡ held 0 1 0 page → r + w ≡ 1 → seen / 1099511627776 % 2 ≡ 0 → (0 < r → seen % 1048576 < 524288) → (0 < w → seen % 1048576 ≡ 0)
    → next % 1048576 ≡ seen % 1048576 + r → next / 1048576 % 1048576 ≡ seen / 1048576 % 1048576 → next / 1099511627776 % 2 ≡ w → out_of next ≡ out_of seen → next / 8796093022208 % 2 ≤ out_of next → next / 2199023255552 % 2 ≡ seen / 2199023255552 % 2
    → Allows FrameRule slots id me 0 (λ n. either (n == seen) next n) (Adds r w (step slots 0 seen next none) me)
beside_kept slots id seen next page r w me is one unwritten room unread e0 e1 e2 e3 stays e5 =
    let told : me.0.page ≡ Some page = ap (λ (u : View). u.page) is in
    let w' : View = held r 1 w (given me.0.page) in
    cas_kept slots id seen next me (Adds r w (step slots 0 seen next none) me) (λ _. w')
    (λ _. subst (λ (x : View). Local seen x w' next) (sym is) (record { readers = omega arith; pins = ap (λ (k : ℕ). k + 1) e1; writers = omega arith; staying = stays; reads_up = λ up. (unwritten, omega arith); more = λ up. (room (omega arith), omega arith); writes_up = λ up. (unread up, omega arith); pins_up = λ up. absurd (omega arith); tickets = refl; flag = inl (e5, refl); queues = refl }))
    e3
    (λ page' seat fits. let mine = (subst (λ (x : View). Fits (out_of seen) page' seat x) is fits).used (omega arith) in
    record { used = λ _. (mine.0, ap (λ p. Some (given p)) told ∙ mine.1); blind = omega arith; queue = λ up. absurd (omega arith); keeper = λ e. absurd (not_yes e); out = λ e. absurd (not_yes e); home = λ e. absurd (not_yes e) })
    (λ _. ((λ _. refl), λ miss. absurd (miss refl)))
    (λ n ne. ((λ hit. absurd (ne hit)), λ _. refl))

-- what adding a latch does to a word
pub latch_bits : (n n' r w : ℕ) → n < 2 ^ 64 → r + w ≡ 1 → n % 1048576 < 524288 → n / 1099511627776 % 2 ≡ 0 → n' ≡ n - 0 + (r + 1099511627776 * w)
    → (n' % 1048576 ≡ n % 1048576 + r) × (n' / 1048576 % 1048576 ≡ n / 1048576 % 1048576) × (n' / 1099511627776 % 2 ≡ w)
    × (n' / 4398046511104 % 2 ≡ n / 4398046511104 % 2) × (n' / 8796093022208 % 2 ≡ n / 8796093022208 % 2)
    × (n' / 2199023255552 % 2 ≡ n / 2199023255552 % 2)
latch_bits n n' r w small one room unwritten made = (omega arith, omega arith, omega arith, omega arith, omega arith, omega arith)

pub beside_latch_kept : (slots id seen next page r w : ℕ) (me : Me ℕ View) → me.0 ≡ held 0 1 0 page → seen < 2 ^ 64 → r + w ≡ 1 → seen / 8796093022208 % 2 ≤ seen / 4398046511104 % 2
    → seen % 1048576 < 524288 → seen / 1099511627776 % 2 ≡ 0 → (0 < w → seen % 1048576 ≡ 0) → next ≡ seen - 0 + (r + 1099511627776 * w)
    → Allows FrameRule slots id me 0 (λ n. either (n == seen) next n) (Adds r w (step slots 0 seen next none) me)
beside_latch_kept slots id seen next page r w me is small one stays room unwritten unread made =
    let e = latch_bits seen next r w small one room unwritten made in
    beside_kept slots id seen next page r w me is one unwritten (λ _. room) unread e.0 e.1 e.2 e.3 (let e3 = e.3 in let e4 = e.4 in omega arith) e.5

-- One that waits to write is let in.
pub let_writer_in_kept : (slots id seen next n m g b c : ℕ) (page : Option ℕ) (me : Me ℕ View) → me.0 ≡ queue n m g 0 0 page → 0 < m → b < 2 → c < 2 → b ≡ some_of (n + (m - 1))
    → g + (0 + 0) ≤ seen % 1048576 → seen / 8796093022208 % 2 ≤ seen / 4398046511104 % 2 → ¬ (0 < seen % 1048576 + seen / 1099511627776 % 2)
    → next ≡ packed (seen % 1048576) (seen / 1048576 % 1048576) 1 b (seen / 4398046511104 % 2) (seen / 8796093022208 % 2) c (seen / 35184372088832)
    → Allows FrameRule slots id me 0 (λ n. either (n == seen) next n) (LetsWriterIn (step slots 0 seen next none) me)
let_writer_in_kept slots id seen next n m g b c page me is some_writer lb lc isb let_in stays free made =
    let none_latched : seen % 1048576 + seen / 1099511627776 % 2 ≡ 0 = zero_of (seen % 1048576 + seen / 1099511627776 % 2) free in
    let w' : View = queue me.0.waits (me.0.wants - 1) me.0.reads 1 1 me.0.page in
    let w : View = queue n (m - 1) g 1 1 page in
    let same : w' ≡ w = ap (λ (x : View). queue x.waits (x.wants - 1) x.reads 1 1 x.page) is in
    let e = parts_of (seen % 1048576) (seen / 1048576 % 1048576) 1 b (seen / 4398046511104 % 2) (seen / 8796093022208 % 2) c (seen / 35184372088832) (omega arith) (omega arith) (omega arith) lb (omega arith) (omega arith) lc in
    let e0 : next % 1048576 ≡ seen % 1048576 = ap (λ (k : ℕ). k % 1048576) made ∙ e.0 in
    let e1 : next / 1048576 % 1048576 ≡ seen / 1048576 % 1048576 = ap (λ (k : ℕ). k / 1048576 % 1048576) made ∙ e.1 in
    let e2 : next / 1099511627776 % 2 ≡ 1 = ap (λ (k : ℕ). k / 1099511627776 % 2) made ∙ e.2 in
    let e3 : next / 4398046511104 % 2 ≡ seen / 4398046511104 % 2 = ap (λ (k : ℕ). k / 4398046511104 % 2) made ∙ e.3 in
    let e4 : next / 8796093022208 % 2 ≡ seen / 8796093022208 % 2 = ap (λ (k : ℕ). k / 8796093022208 % 2) made ∙ e.4 in
    let e5 : next / 2199023255552 % 2 ≡ b = ap (λ (k : ℕ). k / 2199023255552 % 2) made ∙ e.5 in
    cas_kept slots id seen next me (LetsWriterIn (step slots 0 seen next none) me) (λ _. w')
    (λ _. subst (λ (x : View × View). Local seen x.0 x.1 next) (λ i. (sym is i, sym same i)) (record { readers = ap (λ (k : ℕ). k + (g + (0 + 0))) e0; pins = omega arith; writers = omega arith; staying = omega arith; reads_up = λ up. absurd (omega arith); more = λ up. absurd (omega arith); writes_up = λ up. (omega arith, omega arith); pins_up = λ up. absurd (omega arith); tickets = omega arith; flag = inr (refl, e5 ∙ isb); queues = refl }))
    e3
    (λ page' seat fits. let mine = subst (λ (x : View). Fits (out_of seen) page' seat x) is fits in
    subst (λ (x : View). Fits (out_of seen) page' seat x) (sym same) (record { used = λ up. mine.used (omega arith); blind = omega arith; queue = λ _. refl; keeper = λ e. absurd (not_yes e); out = λ e. absurd (not_yes e); home = λ e. absurd (not_yes e) }))
    (λ _. ((λ _. refl), λ miss. absurd (miss refl)))
    (λ k ne. ((λ hit. absurd (ne hit)), λ _. refl))
  where
    zero_of : (n : ℕ) → ¬ (0 < n) → n ≡ 0
    zero_of zero never = refl
    zero_of (suc n) never = absurd (never (omega arith))

-- A thread that came into the queue waits.
pub wait_kept : (slots id seen next n m g r w : ℕ) (page : Option ℕ) (me : Me ℕ View) → me.0 ≡ queue n m g 1 0 page → r + w ≡ 1 → seen / 8796093022208 % 2 ≤ seen / 4398046511104 % 2 → seen % 1048576 < 524288
    → next ≡ packed (seen % 1048576) (seen / 1048576 % 1048576) (seen / 1099511627776 % 2) 1 (seen / 4398046511104 % 2) (seen / 8796093022208 % 2) 1 (seen / 35184372088832)
    → Allows FrameRule slots id me 0 (λ n. either (n == seen) next n) (Waits r w (step slots 0 seen next none) me)
wait_kept slots id seen next n m g r w page me is one stays room made =
    let x' : View = queue (me.0.waits + r) (me.0.wants + w) me.0.reads 0 0 me.0.page in
    let x : View = queue (n + r) (m + w) g 0 0 page in
    let same : x' ≡ x = ap (λ (u : View). queue (u.waits + r) (u.wants + w) u.reads 0 0 u.page) is in
    let e = parts_of (seen % 1048576) (seen / 1048576 % 1048576) (seen / 1099511627776 % 2) 1 (seen / 4398046511104 % 2) (seen / 8796093022208 % 2) 1 (seen / 35184372088832) (omega arith) (omega arith) (omega arith) (omega arith) (omega arith) (omega arith) (omega arith) in
    let e0 : next % 1048576 ≡ seen % 1048576 = ap (λ (k : ℕ). k % 1048576) made ∙ e.0 in
    let e1 : next / 1048576 % 1048576 ≡ seen / 1048576 % 1048576 = ap (λ (k : ℕ). k / 1048576 % 1048576) made ∙ e.1 in
    let e2 : next / 1099511627776 % 2 ≡ seen / 1099511627776 % 2 = ap (λ (k : ℕ). k / 1099511627776 % 2) made ∙ e.2 in
    let e3 : next / 4398046511104 % 2 ≡ seen / 4398046511104 % 2 = ap (λ (k : ℕ). k / 4398046511104 % 2) made ∙ e.3 in
    let e4 : next / 8796093022208 % 2 ≡ seen / 8796093022208 % 2 = ap (λ (k : ℕ). k / 8796093022208 % 2) made ∙ e.4 in
    let e5 : next / 2199023255552 % 2 ≡ 1 = ap (λ (k : ℕ). k / 2199023255552 % 2) made ∙ e.5 in
    cas_kept slots id seen next me (Waits r w (step slots 0 seen next none) me) (λ _. x')
    (λ _. subst (λ (u : View × View). Local seen u.0 u.1 next) (λ i. (sym is i, sym same i)) (record { readers = ap (λ (k : ℕ). k + (g + (0 + 0))) e0; pins = omega arith; writers = ap (λ (k : ℕ). k + 0) e2; staying = omega arith; reads_up = λ up. absurd (omega arith); more = λ up. (room, omega arith); writes_up = λ up. absurd (omega arith); pins_up = λ up. absurd (omega arith); tickets = omega arith; flag = inr (refl, e5 ∙ sym (some_is (n + r + (m + w)) (omega arith))); queues = refl }))
    e3
    (λ page' seat fits. let mine = subst (λ (u : View). Fits (out_of seen) page' seat u) is fits in
    subst (λ (u : View). Fits (out_of seen) page' seat u) (sym same) (record { used = λ up. mine.used (omega arith); blind = omega arith; queue = λ _. refl; keeper = λ e. absurd (not_yes e); out = λ e. absurd (not_yes e); home = λ e. absurd (not_yes e) }))
    (λ _. ((λ _. refl), λ miss. absurd (miss refl)))
    (λ k ne. ((λ hit. absurd (ne hit)), λ _. refl))

-- All that wait fit beside the readers that are there.
pub find_room_kept : (slots id : ℕ) (me : Me ℕ View) → Allows FrameRule slots id me 0 (λ n. n) (FindsRoom (step slots 0 0 0 none) me)
find_room_kept slots id me s rule homes there small =
    let n : ℕ = slice_index s.words 0 in
    let same : n ≡ rule.word = first_word s rule in
    let parts = total_plus (λ u. u.reads) (λ u. u.halves + u.strays) s.views in
    let both = total_plus (λ u. u.reads) (λ u. u.waits) s.views in
    let mine = total_at (λ u. u.waits) s.views id me.0 there in
    let some_blind : total (λ u. u.halves + u.strays) s.views ≤ total blind s.views = total_le (λ u. u.halves + u.strays) blind s.views (λ seat u at. omega arith) in
    let all_blind = blind_few s rule in
    let is = rule.sound.readers in
    let few = rule.sound.few in
    let tickets = rule.sound.tickets in
    let room : rule.word % 1048576 + me.0.waits < 1048576 = omega arith in
    let st = subst (λ (k : ℕ). k / 8796093022208 % 2 ≤ k / 4398046511104 % 2) (sym same) rule.sound.staying in
    (me.0, keeps, tt, unmoved s rule 0 id me.0 there, (refl, subst (λ (k : ℕ). k % 1048576 + me.0.waits < 1048576) (sym same) room, st))

-- All that wait to read are let in.
pub let_in_kept : (slots id seen next n m g b c : ℕ) (page : Option ℕ) (me : Me ℕ View) → me.0 ≡ queue n m g 0 0 page → b < 2 → c < 2 → b ≡ some_of m → seen % 1048576 + n < 1048576 → seen / 8796093022208 % 2 ≤ seen / 4398046511104 % 2 → seen / 1099511627776 % 2 ≡ 0
    → next ≡ packed (seen % 1048576 + n) (seen / 1048576 % 1048576) (seen / 1099511627776 % 2) b (seen / 4398046511104 % 2) (seen / 8796093022208 % 2) c (seen / 35184372088832)
    → Allows FrameRule slots id me 0 (λ n. either (n == seen) next n) (LetsIn (step slots 0 seen next none) me)
let_in_kept slots id seen next n m g b c page me is lb lc isb room stays unwritten made =
    let w' : View = queue 0 me.0.wants (me.0.waits + me.0.reads) 0 0 me.0.page in
    let w : View = queue 0 m (n + g) 0 0 page in
    let same : w' ≡ w = ap (λ (x : View). queue 0 x.wants (x.waits + x.reads) 0 0 x.page) is in
    let none_more : m ≡ 0 + m = omega arith in
    let e = parts_of (seen % 1048576 + n) (seen / 1048576 % 1048576) (seen / 1099511627776 % 2) b (seen / 4398046511104 % 2) (seen / 8796093022208 % 2) c (seen / 35184372088832) room (omega arith) (omega arith) lb (omega arith) (omega arith) lc in
    let e0 : next % 1048576 ≡ seen % 1048576 + n = ap (λ (k : ℕ). k % 1048576) made ∙ e.0 in
    let e1 : next / 1048576 % 1048576 ≡ seen / 1048576 % 1048576 = ap (λ (k : ℕ). k / 1048576 % 1048576) made ∙ e.1 in
    let e2 : next / 1099511627776 % 2 ≡ seen / 1099511627776 % 2 = ap (λ (k : ℕ). k / 1099511627776 % 2) made ∙ e.2 in
    let e3 : next / 4398046511104 % 2 ≡ seen / 4398046511104 % 2 = ap (λ (k : ℕ). k / 4398046511104 % 2) made ∙ e.3 in
    let e4 : next / 8796093022208 % 2 ≡ seen / 8796093022208 % 2 = ap (λ (k : ℕ). k / 8796093022208 % 2) made ∙ e.4 in
    let e5 : next / 2199023255552 % 2 ≡ b = ap (λ (k : ℕ). k / 2199023255552 % 2) made ∙ e.5 in
    cas_kept slots id seen next me (LetsIn (step slots 0 seen next none) me) (λ _. w')
    (λ _. subst (λ (x : View × View). Local seen x.0 x.1 next) (λ i. (sym is i, sym same i)) (record { readers = omega arith; pins = omega arith; writers = ap (λ (k : ℕ). k + 0) e2; staying = omega arith; reads_up = λ up. (unwritten, omega arith); more = λ up. absurd (omega arith); writes_up = λ up. absurd (omega arith); pins_up = λ up. absurd (omega arith); tickets = omega arith; flag = inr (refl, e5 ∙ (isb ∙ ap some_of none_more)); queues = refl }))
    e3
    (λ page' seat fits. let mine = subst (λ (x : View). Fits (out_of seen) page' seat x) is fits in
    subst (λ (x : View). Fits (out_of seen) page' seat x) (sym same) (record { used = λ up. mine.used (omega arith); blind = omega arith; queue = λ _. refl; keeper = λ e. absurd (not_yes e); out = λ e. absurd (not_yes e); home = λ e. absurd (not_yes e) }))
    (λ _. ((λ _. refl), λ miss. absurd (miss refl)))
    (λ k ne. ((λ hit. absurd (ne hit)), λ _. refl))

-- The word says whether threads wait.
pub tell_kept : (slots id : ℕ) (me : Me ℕ View) → Allows FrameRule slots id me 0 (λ n. n) (Tells (step slots 0 0 0 none) me)
tell_kept slots id me s rule homes there small =
    let told = λ (mine : me.0.queues ≡ 1). ap (λ (k : ℕ). k / 2199023255552 % 2) (first_word s rule) ∙ (rule.sound.queued ∙ ap some_of (only_queue s rule id me.0 there mine)) in
    (me.0, keeps, tt, unmoved s rule 0 id me.0 there, (refl, told))

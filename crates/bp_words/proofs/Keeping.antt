-- The keeper's steps keep the rule of a frame.
use Rattle.std.proofs.Common.{◌≡◌, ◌≢◌, ℕ, zero, suc, ◌+◌, ◌-◌, ◌/◌, ◌%◌, ◌<◌, ◌≤◌, ◌^◌, Bool, true, false, List, set, Option, Some, None, refl, sym, ap, ◌∙◌, subst, inl, arith}
use Rattle.std.specs.Prelude.{slice_index, ◌==◌}
use mathlib.Core.Option.{some, none}
use lib.ListN.{get_elem?}
use prog.Atomic.{either}
use Rattle.atomic_table.specs.Table.{Me, Act, step, keeps, stepped, Valid, carried_after, Allows, Splits}
use Rattle.atomic_table.proofs.Lists.{exchanged}
use Rattle.std.proofs.Math.Dec.{eqb-suc-zero}
use Rattle.bp_words.specs.declared.views.View.{View}
use Rattle.bp_words.specs.Fields.{packed, fields, IsUnused, one_if, one_unless, some_of}
use Rattle.bp_words.specs.Views.{idle, held, keeper, uses, waiting, in_readers, in_pins, FindsHome, Stores, Begins, Ends}
use Rattle.bp_words.specs.Rule.{total, out_of, Fits, FrameRule}
use Rattle.bp_words.proofs.Totals.{total_set, total_at}
use Rattle.bp_words.proofs.Changes.{St, Local, fit_set, resound, sound_step, unmoved, first_word, home_fits}
use Rattle.bp_words.proofs.Steps.{not_yes, parts_of, stray_fits}
use Rattle.bp_words.proofs.Parts.{split_kept}

keeper_fits : (pass page p t stored : ℕ) (given_to : Option ℕ) → stored ≡ page → (0 < p → (pass ≡ 1) × (given_to ≡ Some page)) → (pass ≡ 1 → given_to ≡ Some page) → (pass ≡ 0 → given_to ≡ None) → Fits pass page 0 (keeper p t given_to stored)
keeper_fits pass page p t stored given_to told used out home = record { used = λ some_use. used (omega arith); blind = omega arith; queue = λ up. absurd (omega arith); keeper = λ _. (refl, told); out = λ _. out; home = λ _. home }

-- The keeper of a frame that is given to no page.
home_even : (word page seat : ℕ) (v : View) → Fits (out_of word) page seat v → v.tends ≡ true → v.page ≡ None → out_of word ≡ 0
home_even word page seat v fits tends none_given = cases (out_of word) refl (omega arith)
  where
    clash : Some page ≡ None → ⊥
    clash e = let z : ◌≡◌ {A = ℕ} 0 1 = cc in omega arith

    cases : (b : ℕ) → out_of word ≡ b → b < 2 → out_of word ≡ 0
    cases zero e l = e
    cases (suc zero) e l = absurd (clash (sym (fits.out tends (omega arith)) ∙ none_given))
    cases (suc (suc b)) e l = absurd (omega arith)

pub find_home_kept : (slots id t stored : ℕ) (me : Me ℕ View) → me.0 ≡ keeper 0 t None stored → Allows FrameRule slots id me 0 (λ n. n) (FindsHome (step slots 0 0 0 none) me)
find_home_kept slots id t stored me is s rule homes there small =
    let n : ℕ = slice_index s.words 0 in
    let same : n ≡ rule.word = first_word s rule in
    let home : out_of rule.word ≡ 0 = home_even rule.word rule.page id me.0 (rule.fit id me.0 there) (ap (λ (v : View). v.tends) is) (ap (λ (v : View). v.page) is) in
    let home' : n / 4398046511104 % 2 ≡ 0 = ap out_of same ∙ home in
    let few = subst (λ (k : ℕ). k / 1048576 % 1048576 < 262144) (sym same) (home_fits s rule home) in
    let st = subst (λ (k : ℕ). k / 8796093022208 % 2 ≤ k / 4398046511104 % 2) (sym same) rule.sound.staying in
    (me.0, keeps, tt, unmoved s rule 0 id me.0 there, (refl, home', omega arith, omega arith))

others_at_home : (pass page page' seat : ℕ) (u : View) → pass ≡ 0 → seat ≢ 0 → Fits pass page seat u → (pass' : ℕ) → Fits pass' page' seat u
others_at_home pass page page' seat u home apart fits pass' = record {
  used = λ some_use. let odd = (fits.used some_use).0 in absurd (omega arith);
  blind = fits.blind;
  queue = fits.queue;
  keeper = λ tends. absurd (apart (fits.keeper tends).0);
  out = λ tends odd. absurd (apart (fits.keeper tends).0);
  home = λ tends even. absurd (apart (fits.keeper tends).0);
}

pub store_kept : (slots id new t stored : ℕ) (me : Me ℕ View) → me.0 ≡ keeper 0 t None stored → Allows FrameRule slots id me 1 (λ _. new) (λ _. Stores (step slots 1 new 0 none) me new)
store_kept slots id new t stored me is s rule homes there small =
    let v : View = keeper 0 t None stored in
    let at : get_elem? s.views id ≡ some v = there ∙ ap some is in
    let mine = rule.fit id v at in
    let first : id ≡ 0 = (mine.keeper refl).0 in
    let home : out_of rule.word ≡ 0 = home_even rule.word rule.page id v mine refl refl in
    let w : View = keeper 0 me.0.tickets None new in
    let same_t : me.0.tickets ≡ t = ap (λ (x : View). x.tickets) is in
    let views' : List View = set s.views id w in (
      w,
      keeps,
      tt,
      record {
        word = rule.word;
        page = new;
        words = ap (λ words. set words 1 new) rule.words;
        sound = resound s.views views' rule.word (still in_readers s.views id v w at refl) (still in_pins s.views id v w at refl) (still (λ u. u.writes) s.views id v w at refl) (still (λ u. u.reads) s.views id v w at refl) (still (λ u. u.reads + u.waits) s.views id v w at refl) (still (λ u. u.pins + u.halves) s.views id v w at refl) (still (λ u. u.tickets) s.views id v w at same_t) (still waiting s.views id v w at refl) (still (λ u. u.queues) s.views id v w at refl) rule.sound;
        fit = fit_set (out_of rule.word) new s.views id w (λ seat u other at_seat. others_at_home (out_of rule.word) rule.page new seat u home (λ z. other (z ∙ sym first)) (rule.fit seat u at_seat) (out_of rule.word))
            (subst (λ (k : ℕ). Fits (out_of rule.word) new k w) (sym first) (keeper_fits (out_of rule.word) new 0 me.0.tickets new None refl (λ up. absurd (omega arith)) (λ odd. absurd (omega arith)) (λ _. refl)));
      },
      refl,
    )
  where
    still : (f : View → ℕ) (views : List View) (id : ℕ) (v w : View) → get_elem? views id ≡ some v → f w ≡ f v → total f (set views id w) ≡ total f views
    still f views id v w at same = let t = total_set f views id v w at in omega arith

begun : (s : St) (rule : FrameRule s) (id t stored next b : ℕ) → get_elem? s.views id ≡ some (keeper 0 t None stored) → b < 2 → rule.word < 2 ^ 64
    → next ≡ packed (rule.word % 1048576) (rule.word / 1048576 % 1048576 + 1) (rule.word / 1099511627776 % 2) (rule.word / 2199023255552 % 2) 1 b (rule.word / 17592186044416 % 2) 0
    → FrameRule record { words = set s.words 0 next; homes = s.homes; views = set s.views id (keeper 1 t (Some stored) stored) }
begun s rule id t stored next b at lb small made =
    let n : ℕ = rule.word in
    let v : View = keeper 0 t None stored in
    let w : View = keeper 1 t (Some stored) stored in
    let mine = rule.fit id v at in
    let first : id ≡ 0 = (mine.keeper refl).0 in
    let told : stored ≡ rule.page = (mine.keeper refl).1 in
    let home : out_of n ≡ 0 = home_even n rule.page id v mine refl refl in
    let few : n / 1048576 % 1048576 < 262144 = home_fits s rule home in
    let e = parts_of (n % 1048576) (n / 1048576 % 1048576 + 1) (n / 1099511627776 % 2) (n / 2199023255552 % 2) 1 b (n / 17592186044416 % 2) 0 (omega arith) (omega arith) (omega arith) (omega arith) (omega arith) lb (omega arith) in
    let e0 : next % 1048576 ≡ n % 1048576 = ap (λ (k : ℕ). k % 1048576) made ∙ e.0 in
    let e1 : next / 1048576 % 1048576 ≡ n / 1048576 % 1048576 + 1 = ap (λ (k : ℕ). k / 1048576 % 1048576) made ∙ e.1 in
    let e2 : next / 1099511627776 % 2 ≡ n / 1099511627776 % 2 = ap (λ (k : ℕ). k / 1099511627776 % 2) made ∙ e.2 in
    let e3 : next / 4398046511104 % 2 ≡ 1 = ap (λ (k : ℕ). k / 4398046511104 % 2) made ∙ e.3 in
    let e4 : next / 8796093022208 % 2 ≡ b = ap (λ (k : ℕ). k / 8796093022208 % 2) made ∙ e.4 in
    let e5 : next / 2199023255552 % 2 ≡ n / 2199023255552 % 2 = ap (λ (k : ℕ). k / 2199023255552 % 2) made ∙ e.5 in
    let l : Local n v w next = record { readers = ap (λ (k : ℕ). k + 0) e0; pins = omega arith; writers = ap (λ (k : ℕ). k + 0) e2; staying = omega arith; reads_up = λ up. absurd (omega arith); more = λ up. absurd (omega arith); writes_up = λ up. absurd (omega arith); pins_up = λ _. (omega arith, omega arith); tickets = refl; flag = inl (e5, refl); queues = refl } in
    record {
      word = next;
      page = rule.page;
      words = ap (λ words. set words 0 next) rule.words;
      sound = sound_step s rule id next v w at l;
      fit = fit_set (out_of next) rule.page s.views id w (λ seat u other at_seat. others_at_home (out_of n) rule.page rule.page seat u home (λ z. other (z ∙ sym first)) (rule.fit seat u at_seat) (out_of next))
          (subst (λ (k : ℕ). Fits (out_of next) rule.page k w) (sym first) (keeper_fits (out_of next) rule.page 1 t stored (Some stored) told (λ _. (e3, ap (λ (k : ℕ). Some k) told)) (λ _. ap (λ (k : ℕ). Some k) told) (λ even. absurd (omega arith))));
    }

pub begin_kept : (slots id t stored seen next b : ℕ) (me : Me ℕ View) → me.0 ≡ keeper 0 t None stored → b < 2 → seen < 2 ^ 64
    → next ≡ packed (seen % 1048576) (seen / 1048576 % 1048576 + 1) (seen / 1099511627776 % 2) (seen / 2199023255552 % 2) 1 b (seen / 17592186044416 % 2) 0
    → Allows FrameRule slots id me 0 (λ n. either (n == seen) next n) (Begins (step slots 0 seen next none) me)
begin_kept slots id t stored seen next b me is lb small made s rule homes there small' =
    let found : ℕ = slice_index s.words 0 in
    let at : get_elem? s.views id ≡ some (keeper 0 t None stored) = there ∙ ap some is in
    let F : ℕ → Type 0 = λ m. (v : View) × (a : Act ℕ) × Valid s.homes me.1 a × FrameRule (stepped s 0 m id me.1 v a) × Begins (step slots 0 seen next none) me found (v, carried_after me.1 a) in
    exchanged found seen next F
    (λ hit. let same : seen ≡ rule.word = sym hit ∙ first_word s rule in (
      keeper 1 t (Some stored) stored,
      keeps,
      tt,
      begun s rule id t stored next b at lb (subst (λ (k : ℕ). k < 2 ^ 64) same small) (subst (λ (k : ℕ). next ≡ packed (k % 1048576) (k / 1048576 % 1048576 + 1) (k / 1099511627776 % 2) (k / 2199023255552 % 2) 1 b (k / 17592186044416 % 2) 0) same made),
      ((λ _. ap (λ (x : View). (keeper 1 x.tickets (Some x.stored) x.stored, me.1)) (sym is)), λ miss. absurd (miss hit)),
    ))
    (λ miss. (me.0, keeps, tt, unmoved s rule 0 id me.0 there, ((λ hit. absurd (miss hit)), λ _. refl)))

ended : (s : St) (rule : FrameRule s) (id t stored next : ℕ) (page : Option ℕ) → get_elem? s.views id ≡ some (keeper 0 t page stored) → IsUnused (fields rule.word) → rule.word < 2 ^ 64
    → next ≡ packed (rule.word % 1048576) (rule.word / 1048576 % 1048576) (rule.word / 1099511627776 % 2) (rule.word / 2199023255552 % 2) 0 0 (rule.word / 17592186044416 % 2) 0
    → FrameRule record { words = set s.words 0 next; homes = s.homes; views = set s.views id (keeper 0 t None stored) }
ended s rule id t stored next page at unused small made =
    let n : ℕ = rule.word in
    let v : View = keeper 0 t page stored in
    let w : View = keeper 0 t None stored in
    let mine = rule.fit id v at in
    let first : id ≡ 0 = (mine.keeper refl).0 in
    let told : stored ≡ rule.page = (mine.keeper refl).1 in
    let e = parts_of (n % 1048576) (n / 1048576 % 1048576) (n / 1099511627776 % 2) (n / 2199023255552 % 2) 0 0 (n / 17592186044416 % 2) 0 (omega arith) (omega arith) (omega arith) (omega arith) (omega arith) (omega arith) (omega arith) in
    let e0 : next % 1048576 ≡ n % 1048576 = ap (λ (k : ℕ). k % 1048576) made ∙ e.0 in
    let e1 : next / 1048576 % 1048576 ≡ n / 1048576 % 1048576 = ap (λ (k : ℕ). k / 1048576 % 1048576) made ∙ e.1 in
    let e2 : next / 1099511627776 % 2 ≡ n / 1099511627776 % 2 = ap (λ (k : ℕ). k / 1099511627776 % 2) made ∙ e.2 in
    let e3 : next / 4398046511104 % 2 ≡ 0 = ap (λ (k : ℕ). k / 4398046511104 % 2) made ∙ e.3 in
    let e4 : next / 8796093022208 % 2 ≡ 0 = ap (λ (k : ℕ). k / 8796093022208 % 2) made ∙ e.4 in
    let e5 : next / 2199023255552 % 2 ≡ n / 2199023255552 % 2 = ap (λ (k : ℕ). k / 2199023255552 % 2) made ∙ e.5 in
    let l : Local n v w next = record { readers = ap (λ (k : ℕ). k + 0) e0; pins = ap (λ (k : ℕ). k + 0) e1; writers = ap (λ (k : ℕ). k + 0) e2; staying = omega arith; reads_up = λ up. absurd (omega arith); more = λ up. absurd (omega arith); writes_up = λ up. absurd (omega arith); pins_up = λ up. absurd (omega arith); tickets = refl; flag = inl (e5, refl); queues = refl } in
    record {
      word = next;
      page = rule.page;
      words = ap (λ words. set words 0 next) rule.words;
      sound = sound_step s rule id next v w at l;
      fit = fit_set (out_of next) rule.page s.views id w (λ seat u other at_seat. others seat u (unused_by seat u at_seat) (λ z. other (z ∙ sym first)) (rule.fit seat u at_seat))
          (subst (λ (k : ℕ). Fits (out_of next) rule.page k w) (sym first) (keeper_fits (out_of next) rule.page 0 t stored None told (λ up. absurd (omega arith)) (λ odd. absurd (omega arith)) (λ _. refl)));
    }
  where
    unused_by : (seat : ℕ) (u : View) → get_elem? s.views seat ≡ some u → uses u ≡ 0
    unused_by seat u there =
        let a = total_at in_readers s.views seat u there in
        let b = total_at in_pins s.views seat u there in
        let c = total_at (λ v. v.writes) s.views seat u there in
        let ra : total in_readers s.views ≡ 0 = sym rule.sound.readers ∙ unused.1 in
        let rb : total in_pins s.views ≡ 0 = sym rule.sound.pins ∙ unused.2 in
        let rc : total (λ v. v.writes) s.views ≡ 0 = sym rule.sound.writers ∙ unused.3 in
        omega arith

    others : (seat : ℕ) (u : View) → uses u ≡ 0 → seat ≢ 0 → Fits (out_of rule.word) rule.page seat u → Fits (out_of next) rule.page seat u
    others seat u none_used apart fits = record {
      used = λ some_use. absurd (omega arith);
      blind = fits.blind;
      queue = fits.queue;
      keeper = λ tends. absurd (apart (fits.keeper tends).0);
      out = λ tends odd. absurd (apart (fits.keeper tends).0);
      home = λ tends even. absurd (apart (fits.keeper tends).0);
    }

pub end_kept : (slots id t stored seen next : ℕ) (page : Option ℕ) (me : Me ℕ View) → me.0 ≡ keeper 0 t page stored → IsUnused (fields seen) → seen < 2 ^ 64
    → next ≡ packed (seen % 1048576) (seen / 1048576 % 1048576) (seen / 1099511627776 % 2) (seen / 2199023255552 % 2) 0 0 (seen / 17592186044416 % 2) 0
    → Allows FrameRule slots id me 0 (λ n. either (n == seen) next n) (Ends (step slots 0 seen next none) me)
end_kept slots id t stored seen next page me is unused small made s rule homes there small' =
    let found : ℕ = slice_index s.words 0 in
    let at : get_elem? s.views id ≡ some (keeper 0 t page stored) = there ∙ ap some is in
    let F : ℕ → Type 0 = λ m. (v : View) × (a : Act ℕ) × Valid s.homes me.1 a × FrameRule (stepped s 0 m id me.1 v a) × Ends (step slots 0 seen next none) me found (v, carried_after me.1 a) in
    exchanged found seen next F
    (λ hit. let same : seen ≡ rule.word = sym hit ∙ first_word s rule in (
      keeper 0 t None stored,
      keeps,
      tt,
      ended s rule id t stored next page at (subst (λ (k : ℕ). IsUnused (fields k)) same unused) (subst (λ (k : ℕ). k < 2 ^ 64) same small) (subst (λ (k : ℕ). next ≡ packed (k % 1048576) (k / 1048576 % 1048576) (k / 1099511627776 % 2) (k / 2199023255552 % 2) 0 0 (k / 17592186044416 % 2) 0) same made),
      ((λ _. ap (λ (x : View). (keeper 0 x.tickets None x.stored, me.1)) (sym is)), λ miss. absurd (miss hit)),
    ))
    (λ miss. (me.0, keeps, tt, unmoved s rule 0 id me.0 there, ((λ hit. absurd (miss hit)), λ _. refl)))

-- The keeper gives a ticket out.
pub admit_split : (id p t stored : ℕ) (given_to : Option ℕ) (v : View) → v ≡ keeper p t given_to stored → 0 < t → Splits FrameRule id v (keeper v.pins (v.tickets - 1) v.page v.stored) idle
admit_split id p t stored given_to v is some_left = subst (λ (x : View). Splits FrameRule id x (keeper x.pins (x.tickets - 1) x.page x.stored) idle) (sym is)
    (split_kept id (keeper p t given_to stored) (keeper p (t - 1) given_to stored) idle
    (record { readers = refl; pins = omega arith; writes = refl; reads = refl; waits = refl; kept = omega arith; tickets = omega arith; waiting_both = omega arith; queues = omega arith })
    (λ pass page fits. record { used = fits.used; blind = omega arith; queue = λ up. absurd (omega arith); keeper = fits.keeper; out = fits.out; home = fits.home })
    (λ pass page seat fits. stray_fits pass page seat 0 0 1 (omega arith)))

-- The keeper gives out a share that it has, of whose page it took note.
pub give_split : (id r p w t page : ℕ) (v : View) → v.reads ≡ r → v.pins ≡ p → v.writes ≡ w → v.halves ≡ 0 → v.strays ≡ 0 → v.loose ≡ 0 → v.waits + (v.wants + v.queues) ≡ 0 → v.tends ≡ true → 0 < r + p + w
    → Splits FrameRule id v (keeper 0 v.tickets v.page v.stored) (held v.reads v.pins v.writes v.stored)
give_split id r p w t page v er ep ew eh es el ea tends some_share =
    split_kept id v (keeper 0 v.tickets v.page v.stored) (held v.reads v.pins v.writes v.stored)
    (record { readers = omega arith; pins = omega arith; writes = omega arith; reads = omega arith; waits = omega arith; kept = omega arith; tickets = omega arith; waiting_both = omega arith; queues = omega arith })
    (λ pass page' fits. let mine = fits.keeper tends in record { used = λ up. absurd (omega arith); blind = omega arith; queue = λ up. absurd (omega arith); keeper = λ _. mine; out = λ _ odd. fits.out tends odd; home = λ _ even. fits.home tends even })
    (λ pass page' seat fits. let mine = fits.keeper tends in let used = fits.used (omega arith) in record { used = λ _. (used.0, ap (λ (k : ℕ). Some k) mine.1); blind = omega arith; queue = λ up. absurd (omega arith); keeper = λ e. absurd (not_yes e); out = λ e. absurd (not_yes e); home = λ e. absurd (not_yes e) })

pub one_if_small : (b : Bool) → one_if b < 2
one_if_small true = omega arith
one_if_small false = omega arith

pub one_unless_small : (b : Bool) → one_unless b < 2
one_unless_small true = omega arith
one_unless_small false = omega arith

-- Whether there is none, as the code asks it.
pub unless_none : (n : ℕ) → one_unless (n == 0) ≡ some_of n
unless_none zero = refl
unless_none (suc n) = ap one_unless (eqb-suc-zero n)

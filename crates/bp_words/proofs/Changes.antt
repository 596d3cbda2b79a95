-- What a step on the word does to the rule of a frame.
use Rattle.std.proofs.Common.{◌≡◌, ◌≢◌, ◌⊎◌, ℕ, zero, suc, ◌+◌, ◌-◌, ◌/◌, ◌%◌, ◌<◌, ◌≤◌, List, [], ◌∷◌, ◌++◌, set, refl, sym, ap, ◌∙◌, subst, ⊎_elim, arith}
use Rattle.std.specs.Prelude.{slice_index}
use mathlib.Core.Option.{some}
use lib.ListN.{get_elem?}
use lib.Seq.{set-get_or}
use mathlib.Core.Logic.{dite}
use native.Mathlib.Decide.{ℕ_discrete}
use Rattle.atomic_table.specs.Table.{State}
use Rattle.atomic_table.proofs.Lists.{at_set, at_snoc, set_again}
use Rattle.bp_words.specs.declared.views.View.{View}
use Rattle.bp_words.specs.Fields.{some_of}
use Rattle.bp_words.specs.Views.{blind, waiting, in_readers, in_pins}
use Rattle.bp_words.specs.Rule.{total, out_of, Sound, Fits, AllFit, FrameRule}
use Rattle.bp_words.proofs.Totals.{total_set, total_at, total_le, total_plus, total_zero, total_two, total_only}

abbrev pub St : Type 0
St = State ℕ View

-- One view changes to one that fits, and the others fit.
pub fit_set : (out page : ℕ) (views : List View) (id : ℕ) (w : View) → ((seat : ℕ) (u : View) → seat ≢ id → get_elem? views seat ≡ some u → Fits out page seat u) → Fits out page id w → AllFit out page (set views id w)
fit_set out page views id w others mine seat u there =
    ⊎_elim
    (λ (same : (seat ≡ id) × (w ≡ u)). subst (λ (x : ℕ × View). Fits out page x.0 x.1) (λ i. (sym same.0 i, same.1 i)) mine)
    (λ (other : (seat ≢ id) × (get_elem? views seat ≡ some u)). others seat u other.0 other.1)
    (at_set views id seat w u there)

pub fit_snoc : (out page : ℕ) (views : List View) (w : View) → AllFit out page views → ((seat : ℕ) → Fits out page seat w) → AllFit out page (views ++ w ∷ [])
fit_snoc out page views w others mine seat u there =
    ⊎_elim
    (λ (old : get_elem? views seat ≡ some u). others seat u old)
    (λ (new : w ≡ u). subst (Fits out page seat) new (mine seat))
    (at_snoc views w u seat there)

pub first_word : (s : St) (rule : FrameRule s) → slice_index s.words 0 ≡ rule.word
first_word s rule = ap (λ words. slice_index words 0) rule.words

pub second_word : (s : St) (rule : FrameRule s) → slice_index s.words 1 ≡ rule.page
second_word s rule = ap (λ words. slice_index words 1) rule.words

-- A step that changes neither the words nor what the seat knows.
pub unmoved : (s : St) (rule : FrameRule s) (i id : ℕ) (v : View) → get_elem? s.views id ≡ some v → FrameRule record { words = set s.words i (slice_index s.words i); homes = s.homes; views = set s.views id v }
unmoved s rule i id v there =
    subst (λ (t : List ℕ × List View). FrameRule record { words = t.0; homes = s.homes; views = t.1 }) (λ k. (sym (set-get_or s.words i 0) k, sym (set_again s.views id v there) k)) rule

-- How a step changes the word, and the view of the seat that makes it.
pub record Local (n : ℕ) (v w : View) (n' : ℕ) : Type 0 where
  pub readers : n' % 1048576 + in_readers v ≡ n % 1048576 + in_readers w
  pub pins : n' / 1048576 % 1048576 + in_pins v ≡ n / 1048576 % 1048576 + in_pins w
  pub writers : n' / 1099511627776 % 2 + v.writes ≡ n / 1099511627776 % 2 + w.writes
  pub staying : n' / 8796093022208 % 2 ≤ out_of n'
  pub reads_up : v.reads < w.reads → (n / 1099511627776 % 2 ≡ 0) × (w.writes ≤ v.writes)
  pub more : v.reads + v.waits < w.reads + w.waits → (n % 1048576 < 524288) × (w.reads + w.waits ≤ v.reads + v.waits + 1)
  pub writes_up : v.writes < w.writes → (n % 1048576 ≡ 0) × (w.reads ≡ 0)
  pub pins_up : v.pins + v.halves < w.pins + w.halves → (n / 1048576 % 1048576 < 524288) × (w.pins + w.halves ≤ v.pins + v.halves + 1)
  pub tickets : w.tickets ≡ v.tickets
  pub flag : ((n' / 2199023255552 % 2 ≡ n / 2199023255552 % 2) × (waiting w ≡ waiting v)) ⊎ ((v.queues ≡ 1) × (n' / 2199023255552 % 2 ≡ some_of (waiting w)))
  pub queues : w.queues ≡ v.queues

none : (n : ℕ) → (0 < n → ⊥) → n ≡ 0
none zero never = refl
none (suc n) never = absurd (never (omega arith))

-- All that wait do so in the queue.
pub only_queue : (s : St) (rule : FrameRule s) (id : ℕ) (v : View) → get_elem? s.views id ≡ some v → v.queues ≡ 1 → total waiting s.views ≡ waiting v
only_queue s rule id v there mine = total_only waiting s.views id v there (λ seat u apart at. none (waiting u) (λ some_wait.
    let theirs = (rule.fit seat u at).queue some_wait in
    let both = total_two (λ x. x.queues) s.views id seat v u (λ e. apart (sym e)) there at in
    let one = rule.sound.one_queue in
    omega arith))

-- What takes a ticket is no more than there are.
pub blind_few : (s : St) (rule : FrameRule s) → total blind s.views ≤ total (λ v. v.tickets) s.views
blind_few s rule = total_le blind (λ v. v.tickets) s.views (λ seat v there. (rule.fit seat v there).blind)

halves_few : (views : List View) → total (λ v. v.halves) views ≤ total blind views
halves_few views = total_le (λ v. v.halves) blind views (λ seat v there. omega arith)

pins_few : (views : List View) → total (λ v. v.pins) views ≤ total in_pins views
pins_few views = total_le (λ v. v.pins) in_pins views (λ seat v there. omega arith)

reads_few : (views : List View) → total (λ v. v.reads) views ≤ total in_readers views
reads_few views = total_le (λ v. v.reads) in_readers views (λ seat v there. omega arith)

-- A count of shares has room for one more, if a thread with a ticket has none there yet.
pub spare_ticket : (s : St) (rule : FrameRule s) (id : ℕ) (v : View) → get_elem? s.views id ≡ some v → blind v < v.tickets → total blind s.views < 262143
spare_ticket s rule id v there few =
    let w : View = record { reads = v.reads; halves = v.halves; strays = v.strays + 1; pins = v.pins; loose = v.loose; writes = v.writes; tickets = v.tickets; waits = v.waits; wants = v.wants; queues = v.queues; tends = v.tends; page = v.page; stored = v.stored } in
    let b = total_set blind s.views id v w there in
    let t = total_set (λ u. u.tickets) s.views id v w there in
    let fits = (rule.fit id v there) in
    let le : total blind (set s.views id w) ≤ total (λ u. u.tickets) (set s.views id w) =
    total_le blind (λ u. u.tickets) (set s.views id w) (λ seat u at. ⊎_elim
    (λ (same : (seat ≡ id) × (w ≡ u)). subst (λ (x : View). blind x ≤ x.tickets) same.1 (omega arith))
    (λ (other : (seat ≢ id) × (get_elem? s.views seat ≡ some u)). (rule.fit seat u other.1).blind)
    (at_set s.views id seat w u at)) in
    let all = rule.sound.tickets in
    omega arith

pub reader_fits : (s : St) (rule : FrameRule s) (id : ℕ) (v : View) → get_elem? s.views id ≡ some v → blind v < v.tickets → rule.word % 1048576 + 1 < 1048576
reader_fits s rule id v there few =
    let b = spare_ticket s rule id v there few in
    let parts = total_plus (λ u. u.reads) (λ u. u.halves + u.strays) s.views in
    let some_blind : total (λ u. u.halves + u.strays) s.views ≤ total blind s.views = total_le (λ u. u.halves + u.strays) blind s.views (λ seat u at. omega arith) in
    let is = rule.sound.readers in
    let few_reads = rule.sound.few in
    let some_reads : total (λ u. u.reads) s.views ≤ total (λ u. u.reads + u.waits) s.views = total_le (λ u. u.reads) (λ u. u.reads + u.waits) s.views (λ seat u at. omega arith) in
    omega arith

pub pin_fits : (s : St) (rule : FrameRule s) (id : ℕ) (v : View) → get_elem? s.views id ≡ some v → blind v < v.tickets → rule.word / 1048576 % 1048576 + 1 < 1048576
pin_fits s rule id v there few =
    let b = spare_ticket s rule id v there few in
    let parts = total_plus (λ u. u.pins) (λ u. u.loose) s.views in
    let some_blind : total (λ u. u.loose) s.views ≤ total blind s.views = total_le (λ u. u.loose) blind s.views (λ seat u at. omega arith) in
    let some_pins : total (λ u. u.pins) s.views ≤ total (λ u. u.pins + u.halves) s.views = total_le (λ u. u.pins) (λ u. u.pins + u.halves) s.views (λ seat u at. omega arith) in
    let is = rule.sound.pins in
    let few_pins = rule.sound.few_pins in
    omega arith

pub sound_step : (s : St) (rule : FrameRule s) (id n' : ℕ) (v w : View) → get_elem? s.views id ≡ some v → Local rule.word v w n' → Sound (set s.views id w) n'
sound_step s rule id n' v w there local =
    let n = rule.word in
    let old = rule.sound in
    let er = total_set in_readers s.views id v w there in
    let ep = total_set in_pins s.views id v w there in
    let ew = total_set (λ u. u.writes) s.views id v w there in
    let ed = total_set (λ u. u.reads) s.views id v w there in
    let eh = total_set (λ u. u.pins + u.halves) s.views id v w there in
    let et = total_set (λ u. u.tickets) s.views id v w there in
    let eq = total_set (λ u. u.queues) s.views id v w there in
    let ei = total_set waiting s.views id v w there in
    let ea = total_set (λ u. u.reads + u.waits) s.views id v w there in
    let pa = total_plus (λ u. u.reads) (λ u. u.waits) s.views in
    let la : total (λ u. u.waits) s.views ≤ total blind s.views = total_le (λ u. u.waits) blind s.views (λ seat u at. omega arith) in
    let lr = reads_few s.views in
    let lp = pins_few s.views in
    let lh = halves_few s.views in
    let lb = blind_few s rule in
    let ph = total_plus (λ u. u.pins) (λ u. u.halves) s.views in
    let ld = total_at (λ u. u.reads) s.views id v there in
    let lw = total_at (λ u. u.writes) s.views id v there in
    let o1 = old.readers in
    let o2 = old.pins in
    let o3 = old.writers in
    let o5 = old.few in
    let o7 = old.few_pins in
    let o8 = old.tickets in
    let o9 = old.one_queue in
    let l9 = local.queues in
    let l1 = local.readers in
    let l2 = local.pins in
    let l3 = local.writers in
    let l8 = local.tickets in record {
      readers = omega arith;
      pins = omega arith;
      writers = omega arith;
      staying = local.staying;
      alone = λ some_writer. by_order v.writes w.writes
          (λ (up : v.writes < w.writes). let u = local.writes_up up in let none : total (λ u. u.reads) s.views ≡ 0 = omega arith in omega arith)
          (λ (no : w.writes ≤ v.writes). by_order v.reads w.reads
          (λ (up : v.reads < w.reads). let u = local.reads_up up in let free = u.0 in absurd (omega arith))
          (λ (no' : w.reads ≤ v.reads). let none : total (λ u. u.reads) s.views ≡ 0 = old.alone (omega arith) in omega arith));
      few = by_order (v.reads + v.waits) (w.reads + w.waits)
          (λ (up : v.reads + v.waits < w.reads + w.waits). let u = local.more up in let few = u.0 in let one = u.1 in omega arith)
          (λ (fewer : w.reads + w.waits ≤ v.reads + v.waits). omega arith);
      few_pins = by_order (v.pins + v.halves) (w.pins + w.halves)
          (λ (up : v.pins + v.halves < w.pins + w.halves). let u = local.pins_up up in let few = u.0 in let one = u.1 in omega arith)
          (λ (no : w.pins + w.halves ≤ v.pins + v.halves). omega arith);
      tickets = omega arith;
      queued = ⊎_elim
          (λ (as_before : (n' / 2199023255552 % 2 ≡ n / 2199023255552 % 2) × (waiting w ≡ waiting v)). let same = as_before.1 in as_before.0 ∙ (old.queued ∙ ap some_of (omega arith)))
          (λ (mine : (v.queues ≡ 1) × (n' / 2199023255552 % 2 ≡ some_of (waiting w))). let only = only_queue s rule id v there mine.0 in mine.1 ∙ ap some_of (omega arith))
          local.flag;
      one_queue = omega arith;
    }
  where
    by_order : {P : Type 0} (a b : ℕ) → (a < b → P) → (b ≤ a → P) → P
    by_order a b less more = dite (ℕ_discrete (b - a) 0) (λ e. more (omega arith)) (λ ne. less (omega arith))

-- A share that keeps the page alone can become a pin.
pub turn_fits : (s : St) (rule : FrameRule s) (id : ℕ) (v : View) → get_elem? s.views id ≡ some v → 0 < v.halves → rule.word / 1048576 % 1048576 + 1 < 1048576
turn_fits s rule id v there some_half =
    let parts = total_plus (λ u. u.pins) (λ u. u.loose) s.views in
    let both = total_plus (λ u. u.pins) (λ u. u.halves) s.views in
    let mine = total_at (λ u. u.halves) s.views id v there in
    let some_blind : total (λ u. u.loose) s.views ≤ total blind s.views = total_le (λ u. u.loose) blind s.views (λ seat u at. omega arith) in
    let all_blind = blind_few s rule in
    let is = rule.sound.pins in
    let few_pins = rule.sound.few_pins in
    let tickets = rule.sound.tickets in
    omega arith

-- While the pass is not out there is no pin.
pub home_fits : (s : St) (rule : FrameRule s) → out_of rule.word ≡ 0 → rule.word / 1048576 % 1048576 < 262144
home_fits s rule home =
    let parts = total_plus (λ u. u.pins) (λ u. u.loose) s.views in
    let no_pin : total (λ u. u.pins) s.views ≡ 0 = total_zero (λ u. u.pins) s.views (λ seat u at. none u.pins (λ some_pin. let used = (rule.fit seat u at).used (omega arith) in let z = used.0 in omega arith)) in
    let some_blind : total (λ u. u.loose) s.views ≤ total blind s.views = total_le (λ u. u.loose) blind s.views (λ seat u at. omega arith) in
    let all_blind = blind_few s rule in
    let is = rule.sound.pins in
    let tickets = rule.sound.tickets in
    omega arith

-- A step on the word that leaves its pass as it was.
pub changed : (s : St) (rule : FrameRule s) (id n' : ℕ) (v w : View) → get_elem? s.views id ≡ some v → Local rule.word v w n' → out_of n' ≡ out_of rule.word → Fits (out_of rule.word) rule.page id w
    → FrameRule record { words = set s.words 0 n'; homes = s.homes; views = set s.views id w }
changed s rule id n' v w there local same fits = record {
  word = n';
  page = rule.page;
  words = ap (λ words. set words 0 n') rule.words;
  sound = sound_step s rule id n' v w there local;
  fit = subst (λ (o : ℕ). AllFit o rule.page (set s.views id w)) (sym same) (fit_set (out_of rule.word) rule.page s.views id w (λ seat u _ at. rule.fit seat u at) fits);
}

-- The same totals say the same.
pub resound : (views views' : List View) (n : ℕ) → total in_readers views' ≡ total in_readers views → total in_pins views' ≡ total in_pins views → total (λ v. v.writes) views' ≡ total (λ v. v.writes) views
    → total (λ v. v.reads) views' ≡ total (λ v. v.reads) views → total (λ v. v.reads + v.waits) views' ≡ total (λ v. v.reads + v.waits) views → total (λ v. v.pins + v.halves) views' ≡ total (λ v. v.pins + v.halves) views
    → total (λ v. v.tickets) views' ≡ total (λ v. v.tickets) views → total waiting views' ≡ total waiting views → total (λ v. v.queues) views' ≡ total (λ v. v.queues) views → Sound views n → Sound views' n
resound views views' n er ep ew ed ea eh et ei eq old = record {
  readers = old.readers ∙ sym er;
  pins = old.pins ∙ sym ep;
  writers = old.writers ∙ sym ew;
  staying = old.staying;
  alone = λ some_writer. ed ∙ old.alone (subst (λ (k : ℕ). 0 < k) ew some_writer);
  few = subst (λ (k : ℕ). k ≤ 786431) (sym ea) old.few;
  few_pins = subst (λ (k : ℕ). k ≤ 786431) (sym eh) old.few_pins;
  tickets = subst (λ (k : ℕ). k ≤ 262143) (sym et) old.tickets;
  queued = old.queued ∙ ap some_of (sym ei);
  one_queue = subst (λ (k : ℕ). k ≤ 1) (sym eq) old.one_queue;
}

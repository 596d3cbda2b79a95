-- A seat's view is cut in two, and two become one.
use Rattle.std.proofs.Common.{◌≡◌, ◌≢◌, ◌⊎◌, ℕ, ◌+◌, ◌-◌, ◌<◌, true, List, [], ◌∷◌, ◌++◌, set, Option, Some, None, refl, sym, ap, ◌∙◌, subst, inl, inr, ⊎_elim, arith}
use mathlib.Core.Option.{some, none}
use lib.ListN.{get_elem?}
use Rattle.atomic_table.specs.Table.{Me, step, keeps, Allows, Splits, Joins}
use Rattle.atomic_table.proofs.Lists.{at_set}
use Rattle.bp_words.specs.declared.views.View.{View}
use Rattle.bp_words.specs.Shares.{given}
use Rattle.bp_words.specs.Views.{guest, idle, held, spent, founder, keeper, queue, uses, waiting, in_readers, in_pins, joined, entered, with_pin, Compares}
use Rattle.bp_words.specs.Rule.{total, out_of, Fits, FrameRule}
use Rattle.bp_words.proofs.Totals.{total_set, total_snoc, total_at}
use Rattle.bp_words.proofs.Changes.{fit_set, fit_snoc, resound, unmoved}
use Rattle.bp_words.proofs.Steps.{stray_fits, not_yes}

pub record Sum (v w x : View) : Type 0 where
  pub readers : in_readers v + in_readers w ≡ in_readers x
  pub pins : in_pins v + in_pins w ≡ in_pins x
  pub writes : v.writes + w.writes ≡ x.writes
  pub reads : v.reads + w.reads ≡ x.reads
  pub waits : v.reads + v.waits + (w.reads + w.waits) ≡ x.reads + x.waits
  pub kept : v.pins + v.halves + (w.pins + w.halves) ≡ x.pins + x.halves
  pub tickets : v.tickets + w.tickets ≡ x.tickets
  pub waiting_both : waiting v + waiting w ≡ waiting x
  pub queues : v.queues + w.queues ≡ x.queues

parted : (f : View → ℕ) (views : List View) (id : ℕ) (v left right : View) → get_elem? views id ≡ some v → f left + f right ≡ f v → total f (set views id left ++ right ∷ []) ≡ total f views
parted f views id v left right at both =
    let one = total_set f views id v left at in
    let two = total_snoc f (set views id left) right in
    omega arith

pub split_kept : (id : ℕ) (v left right : View) → Sum left right v → ((pass page : ℕ) → Fits pass page id v → Fits pass page id left) → ((pass page seat : ℕ) → Fits pass page id v → Fits pass page seat right) → Splits FrameRule id v left right
split_kept id v left right sum fits_left fits_right s rule there =
    let views' : List View = set s.views id left ++ right ∷ [] in
    let mine = rule.fit id v there in record {
      word = rule.word;
      page = rule.page;
      words = rule.words;
      sound = resound s.views views' rule.word
          (parted in_readers s.views id v left right there sum.readers)
          (parted in_pins s.views id v left right there sum.pins)
          (parted (λ u. u.writes) s.views id v left right there sum.writes)
          (parted (λ u. u.reads) s.views id v left right there sum.reads)
          (parted (λ u. u.reads + u.waits) s.views id v left right there sum.waits)
          (parted (λ u. u.pins + u.halves) s.views id v left right there sum.kept)
          (parted (λ u. u.tickets) s.views id v left right there sum.tickets)
          (parted waiting s.views id v left right there sum.waiting_both)
          (parted (λ u. u.queues) s.views id v left right there sum.queues)
          rule.sound;
      fit = fit_snoc (out_of rule.word) rule.page (set s.views id left) right
          (fit_set (out_of rule.word) rule.page s.views id left (λ seat u _ at. rule.fit seat u at) (fits_left (out_of rule.word) rule.page mine))
          (λ seat. fits_right (out_of rule.word) rule.page seat mine);
    }

-- A thread's seat gives its share out.
pub share_split : (id r p w page : ℕ) (v : View) → v ≡ guest r 0 0 p 0 w 1 (Some page) → 0 < r + p + w → Splits FrameRule id v idle (held v.reads v.pins v.writes (given v.page))
share_split id r p w page v is some_share = subst (λ (x : View). Splits FrameRule id x idle (held x.reads x.pins x.writes (given x.page))) (sym is)
    (split_kept id (guest r 0 0 p 0 w 1 (Some page)) idle (held r p w page)
    (record { readers = omega arith; pins = omega arith; writes = omega arith; reads = omega arith; waits = omega arith; kept = omega arith; tickets = refl; waiting_both = refl; queues = refl })
    (λ pass page' fits. stray_fits pass page' id 0 0 1 (omega arith))
    (λ pass page' seat fits. let mine = fits.used (omega arith) in record { used = λ _. mine; blind = omega arith; queue = λ up. absurd (omega arith); keeper = λ e. absurd (not_yes e); out = λ e. absurd (not_yes e); home = λ e. absurd (not_yes e) }))

moved_total : (f : View → ℕ) (views : List View) (id other : ℕ) (v w both : View) → get_elem? views id ≡ some v → get_elem? (set views id both) other ≡ some w → f both ≡ f v + f w → f spent ≡ 0
    → total f (set (set views id both) other spent) ≡ total f views
moved_total f views id other v w both at at_other sums nothing =
    let one = total_set f views id v both at in
    let two = total_set f (set views id both) other w spent at_other in
    omega arith

-- A seat with shares, or the keeper, takes in a share.
join_kept : (id other : ℕ) (v w : View) → (v.tends ≡ true) ⊎ (0 < uses v) → 0 < uses w → waiting v + waiting w ≡ 0 → Joins FrameRule id v other w (joined v w) spent
join_kept id other v w host some_share none_waits s rule there apart at_other =
    let both : View = joined v w in
    let pass : ℕ = out_of rule.word in
    let mine = rule.fit id v there in
    let was : get_elem? s.views other ≡ some w = ⊎_elim
    (λ (same : (other ≡ id) × (both ≡ w)). absurd (apart same.0))
    (λ (old : (other ≢ id) × (get_elem? s.views other ≡ some w)). old.1)
    (at_set s.views id other both w at_other) in
    let theirs = rule.fit other w was in
    let odd : pass ≡ 1 = (theirs.used some_share).0 in
    let noted : given w.page ≡ rule.page = ap given (theirs.used some_share).1 in
    let of_page : v.page ≡ Some rule.page = ⊎_elim (λ (tends : v.tends ≡ true). mine.out tends odd) (λ (some_use : 0 < uses v). (mine.used some_use).1) host in
    let few = mine.blind in
    let few' = theirs.blind in
    let fits : Fits pass rule.page id both = record {
      used = λ _. (odd, of_page);
      blind = omega arith;
      queue = λ up. absurd (omega arith);
      keeper = λ tends. ((mine.keeper tends).0, noted);
      out = λ _ _. of_page;
      home = λ _ even. absurd (omega arith);
    } in
    let views' : List View = set (set s.views id both) other spent in record {
      word = rule.word;
      page = rule.page;
      words = rule.words;
      sound = resound s.views views' rule.word
          (moved_total in_readers s.views id other v w both there at_other (omega arith) refl)
          (moved_total in_pins s.views id other v w both there at_other (omega arith) refl)
          (moved_total (λ u. u.writes) s.views id other v w both there at_other refl refl)
          (moved_total (λ u. u.reads) s.views id other v w both there at_other refl refl)
          (moved_total (λ u. u.reads + u.waits) s.views id other v w both there at_other (omega arith) refl)
          (moved_total (λ u. u.pins + u.halves) s.views id other v w both there at_other (omega arith) refl)
          (moved_total (λ u. u.tickets) s.views id other v w both there at_other refl refl)
          (moved_total waiting s.views id other v w both there at_other (omega arith) refl)
          (moved_total (λ u. u.queues) s.views id other v w both there at_other refl refl)
          rule.sound;
      fit = fit_set pass rule.page (set s.views id both) other spent
          (λ seat u _ at. fit_set pass rule.page s.views id both (λ seat' u' _ at'. rule.fit seat' u' at') fits seat u at)
          (stray_fits pass rule.page other 0 0 0 (omega arith));
    }

pub join_keeper : (id other t stored r p w page : ℕ) (given_to : Option ℕ) (v u : View) → v ≡ keeper 0 t given_to stored → u ≡ held r p w page → 0 < r + p + w → Joins FrameRule id v other u (joined v u) spent
join_keeper id other t stored r p w page given_to v u is is' some_share =
    subst (λ (x : View × View). Joins FrameRule id x.0 other x.1 (joined x.0 x.1) spent) (λ i. (sym is i, sym is' i)) (join_kept id other (keeper 0 t given_to stored) (held r p w page) (inl refl) (omega arith) refl)

pub join_shares : (id other r p w page r' p' w' page' : ℕ) (v u : View) → v ≡ held r p w page → u ≡ held r' p' w' page' → 0 < r + p + w → 0 < r' + p' + w' → Joins FrameRule id v other u (joined v u) spent
join_shares id other r p w page r' p' w' page' v u is is' some_share some_share' =
    subst (λ (x : View × View). Joins FrameRule id x.0 other x.1 (joined x.0 x.1) spent) (λ i. (sym is i, sym is' i)) (join_kept id other (held r p w page) (held r' p' w' page') (inr (omega arith)) (omega arith) refl)

pub compare_kept : (slots id : ℕ) (me : Me ℕ View) → Allows FrameRule slots id me 0 (λ n. n) (Compares (step slots 0 0 0 none) me)
compare_kept slots id me s rule homes there small =
    let mine = rule.fit id me.0 there in
    let reads = total_at (λ v. v.reads) s.views id me.0 there in
    let writes = total_at (λ v. v.writes) s.views id me.0 there in
    let few : total (λ v. v.writes) s.views < 2 = subst (λ (k : ℕ). k < 2) rule.sound.writers (omega arith) in
    let alone : 0 < me.0.writes → me.0.reads ≡ 0 = λ some_writer. let none_reads : total (λ v. v.reads) s.views ≡ 0 = rule.sound.alone (omega arith) in omega arith in
    let one : me.0.writes < 2 = omega arith in
    (me.0, keeps, tt, unmoved s rule 0 id me.0 there, (refl, (λ tends some_use. (mine.used some_use).1 ∙ ap (λ (k : ℕ). Some k) (sym (mine.keeper tends).1)), alone, one))

-- A pin and a latch beside it become two seats.
pub beside_split : (id r w page : ℕ) (v : View) → v ≡ held r 1 w page → r + w ≡ 1 → Splits FrameRule id v (held 0 1 0 (given v.page)) (held v.reads 0 v.writes (given v.page))
beside_split id r w page v is one = subst (λ (x : View). Splits FrameRule id x (held 0 1 0 (given x.page)) (held x.reads 0 x.writes (given x.page))) (sym is)
    (split_kept id (held r 1 w page) (held 0 1 0 page) (held r 0 w page)
    (record { readers = omega arith; pins = omega arith; writes = omega arith; reads = omega arith; waits = omega arith; kept = omega arith; tickets = refl; waiting_both = refl; queues = refl })
    (λ pass page' fits. let mine = fits.used (omega arith) in record { used = λ _. mine; blind = omega arith; queue = λ up. absurd (omega arith); keeper = λ e. absurd (not_yes e); out = λ e. absurd (not_yes e); home = λ e. absurd (not_yes e) })
    (λ pass page' seat fits. let mine = fits.used (omega arith) in record { used = λ _. mine; blind = omega arith; queue = λ up. absurd (omega arith); keeper = λ e. absurd (not_yes e); out = λ e. absurd (not_yes e); home = λ e. absurd (not_yes e) }))

-- The queue takes in a thread with its pin.
pub queue_join : (id other n m g : ℕ) (page page' : Option ℕ) (v u : View) → v ≡ queue n m g 0 0 page → u ≡ guest 0 0 0 1 0 0 1 page' → Joins FrameRule id v other u (entered v u) spent
queue_join id other n m g page page' v u is is' =
    subst (λ (x : View × View). Joins FrameRule id x.0 other x.1 (entered x.0 x.1) spent) (λ i. (sym is i, sym is' i)) (λ s rule there apart at_other.
    let v' : View = queue n m g 0 0 page in
    let w : View = guest 0 0 0 1 0 0 1 page' in
    let both : View = entered v' w in
    let pass : ℕ = out_of rule.word in
    let was : get_elem? s.views other ≡ some w = ⊎_elim
    (λ (same : (other ≡ id) × (both ≡ w)). absurd (apart same.0))
    (λ (old : (other ≢ id) × (get_elem? s.views other ≡ some w)). old.1)
    (at_set s.views id other both w at_other) in
    let theirs = (rule.fit other w was).used (omega arith) in
    let fits : Fits pass rule.page id both = record { used = λ _. theirs; blind = omega arith; queue = λ _. refl; keeper = λ e. absurd (not_yes e); out = λ e. absurd (not_yes e); home = λ e. absurd (not_yes e) } in
    let views' : List View = set (set s.views id both) other spent in record {
      word = rule.word;
      page = rule.page;
      words = rule.words;
      sound = resound s.views views' rule.word
          (moved_total in_readers s.views id other v' w both there at_other (omega arith) refl)
          (moved_total in_pins s.views id other v' w both there at_other (omega arith) refl)
          (moved_total (λ u. u.writes) s.views id other v' w both there at_other refl refl)
          (moved_total (λ u. u.reads) s.views id other v' w both there at_other (omega arith) refl)
          (moved_total (λ u. u.reads + u.waits) s.views id other v' w both there at_other (omega arith) refl)
          (moved_total (λ u. u.pins + u.halves) s.views id other v' w both there at_other (omega arith) refl)
          (moved_total (λ u. u.tickets) s.views id other v' w both there at_other (omega arith) refl)
          (moved_total waiting s.views id other v' w both there at_other (omega arith) refl)
          (moved_total (λ u. u.queues) s.views id other v' w both there at_other refl refl)
          rule.sound;
      fit = fit_set pass rule.page (set s.views id both) other spent
          (λ seat u _ at. fit_set pass rule.page s.views id both (λ seat' u' _ at'. rule.fit seat' u' at') fits seat u at)
          (stray_fits pass rule.page other 0 0 0 (omega arith));
    })

-- The queue gives out a reader that was let in, with its pin and its ticket.
pub hand_split : (id n m g : ℕ) (page : Option ℕ) (v : View) → v ≡ queue n m g 0 0 page → 0 < g → Splits FrameRule id v (queue v.waits v.wants (v.reads - 1) 0 0 v.page) (guest 1 0 0 1 0 0 1 v.page)
hand_split id n m g page v is some_left = subst (λ (x : View). Splits FrameRule id x (queue x.waits x.wants (x.reads - 1) 0 0 x.page) (guest 1 0 0 1 0 0 1 x.page)) (sym is)
    (split_kept id (queue n m g 0 0 page) (queue n m (g - 1) 0 0 page) (guest 1 0 0 1 0 0 1 page)
    (record { readers = omega arith; pins = omega arith; writes = refl; reads = omega arith; waits = omega arith; kept = omega arith; tickets = omega arith; waiting_both = omega arith; queues = refl })
    (λ pass page' fits. let mine = fits.used (omega arith) in record { used = λ _. mine; blind = omega arith; queue = λ _. refl; keeper = λ e. absurd (not_yes e); out = λ e. absurd (not_yes e); home = λ e. absurd (not_yes e) })
    (λ pass page' seat fits. let mine = fits.used (omega arith) in record { used = λ _. mine; blind = omega arith; queue = λ up. absurd (omega arith); keeper = λ e. absurd (not_yes e); out = λ e. absurd (not_yes e); home = λ e. absurd (not_yes e) }))

-- It gives out the thread that came in, with what it has.
pub one_split : (id n m g w : ℕ) (page : Option ℕ) (v : View) → v ≡ queue n m g 1 w page → Splits FrameRule id v (queue v.waits v.wants v.reads 0 0 v.page) (guest 0 0 0 1 0 v.writes 1 v.page)
one_split id n m g w page v is = subst (λ (x : View). Splits FrameRule id x (queue x.waits x.wants x.reads 0 0 x.page) (guest 0 0 0 1 0 x.writes 1 x.page)) (sym is)
    (split_kept id (queue n m g 1 w page) (queue n m g 0 0 page) (guest 0 0 0 1 0 w 1 page)
    (record { readers = omega arith; pins = omega arith; writes = omega arith; reads = omega arith; waits = omega arith; kept = omega arith; tickets = omega arith; waiting_both = omega arith; queues = refl })
    (λ pass page' fits. let mine = fits.used (omega arith) in record { used = λ _. mine; blind = omega arith; queue = λ _. refl; keeper = λ e. absurd (not_yes e); out = λ e. absurd (not_yes e); home = λ e. absurd (not_yes e) })
    (λ pass page' seat fits. let mine = fits.used (omega arith) in record { used = λ _. mine; blind = omega arith; queue = λ up. absurd (omega arith); keeper = λ e. absurd (not_yes e); out = λ e. absurd (not_yes e); home = λ e. absurd (not_yes e) }))

-- Of these the latch goes out first, and the pin then.
pub latch_split : (id r w : ℕ) (page : Option ℕ) (v : View) → v ≡ guest r 0 0 1 0 w 1 page → Splits FrameRule id v (guest 0 0 0 1 0 0 1 v.page) (held v.reads 0 v.writes (given v.page))
latch_split id r w page v is = subst (λ (x : View). Splits FrameRule id x (guest 0 0 0 1 0 0 1 x.page) (held x.reads 0 x.writes (given x.page))) (sym is)
    (split_kept id (guest r 0 0 1 0 w 1 page) (guest 0 0 0 1 0 0 1 page) (held r 0 w (given page))
    (record { readers = omega arith; pins = refl; writes = omega arith; reads = omega arith; waits = omega arith; kept = refl; tickets = refl; waiting_both = refl; queues = refl })
    (λ pass page' fits. let mine = fits.used (omega arith) in record { used = λ _. mine; blind = omega arith; queue = λ up. absurd (omega arith); keeper = λ e. absurd (not_yes e); out = λ e. absurd (not_yes e); home = λ e. absurd (not_yes e) })
    (λ pass page' seat fits. let mine = fits.used (omega arith) in record { used = λ _. (mine.0, ap (λ p. Some (given p)) mine.1); blind = omega arith; queue = λ up. absurd (omega arith); keeper = λ e. absurd (not_yes e); out = λ e. absurd (not_yes e); home = λ e. absurd (not_yes e) }))

pub pin_split : (id : ℕ) (page : Option ℕ) (v : View) → v ≡ guest 0 0 0 1 0 0 1 page → Splits FrameRule id v idle (held v.reads v.pins v.writes (given v.page))
pin_split id page v is = subst (λ (x : View). Splits FrameRule id x idle (held x.reads x.pins x.writes (given x.page))) (sym is)
    (split_kept id (guest 0 0 0 1 0 0 1 page) idle (held 0 1 0 (given page))
    (record { readers = refl; pins = refl; writes = refl; reads = refl; waits = refl; kept = refl; tickets = refl; waiting_both = refl; queues = refl })
    (λ pass page' fits. stray_fits pass page' id 0 0 1 (omega arith))
    (λ pass page' seat fits. let mine = fits.used (omega arith) in record { used = λ _. (mine.0, ap (λ p. Some (given p)) mine.1); blind = omega arith; queue = λ up. absurd (omega arith); keeper = λ e. absurd (not_yes e); out = λ e. absurd (not_yes e); home = λ e. absurd (not_yes e) }))

-- The queue begins with nobody.
pub queue_split : (id t : ℕ) (v : View) → v ≡ founder t → Splits FrameRule id v (keeper 0 v.tickets v.page v.stored) (queue 0 0 0 0 0 None)
queue_split id t v is = subst (λ (x : View). Splits FrameRule id x (keeper 0 x.tickets x.page x.stored) (queue 0 0 0 0 0 None)) (sym is)
    (split_kept id (founder t) (keeper 0 t None 0) (queue 0 0 0 0 0 None)
    (record { readers = refl; pins = refl; writes = refl; reads = refl; waits = refl; kept = refl; tickets = omega arith; waiting_both = refl; queues = refl })
    (λ pass page fits. record { used = fits.used; blind = omega arith; queue = λ up. absurd (omega arith); keeper = fits.keeper; out = fits.out; home = fits.home })
    (λ pass page seat fits. record { used = λ up. absurd (omega arith); blind = omega arith; queue = λ up. absurd (omega arith); keeper = λ e. absurd (not_yes e); out = λ e. absurd (not_yes e); home = λ e. absurd (not_yes e) }))

-- A thread's seat takes its pin in.
pub pin_join : (id other page : ℕ) (v u : View) → v ≡ idle → u ≡ held 0 1 0 page → Joins FrameRule id v other u (with_pin v u) spent
pin_join id other page v u is is' =
    subst (λ (x : View × View). Joins FrameRule id x.0 other x.1 (with_pin x.0 x.1) spent) (λ i. (sym is i, sym is' i)) (λ s rule there apart at_other.
    let w : View = held 0 1 0 page in
    let both : View = guest 0 0 0 1 0 0 1 (Some page) in
    let pass : ℕ = out_of rule.word in
    let was : get_elem? s.views other ≡ some w = ⊎_elim
    (λ (same : (other ≡ id) × (both ≡ w)). absurd (apart same.0))
    (λ (old : (other ≢ id) × (get_elem? s.views other ≡ some w)). old.1)
    (at_set s.views id other both w at_other) in
    let theirs = (rule.fit other w was).used (omega arith) in
    let fits : Fits pass rule.page id both = record { used = λ _. theirs; blind = omega arith; queue = λ up. absurd (omega arith); keeper = λ e. absurd (not_yes e); out = λ e. absurd (not_yes e); home = λ e. absurd (not_yes e) } in
    let views' : List View = set (set s.views id both) other spent in record {
      word = rule.word;
      page = rule.page;
      words = rule.words;
      sound = resound s.views views' rule.word
          (moved_total in_readers s.views id other idle w both there at_other refl refl)
          (moved_total in_pins s.views id other idle w both there at_other refl refl)
          (moved_total (λ u. u.writes) s.views id other idle w both there at_other refl refl)
          (moved_total (λ u. u.reads) s.views id other idle w both there at_other refl refl)
          (moved_total (λ u. u.reads + u.waits) s.views id other idle w both there at_other refl refl)
          (moved_total (λ u. u.pins + u.halves) s.views id other idle w both there at_other refl refl)
          (moved_total (λ u. u.tickets) s.views id other idle w both there at_other refl refl)
          (moved_total waiting s.views id other idle w both there at_other refl refl)
          (moved_total (λ u. u.queues) s.views id other idle w both there at_other refl refl)
          rule.sound;
      fit = fit_set pass rule.page (set s.views id both) other spent
          (λ seat u _ at. fit_set pass rule.page s.views id both (λ seat' u' _ at'. rule.fit seat' u' at') fits seat u at)
          (stray_fits pass rule.page other 0 0 0 (omega arith));
    })

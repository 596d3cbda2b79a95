-- What the code reads off its lists and frames is what the trail says.
use Rattle.std.proofs.Common.{◌≡◌, refl, sym, ap, subst, ◌∙◌, ℕ, suc, ◌+◌, ◌^◌, ◌<◌, ◌≤◌, nat_lt, Bool, true, false, not, ◌&&◌, ◌||◌, ◌==◌, cond, List, [], ◌∷◌, length, filter_map, get_or, Option, Some, None, inl, inr, arith}
use Rattle.std.specs.Str.{bytes_eq}
use Rattle.std.specs.Prelude.{All, Contains}
use Rattle.std.proofs.lemmas.Slice.Eq.{bytes_eq-Decides}
use Rattle.std.proofs.lemmas.Bool.{eqb-true, eq-eqb, and_parts, and_from, or_left, or_right, ltb-true, lt-ltb, not_from_false, false_from_ne_true, true≢false, cases_Bool}
use Rattle.bp_replacer.specs.Histories.{stamp_of, last_of, IsNow}
use Rattle.bp_references.specs.Burst.{Reference, last_time}
use Rattle.bp_references.specs.Stamp.{stamp, IsTimed}
use Rattle.bp_frames.specs.declared.frame.Frame.{Frame}
use Rattle.bp_trail.specs.Parameters.{Parameters}
use Rattle.bp_trail.specs.Lists.{some, count}
use Rattle.bp_trail.specs.Event.{grant, ticket_given}
use Rattle.bp_trail.specs.declared.entries.Entry.{Entry}
use Rattle.bp_trail.specs.Trail.{Trail}
use Rattle.bp_trail.specs.Passes.{pass_of, passes_out, reads_out, is_of, pins}
use Rattle.bp_trail.specs.Places.{residents, resident}
use Rattle.bp_trail.specs.References.{references, hist, last, is_empty}
use Rattle.bp_trail.specs.Legal.{is_out}
use Rattle.bp_frames.specs.Frames.{is_frame_of}
use Rattle.bp_core.specs.Agreement.{Parts, Agrees, frame_of}
use Rattle.bp_trail.proofs.Lists.{member}
use Rattle.bp_trail.proofs.Counting.{some-at, count-cons, some-count, count-all, some-from_counts, length-split}
use Rattle.bp_trail.proofs.Residents.{frames}
use Rattle.bp_trail.proofs.Places.{out-of_page}
use Rattle.bp_trail.proofs.Ranges.{referred}
use Rattle.bp_trail.proofs.Timed.{references-timed}

-- ---- two frames that are told apart by nothing

abbrev pub same_bool : Bool → Bool → Bool
same_bool true b = b
same_bool false b = not b

abbrev pub same_number : Option ℕ → Option ℕ → Bool
same_number None None = true
same_number None (Some n) = false
same_number (Some m) None = false
same_number (Some m) (Some n) = m == n

abbrev pub same_frame : Frame → Frame → Bool
same_frame f g = (f.page == g.page) && (same_number f.block g.block && ((f.pins == g.pins) && (same_bool f.is_unsaved g.is_unsaved && (same_bool f.is_rewritten g.is_rewritten && (same_bool f.is_writing g.is_writing && (same_number f.first_lsn g.first_lsn && (same_number f.rewritten_lsn g.rewritten_lsn && ((f.page_lsn == g.page_lsn) && bytes_eq f.image g.image))))))))

same_bool-is : (a b : Bool) → same_bool a b ≡ true → a ≡ b
same_bool-is true true e = refl
same_bool-is true false e = sym e
same_bool-is false true e = e
same_bool-is false false e = refl

same_bool-itself : (a : Bool) → same_bool a a ≡ true
same_bool-itself true = refl
same_bool-itself false = refl

pub same_number-is : (a b : Option ℕ) → same_number a b ≡ true → a ≡ b
same_number-is None None e = refl
same_number-is None (Some n) e = absurd (true≢false (sym e))
same_number-is (Some m) None e = absurd (true≢false (sym e))
same_number-is (Some m) (Some n) e = ap Some (eqb-true m n e)

pub same_number-itself : (a : Option ℕ) → same_number a a ≡ true
same_number-itself None = refl
same_number-itself (Some n) = eq-eqb n n refl

same-is : (f g : Frame) → same_frame f g ≡ true → f ≡ g
same-is f g e =
    let page = and_parts (f.page == g.page) _ e in
    let block = and_parts (same_number f.block g.block) _ page.1 in
    let pins = and_parts (f.pins == g.pins) _ block.1 in
    let unsaved = and_parts (same_bool f.is_unsaved g.is_unsaved) _ pins.1 in
    let rewritten = and_parts (same_bool f.is_rewritten g.is_rewritten) _ unsaved.1 in
    let writing = and_parts (same_bool f.is_writing g.is_writing) _ rewritten.1 in
    let first = and_parts (same_number f.first_lsn g.first_lsn) _ writing.1 in
    let since = and_parts (same_number f.rewritten_lsn g.rewritten_lsn) _ first.1 in
    let page_lsn = and_parts (f.page_lsn == g.page_lsn) _ since.1 in
    let at_page = eqb-true f.page g.page page.0 in
    let at_block = same_number-is f.block g.block block.0 in
    let at_pins = eqb-true f.pins g.pins pins.0 in
    let at_unsaved = same_bool-is f.is_unsaved g.is_unsaved unsaved.0 in
    let at_rewritten = same_bool-is f.is_rewritten g.is_rewritten rewritten.0 in
    let at_writing = same_bool-is f.is_writing g.is_writing writing.0 in
    let at_first = same_number-is f.first_lsn g.first_lsn first.0 in
    let at_since = same_number-is f.rewritten_lsn g.rewritten_lsn since.0 in
    let at_top = eqb-true f.page_lsn g.page_lsn page_lsn.0 in
    let at_image = (bytes_eq-Decides f.image g.image).0 page_lsn.1 in
    λ i. record { page = at_page i; block = at_block i; pins = at_pins i; is_unsaved = at_unsaved i; is_rewritten = at_rewritten i; is_writing = at_writing i; first_lsn = at_first i; rewritten_lsn = at_since i; page_lsn = at_top i; image = at_image i }

same-itself : (f : Frame) → same_frame f f ≡ true
same-itself f =
    and_from _ _ (eq-eqb f.page f.page refl) (and_from _ _ (same_number-itself f.block) (and_from _ _ (eq-eqb f.pins f.pins refl) (and_from _ _ (same_bool-itself f.is_unsaved) (and_from _ _ (same_bool-itself f.is_rewritten)
    (and_from _ _ (same_bool-itself f.is_writing) (and_from _ _ (same_number-itself f.first_lsn) (and_from _ _ (same_number-itself f.rewritten_lsn) (and_from _ _ (eq-eqb f.page_lsn f.page_lsn refl) ((bytes_eq-Decides f.image f.image).1 refl)))))))))

-- ---- counts of none

pub none-passes : (p : ℕ → Bool) (xs : List ℕ) → ((q : ℕ) → member q xs ≡ true → p q ≡ false) → count p xs ≡ 0
none-passes p [] h = refl
none-passes p (x ∷ xs) h =
    omega (arith, count-cons p x xs, ap {B = ℕ} (λ b. cond b 1 0) (h x (or_left (x == x) (member x xs) (eq-eqb x x refl))), none-passes p xs (λ q m. h q (or_right (x == q) (member q xs) m)))

pub count-le : {X : Type 0} (p : X → Bool) (xs : List X) → count p xs ≤ length xs
count-le p xs = omega (arith, length-split p xs)

module _ (c : Parameters) (past : Trail) (x : Parts) (a : Agrees c past x) where
  pub frames_count : length x.frames ≡ length (residents past)
  frames_count = sym (count-all x.frames) ∙ a.observed.frames_is (λ f. true) ∙ count-all (residents past)

  pub resident_seen : (p : ℕ) → some (is_frame_of p) x.frames ≡ resident past p
  resident_seen p = some-from_counts (is_frame_of p) (λ q. q == p) x.frames (residents past) (a.observed.frames_is (is_frame_of p))

  -- a test that each frame of a resident page passes, each frame passes
  pub none_fails : (test : Frame → Bool) → ((q : ℕ) → resident past q ≡ true → test (frame_of past q (x.places q)) ≡ true) → some (λ f. not (test f)) x.frames ≡ false
  none_fails test shows =
      some-from_counts (λ f. not (test f)) (λ q. not (test (frame_of past q (x.places q)))) x.frames (residents past) (a.observed.frames_is (λ f. not (test f)))
      ∙ false_from_ne_true (some (λ q. not (test (frame_of past q (x.places q)))) (residents past)) (λ t.
      let one = some-count (λ q. not (test (frame_of past q (x.places q)))) (residents past) t in
      let none = none-passes (λ q. not (test (frame_of past q (x.places q)))) (residents past) (λ q m. ap not (shows q m)) in
      absurd (omega (arith, one, none)))

  pub all_frames : (P : Frame → Type 0) (test : Frame → Bool) → ((f : Frame) → test f ≡ true → P f) → ((q : ℕ) → resident past q ≡ true → test (frame_of past q (x.places q)) ≡ true) → All P x.frames
  all_frames P test tells shows i d lt = tells (get_or x.frames i d) (elim (cases_Bool (test (get_or x.frames i d))) [
    | inl t ↦ t
    | inr n ↦ absurd (true≢false (sym (some-at (λ f. not (test f)) x.frames i d lt (not_from_false (test (get_or x.frames i d)) n)) ∙ none_fails test shows))
  ])

  -- the frame of a page
  shape : ℕ → Frame → Bool
  shape p f = not (f.page == p) || same_frame (frame_of past p (x.places p)) f

  shaped : (p q : ℕ) → (not (q == p) || same_frame (frame_of past p (x.places p)) (frame_of past q (x.places q))) ≡ true
  shaped p q = go (q == p) refl
    where
      go : (b : Bool) → (q == p) ≡ b → (not b || same_frame (frame_of past p (x.places p)) (frame_of past q (x.places q))) ≡ true
      go true e = subst (λ y. same_frame (frame_of past p (x.places p)) (frame_of past y (x.places y)) ≡ true) (sym (eqb-true q p e)) (same-itself (frame_of past p (x.places p)))
      go false e = refl

  pub frame_in : (p : ℕ) (f : Frame) → Contains x.frames f → f.page ≡ p → f ≡ frame_of past p (x.places p)
  frame_in p f in_list page =
      let bad : Frame → Bool = λ g. not (not (g.page == p) || same_frame (frame_of past p (x.places p)) g) in
      let good : bad f ≡ false = false_from_ne_true (bad f) (λ t. true≢false (sym (some-at bad x.frames in_list.0 f in_list.1 (subst (λ g. bad g ≡ true) (sym in_list.2) t)) ∙ none_fails (λ g. not (g.page == p) || same_frame (frame_of past p (x.places p)) g) (λ q m. shaped p q))) in
      sym (same-is (frame_of past p (x.places p)) f (passed (f.page == p) (same_frame (frame_of past p (x.places p)) f) (eq-eqb f.page p page) good))
    where
      passed : (b d : Bool) → b ≡ true → not (not b || d) ≡ false → d ≡ true
      passed true true h k = refl
      passed true false h k = sym k
      passed false d h k = absurd (true≢false (sym h))

  pub here_in : (p : ℕ) (f : Frame) → Contains x.frames f → f.page ≡ p → resident past p ≡ true
  here_in p f in_list page = sym (resident_seen p) ∙ some-at (is_frame_of p) x.frames in_list.0 f in_list.1 (eq-eqb (get_or x.frames in_list.0 f).page p (ap (λ (g : Frame). g.page) in_list.2 ∙ page))

  pub few_pins : length (passes_out past) < 2 ^ 63 → All (λ f. f.pins < 2 ^ 63) x.frames
  few_pins few = all_frames (λ f. f.pins < 2 ^ 63) (λ f. nat_lt f.pins (2 ^ 63)) (λ f e. ltb-true f.pins (2 ^ 63) e) (λ q m. lt-ltb (pins past q) (2 ^ 63) (omega (arith, few, count-le (is_of q) (passes_out past))))

  pub some_pins : (who p n : ℕ) → is_out (grant who p n) (passes_out past) ≡ true → All (λ f. is_frame_of p f ≡ true → 0 < f.pins) x.frames
  some_pins who p n out = all_frames (λ f. is_frame_of p f ≡ true → 0 < f.pins) (λ f. not (f.page == p) || nat_lt 0 f.pins) (λ f e t. tells (f.page == p) f.pins e t) (λ q m. shows q (q == p) refl)
    where
      tells : (b : Bool) (n : ℕ) → (not b || nat_lt 0 n) ≡ true → b ≡ true → 0 < n
      tells true n e t = ltb-true 0 n e
      tells false n e t = absurd (true≢false (sym t))

      shows : (q : ℕ) (b : Bool) → (q == p) ≡ b → (not b || nat_lt 0 (pins past q)) ≡ true
      shows q true e = lt-ltb 0 (pins past q) (some-count (is_of q) (passes_out past) (subst (λ y. some (is_of y) (passes_out past) ≡ true) (sym (eqb-true q p e)) (out-of_page who p n (passes_out past) out)))
      shows q false e = refl

  -- the histories
  pub now_is : IsNow x.blocks x.now
  now_is = record {
    positive = omega (arith, a.observed.clock_is);
    after_all = λ p. omega (arith, a.observed.clock_is, a.by_now p);
  }

  pub known_is : (p : ℕ) → resident past p ≡ true → 0 < last_of x.blocks p
  known_is p m = positive (references c past p) ((referred c past a.legal).known p m) (references-timed c past p).timed (a.observed.stamps_are p).last
    where
      positive : (refs : List Reference) → is_empty refs ≡ false → IsTimed refs → last_of x.blocks p ≡ last_time refs → 0 < last_of x.blocks p
      positive [] e t l = absurd (true≢false e)
      positive (r ∷ older) e t l = omega (arith, t.from_one, l)

  -- what a page is entered with among the candidates
  pub ranked : (p : ℕ) → ◌≡◌ {A = ℕ × ℕ} (stamp_of x.blocks p c.k, last_of x.blocks p) (hist c past p c.k, last c past p)
  ranked p =
      let stamps = (a.observed.stamps_are p).stamps c.k ∙ ap (λ k. stamp k x.blocks.correlated c.k (references c past p)) a.k_is ∙ ap (λ d. stamp c.k d c.k (references c past p)) a.correlated_is in
      λ i. (stamps i, (a.observed.stamps_are p).last i)

  -- how much there is
  pub occupied_is : length x.frames + length x.reads ≡ length (residents past) + length (reads_out past)
  occupied_is = omega (arith, frames_count, ap length a.observed.reads_is)

  pub within_frames : length x.frames + length x.reads ≤ c.frames
  within_frames = omega (arith, occupied_is, (frames c past a.legal).within)

  -- counters fit
  few-of : {Y : Type 0} (f : Entry → Option Y) (es : List Entry) → length (filter_map f es) ≤ length es
  few-of f [] = omega arith
  few-of f (e ∷ es) = go (f e) refl (few-of f es)
    where
      go : (o : Option _) → f e ≡ o → length (filter_map f es) ≤ length es → length (filter_map f (e ∷ es)) ≤ suc (length es)
      go None h k = rw h (omega arith)
      go (Some y) h k = rw h (omega arith)

  pub few_passes : x.given ≤ length past
  few_passes = omega (arith, a.observed.passes_is, few-of pass_of past)

  pub few_tickets : x.begun ≤ length past
  few_tickets = omega (arith, a.observed.tickets_is, few-of (λ e. ticket_given e.reply) past)

  pub some_frame : (p : ℕ) → resident past p ≡ true → 0 < length x.frames
  some_frame p m = omega (arith, some-count (is_frame_of p) x.frames (resident_seen p ∙ m), count-le (is_frame_of p) x.frames)

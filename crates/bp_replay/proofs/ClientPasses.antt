-- How the passes of the lowest client go back in the order taken, while their notes stay.
use Rattle.std.proofs.Common.{◌≡◌, refl, sym, ◌∙◌, ap, subst, ℕ, ◌+◌, ◌<◌, ◌≤◌, nat_le, arith, cond, List, [], ◌∷◌, ◌++◌, true, false, not, Bool, ◌==◌, Some, length, get_or, take, drop}
use Rattle.std.specs.Prelude.{All, Any, find, filter}
use Rattle.std.specs.List.{list_any, list_all}
use Rattle.std.proofs.lemmas.Bool.{and_parts, and_from, or_left, or_right}
use Rattle.std.proofs.lemmas.List.{append_assoc, append-nil, take-append-drop, take_more, drop_more}
use Rattle.std.proofs.lemmas.List.Elements.{filter-append}
use Rattle.bp_trail.specs.declared.entries.Call.TheVariants.{Unfix}
use Rattle.bp_trail.specs.declared.entries.Reply.TheVariants.{Done}
use Rattle.bp_trail.specs.Lists.{count}
use Rattle.bp_trail.specs.Event.{Grant}
use Rattle.bp_scripts.specs.Script.{first_to_go_back}
use Rattle.bp_trail.proofs.Counting.{count-cons, count-append, length-split, some-count}
use Rattle.bp_core.specs.CoreView.{CoreView, with_entry}
use Rattle.bp_replay.specs.Rows.{SerialsDiffer, GoingBack}
use Rattle.bp_replay.proofs.GivingBack.{list_all-from_All, any-test, lowest-first}
use Rattle.bp_replay.proofs.ScriptSteps.{going-next}
use Rattle.bp_replay.proofs.Removing.{one-removed}

-- those left where the passes of this client among the first i have gone back
abbrev pub left_from : ℕ → List Grant → ℕ → List Grant
left_from client held i = filter (λ g. not (g.client == client)) (take i held) ++ drop i held

pub left-none : (client : ℕ) (held : List Grant) → left_from client held 0 ≡ held
left-none client held = refl

pub fewer-filter : (t p : Grant → Bool) (xs : List Grant) → count t (filter p xs) ≤ count t xs
fewer-filter t p [] = omega arith
fewer-filter t p (x ∷ xs) = go (p x) (fewer-filter t p xs)
  where
    go : (b : Bool) → count t (filter p xs) ≤ count t xs → count t (cond b (x ∷ filter p xs) (filter p xs)) ≤ count t (x ∷ xs)
    go true ih = omega (arith, ih, count-cons t x (filter p xs), count-cons t x xs)
    go false ih = omega (arith, ih, count-cons t x xs)

all-left : (r p : Grant → Bool) (xs ys : List Grant) → list_all r (xs ++ ys) ≡ true → list_all r (filter p xs ++ ys) ≡ true
all-left r p [] ys all = all
all-left r p (x ∷ xs) ys all = go (p x) (all-left r p xs ys (and_parts (r x) (list_all r (xs ++ ys)) all).1)
  where
    go : (b : Bool) → list_all r (filter p xs ++ ys) ≡ true → list_all r (cond b (x ∷ filter p xs) (filter p xs) ++ ys) ≡ true
    go true ih = and_from (r x) (list_all r (filter p xs ++ ys)) (and_parts (r x) (list_all r (xs ++ ys)) all).0 ih
    go false ih = ih

any-there : (t : Grant → Bool) (xs ys : List Grant) (g : Grant) → t g ≡ true → list_any t (xs ++ g ∷ ys) ≡ true
any-there t [] ys g is = or_left (t g) (list_any t ys) is
any-there t (x ∷ xs) ys g is = or_right (t x) (list_any t (xs ++ g ∷ ys)) (any-there t xs ys g is)

-- the search passes over those that do not pass
find-past : (t : Grant → Bool) (xs ys : List Grant) (g : Grant) → t g ≡ true → find t (filter (λ h. not (t h)) xs ++ g ∷ ys) ≡ Some g
find-past t [] ys g is = ap (λ b. cond b (Some g) (find t ys)) is
find-past t (x ∷ xs) ys g is = go (t x) refl (find-past t xs ys g is)
  where
    go : (b : Bool) → t x ≡ b → find t (filter (λ h. not (t h)) xs ++ g ∷ ys) ≡ Some g → find t (cond (not b) (x ∷ filter (λ h. not (t h)) xs) (filter (λ h. not (t h)) xs) ++ g ∷ ys) ≡ Some g
    go true e ih = ih
    go false e ih = ap (λ b. cond b (Some x) (find t (filter (λ h. not (t h)) xs ++ g ∷ ys))) e ∙ ih

-- without the passes of a client that holds one there are fewer
pub fewer-clients : (client : ℕ) (held : List Grant) → Any (λ g. g.client ≡ client) held → length (filter (λ g. not (g.client == client)) held) < length held
fewer-clients client held any = omega (arith, length-split (λ (g : Grant). g.client == client) held, some-count (λ (g : Grant). g.client == client) held (any-test client held any))

-- at the i-th note
module _ (client i : ℕ) (held : List Grant) (g : Grant) (within : i < length held) (is : g ≡ get_or held i g) where
  here : drop i held ≡ g ∷ drop (i + 1) held
  here = drop_more held i g within ∙ ap (λ h. h ∷ drop (i + 1) held) (sym is)

  around : held ≡ take i held ++ g ∷ drop (i + 1) held
  around = sym (take-append-drop i held) ∙ ap (λ gs. take i held ++ gs) here

  left-here : left_from client held i ≡ filter (λ h. not (h.client == client)) (take i held) ++ g ∷ drop (i + 1) held
  left-here = ap (λ gs. filter (λ h. not (h.client == client)) (take i held) ++ gs) here

  left-next : (b : Bool) → (g.client == client) ≡ b → left_from client held (i + 1) ≡ (filter (λ h. not (h.client == client)) (take i held) ++ cond (not b) (g ∷ []) []) ++ drop (i + 1) held
  left-next b test = ap (λ gs. filter (λ h. not (h.client == client)) gs ++ drop (i + 1) held) (take_more held i g within ∙ ap (λ h. take i held ++ h ∷ []) (sym is))
      ∙ ap (λ gs. gs ++ drop (i + 1) held) (filter-append (λ h. not (h.client == client)) (take i held) (g ∷ []) ∙ ap (λ b. filter (λ h. not (h.client == client)) (take i held) ++ cond (not b) (g ∷ []) []) test)

  -- of another client: it is left
  pub left-other : (g.client == client) ≡ false → left_from client held (i + 1) ≡ left_from client held i
  left-other other = left-next false other ∙ append_assoc (filter (λ h. not (h.client == client)) (take i held)) (g ∷ []) (drop (i + 1) held) ∙ sym left-here

  left-mine : (g.client == client) ≡ true → left_from client held (i + 1) ≡ filter (λ h. not (h.client == client)) (take i held) ++ drop (i + 1) held
  left-mine mine = left-next true mine ∙ ap (λ gs. gs ++ drop (i + 1) held) (append-nil (filter (λ h. not (h.client == client)) (take i held)))

  -- of this client: it goes back next
  pub next-is : All (λ h. client ≤ h.client) held → (g.client == client) ≡ true → first_to_go_back (left_from client held i) ≡ Some g
  next-is least mine = subst (λ gs. first_to_go_back gs ≡ Some g) (sym left-here)
      (sym (lowest-first client (filter (λ h. not (h.client == client)) (take i held) ++ g ∷ drop (i + 1) held)
      (all-left (λ h. nat_le client h.client) (λ h. not (h.client == client)) (take i held) (g ∷ drop (i + 1) held) (subst (λ gs. list_all (λ h. nat_le client h.client) gs ≡ true) around (list_all-from_All client held least)))
      (any-there (λ h. h.client == client) (filter (λ h. not (h.client == client)) (take i held)) (drop (i + 1) held) g mine))
      ∙ find-past (λ h. h.client == client) (take i held) (drop (i + 1) held) g mine)

  -- and it alone has its serial number
  left-removed : SerialsDiffer held → (g.client == client) ≡ true → left_from client held (i + 1) ≡ filter (λ h. not (h.serial == g.serial)) (left_from client held i)
  left-removed differ mine =
      let others = filter (λ h. not (h.client == client)) (take i held) in
      let all : count (λ (h : Grant). h.serial == g.serial) (take i held ++ g ∷ drop (i + 1) held) ≤ 1 = subst (λ gs. count (λ (h : Grant). h.serial == g.serial) gs ≤ 1) around (differ g.serial) in
      let once : count (λ (h : Grant). h.serial == g.serial) (others ++ g ∷ drop (i + 1) held) ≤ 1 =
      omega (
        arith,
        all,
        count-append (λ (h : Grant). h.serial == g.serial) (take i held) (g ∷ drop (i + 1) held),
        count-append (λ (h : Grant). h.serial == g.serial) others (g ∷ drop (i + 1) held),
        fewer-filter (λ (h : Grant). h.serial == g.serial) (λ h. not (h.client == client)) (take i held),
      ) in
      left-mine mine ∙ sym (ap (filter (λ h. not (h.serial == g.serial))) left-here ∙ one-removed others (drop (i + 1) held) g once)

  pub turn-given : (old mid new : CoreView) → SerialsDiffer held → All (λ h. client ≤ h.client) held → (g.client == client) ≡ true → GoingBack old held (left_from client held i) mid
      → new ≡ with_entry mid g.client (Unfix g.serial g.page) Done → GoingBack old held (left_from client held (i + 1)) new
  turn-given old mid new differ least mine going entry = going-next old mid new held (left_from client held i) (left_from client held (i + 1)) g going (next-is least mine) entry (left-removed differ mine)

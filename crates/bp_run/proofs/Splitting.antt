-- The rows of a trace, client by client.
use Rattle.std.proofs.Common.{◌≡◌, ◌≢◌, ◌∙◌, refl, sym, ap, subst, ℕ, zero, suc, ◌<◌, arith, Bool, true, false, ◌==◌, List, [], ◌∷◌, ◌++◌, cond, map, length, get_or, set, take, drop, All}
use Rattle.std.proofs.lemmas.Bool.{eqb-true, eq-eqb}
use Rattle.std.proofs.lemmas.List.{append_assoc, append-nil, get_or-map, get_or-set_other, get_or-set_same, get_or_default, length-map, map-set, same_lists, take_at}
use Rattle.std.proofs.lemmas.List.Elements.{All-head, All-tail, All-nil, All-cons}
use Rattle.std.proofs.lemmas.List.FromFn.{get_or-map-range_with_len, length-map-range_with_len}
use Rattle.std.specs.declared.vec.Vec.{Vec}
use Rattle.bp_scripts.specs.declared.rows.Row.{Row}
use Rattle.bp_trail.specs.Lists.{greatest}
use Rattle.bp_replay.specs.Scripts.{list_of, lists}
use Rattle.bp_run.specs.Scripts.{clients_of, rows_of, scripts_for}

-- ---- the greatest client

below_from : (most : ℕ) (rows : List Row) → greatest (map (λ row. row.client) rows) < most → All (λ row. row.client < most) rows
below_from most [] is = All-nil (λ row. row.client < most)
below_from most (row ∷ rows) is = All-cons (λ row. row.client < most) row rows (omega arith) (below_from most rows (omega arith))

-- each client is below the count
pub all_below : (rows : List Row) → All (λ row. row.client < clients_of rows) rows
all_below rows = below_from (clients_of rows) rows (omega arith)

-- ---- one row after the other

-- the scripts so far, with what is left of each client's rows, are that client's rows
pub record AreSplit (clients : ℕ) (scripts : List (List Row)) (rest rows : List Row) : Type 0 where
  pub count : length scripts ≡ clients
  pub each : (c : ℕ) → list_of c scripts ++ rows_of c rest ≡ rows_of c rows
  pub below : All (λ row. row.client < clients) rest

pub one_more : (clients : ℕ) (old new : List (List Row)) (row : Row) (rest rows : List Row) → AreSplit clients old (row ∷ rest) rows → length new ≡ length old
    → list_of row.client new ≡ list_of row.client old ++ row ∷ [] → ((c : ℕ) → c ≢ row.client → list_of c new ≡ list_of c old) → AreSplit clients new rest rows
one_more clients old new row rest rows so_far same own others = record {
  count = same ∙ so_far.count;
  each = λ c. go c (row.client == c) refl (so_far.each c);
  below = All-tail (λ row. row.client < clients) row rest so_far.below;
}
  where
    go : (c : ℕ) (b : Bool) → (row.client == c) ≡ b → list_of c old ++ cond b (row ∷ rows_of c rest) (rows_of c rest) ≡ rows_of c rows → list_of c new ++ rows_of c rest ≡ rows_of c rows
    go c true is each =
        let here : row.client ≡ c = eqb-true row.client c is in
        let added : list_of c new ≡ list_of c old ++ row ∷ [] = subst (λ n. list_of n new ≡ list_of n old ++ row ∷ []) here own in
        ap (λ xs. xs ++ rows_of c rest) added ∙ append_assoc (list_of c old) (row ∷ []) (rows_of c rest) ∙ each
    go c false is each =
        let apart : c ≢ row.client = λ same. (let both = eq-eqb row.client c (sym same) in cc) in
        ap (λ xs. xs ++ rows_of c rest) (others c apart) ∙ each

-- a script with a row at its end stands in its place, and the others stay
pub added_own : {A : Type 0} (scripts : List (Vec Row A)) (n : ℕ) (script changed : Vec Row A) (row : Row) → n < length scripts → changed.items ≡ (get_or scripts n script).items ++ row ∷ []
    → list_of n (lists (set scripts n changed)) ≡ list_of n (lists scripts) ++ row ∷ []
added_own scripts n script changed row below adds =
    let below-lists : n < length (lists scripts) = subst (λ l. n < l) (sym (length-map scripts (λ v. v.items))) below in
    ap (list_of n) (map-set (λ v. v.items) scripts n changed) ∙ get_or-set_same (lists scripts) n changed.items [] below-lists
    ∙ adds ∙ ap (λ xs. xs ++ row ∷ []) (sym (get_or-map (λ v. v.items) scripts n script [] below))

pub added_others : {A : Type 0} (scripts : List (Vec Row A)) (n c : ℕ) (changed : Vec Row A) → c ≢ n → list_of c (lists (set scripts n changed)) ≡ list_of c (lists scripts)
added_others scripts n c changed apart = ap (list_of c) (map-set (λ v. v.items) scripts n changed) ∙ get_or-set_other (lists scripts) n c changed.items [] apart

-- where no script has a row, so is each by its place
pub none_in : {A : Type 0} (scripts : List (Vec Row A)) → All (λ v. v.items ≡ []) scripts → (c : ℕ) → list_of c (lists scripts) ≡ []
none_in [] empty c = refl
none_in (v ∷ scripts) empty zero = All-head (λ v. v.items ≡ []) v scripts empty
none_in (v ∷ scripts) empty (suc c) = none_in scripts (All-tail (λ v. v.items ≡ []) v scripts empty) c

-- the same where the scripts were lent, and are written back
pub one_more_lent : {A : Type 0} (clients n : ℕ) (now items new : List (Vec Row A)) (row : Row) (rest rows : List Row) → AreSplit clients (lists items) (row ∷ rest) rows → now ≡ items → length now ≡ n → length new ≡ length now
    → list_of row.client (lists new) ≡ list_of row.client (lists now) ++ row ∷ [] → ((c : ℕ) → c ≢ row.client → list_of c (lists new) ≡ list_of c (lists now))
    → AreSplit clients (lists (take n (new ++ drop (length new) items))) rest rows
one_more_lent clients n now items new row rest rows so_far is len same own others =
    subst (λ scripts. AreSplit clients (lists scripts) rest rows) (sym (take_at new (drop (length new) items) n (same ∙ len)))
    (one_more clients (lists now) (lists new) row rest rows (subst (λ scripts. AreSplit clients (lists scripts) (row ∷ rest) rows) (sym is) so_far)
    (length-map new (λ v. v.items) ∙ same ∙ sym (length-map now (λ v. v.items))) own others)

-- no row is left
pub none_left : (clients : ℕ) (scripts : List (List Row)) (rest rows : List Row) → AreSplit clients scripts rest rows → length rest ≡ 0 → scripts ≡ scripts_for clients rows
none_left clients scripts (row ∷ rest) rows split none = absurd (omega arith)
none_left clients scripts [] rows split none =
    same_lists scripts (scripts_for clients rows) (split.count ∙ sym (length-map-range_with_len (λ c. rows_of c rows) 0 clients)) at
  where
    whole : (c : ℕ) → list_of c scripts ≡ rows_of c rows
    whole c = sym (append-nil (list_of c scripts)) ∙ split.each c

    at : (c : ℕ) (d : List Row) → c < length scripts → get_or scripts c d ≡ get_or (scripts_for clients rows) c d
    at c d below =
        get_or_default scripts c d [] below ∙ whole c ∙ sym (get_or-map-range_with_len (λ c. rows_of c rows) 0 clients c c d (omega (arith, split.count)) (omega arith))

-- The candidate that comes first among those of a list.
use Rattle.std.proofs.Common.{◌≡◌, ◌≢◌, ℕ, ◌-◌, nat_lt, Bool, true, false, List, [], ◌∷◌, fold, filter, Option, Some, None, refl, sym, ap, ◌∙◌, subst, inl, inr, unwrap_or, arith}
use Rattle.std.specs.Option.{option_map_or}
use Rattle.std.specs.List.{reduce, find}
use Rattle.std.proofs.lemmas.Bool.{cases_Bool, true≢false, false_from_ne_true}
use Rattle.std.proofs.lemmas.Bool.Decides.{nat_tests}
use Rattle.std.proofs.lemmas.Option.{none-some, same_Some}
use Rattle.bp_references.specs.Candidates.{Candidate, Entered, is_before, earlier, entry_of, candidate_of, is_eligible, IsVictim, NoPageTwice}
use Rattle.bp_references.proofs.Lists.{IsIn, in_filtered, filtered_in}
use Rattle.bp_references.proofs.EntryLaws.{in_found, found_in}
use Rattle.bp_references.proofs.OrderLaws.{Ordered}

-- ---- the order

pub not_before_itself : (a : Candidate) → is_before a a ≡ false
not_before_itself a = grind (arith, nat_tests)

pub not_before_earlier : (a b c : Candidate) → is_before a b ≡ false → is_before b c ≡ false → is_before a c ≡ false
not_before_earlier a b c h k = grind (arith, nat_tests)

pub before_later : (a b c : Candidate) → is_before a b ≡ true → is_before b c ≡ true → is_before a c ≡ true
before_later a b c h k = grind (arith, nat_tests)

pub not_both : (a b : Candidate) → is_before a b ≡ true → is_before b a ≡ false
not_both a b h = grind (arith, nat_tests)

-- of two pages one comes first
pub other_before : (a b : Candidate) → is_before a b ≡ false → a.2 ≢ b.2 → is_before b a ≡ true
other_before a b h apart = grind (arith, nat_tests)

-- ---- the earliest of a list

-- m is in the list, and nothing in the list comes before it
pub record IsEarliest (es : List Candidate) (m : Candidate) : Type 0 where
  pub there : IsIn m es
  pub none_before : (x : Candidate) → IsIn x es → is_before x m ≡ false

earliest_alone : (e : Candidate) → IsEarliest (e ∷ []) e
earliest_alone e = record { there = inl refl; none_before = first }
  where
    first : (x : Candidate) → IsIn x (e ∷ []) → is_before x e ≡ false
    first x (inl is) = subst (λ y. is_before y e ≡ false) is (not_before_itself e)
    first x (inr there) = absurd there

-- the first two give way to the earlier of them
earliest_of_two : (a b m : Candidate) (es : List Candidate) → IsEarliest (earlier a b ∷ es) m → IsEarliest (a ∷ b ∷ es) m
earliest_of_two a b m es of = elim (cases_Bool (is_before b a)) [
  | inl lower ↦
      let of_b : IsEarliest (b ∷ es) m = subst (λ x. IsEarliest (x ∷ es) m) (rw lower refl) of in
      record {
        there = inr of_b.there;
        none_before = both a b (not_before_earlier a b m (not_both b a lower) (of_b.none_before b (inl refl))) of_b;
      }
  | inr higher ↦
      let of_a : IsEarliest (a ∷ es) m = subst (λ x. IsEarliest (x ∷ es) m) (rw higher refl) of in
      record {
        there = elim of_a.there [ inl is ↦ inl is | inr later ↦ inr (inr later) ];
        none_before = swapped (not_before_earlier b a m higher (of_a.none_before a (inl refl))) of_a;
      }
]
  where
    both : (a b : Candidate) → is_before a m ≡ false → IsEarliest (b ∷ es) m → (x : Candidate) → IsIn x (a ∷ b ∷ es) → is_before x m ≡ false
    both a b not_a of x (inl is) = subst (λ y. is_before y m ≡ false) is not_a
    both a b not_a of x (inr there) = of.none_before x there

    swapped : is_before b m ≡ false → IsEarliest (a ∷ es) m → (x : Candidate) → IsIn x (a ∷ b ∷ es) → is_before x m ≡ false
    swapped not_b of x (inl is) = of.none_before x (inl is)
    swapped not_b of x (inr (inl is)) = subst (λ y. is_before y m ≡ false) is not_b
    swapped not_b of x (inr (inr there)) = of.none_before x (inr there)

fold_earliest : (a : Candidate) (es : List Candidate) → IsEarliest (a ∷ es) (fold earlier a es)
fold_earliest a [] = earliest_alone a
fold_earliest a (b ∷ es) = earliest_of_two a b (fold earlier (earlier a b) es) es (fold_earliest (earlier a b) es)

pub reduce_earliest : (es : List Candidate) (m : Candidate) → reduce earlier es ≡ Some m → IsEarliest es m
reduce_earliest [] m is = cc
reduce_earliest (e ∷ es) m is = let same : fold earlier e es ≡ m = cc in subst (IsEarliest (e ∷ es)) same (fold_earliest e es)

pub reduce_nothing : (es : List Candidate) → reduce earlier es ≡ None → es ≡ []
reduce_nothing [] is = refl
reduce_nothing (e ∷ es) is = cc

-- in a list in order the first that passes is the earliest that does
pub find_earliest : (p : Candidate → Bool) (es : List Candidate) (m : Candidate) → Ordered is_before es → find p es ≡ Some m → IsEarliest (filter p es) m
find_earliest p [] m ordered is = absurd (none-some m is)
find_earliest p (e ∷ es) m ordered is = elim (cases_Bool (p e)) [
  | inr fails ↦ (let later = find_earliest p es m ordered.1 (rw fails at is) in rw fails later)
  | inl passes ↦
      let same : e ≡ m = same_Some e m (rw passes at is) in
      subst (λ x. IsEarliest (filter p (e ∷ es)) x) same (rw passes record {
        there = inl refl;
        none_before = first;
      })
]
  where
    first : (x : Candidate) → IsIn x (e ∷ filter p es) → is_before x e ≡ false
    first x (inl own) = subst (λ y. is_before y e ≡ false) own (not_before_itself e)
    first x (inr there) = not_both e x (ordered.0 x (in_filtered p es x there).0)

pub find_nothing : (p : Candidate → Bool) (es : List Candidate) → find p es ≡ None → filter p es ≡ []
find_nothing p [] is = refl
find_nothing p (e ∷ es) is = elim (cases_Bool (p e)) [
  | inl passes ↦ absurd (none-some e (sym (rw passes at is)))
  | inr fails ↦ (let later = find_nothing p es (rw fails at is) in rw fails later)
]

-- ---- the victim

-- last referenced more than the period before t
abbrev pub is_old : ℕ → ℕ → Candidate → Bool
is_old period t e = nat_lt period (t - e.1)

module _ (c : Entered) (t : ℕ) (apart : NoPageTwice c.entries) where
  eligible_in : (page : ℕ) → is_eligible c t page ≡ true → IsIn (candidate_of c page) (filter (is_old c.correlated t) c.entries)
  eligible_in page eligible = go (entry_of c page) refl
    where
      go : (o : Option (ℕ × ℕ)) → entry_of c page ≡ o → IsIn (candidate_of c page) (filter (is_old c.correlated t) c.entries)
      go None absent = absurd (true≢false (sym eligible ∙ ap (λ o. option_map_or (λ e. nat_lt c.correlated (t - e.1)) o false) absent))
      go (Some e) found =
          let is : candidate_of c page ≡ (e.0, e.1, page) = ap (λ o. ((unwrap_or o (0, 0)).0, (unwrap_or o (0, 0)).1, page)) found in
          let old = sym (ap (λ o. option_map_or (λ e. nat_lt c.correlated (t - e.1)) o false) found) ∙ eligible in
          subst (λ x. IsIn x (filter (is_old c.correlated t) c.entries)) (sym is) (filtered_in (is_old c.correlated t) c.entries (e.0, e.1, page) (found_in c.entries (e.0, e.1, page) found) old)

  in_eligible : (e : Candidate) → IsIn e c.entries → is_old c.correlated t e ≡ true → is_eligible c t e.2 ≡ true
  in_eligible e there old = ap (λ o. option_map_or (λ e. nat_lt c.correlated (t - e.1)) o false) (in_found c.entries e apart there) ∙ old

  candidate_is : (e : Candidate) → IsIn e c.entries → candidate_of c e.2 ≡ e
  candidate_is e there = ap (λ o. ((unwrap_or o (0, 0)).0, (unwrap_or o (0, 0)).1, e.2)) (in_found c.entries e apart there)

  pub earliest_victim : (m : Candidate) → IsEarliest (filter (is_old c.correlated t) c.entries) m → IsVictim c t m.2
  earliest_victim m of =
      let there = in_filtered (is_old c.correlated t) c.entries m of.there in
      record {
        eligible = in_eligible m there.0 there.1;
        first = λ q eligible other. subst (λ x. is_before x (candidate_of c q) ≡ true) (sym (candidate_is m there.0)) (other_before (candidate_of c q) m (of.none_before (candidate_of c q) (eligible_in q eligible)) other);
      }

  pub none_eligible : filter (is_old c.correlated t) c.entries ≡ [] → (page : ℕ) → is_eligible c t page ≡ false
  none_eligible none page = false_from_ne_true (is_eligible c t page) (λ eligible. subst (IsIn (candidate_of c page)) none (eligible_in page eligible))

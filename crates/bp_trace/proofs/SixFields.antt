-- A record has six fields, fewer, or more.
use Rattle.std.proofs.Common.{◌≡◌, ℕ, ◌<◌, List, [], ◌∷◌, Option, Some, None, true, false, refl, arith, zero, suc}
use Rattle.std.specs.Prelude.{is_some, option_map}
use Rattle.csv.specs.Records.{field_at}
use Rattle.bp_trace.specs.Fields.{six_of}

pub six_of-whole : (fields : List (List ℕ)) (a b c d e f : List ℕ) → Some a ≡ field_at fields 0 → Some b ≡ field_at fields 1 → Some c ≡ field_at fields 2
    → Some d ≡ field_at fields 3 → Some e ≡ field_at fields 4 → Some f ≡ field_at fields 5 → None ≡ field_at fields 6
    → Some (record { client = a; op = b; number = c; offset = d; bytes = e; lsn = f }) ≡ six_of fields
unfolding six_of field_at
six_of-whole [] a b c d e f h0 h1 h2 h3 h4 h5 h6 = cc h0
six_of-whole (p ∷ []) a b c d e f h0 h1 h2 h3 h4 h5 h6 = cc h1
six_of-whole (p ∷ q ∷ []) a b c d e f h0 h1 h2 h3 h4 h5 h6 = cc h2
six_of-whole (p ∷ q ∷ r ∷ []) a b c d e f h0 h1 h2 h3 h4 h5 h6 = cc h3
six_of-whole (p ∷ q ∷ r ∷ s ∷ []) a b c d e f h0 h1 h2 h3 h4 h5 h6 = cc h4
six_of-whole (p ∷ q ∷ r ∷ s ∷ t ∷ []) a b c d e f h0 h1 h2 h3 h4 h5 h6 = cc h5
six_of-whole (p ∷ q ∷ r ∷ s ∷ t ∷ u ∷ []) a b c d e f h0 h1 h2 h3 h4 h5 h6 = cc
six_of-whole (p ∷ q ∷ r ∷ s ∷ t ∷ u ∷ v ∷ rest) a b c d e f h0 h1 h2 h3 h4 h5 h6 = cc h6

pub six_of-short : (i : ℕ) (fields : List (List ℕ)) → i < 6 → None ≡ field_at fields i → None ≡ six_of fields
unfolding six_of field_at
six_of-short i [] h none = refl
six_of-short i (p ∷ []) h none = refl
six_of-short i (p ∷ q ∷ []) h none = refl
six_of-short i (p ∷ q ∷ r ∷ []) h none = refl
six_of-short i (p ∷ q ∷ r ∷ s ∷ []) h none = refl
six_of-short i (p ∷ q ∷ r ∷ s ∷ t ∷ []) h none = refl
six_of-short zero (p ∷ q ∷ r ∷ s ∷ t ∷ u ∷ []) h none = cc none
six_of-short (suc zero) (p ∷ q ∷ r ∷ s ∷ t ∷ u ∷ []) h none = cc none
six_of-short (suc (suc zero)) (p ∷ q ∷ r ∷ s ∷ t ∷ u ∷ []) h none = cc none
six_of-short (suc (suc (suc zero))) (p ∷ q ∷ r ∷ s ∷ t ∷ u ∷ []) h none = cc none
six_of-short (suc (suc (suc (suc zero)))) (p ∷ q ∷ r ∷ s ∷ t ∷ u ∷ []) h none = cc none
six_of-short (suc (suc (suc (suc (suc zero))))) (p ∷ q ∷ r ∷ s ∷ t ∷ u ∷ []) h none = cc none
six_of-short (suc (suc (suc (suc (suc (suc i)))))) (p ∷ q ∷ r ∷ s ∷ t ∷ u ∷ []) h none = absurd (omega arith)
six_of-short i (p ∷ q ∷ r ∷ s ∷ t ∷ u ∷ v ∷ rest) h none = refl

pub six_of-long : (fields : List (List ℕ)) (x : List ℕ) → Some x ≡ field_at fields 6 → None ≡ six_of fields
unfolding six_of field_at
six_of-long [] x h = refl
six_of-long (p ∷ []) x h = refl
six_of-long (p ∷ q ∷ []) x h = refl
six_of-long (p ∷ q ∷ r ∷ []) x h = refl
six_of-long (p ∷ q ∷ r ∷ s ∷ []) x h = refl
six_of-long (p ∷ q ∷ r ∷ s ∷ t ∷ []) x h = refl
six_of-long (p ∷ q ∷ r ∷ s ∷ t ∷ u ∷ []) x h = cc h
six_of-long (p ∷ q ∷ r ∷ s ∷ t ∷ u ∷ v ∷ rest) x h = refl

pub seventh : {X : Type 0} (f : X → List ℕ) (r : Option X) (fields : List (List ℕ)) → is_some r ≡ true → option_map f r ≡ field_at fields 6 → None ≡ six_of fields
seventh f None fields is e = cc is
seventh f (Some x) fields is e = six_of-long fields (f x) e

pub no_seventh : {X : Type 0} (f : X → List ℕ) (r : Option X) (fields : List (List ℕ)) → is_some r ≡ false → option_map f r ≡ field_at fields 6 → None ≡ field_at fields 6
no_seventh f None fields is e = e
no_seventh f (Some x) fields is e = cc is

-- Seats by whether each is taken and who stands there then.
use Rattle.std.proofs.Common.{◌≡◌, ℕ, zero, suc, true, false, Bool, List, [], ◌∷◌, length, get_or, set, replicate, Some, None, refl, sym, ap, arith}
use Rattle.std.specs.Option.{is_some}
use Rattle.bp_references.specs.Candidates.{Candidate}
use Rattle.bp_replacer.specs.Seats.{seat_at}
use Rattle.bp_replacer.specs.SeatList.{seated_by}

pub length_seated : (ts : List Bool) (es : List Candidate) → length ts ≡ length es → length (seated_by ts es) ≡ length ts
length_seated [] es len = refl
length_seated (t ∷ ts) [] len = sym len
length_seated (true ∷ ts) (e ∷ es) len = ap suc (length_seated ts es (omega arith))
length_seated (false ∷ ts) (e ∷ es) len = ap suc (length_seated ts es (omega arith))

pub taken_seated : (ts : List Bool) (es : List Candidate) (k : ℕ) → length ts ≡ length es → is_some (seat_at (seated_by ts es) k) ≡ get_or ts k false
taken_seated [] es k len = refl
taken_seated (t ∷ ts) [] k len = absurd (omega arith)
taken_seated (true ∷ ts) (e ∷ es) zero len = refl
taken_seated (false ∷ ts) (e ∷ es) zero len = refl
taken_seated (true ∷ ts) (e ∷ es) (suc k) len = taken_seated ts es k (omega arith)
taken_seated (false ∷ ts) (e ∷ es) (suc k) len = taken_seated ts es k (omega arith)

pub entry_seated : (ts : List Bool) (es : List Candidate) (k : ℕ) (d : Candidate) → length ts ≡ length es → (seat_at (seated_by ts es) k ≡ None → ⊥) → seat_at (seated_by ts es) k ≡ Some (get_or es k d)
entry_seated [] es k d len there = absurd (there refl)
entry_seated (t ∷ ts) [] k d len there = absurd (omega arith)
entry_seated (true ∷ ts) (e ∷ es) zero d len there = refl
entry_seated (false ∷ ts) (e ∷ es) zero d len there = absurd (there refl)
entry_seated (true ∷ ts) (e ∷ es) (suc k) d len there = entry_seated ts es k d (omega arith) there
entry_seated (false ∷ ts) (e ∷ es) (suc k) d len there = entry_seated ts es k d (omega arith) there

pub enter_seated : (ts : List Bool) (es : List Candidate) (k : ℕ) (e : Candidate) → length ts ≡ length es → seated_by (set ts k true) (set es k e) ≡ set (seated_by ts es) k (Some e)
enter_seated [] es k e len = refl
enter_seated (t ∷ ts) [] k e len = absurd (omega arith)
enter_seated (true ∷ ts) (x ∷ es) zero e len = refl
enter_seated (false ∷ ts) (x ∷ es) zero e len = refl
enter_seated (true ∷ ts) (x ∷ es) (suc k) e len = ap (λ xs. Some x ∷ xs) (enter_seated ts es k e (omega arith))
enter_seated (false ∷ ts) (x ∷ es) (suc k) e len = ap (λ xs. None ∷ xs) (enter_seated ts es k e (omega arith))

pub leave_seated : (ts : List Bool) (es : List Candidate) (k : ℕ) → length ts ≡ length es → seated_by (set ts k false) es ≡ set (seated_by ts es) k None
leave_seated [] es k len = refl
leave_seated (t ∷ ts) [] k len = absurd (omega arith)
leave_seated (true ∷ ts) (x ∷ es) zero len = refl
leave_seated (false ∷ ts) (x ∷ es) zero len = refl
leave_seated (true ∷ ts) (x ∷ es) (suc k) len = ap (λ xs. Some x ∷ xs) (leave_seated ts es k (omega arith))
leave_seated (false ∷ ts) (x ∷ es) (suc k) len = ap (λ xs. None ∷ xs) (leave_seated ts es k (omega arith))

pub nobody_seated : (n : ℕ) (es : List Candidate) → length es ≡ n → seated_by (replicate n false) es ≡ replicate n None
nobody_seated zero es len = refl
nobody_seated (suc n) [] len = absurd (omega arith)
nobody_seated (suc n) (e ∷ es) len = ap (λ xs. None ∷ xs) (nobody_seated n es (omega arith))

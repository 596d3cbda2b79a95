-- A frame tells its record, and zeros are none.
use Rattle.std.proofs.Common.{◌≡◌, ◌≢◌, ℕ, ◌+◌, ◌*◌, ◌%◌, ◌-◌, ◌^◌, ◌<◌, ◌≤◌, List, [], ◌∷◌, ◌++◌, length, take, drop, replicate, get_or, refl, sym, ap, subst, ◌∙◌, append_assoc, arith, length-append}
use Rattle.std.proofs.Common.{Fits, w8}
use Rattle.std.specs.Int.{w64, from_le_bytes, to_le_bytes}
use Rattle.std.proofs.lemmas.Nat.{le_bytes_8, from_le_bytes-to_le_bytes_8}
use Rattle.std.proofs.lemmas.List.{take_at, drop_at, take-append-drop, length-take, get_or-take, get_or_past, take-replicate, drop-replicate, length-replicate, append_cancel_left}
use Rattle.std.proofs.lemmas.Bool.{cases_lt}
use Rattle.std.proofs.Common.{inl, inr}
use Rattle.example_log.specs.Frames.{number, summed, checksum, frame, IsRecord, NoFrame}

-- ---- numbers

pub length-number : (n : ℕ) → length (number n) ≡ 8
unfolding number
length-number n = refl

number-read : (n : ℕ) → n < 2 ^ 64 → from_le_bytes w64 (number n) ≡ n
unfolding number
number-read n fits = from_le_bytes-to_le_bytes_8 n fits

bytes-front : (bytes : List ℕ) → ((i : ℕ) → get_or bytes i 0 < 256) → (i : ℕ) → get_or (take 8 bytes) i 0 < 256
bytes-front bytes fits i =
    elim (cases_lt i 8) [
      | inl lt ↦ rw (get_or-take 8 bytes i 0 lt) (fits i)
      | inr le ↦ rw (get_or_past (take 8 bytes) i 0 (omega (arith, length-take 8 bytes))) (omega arith)
    ]

pub number-split : (bytes rest : List ℕ) (n : ℕ) → 8 ≤ length bytes → ((i : ℕ) → Fits w8 (get_or bytes i 0)) → n ≡ from_le_bytes w64 (take 8 bytes) → rest ≡ drop 8 bytes → bytes ≡ number n ++ rest
unfolding number
number-split bytes rest n long fits is behind =
    sym (ap (λ (t : List ℕ). t ++ drop 8 bytes) (le_bytes_8 (take 8 bytes) n (omega (arith, length-take 8 bytes)) (bytes-front bytes (λ i. omega (arith, fits i))) is) ∙ take-append-drop 8 bytes) ∙ ap (λ (t : List ℕ). number n ++ t) (sym behind)

pub number-same : (a b : ℕ) (r s : List ℕ) → a < 2 ^ 64 → b < 2 ^ 64 → number a ++ r ≡ number b ++ s → (a ≡ b) × (r ≡ s)
number-same a b r s fa fb e =
    let fronts : number a ≡ number b = sym (take_at (number a) r 8 (length-number a)) ∙ ap (take 8) e ∙ take_at (number b) s 8 (length-number b) in (
      sym (number-read a fa) ∙ ap (from_le_bytes w64) fronts ∙ number-read b fb,
      sym (drop_at (number a) r 8 (length-number a)) ∙ ap (drop 8) e ∙ drop_at (number b) s 8 (length-number b),
    )

-- what was put behind bytes, number by number
pub put-parts : (old one two three four : List ℕ) (lsn sum : ℕ) (payload : List ℕ) → one ≡ old ++ to_le_bytes w64 (length payload) → two ≡ one ++ to_le_bytes w64 lsn → three ≡ two ++ to_le_bytes w64 sum → four ≡ three ++ payload
    → sum ≡ checksum lsn payload → four ≡ old ++ frame lsn payload
unfolding number
put-parts old one two three four lsn sum payload a b c d e =
    let n = to_le_bytes w64 (length payload) in
    let l = to_le_bytes w64 lsn in
    let s = to_le_bytes w64 sum in
    d ∙ ap (λ (t : List ℕ). t ++ payload) (c ∙ ap (λ (t : List ℕ). t ++ s) (b ∙ ap (λ (t : List ℕ). t ++ l) a))
    ∙ regroup old n l s payload ∙ ap (λ (k : ℕ). old ++ (n ++ (l ++ (to_le_bytes w64 k ++ payload)))) e
  where
    regroup : (o a b c d : List ℕ) → (((o ++ a) ++ b) ++ c) ++ d ≡ o ++ (a ++ (b ++ (c ++ d)))
    regroup o a b c d = simp append_assoc

-- ---- checksums

summed-fits : (sum : ℕ) (bytes : List ℕ) → sum < 2 ^ 64 → summed sum bytes < 2 ^ 64
summed-fits sum [] fits = fits
summed-fits sum (b ∷ bytes) fits = summed-fits ((sum * 1099511628211 % 2 ^ 64 + b) % 2 ^ 64) bytes (omega arith)

pub checksum-fits : (lsn : ℕ) (payload : List ℕ) → lsn < 2 ^ 64 → checksum lsn payload < 2 ^ 64
unfolding checksum
checksum-fits lsn payload fits = summed-fits lsn payload fits

-- ---- frames

pub length-frame : (lsn : ℕ) (payload : List ℕ) → length (frame lsn payload) ≡ 24 + length payload
length-frame lsn payload =
    let a = number (length payload) in
    let b = number lsn in
    let c = number (checksum lsn payload) in
    omega (arith, length-append a (b ++ (c ++ payload)), length-append b (c ++ payload), length-append c payload, length-number (length payload), length-number lsn, length-number (checksum lsn payload))

-- the parts of a frame, one after the other
pub frame-parts : (lsn : ℕ) (payload rest : List ℕ) → frame lsn payload ++ rest ≡ number (length payload) ++ (number lsn ++ (number (checksum lsn payload) ++ (payload ++ rest)))
frame-parts lsn payload rest = simp append_assoc

-- what stands behind the numbers at the front of a frame
pub behind-one : (bytes : List ℕ) (lsn : ℕ) (payload rest : List ℕ) (a : ℕ) (r : List ℕ) → IsRecord lsn payload → bytes ≡ frame lsn payload ++ rest → bytes ≡ number a ++ r → a < 2 ^ 64
    → (a ≡ length payload) × (r ≡ number lsn ++ (number (checksum lsn payload) ++ (payload ++ rest)))
behind-one bytes lsn payload rest a r is e told fits =
    number-same a (length payload) r (number lsn ++ (number (checksum lsn payload) ++ (payload ++ rest))) fits is.size (sym told ∙ e ∙ frame-parts lsn payload rest)

pub behind-two : (bytes : List ℕ) (lsn : ℕ) (payload rest : List ℕ) (a b : ℕ) (r s : List ℕ) → IsRecord lsn payload → bytes ≡ frame lsn payload ++ rest → bytes ≡ number a ++ r → r ≡ number b ++ s → a < 2 ^ 64 → b < 2 ^ 64
    → (a ≡ length payload) × (b ≡ lsn) × (s ≡ number (checksum lsn payload) ++ (payload ++ rest))
behind-two bytes lsn payload rest a b r s is e told told₂ fa fb =
    let one = behind-one bytes lsn payload rest a r is e told fa in
    let two = number-same b lsn s (number (checksum lsn payload) ++ (payload ++ rest)) fb is.fits (sym told₂ ∙ one.1) in
    (one.0, two.0, two.1)

pub behind-three : (bytes : List ℕ) (lsn : ℕ) (payload rest : List ℕ) (a b c : ℕ) (r s t : List ℕ) → IsRecord lsn payload → bytes ≡ frame lsn payload ++ rest
    → bytes ≡ number a ++ r → r ≡ number b ++ s → s ≡ number c ++ t → a < 2 ^ 64 → b < 2 ^ 64 → c < 2 ^ 64
    → (a ≡ length payload) × (b ≡ lsn) × (c ≡ checksum lsn payload) × (t ≡ payload ++ rest)
behind-three bytes lsn payload rest a b c r s t is e told told₂ told₃ fa fb fc =
    let two = behind-two bytes lsn payload rest a b r s is e told told₂ fa fb in
    let three = number-same c (checksum lsn payload) t (payload ++ rest) fc (checksum-fits lsn payload is.fits) (sym told₃ ∙ two.2) in
    (two.0, two.1, three.0, three.1)

pub frame-same : (a b : ℕ) (x y r s : List ℕ) → IsRecord a x → IsRecord b y → frame a x ++ r ≡ frame b y ++ s → (a ≡ b) × (x ≡ y) × (r ≡ s)
frame-same a b x y r s fa fb e =
    let sum = checksum a x in
    let h = behind-three (frame a x ++ r) b y s (length x) a sum (number a ++ (number sum ++ (x ++ r))) (number sum ++ (x ++ r)) (x ++ r) fb e (frame-parts a x r) refl refl fa.size fa.fits (checksum-fits a x fa.fits) in
    let same : x ≡ y = sym (take_at x r (length x) refl) ∙ ap (take (length x)) h.3 ∙ take_at y s (length x) (sym h.0) in
    (h.1, same, append_cancel_left y r s (subst (λ (z : List ℕ). z ++ r ≡ y ++ s) same h.3))

-- ---- where no frame is

pub none-short : (bytes : List ℕ) → length bytes < 8 → NoFrame bytes
none-short bytes short = λ lsn payload rest is e. omega (arith, ap length e, length-append (frame lsn payload) rest, length-frame lsn payload)

pub none-one : (bytes : List ℕ) (a : ℕ) (r : List ℕ) → bytes ≡ number a ++ r → a < 2 ^ 64 → length r < 8 → NoFrame bytes
none-one bytes a r told fa short = λ lsn payload rest is e.
    (let more = number (checksum lsn payload) ++ (payload ++ rest) in
    omega (arith, ap length (behind-one bytes lsn payload rest a r is e told fa).1, length-append (number lsn) more, length-number lsn))

pub none-two : (bytes : List ℕ) (a b : ℕ) (r s : List ℕ) → bytes ≡ number a ++ r → r ≡ number b ++ s → a < 2 ^ 64 → b < 2 ^ 64 → length s < 8 → NoFrame bytes
none-two bytes a b r s told told₂ fa fb short = λ lsn payload rest is e.
    (let sum = checksum lsn payload in
    omega (arith, ap length (behind-two bytes lsn payload rest a b r s is e told told₂ fa fb).2, length-append (number sum) (payload ++ rest), length-number sum))

module _ (bytes : List ℕ) (a b c : ℕ) (r s t : List ℕ) (told : bytes ≡ number a ++ r) (told₂ : r ≡ number b ++ s) (told₃ : s ≡ number c ++ t) (fa : a < 2 ^ 64) (fb : b < 2 ^ 64) (fc : c < 2 ^ 64) where
  parts : (lsn : ℕ) (payload rest : List ℕ) → IsRecord lsn payload → bytes ≡ frame lsn payload ++ rest → (a ≡ length payload) × (b ≡ lsn) × (c ≡ checksum lsn payload) × (t ≡ payload ++ rest)
  parts lsn payload rest is e = behind-three bytes lsn payload rest a b c r s t is e told told₂ told₃ fa fb fc

  pub none-zero : b ≡ 0 → NoFrame bytes
  none-zero z = λ lsn payload rest is e. (let h = parts lsn payload rest is e in let p = is.positive in omega (arith, h.1))

  pub none-cut : length t < a → NoFrame bytes
  none-cut short = λ lsn payload rest is e. (let h = parts lsn payload rest is e in omega (arith, h.0, ap length h.3, length-append payload rest))

  pub none-summed : checksum b (take a t) ≢ c → NoFrame bytes
  none-summed wrong = λ lsn payload rest is e.
      (let h = parts lsn payload rest is e in
      let front : take a t ≡ payload = ap (take a) h.3 ∙ take_at payload rest a (sym h.0) in
      wrong (ap (λ (n : ℕ). checksum n (take a t)) h.1 ∙ ap (checksum lsn) front ∙ sym h.2))

  pub some-framed : a ≤ length t → checksum b (take a t) ≡ c → bytes ≡ frame b (take a t) ++ drop a t
  some-framed long right =
      let size : length (take a t) ≡ a = omega (arith, length-take a t) in
      let ends : t ≡ take a t ++ drop a t = sym (take-append-drop a t) in
      let inner : r ≡ number b ++ (number (checksum b (take a t)) ++ (take a t ++ drop a t)) =
      told₂ ∙ ap (λ (z : List ℕ). number b ++ z) (told₃ ∙ ap (λ (z : List ℕ). number c ++ z) ends ∙ ap (λ (n : ℕ). number n ++ (take a t ++ drop a t)) (sym right)) in
      told ∙ ap (λ (z : List ℕ). number a ++ z) inner
      ∙ ap (λ (n : ℕ). number n ++ (number b ++ (number (checksum b (take a t)) ++ (take a t ++ drop a t)))) (sym size)
      ∙ sym (frame-parts b (take a t) (drop a t))

zeros-number : (n k : ℕ) (r : List ℕ) → n < 2 ^ 64 → replicate k 0 ≡ number n ++ r → n ≡ 0
zeros-number n k r fits e =
    let long : 8 ≤ k = omega (arith, ap length e, length-append (number n) r, length-number n, length-replicate {A = ℕ} k 0) in
    let zeros : replicate 8 0 ≡ number n = sym (take-replicate 8 k 0 long) ∙ ap (take 8) e ∙ take_at (number n) r 8 (length-number n) in
    sym (number-read n fits) ∙ ap (from_le_bytes w64) (sym zeros)

pub zeros-none : (k : ℕ) → NoFrame (replicate k 0)
zeros-none k = λ lsn payload rest is e.
    (let more = number lsn ++ (number (checksum lsn payload) ++ (payload ++ rest)) in
    let told = e ∙ frame-parts lsn payload rest in
    let behind : replicate (k - 8) 0 ≡ more = sym (drop-replicate 8 k 0) ∙ ap (drop 8) told ∙ drop_at (number (length payload)) more 8 (length-number (length payload)) in
    let z = zeros-number lsn (k - 8) (number (checksum lsn payload) ++ (payload ++ rest)) is.fits behind in
    let p = is.positive in
    omega (arith, z))

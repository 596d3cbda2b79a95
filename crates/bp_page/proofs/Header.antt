-- A slot of version 2 and its parts determine each other.
use Rattle.std.proofs.Common.{◌≡◌, ℕ, zero, suc, ◌+◌, ◌*◌, ◌/◌, ◌%◌, ◌^◌, ◌<◌, ◌≤◌, List, [], ◌∷◌, ◌++◌, length, take, drop, slice_index, refl, sym, ap, ap₂, ◌∙◌, arith, append_assoc}
use Rattle.std.proofs.Math.Nat.{div-div-eq-div-mul, pow-succ'}
use Rattle.std.proofs.lemmas.List.{drop-drop, take-append-drop, get_or-drop, length-drop}
use Rattle.std.proofs.Math.Seq.{drop-append_seam}
use Rattle.std.specs.Int.{byte_at, bytes_low_first}
use Rattle.byteorder.specs.Endian.{little_from, little_number}
use Rattle.byteorder.specs.Numbers.{little_from-cons, little_number-reads_back, length-bytes_low_first}
use Rattle.bp_page.specs.Slots.{headed_slot}

-- every element is a byte
abbrev pub IsBytes : List ℕ → Type 0
IsBytes xs = (i : ℕ) → slice_index xs i < 256

-- a byte below a number moves its bytes one place up
byte_shift : (i b y : ℕ) → b < 256 → byte_at (suc i) (b + 256 * y) ≡ byte_at i y
byte_shift zero b y h = omega arith
byte_shift (suc k) b y h =
    let high : (b + 256 * y) / 256 ≡ y = omega arith in
    let split : (b + 256 * y) / 256 ^ suc (suc k) ≡ (b + 256 * y) / 256 / 256 ^ suc k =
    ap (λ (p : ℕ). (b + 256 * y) / p) (pow-succ' 256 (suc k)) ∙ sym (div-div-eq-div-mul (b + 256 * y) 256 (256 ^ suc k)) in
    ap (λ (q : ℕ). q % 256) (split ∙ ap (λ (q : ℕ). q / 256 ^ suc k) high)

bytes_shift : (i n b y : ℕ) → b < 256 → bytes_low_first (suc i) n (b + 256 * y) ≡ bytes_low_first i n y
bytes_shift i zero b y h = refl
bytes_shift i (suc n) b y h = ap₂ (λ (x : ℕ) (xs : List ℕ). x ∷ xs) (byte_shift i b y h) (bytes_shift (suc i) n b y h)

-- the bytes of the number that bytes read as are these bytes
pub little_bytes-little_number : (n : ℕ) (xs : List ℕ) → n ≤ length xs → IsBytes xs → bytes_low_first 0 n (little_from 0 n xs) ≡ take n xs
little_bytes-little_number zero xs fits bytes = refl
little_bytes-little_number (suc n) [] fits bytes = absurd (omega arith)
little_bytes-little_number (suc n) (b ∷ rest) fits bytes =
    let byte : b < 256 = bytes 0 in
    let moved = little_from-cons 0 n b rest in
    let low : (b + 256 * little_from 0 n rest) % 256 ≡ b = omega arith in
    let high = bytes_shift 0 n b (little_from 0 n rest) byte in
    let ih = little_bytes-little_number n rest (omega arith) (λ i. bytes (suc i)) in
    rw moved (ap₂ (λ (x : ℕ) (xs : List ℕ). x ∷ xs) low (high ∙ ih))

-- the numbers at the front of bytes, and the rest, spell the bytes
number_first : (n : ℕ) (xs : List ℕ) → n ≤ length xs → IsBytes xs → xs ≡ bytes_low_first 0 n (little_from 0 n xs) ++ drop n xs
number_first n xs fits bytes =
    sym (ap (λ (t : List ℕ). t ++ drop n xs) (little_bytes-little_number n xs fits bytes) ∙ take-append-drop n xs)

two_numbers_first : (n m : ℕ) (xs : List ℕ) → n + m ≤ length xs → IsBytes xs
    → xs ≡ (bytes_low_first 0 n (little_from 0 n xs) ++ bytes_low_first 0 m (little_from 0 m (drop n xs))) ++ drop (n + m) xs
two_numbers_first n m xs fits bytes =
    let size = length-drop n xs in
    let below : IsBytes (drop n xs) = λ i. let e = get_or-drop n xs i 0 in let h = bytes (n + i) in omega arith in
    let rest = number_first m (drop n xs) (omega arith) below in
    number_first n xs (omega arith) bytes
    ∙ ap (λ (t : List ℕ). bytes_low_first 0 n (little_from 0 n xs) ++ t) (rest ∙ ap (λ (t : List ℕ). bytes_low_first 0 m (little_from 0 m (drop n xs)) ++ t) (drop-drop m n xs))
    ∙ sym (append_assoc (bytes_low_first 0 n (little_from 0 n xs)) (bytes_low_first 0 m (little_from 0 m (drop n xs))) (drop (n + m) xs))

drop_front : (n : ℕ) (front rest : List ℕ) → length front ≡ n → drop n (front ++ rest) ≡ rest
drop_front n front rest e = rw (← e) (drop-append_seam front rest)

two_numbers_back : (n m x y : ℕ) (rest : List ℕ) → x < 256 ^ n → y < 256 ^ m
    → (little_from 0 n ((bytes_low_first 0 n x ++ bytes_low_first 0 m y) ++ rest) ≡ x)
    × (little_from 0 m (drop n ((bytes_low_first 0 n x ++ bytes_low_first 0 m y) ++ rest)) ≡ y)
    × (drop (n + m) ((bytes_low_first 0 n x ++ bytes_low_first 0 m y) ++ rest) ≡ rest)
two_numbers_back n m x y rest p l =
    let a = bytes_low_first 0 n x in
    let b = bytes_low_first 0 m y in
    let regrouped : (a ++ b) ++ rest ≡ a ++ (b ++ rest) = append_assoc a b rest in
    let after = ap (drop n) regrouped ∙ drop_front n a (b ++ rest) (length-bytes_low_first 0 n x) in (
      ap (little_from 0 n) regrouped ∙ little_number-reads_back n x (b ++ rest) p,
      ap (little_from 0 m) after ∙ little_number-reads_back m y rest l,
      sym (drop-drop m n ((a ++ b) ++ rest)) ∙ ap (drop m) after ∙ drop_front m b rest (length-bytes_low_first 0 m y),
    )

spelled : (xs : List ℕ) → 16 ≤ length xs → IsBytes xs → xs ≡ headed_slot (little_number 8 xs) (little_number 8 (drop 8 xs)) (drop 16 xs)
unfolding headed_slot
spelled xs fits bytes = two_numbers_first 8 8 xs fits bytes

-- what a slot holds is spelled so
pub headed_slot-of : (page lsn : ℕ) (image xs : List ℕ) → 16 ≤ length xs → IsBytes xs
    → little_number 8 xs ≡ page → little_number 8 (drop 8 xs) ≡ lsn → drop 16 xs ≡ image → xs ≡ headed_slot page lsn image
headed_slot-of page lsn image xs fits bytes p l i = rw (← p, ← l, ← i) (spelled xs fits bytes)

parts_read : (page lsn : ℕ) (image : List ℕ) → page < 2 ^ 64 → lsn < 2 ^ 64
    → (little_number 8 (headed_slot page lsn image) ≡ page) × (little_number 8 (drop 8 (headed_slot page lsn image)) ≡ lsn) × (drop 16 (headed_slot page lsn image) ≡ image)
unfolding headed_slot
parts_read page lsn image p l = two_numbers_back 8 8 page lsn image p l

-- what is spelled so is read so
pub headed_slot-parts : (page lsn : ℕ) (image xs : List ℕ) → page < 2 ^ 64 → lsn < 2 ^ 64 → xs ≡ headed_slot page lsn image
    → (little_number 8 xs ≡ page) × (little_number 8 (drop 8 xs) ≡ lsn) × (drop 16 xs ≡ image)
headed_slot-parts page lsn image xs p l e = rw e (parts_read page lsn image p l)

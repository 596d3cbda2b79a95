-- The list that has an entry for each page, as the places of the pages that have a frame.
use Rattle.std.proofs.Common.{◌≡◌, ◌≢◌, ℕ, zero, suc, ◌+◌, ◌<◌, ◌≤◌, List, [], ◌∷◌, length, get_or, set, replicate, refl, ap, ◌∙◌, subst, arith}
use Rattle.std.specs.List.{insert, remove}
use Rattle.bp_frames.specs.Tables.{Place, places_from}
use Rattle.bp_frames.specs.Rising.{IsRisingBy, IsPlaceFor, StandsAt, StandsNowhere}
use Rattle.bp_frames.proofs.Rising.{stands-at}

abbrev pub page_of : Place → ℕ
page_of p = p.page

abbrev pub place_at : ℕ → ℕ → Place
place_at page slot = record { page = page; slot = slot }

-- how many of the first pages have a frame
abbrev pub rank : List ℕ → ℕ → ℕ
rank [] k = 0
rank (w ∷ ws) zero = 0
rank (zero ∷ ws) (suc k) = rank ws k
rank (suc slot ∷ ws) (suc k) = suc (rank ws k)

-- a page from n on
from : (n : ℕ) (ws : List ℕ) (k : ℕ) (d : Place) → k < length (places_from n ws) → n ≤ (get_or (places_from n ws) k d).page
from n [] k d lt = absurd (omega arith)
from n (zero ∷ ws) k d lt = omega (arith, from (suc n) ws k d lt)
from n (suc slot ∷ ws) zero d lt = omega arith
from n (suc slot ∷ ws) (suc k) d lt = omega (arith, from (suc n) ws k d (omega arith))

pub rising-places : (n : ℕ) (ws : List ℕ) → IsRisingBy page_of (places_from n ws)
rising-places n [] i j d less lt = absurd (omega arith)
rising-places n (zero ∷ ws) i j d less lt = rising-places (suc n) ws i j d less lt
rising-places n (suc slot ∷ ws) zero zero d less lt = absurd (omega arith)
rising-places n (suc slot ∷ ws) zero (suc j) d less lt = omega (arith, from (suc n) ws j d (omega arith))
rising-places n (suc slot ∷ ws) (suc i) zero d less lt = absurd (omega arith)
rising-places n (suc slot ∷ ws) (suc i) (suc j) d less lt = rising-places (suc n) ws i j d (omega arith) (omega arith)

-- where a page stands or would stand
pub place-rank : (n : ℕ) (ws : List ℕ) (k : ℕ) → IsPlaceFor page_of (places_from n ws) (n + k) (rank ws k)
place-rank n [] k = record { in_range = omega arith; below = λ i d lt. absurd (omega arith); not_below = λ i d le lt. absurd (omega arith) }
place-rank n (w ∷ ws) zero = record { in_range = omega arith; below = λ i d lt. absurd (omega arith); not_below = λ i d le lt. omega (arith, from n (w ∷ ws) i d lt) }
place-rank n (zero ∷ ws) (suc k) = subst (λ m. IsPlaceFor page_of (places_from (suc n) ws) m (rank ws k)) (omega arith) (place-rank (suc n) ws k)
place-rank n (suc slot ∷ ws) (suc k) =
    let later = place-rank (suc n) ws k in
    record {
      in_range = omega (arith, later.in_range);
      below = below later;
      not_below = not_below later;
    }
  where
    below : IsPlaceFor page_of (places_from (suc n) ws) (suc n + k) (rank ws k) → (i : ℕ) (d : Place) → i < suc (rank ws k) → (get_or (places_from n (suc slot ∷ ws)) i d).page < n + suc k
    below later zero d lt = omega arith
    below later (suc i) d lt = omega (arith, later.below i d (omega arith))

    not_below : IsPlaceFor page_of (places_from (suc n) ws) (suc n + k) (rank ws k) → (i : ℕ) (d : Place) → suc (rank ws k) ≤ i → i < length (places_from n (suc slot ∷ ws)) → n + suc k ≤ (get_or (places_from n (suc slot ∷ ws)) i d).page
    not_below later zero d le lt = absurd (omega arith)
    not_below later (suc i) d le lt = omega (arith, later.not_below i d (omega arith) (omega arith))

-- the place of a page that has a frame
pub rank-within : (n : ℕ) (ws : List ℕ) (k s : ℕ) → get_or ws k 0 ≡ suc s → rank ws k < length (places_from n ws)
rank-within n [] k s is = absurd (omega (arith, is))
rank-within n (zero ∷ ws) zero s is = absurd (omega (arith, is))
rank-within n (suc slot ∷ ws) zero s is = omega arith
rank-within n (zero ∷ ws) (suc k) s is = rank-within (suc n) ws k s is
rank-within n (suc slot ∷ ws) (suc k) s is = omega (arith, rank-within (suc n) ws k s is)

pub at-rank : (n : ℕ) (ws : List ℕ) (k s : ℕ) (d : Place) → get_or ws k 0 ≡ suc s → get_or (places_from n ws) (rank ws k) d ≡ place_at (n + k) s
at-rank n [] k s d is = absurd (omega (arith, is))
at-rank n (zero ∷ ws) zero s d is = absurd (omega (arith, is))
at-rank n (suc slot ∷ ws) zero s d is =
    let same : slot ≡ s = omega (arith, is) in
    let own : n ≡ n + 0 = omega arith in
    λ i. place_at (own i) (same i)
at-rank n (zero ∷ ws) (suc k) s d is = at-rank (suc n) ws k s d is ∙ (let e : suc n + k ≡ n + suc k = omega arith in ap (λ m. place_at m s) e)
at-rank n (suc slot ∷ ws) (suc k) s d is = at-rank (suc n) ws k s d is ∙ (let e : suc n + k ≡ n + suc k = omega arith in ap (λ m. place_at m s) e)

-- a page with no frame has no place
pub no-place : (n : ℕ) (ws : List ℕ) (k : ℕ) → get_or ws k 0 ≡ 0 → (i : ℕ) (d : Place) → i < length (places_from n ws) → (get_or (places_from n ws) i d).page ≢ n + k
no-place n [] k is i d lt = absurd (omega arith)
no-place n (zero ∷ ws) zero is i d lt = λ e. absurd (omega (arith, e, from (suc n) ws i d lt))
no-place n (suc slot ∷ ws) zero is i d lt = absurd (omega (arith, is))
no-place n (zero ∷ ws) (suc k) is i d lt = λ e. no-place (suc n) ws k is i d lt (omega (arith, e))
no-place n (suc slot ∷ ws) (suc k) is zero d lt = λ e. absurd (omega (arith, e))
no-place n (suc slot ∷ ws) (suc k) is (suc i) d lt = λ e. no-place (suc n) ws k is i d (omega arith) (omega (arith, e))

-- a page more, and a page fewer
pub placed : (n : ℕ) (ws : List ℕ) (k s : ℕ) → k < length ws → get_or ws k 0 ≡ 0 → places_from n (set ws k (suc s)) ≡ insert (places_from n ws) (rank ws k) (place_at (n + k) s)
placed n [] k s lt is = absurd (omega arith)
placed n (suc slot ∷ ws) zero s lt is = absurd (omega (arith, is))
placed n (zero ∷ ws) zero s lt is = let own : n ≡ n + 0 = omega arith in ap (λ m. place_at m s ∷ places_from (suc n) ws) own
placed n (zero ∷ ws) (suc k) s lt is = placed (suc n) ws k s (omega arith) is ∙ (let e : suc n + k ≡ n + suc k = omega arith in ap (λ m. insert (places_from (suc n) ws) (rank ws k) (place_at m s)) e)
placed n (suc slot ∷ ws) (suc k) s lt is = ap (λ ps. place_at n slot ∷ ps) (placed (suc n) ws k s (omega arith) is ∙ (let e : suc n + k ≡ n + suc k = omega arith in ap (λ m. insert (places_from (suc n) ws) (rank ws k) (place_at m s)) e))

pub unplaced : (n : ℕ) (ws : List ℕ) (k s : ℕ) → get_or ws k 0 ≡ suc s → places_from n (set ws k 0) ≡ remove (places_from n ws) (rank ws k)
unplaced n [] k s is = absurd (omega (arith, is))
unplaced n (zero ∷ ws) zero s is = absurd (omega (arith, is))
unplaced n (suc slot ∷ ws) zero s is = refl
unplaced n (zero ∷ ws) (suc k) s is = unplaced (suc n) ws k s is
unplaced n (suc slot ∷ ws) (suc k) s is = ap (λ ps. place_at n slot ∷ ps) (unplaced (suc n) ws k s is)

-- a place is of a page that has a frame
pub place-known : (n : ℕ) (ws : List ℕ) (k : ℕ) (d : Place) → k < length (places_from n ws) → (j : ℕ) × ((get_or (places_from n ws) k d).page ≡ n + j) × (get_or ws j 0 ≡ (get_or (places_from n ws) k d).slot + 1)
place-known n [] k d lt = absurd (omega arith)
place-known n (zero ∷ ws) k d lt = let later = place-known (suc n) ws k d lt in (suc later.0, omega (arith, later.1), later.2)
place-known n (suc slot ∷ ws) zero d lt = (0, omega arith, omega arith)
place-known n (suc slot ∷ ws) (suc k) d lt = let later = place-known (suc n) ws k d (omega arith) in (suc later.0, omega (arith, later.1), later.2)

pub own-place : (ws : List ℕ) (page : ℕ) → IsPlaceFor page_of (places_from 0 ws) page (rank ws page)
own-place ws page = let own : 0 + page ≡ page = omega arith in subst (λ m. IsPlaceFor page_of (places_from 0 ws) m (rank ws page)) own (place-rank 0 ws page)

module _ (ws : List ℕ) (page slot : ℕ) (is : get_or ws page 0 ≡ slot + 1) where
  is-suc : get_or ws page 0 ≡ suc slot
  is-suc = is ∙ omega arith

  pub at-place : (d : Place) → get_or (places_from 0 ws) (rank ws page) d ≡ place_at page slot
  at-place d = at-rank 0 ws page slot d is-suc ∙ (let own : 0 + page ≡ page = omega arith in ap (λ m. place_at m slot) own)

  pub place-stands : StandsAt page_of (places_from 0 ws) page (rank ws page)
  place-stands = stands-at page_of (places_from 0 ws) (rising-places 0 ws) page (rank ws page) (place_at page slot) (own-place ws page) (rank-within 0 ws page slot is-suc) (ap page_of (at-place (place_at page slot)))

pub stands-no-place : (ws : List ℕ) (page : ℕ) → get_or ws page 0 ≡ 0 → StandsNowhere page_of (places_from 0 ws) page
stands-no-place ws page is i d lt = λ e. no-place 0 ws page is i d lt (e ∙ omega arith)

-- no page has a frame
pub no-places : (n pages : ℕ) → places_from n (replicate pages 0) ≡ []
no-places n zero = refl
no-places n (suc pages) = no-places (suc n) pages

-- How a list of references is read, line by line.
use Rattle.std.proofs.Common.{◌≡◌, refl, sym, ◌∙◌, ap, subst, ℕ, zero, suc, ◌+◌, ◌<◌, ◌≤◌, ◌==◌, if◌then◌else◌, arith, inl, Bool, true, false, List, [], ◌∷◌, ◌++◌, length, length-append, map, Option, Some, None, Result, Ok, Err}
use Rattle.std.specs.Prelude.{IfSome, IsErrAnd}
use Rattle.std.specs.Io.BufRead.{drop_through, strip_last, take_through, DropsThrough}
use Rattle.bp_sweep.specs.declared.dense.Gathered.{Gathered}
use Rattle.bp_sweep.specs.declared.faults.ReferenceFault.{ReferenceFault}
use Rattle.bp_sweep.specs.Dense.{Pages}
use Rattle.bp_sweep.specs.References.{IsOutside, Said, most_references, text_said}
use Rattle.bp_sweep.specs.Gathering.{Gathers, Holds, pages_gathered}
use Rattle.bp_sweep.specs.Lines.{FindsLine, IsList, after_line, line_in, lines_from, lines_said}
use Rattle.bp_sweep.proofs.Gathering.{said-more, gathers-all, gathers-fault}

-- ---- lines

-- what follows a line is no longer than the text
after-shorter : (text : List ℕ) → length (drop_through 10 text) ≤ length text
after-shorter [] = omega arith
after-shorter (x ∷ xs) = go (after-shorter xs) (x == 10)
  where
    go : length (drop_through 10 xs) ≤ length xs → (b : Bool) → length (if b then xs else drop_through 10 xs) ≤ length (x ∷ xs)
    go shorter true = omega arith
    go shorter false = omega (arith, shorter)

-- a text's lines are the first, and then those of what follows it
lines_from-next : (fuel : ℕ) (text : List ℕ) → 0 < length text → length text < fuel → (left : ℕ) × (length (after_line text) < left) × (lines_from fuel text ≡ line_in text ∷ lines_from left (after_line text))
unfolding lines_from
lines_from-next zero text some enough = absurd (omega arith)
lines_from-next (suc m) [] some enough = absurd (omega arith)
lines_from-next (suc m) (c ∷ text) some enough = (m, shorter, refl)
  where
    shorter : length (drop_through 10 (c ∷ text)) < m
    shorter = go (c == 10)
      where
        go : (b : Bool) → length (if b then text else drop_through 10 text) < m
        go true = omega (arith, enough)
        go false = omega (arith, enough, after-shorter text)

lines_from-end : (fuel : ℕ) (text : List ℕ) → text ≡ [] → lines_from fuel text ≡ []
unfolding lines_from
lines_from-end zero text is = refl
lines_from-end (suc m) [] is = refl
lines_from-end (suc m) (c ∷ text) is = cc is

-- ---- reading

-- the text goes on with the lines after those that said these numbers
abbrev pub Lasts : Option (List ℕ) → Option (List ℕ) → List ℕ → Type 0
Lasts None now numbers = Unit {0}
Lasts (Some text) None numbers = ⊥
Lasts (Some text) (Some left) numbers = (fuel : ℕ) × (length left < fuel) × (lines_said text ≡ map Ok numbers ++ map text_said (lines_from fuel left))

-- these numbers came in, and the line with this number is next
pub record Reading (old now : Option (List ℕ)) (line : ℕ) (g : Gathered) : Type 0 where
  pub numbers : List ℕ
  pub seen : List ℕ
  pub holds : Holds g numbers seen
  pub line_is : line ≡ 1 + length numbers
  pub lasts : Lasts old now numbers

pub reading-start : (known : Option (List ℕ)) (g : Gathered) → Holds g [] [] → Reading known known 1 g
reading-start known g holds = record { numbers = []; seen = []; holds = holds; line_is = refl; lasts = lasts known }
  where
    lasts : (known : Option (List ℕ)) → Lasts known known []
    lasts None = tt
    lasts (Some text) = (length text + 1, omega arith, refl)

-- a line that said a number went by
lasts-next : (old now new : Option (List ℕ)) (numbers : List ℕ) (n : ℕ) (said : Said) → Lasts old now numbers → IfSome now (λ left. FindsLine left (Ok (Some said))) → said ≡ Ok n → DropsThrough now new 10 → Lasts old new (numbers ++ n ∷ [])
lasts-next None now new numbers n said lasts found is drops = tt
lasts-next (Some text) None new numbers n said lasts found is drops = absurd lasts
lasts-next (Some text) (Some left) new numbers n said (fuel, enough, lines) found is drops =
    let (less, short, first) = lines_from-next fuel left found.0 enough in
    subst (λ now. Lasts (Some text) now (numbers ++ n ∷ [])) (sym drops) (
      less,
      short,
      lines ∙ ap (λ ls. map Ok numbers ++ map text_said ls) first ∙ ap (λ s. map Ok numbers ++ s ∷ map text_said (lines_from less (after_line left))) (sym found.1 ∙ is)
          ∙ said-more numbers n (map text_said (lines_from less (after_line left))),
    )

pub reading-next : (old now new : Option (List ℕ)) (line : ℕ) (said : Said) (g after : Gathered) → Reading old now line g → IfSome now (λ left. FindsLine left (Ok (Some said))) → DropsThrough now new 10
    → ((numbers seen : List ℕ) → Holds g numbers seen → Gathers numbers seen line said (Ok tt) after) → Reading old new (line + 1) after
reading-next old now new line said g after r found drops gathers =
    let (n, newer, is, holds) = gathers r.numbers r.seen r.holds in
    record {
      numbers = r.numbers ++ n ∷ [];
      seen = newer;
      holds = holds;
      line_is = omega (arith, r.line_is, length-append r.numbers (n ∷ []));
      lasts = lasts-next old now new r.numbers n said r.lasts found is drops;
    }

pub reading-end : (old now : Option (List ℕ)) (line : ℕ) (g : Gathered) → Reading old now line g → IfSome now (λ left. FindsLine left (Ok None)) → IfSome old (IsList (Ok (pages_gathered g)))
reading-end None now line g r found = tt
reading-end (Some text) now line g r found = go now r.lasts found
  where
    go : (now : Option (List ℕ)) → Lasts (Some text) now r.numbers → IfSome now (λ left. FindsLine left (Ok None)) → IsList (Ok (pages_gathered g)) text
    go None lasts found = absurd lasts
    go (Some left) (fuel, enough, lines) found = gathers-all 1 (lines_said text) g r.numbers r.seen r.holds (lines ∙ ap (λ ls. map Ok r.numbers ++ map text_said ls) (lines_from-end fuel left found))

pub reading-fault : (old now : Option (List ℕ)) (line : ℕ) (said : Said) (g after : Gathered) (fault : ReferenceFault) → Reading old now line g → IfSome now (λ left. FindsLine left (Ok (Some said)))
    → ((numbers seen : List ℕ) → Holds g numbers seen → Gathers numbers seen line said (Err fault) after) → IfSome old (IsList (Err fault))
reading-fault None now line said g after fault r found gathers = tt
reading-fault (Some text) now line said g after fault r found gathers = go now r.lasts found
  where
    go : (now : Option (List ℕ)) → Lasts (Some text) now r.numbers → IfSome now (λ left. FindsLine left (Ok (Some said))) → IsList (Err fault) text
    go None lasts found = absurd lasts
    go (Some left) (fuel, enough, lines) found =
        let (less, short, first) = lines_from-next fuel left found.0 enough in
        gathers-fault 1 line (lines_said text) (map text_said (lines_from less (after_line left))) said g after r.numbers r.seen fault r.holds
        (lines ∙ ap (λ ls. map Ok r.numbers ++ map text_said ls) first ∙ ap (λ s. map Ok r.numbers ++ s ∷ map text_said (lines_from less (after_line left))) (sym found.1))
        r.line_is (gathers r.numbers r.seen r.holds)

pub reading-outside : (old : Option (List ℕ)) (fault : ReferenceFault) → IsOutside fault → IfSome old (IsList (Err fault))
reading-outside None fault outside = tt
reading-outside (Some text) fault outside = inl outside

pub reading-gathered : (old now : Option (List ℕ)) (line : ℕ) (g : Gathered) → Reading old now line g → (numbers : List ℕ) × (seen : List ℕ) × Holds g numbers seen
reading-gathered old now line g r = (r.numbers, r.seen, r.holds)

-- the lines read so far have a bound
pub reading-few : (old now : Option (List ℕ)) (line : ℕ) (g : Gathered) → Reading old now line g → line ≤ most_references + 1
reading-few old now line g r = omega (arith, r.line_is, r.holds.few)

-- ---- a line

some-text : (read text : List ℕ) → read ≡ take_through 10 text → 0 < length read → 0 < length text
some-text read [] is some = let none = ap length is in omega arith
some-text read (x ∷ text) is some = omega arith

-- what a line says that was read whole
pub line-found : (known : Option (List ℕ)) (read : List ℕ) (said : Said) → IfSome known (λ text. read ≡ take_through 10 text) → 0 < length read → said ≡ text_said (strip_last 13 (strip_last 10 read)) → IfSome known (λ text. FindsLine text (Ok (Some said)))
line-found None read said is some says = tt
line-found (Some text) read said is some says = (some-text read text is some, says ∙ ap (λ r. text_said (strip_last 13 (strip_last 10 r))) is)

-- what `?` gives where there is a fault
pub fault-is : (r : Result Pages ReferenceFault) (fault : ReferenceFault) → IsErrAnd r (λ e. e ≡ fault) → r ≡ Err fault
fault-is (Ok pages) fault is = absurd is
fault-is (Err e) fault is = ap Err is

-- All parts were flushed, one after the other.
use Rattle.std.proofs.Common.{◌≡◌, ◌⊎◌, inl, inr, refl, sym, ap, ◌∙◌, subst, ℕ, zero, suc, ◌+◌, ◌*◌, ◌%◌, ◌<◌, ◌≤◌, List, [], length, slice_index_or, slice_set, arith}
use Rattle.std.proofs.Math.ListN.{get_or-eq_default}
use Rattle.std.proofs.Math.Nat.{eq-or-lt_of_le, div-lt_iff_lt-mul}
use Rattle.std.proofs.lemmas.Bool.{cases_lt}
use Rattle.std.proofs.lemmas.Grind.{get_or-set_at}
use Rattle.std.proofs.lemmas.List.{get_or-set_other}
use Rattle.bp_ports.specs.Stripes.{StripedView}
use Rattle.bp_shared.specs.FlushAll.{FlushedAll, Pool}
use Rattle.bp_shared.specs.Sessions.{SessionValue, new_session}
use Rattle.bp_shared.proofs.Reaching.{each_reached}
use Rattle.bp_parts.specs.Flushes.{Flushing, FlushesParts, ReachesInPart}
use Rattle.bp_parts.specs.Flushes.FlushesParts.{none, part}
use Rattle.bp_parts.specs.Parts.{PartedValue, page_in_part, part_of}

-- of the first so many parts each was flushed, and the sessions of the others are as they were
record FlushedSoFar (o : Pool) (n : ℕ) (old new : PartedValue) : Type 0 where
  did : (i : ℕ) (d : SessionValue) → i < n → FlushedAll o (slice_index_or old.sessions i d) (slice_index_or new.sessions i d)
  left : (i : ℕ) (d : SessionValue) → n ≤ i → slice_index_or new.sessions i d ≡ slice_index_or old.sessions i d

-- where the session of a part is the same, whatever stands for one that is not there, there is that part
inside : (xs : List SessionValue) (n : ℕ) (was : SessionValue) → ((d : SessionValue) → slice_index_or xs n d ≡ was) → n < length xs
inside xs n was is = go (cases_lt n (length xs))
  where
    one : SessionValue
    one = new_session [] 0

    other : SessionValue
    other = new_session [] 1

    go : (n < length xs) ⊎ (length xs ≤ n) → n < length xs
    go (inl below) = below
    go (inr over) =
        let same : one ≡ other = sym (get_or-eq_default xs one over) ∙ is one ∙ sym (is other) ∙ get_or-eq_default xs other over in
        let apart : 0 ≡ 1 = ap (λ (s : SessionValue). s.client) same in
        absurd (omega (arith, apart))

-- one part more
flushed_more : (o : Pool) (n : ℕ) (old mid new : PartedValue) (was is : SessionValue) → FlushedSoFar o n old mid → ((d : SessionValue) → slice_index_or mid.sessions n d ≡ was) → new ≡ record mid { sessions = slice_set mid.sessions n is }
    → FlushedAll o was is → FlushedSoFar o (n + 1) old new
flushed_more o n old mid new was is so_far stood set flushed = record { did = did; left = left }
  where
    sessions : new.sessions ≡ slice_set mid.sessions n is
    sessions = ap (λ (v : PartedValue). v.sessions) set

    other : (i : ℕ) (d : SessionValue) → ((i ≡ n) → ⊥) → slice_index_or new.sessions i d ≡ slice_index_or mid.sessions i d
    other i d apart = ap (λ xs. slice_index_or xs i d) sessions ∙ get_or-set_other mid.sessions n i is d apart

    did : (i : ℕ) (d : SessionValue) → i < n + 1 → FlushedAll o (slice_index_or old.sessions i d) (slice_index_or new.sessions i d)
    did i d below = go (eq-or-lt_of_le (omega (arith, below)))
      where
        go : (i ≡ n) ⊎ (i < n) → FlushedAll o (slice_index_or old.sessions i d) (slice_index_or new.sessions i d)
        go (inl same) =
            let began : slice_index_or old.sessions i d ≡ was = sym (so_far.left i d (omega (arith, same))) ∙ ap (λ k. slice_index_or mid.sessions k d) same ∙ stood d in
            let ended : slice_index_or new.sessions i d ≡ is = ap (λ xs. slice_index_or xs i d) sessions ∙ get_or-set_at mid.sessions n i is d same (inside mid.sessions n was stood) in
            subst (λ s. FlushedAll o s (slice_index_or new.sessions i d)) (sym began) (subst (FlushedAll o was) (sym ended) flushed)
        go (inr less) = subst (FlushedAll o (slice_index_or old.sessions i d)) (sym (other i d (λ same. absurd (omega (arith, less, same))))) (so_far.did i d less)

    left : (i : ℕ) (d : SessionValue) → n + 1 ≤ i → slice_index_or new.sessions i d ≡ slice_index_or old.sessions i d
    left i d over = other i d (λ same. absurd (omega (arith, over, same))) ∙ so_far.left i d (omega (arith, over))

all_flushed : {S : Type 0} (o : Flushing S) (old : PartedValue) (port : StripedView S) (n : ℕ) (new : PartedValue) (after : StripedView S) → FlushesParts o old port n new after → FlushedSoFar (record { parameters = o.parameters; start = o.start }) n old new
all_flushed o old port m end last none = record { did = λ i d below. absurd (omega (arith, below)); left = λ i d over. refl }
all_flushed o old port m end last (part {n} {mid} {now} rest flushes) =
    flushed_more (record { parameters = o.parameters; start = o.start }) n old mid end flushes.was flushes.is (all_flushed o old port n mid now rest) flushes.old_is flushes.new_is flushes.did.0.outcome

pub each_page : {S : Type 0} (o : Flushing S) (parts : ℕ) (old new : PartedValue) (port after : StripedView S) (page : ℕ) → FlushesParts o old port parts new after → page < parts * o.parameters.pages
    → ReachesInPart (record { parameters = o.parameters; start = o.start }) parts page old new
each_page o zero old new port after page flushed within d = absurd (omega (arith, within))
each_page o (suc n) old new port after page flushed within d =
    let few : page % suc n < suc n = omega arith in
    let swapped : page < o.parameters.pages * suc n = omega (arith, within) in
    each_reached (record { parameters = o.parameters; start = o.start }) (slice_index_or old.sessions (part_of (suc n) page) d) (slice_index_or new.sessions (part_of (suc n) page) d) (page_in_part (suc n) page)
    ((all_flushed o old port (suc n) new after flushed).did (page % suc n) d few) ((div-lt_iff_lt-mul (omega arith)).1 swapped)

-- The totals of a list of entries, one entry after the other.
use Rattle.std.proofs.Common.{◌≡◌, ◌∙◌, ℕ, ◌+◌, ◌<◌, ◌^◌, cond, List, [], ◌∷◌, ◌++◌, length, take, get_or, sym, ap, arith, add-zero}
use Rattle.std.specs.Prelude.{Bool}
use Rattle.std.proofs.lemmas.List.Sums.{count_by-le-length, sum_by_more, sum_by-cons}
use Rattle.bp_trail.specs.declared.entries.Entry.{Entry}
use Rattle.bp_trail.specs.declared.entries.Reply.{Reply}
use Rattle.bp_trail.specs.declared.totals.Totals.{Totals}
use Rattle.bp_trail.specs.Totals.{HasRoom, CountsAll, both, counted, is_eviction, is_failure, is_fault, is_hit, is_refusal, is_discarded, is_write, no_totals, one, replies, totals_of}

module _ (entries : List Entry) (i : ℕ) (e : Entry) (h : i < length entries) (is : e ≡ get_or entries i e) where
  replies-take : (test : Reply → Bool) → replies test (take (i + 1) entries) ≡ replies test (take i entries) + one (test e.reply)
  replies-take test = sum_by_more (λ x. cond (test x.reply) 1 0) entries i e h ∙ ap (λ (x : Entry). replies test (take i entries) + one (test x.reply)) (sym is)

  pub totals_of-take : totals_of (take (i + 1) entries) ≡ counted e.reply (totals_of (take i entries))
  unfolding totals_of
  totals_of-take = cc (replies-take is_hit, replies-take is_fault, replies-take is_eviction, replies-take is_write, replies-take is_failure, replies-take is_refusal, replies-take is_discarded)

-- there are no more replies than entries
pub totals_of-room : (entries : List Entry) → length entries + 1 < 2 ^ 64 → HasRoom (totals_of entries)
unfolding totals_of
totals_of-room entries few = record {
  hits = room is_hit;
  faults = room is_fault;
  evictions = room is_eviction;
  writes = room is_write;
  failed = room is_failure;
  refused = room is_refusal;
  discards = room is_discarded;
}
  where
    room : (test : Reply → Bool) → replies test entries + 1 < 2 ^ 64
    room test = omega (arith, count_by-le-length (λ e. test e.reply) entries)

-- one entry more, which stands first
module _ (past : List Entry) (e : Entry) where
  replies-cons : (test : Reply → Bool) → replies test (e ∷ past) ≡ replies test past + one (test e.reply)
  replies-cons test =
      let first : replies test (e ∷ past) ≡ one (test e.reply) + replies test past = sum_by-cons (λ (x : Entry). cond (test x.reply) 1 0) e past in
      omega (arith, first)

  pub totals_of-cons : totals_of (e ∷ past) ≡ counted e.reply (totals_of past)
  unfolding totals_of
  totals_of-cons = cc (replies-cons is_hit, replies-cons is_fault, replies-cons is_eviction, replies-cons is_write, replies-cons is_failure, replies-cons is_refusal, replies-cons is_discarded)

-- of no entries
pub counts_none : (entries : List Entry) (t : Totals) → entries ≡ [] → t ≡ no_totals → CountsAll entries t
unfolding totals_of
counts_none entries t empty none few = none ∙ sym (ap totals_of empty)

-- of one more, which is counted
pub counts_next : (past next : List Entry) (e : Entry) (old new : Totals) → next ≡ e ∷ past → CountsAll past old → (HasRoom old → new ≡ counted e.reply old) → CountsAll next new
counts_next past next e old new first so_far count few =
    let longer : length past + 1 < 2 ^ 64 = omega (arith, few, ap length first) in
    let is : old ≡ totals_of past = so_far (omega arith) in
    count (rw is (totals_of-room past longer)) ∙ ap (counted e.reply) is ∙ sym (totals_of-cons past e) ∙ sym (ap totals_of first)

-- of one more, whose reply is in no total
pub counts_nothing : (past next : List Entry) (e : Entry) (t : Totals) → next ≡ e ∷ past → CountsAll past t → counted e.reply t ≡ t → CountsAll next t
counts_nothing past next e t first so_far none = counts_next past next e t t first so_far (λ room. sym none)

-- what `counted` makes of a reply that is in no total
pub adds_nothing : (t : Totals) → record { hits = t.hits + 0; faults = t.faults + 0; evictions = t.evictions + 0; writes = t.writes + 0; failed = t.failed + 0; refused = t.refused + 0; discards = t.discards + 0 } ≡ t
adds_nothing t = λ i. record {
  hits = add-zero t.hits i;
  faults = add-zero t.faults i;
  evictions = add-zero t.evictions i;
  writes = add-zero t.writes i;
  failed = add-zero t.failed i;
  refused = add-zero t.refused i;
  discards = add-zero t.discards i;
}

-- those of two lists, one after the other
module _ (test : Reply → Bool) where
  replies-append : (xs ys : List Entry) → replies test (xs ++ ys) ≡ replies test xs + replies test ys
  replies-append [] ys = omega arith
  replies-append (e ∷ xs) ys =
      let whole = sum_by-cons (λ (x : Entry). cond (test x.reply) 1 0) e (xs ++ ys) in
      let part = sum_by-cons (λ (x : Entry). cond (test x.reply) 1 0) e xs in
      omega (arith, whole, part, replies-append xs ys)

pub totals_of-append : (xs ys : List Entry) → totals_of (xs ++ ys) ≡ both (totals_of xs) (totals_of ys)
unfolding totals_of
totals_of-append xs ys = λ i. record {
  hits = replies-append is_hit xs ys i;
  faults = replies-append is_fault xs ys i;
  evictions = replies-append is_eviction xs ys i;
  writes = replies-append is_write xs ys i;
  failed = replies-append is_failure xs ys i;
  refused = replies-append is_refusal xs ys i;
  discards = replies-append is_discarded xs ys i;
}

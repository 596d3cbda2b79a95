-- Redo over what a crash leaves gives what the log gives over what there was at first.
use Rattle.std.proofs.Common.{◌≡◌, ◌⊎◌, inl, inr, refl, sym, ap, subst, ◌∙◌, ℕ, ◌≤◌, nat_le, Bool, true, false, cond, if◌then◌else◌, List, [], ◌∷◌, ◌++◌, length, filter, append_assoc, append-nil, Some, None, arith}
use Rattle.std.specs.List.{cons_option}
use Rattle.std.proofs.lemmas.List.Elements.{filter-append}
use Rattle.std.proofs.lemmas.Bool.{or_parts, le-leb}
use Rattle.bp_trail.specs.declared.entries.Entry.{Entry}
use Rattle.bp_trail.specs.declared.entries.Call.{Call}
use Rattle.bp_trail.specs.declared.entries.Reply.{Reply}
use Rattle.bp_trail.specs.declared.records.LogRecord.{LogRecord}
use Rattle.bp_trail.specs.Parameters.{Parameters}
use Rattle.bp_trail.specs.Lists.{some, every, least_since}
use Rattle.bp_trail.specs.Event.{discards, writes, lsn_of, lsn_written}
use Rattle.bp_trail.specs.Trail.{Trail}
use Rattle.bp_trail.specs.Clock.{durable}
use Rattle.bp_trail.specs.Saved.{began_saving, settles}
use Rattle.bp_trail.specs.Images.{written_into, plain_map}
use Rattle.bp_trail.specs.Legal.{IsLawful, Legal}
use Rattle.bp_trail.specs.Device.{HonestOf}
use Rattle.bp_trail.specs.Recovery.{record_of, records, within, wanted, records_from, NeverFall, AllFit, put, redo, WentOut, MayHave, UsedAgain, GaveBack, LogHas, IsRedoPoint, Stopped}
use Rattle.bp_trail.specs.Recovery.GaveBack.{from_opening, since_used_again}
use Rattle.bp_trail.proofs.Lists.{some-append}
use Rattle.bp_trail.proofs.Events.{Event, event-of}
use Rattle.bp_trail.proofs.Events.Event.{page_written}
use Rattle.bp_trail.proofs.Since.{each_before}
use Rattle.bp_trail.proofs.Plain.{plain-is_writes}
use Rattle.bp_trail.proofs.Bytes.{filter-fit, full-bytes, from_lsn, Ordered, ordered-never_fall, ordered-zero, put-append}
use Rattle.bp_trail.proofs.Recovered.{written-put, none-front, none-settled, kept-there, records-append, every-within, AtLeast, later-from, records-fit, wanted-split, redo-older, legal-there, no-write, honest-there, logged, logged-since, split, is-plain}
use Rattle.bp_trail.proofs.UsedAgain.{records-sized, sent-sized, again-sends, again-plain, again-is_writes, which-newer}

abbrev entry : ℕ → Call → Reply → Entry
entry who call reply = record { client = who; call = call; reply = reply }

-- ---- what an image that went out has

-- what records of the page make
pub record HasRecords (first : List ℕ) (older : List LogRecord) (image : List ℕ) : Type 0 where
  pub fit : AllFit (length first) older
  pub image_is : image ≡ put older first

pub has-records : (c : Parameters) (first : ℕ → List ℕ) (synced past : Trail) (p : ℕ) (out : WentOut synced past p) → Legal c past → HonestOf first p past → some (discards p) past ≡ false → HasRecords (first p) (records p out.earlier) out.image
has-records c first synced past p out l h n =
    let there = legal-there c first past out.later out.earlier out.entry p out.ticket out.image out.stands out.begins l in
    let honest = honest-there c first past out.later out.earlier out.entry p out.ticket out.image out.stands out.begins l h in
    record {
      fit = records-fit c first p out.earlier there.before honest.before (kept-there c first past out.later out.earlier out.entry p out.ticket out.image out.stands out.begins l n);
      image_is = is-plain c first past out.later out.earlier out.entry p out.ticket out.image out.stands out.begins l n h;
    }

-- all of them are in the log
pub has-logged : (c : Parameters) (first : ℕ → List ℕ) (synced past : Trail) (p : ℕ) (out : WentOut synced past p) → Legal c past → HonestOf first p past → some (discards p) past ≡ false → (end : ℕ) → durable past ≤ end
    → HasRecords (first p) (records p (within end out.earlier)) out.image
has-logged c first synced past p out l h n end mark =
    subst (λ rs. HasRecords (first p) rs out.image) (sym (logged c first past out.later out.earlier out.entry p out.ticket out.image out.stands out.begins l n end mark)) (has-records c first synced past p out l h n)

-- ---- a page that is used again

pub within-fit : (size p end : ℕ) (past : Trail) → AllFit size (records p past) → AllFit size (records p (within end past))
within-fit size p end [] f = f
within-fit size p end (e ∷ past) f = go (writes p e) refl (nat_le (lsn_of e.call) end) f (within-fit size p end past)
  where
    go : (b : Bool) → writes p e ≡ b → (k : Bool) → AllFit size (cons_option (if b then Some (record_of e.call) else None) (records p past)) → (AllFit size (records p past) → AllFit size (records p (within end past)))
        → AllFit size (records p (cond k (e ∷ within end past) (within end past)))
    go true w true f ih = rw w (f.0, ih f.1)
    go true w false f ih = ih f.1
    go false w true f ih = rw w (ih f)
    go false w false f ih = ih f

-- a write of p that is within the log has its record
pub records-write : (p end : ℕ) (e : Entry) (past : Trail) → writes p e ≡ true → lsn_of e.call ≤ end → records p (within end (e ∷ past)) ≡ record_of e.call ∷ records p (within end past)
records-write p end e past w le = go (nat_le (lsn_of e.call) end) (le-leb (lsn_of e.call) end le)
  where
    go : (k : Bool) → k ≡ true → records p (cond k (e ∷ within end past) (within end past)) ≡ record_of e.call ∷ records p (within end past)
    go true i = rw w refl
    go false i = cc

write-settles : (c : Parameters) (past : Trail) (who : ℕ) (call : Call) (reply : Reply) → Event c past who call reply → (synced : Trail) (p : ℕ) → writes p (entry who call reply) ≡ true → settles synced p (entry who call reply) ≡ false
write-settles c past who _ _ (page_written n q offset bytes lsn o) synced p h = refl
write-settles c past who _ _ _ synced p h = cc

module _ (c : Parameters) (first : ℕ → List ℕ) (end : ℕ) (past : Trail) (p : ℕ) (l : Legal c past) (u : UsedAgain c.size first end past p) where
  legal-again : Legal c (u.entry ∷ u.earlier)
  legal-again = each_before (IsLawful c) u.later (u.entry ∷ u.earlier) (subst (Legal c) u.stands l)

  pub again-cut : records p (within end past) ≡ records p (within end u.later) ++ record_of u.entry.call ∷ records p (within end u.earlier)
  again-cut =
      ap (λ s. records p (within end s)) u.stands
      ∙ records-append p end u.later (u.entry ∷ u.earlier)
      ∙ ap (λ rs. records p (within end u.later) ++ rs) (records-write p end u.entry u.earlier u.writes_it u.logged)

  pub again-fit : AllFit c.size (records p (within end u.earlier))
  again-fit = within-fit c.size p end u.earlier (records-sized c p u.earlier legal-again.before)

  -- where no write-out since was safe, redo wants that write and the later ones
  pub again-wanted : (synced : Trail) (from : ℕ) → IsRedoPoint from synced past p → some (λ d. began_saving synced p d.reply) u.later ≡ false
      → every (from_lsn from) (records p (within end u.later) ++ record_of u.entry.call ∷ []) ≡ true
  again-wanted synced from point last =
      let front = u.later ++ u.entry ∷ [] in
      let cut : past ≡ front ++ u.earlier = u.stands ∙ sym (append_assoc u.later (u.entry ∷ []) u.earlier) in
      let there : AtLeast from (least_since (lsn_written p) (settles synced p) (front ++ u.earlier)) = subst (λ s. AtLeast from (least_since (lsn_written p) (settles synced p) s)) cut point in
      let here = write-settles c u.earlier u.entry.client u.entry.call u.entry.reply (event-of c u.earlier u.entry legal-again.here) synced p u.writes_it in
      let none : some (settles synced p) front ≡ false = some-append (settles synced p) u.later (u.entry ∷ []) ∙ rw (none-settled synced p u.later u.kept last, here) refl in
      let all = every-within (from_lsn from) p end front (later-from from p (settles synced p) front u.earlier none there) in
      subst (λ rs. every (from_lsn from) rs ≡ true) (records-append p end u.later (u.entry ∷ []) ∙ ap (λ rs. records p (within end u.later) ++ rs) (records-write p end u.entry [] u.writes_it u.logged)) all

-- an image that went out since has what the log has of the writes before it
pub record OfAgain (first : List ℕ) (end p : ℕ) (later earlier : Trail) (image : List ℕ) : Type 0 where
  pub has : HasRecords first (records p (within end earlier)) image
  pub kept : some (discards p) later ≡ false

-- or it is older than the write by which the page was used again
pub record Overwritten (size : ℕ) (synced : Trail) (p : ℕ) (since before earlier : Trail) (sent : Entry) (image : List ℕ) : Type 0 where
  pub between : Trail
  pub rest : before ≡ between ++ sent ∷ earlier
  pub last : some (λ d. began_saving synced p d.reply) since ≡ false
  pub image_size : length image ≡ size

pub has-again : (c : Parameters) (first : ℕ → List ℕ) (synced : Trail) (end : ℕ) (past : Trail) (p : ℕ) (out : WentOut synced past p) → Legal c past → durable past ≤ end → (u : UsedAgain c.size first end past p)
    → OfAgain (first p) end p out.later out.earlier out.image ⊎ Overwritten c.size synced p u.later u.earlier out.earlier out.entry out.image
has-again c first synced end past p out l mark u =
    let there = legal-there c first past out.later out.earlier out.entry p out.ticket out.image out.stands out.begins l in
    elim (which-newer out.later u.later out.earlier u.earlier out.entry u.entry (sym out.stands ∙ u.stands)) [
      | inl n ↦ inl (since n.between n.front n.rest)
      | inr (inl same) ↦ (let w : writes p out.entry ≡ true = subst (λ e. writes p e ≡ true) (sym same) u.writes_it in
          let not = no-write c first past out.later out.earlier out.entry p out.ticket out.image out.stands out.begins l in
          cc)
      | inr (inr n) ↦ inr (record {
        between = n.between;
        rest = n.rest;
        last = none-front (λ d. began_saving synced p d.reply) out.later u.later (u.entry ∷ n.between) n.front out.last;
        image_size = sent-sized c out.earlier out.entry out.ticket p out.image there out.begins;
      })
    ]
  where
    since : (between : Trail) → u.later ≡ out.later ++ out.entry ∷ between → out.earlier ≡ between ++ u.entry ∷ u.earlier → OfAgain (first p) end p out.later out.earlier out.image
    since between front rest =
        let w = record_of u.entry.call in
        let there = legal-there c first past out.later out.earlier out.entry p out.ticket out.image out.stands out.begins l in
        let parts = or_parts (some (discards p) out.later) (some (discards p) (out.entry ∷ between)) (sym (some-append (discards p) out.later (out.entry ∷ between)) ∙ subst (λ s. some (discards p) s ≡ false) front u.kept) in
        let kept = (or_parts (discards p out.entry) (some (discards p) between) parts.1).1 in
        let older = records p (within end u.earlier) in
        let all : records p (within end out.earlier) ≡ records p between ++ w ∷ older =
        ap (λ s. records p (within end s)) rest
        ∙ records-append p end between (u.entry ∷ u.earlier)
        ∙ ap (λ rs. rs ++ records p (within end (u.entry ∷ u.earlier))) (logged-since c first past out.later out.earlier out.entry p out.ticket out.image out.stands out.begins l between (u.entry ∷ u.earlier) rest kept end mark)
        ∙ ap (λ rs. records p between ++ rs) (records-write p end u.entry u.earlier u.writes_it u.logged) in
        record {
          has = record {
            fit = subst (λ k. AllFit k (records p (within end out.earlier))) (sym u.opening) (within-fit c.size p end out.earlier (records-sized c p out.earlier there.before));
            image_is =
                again-sends c first end p past u out.later between out.entry out.ticket out.image l front out.begins
                ∙ again-plain c first end p past u between (subst (Legal c) rest there.before) kept
                ∙ ap (put (records p between)) (sym (full-bytes w older c.size (first p) u.offset u.bytes (again-fit c first end past p l u) u.opening))
                ∙ sym (put-append (records p between) (w ∷ older) (first p))
                ∙ ap (λ rs. put rs (first p)) (sym all);
          };
          kept = parts.0;
        }

-- ---- redo over an image that is older

redo-over : (log : List LogRecord) (start from size p : ℕ) (first image : List ℕ) (unwritten newer older : List LogRecord) (w : LogRecord)
    → records_from start log p ≡ unwritten ++ (newer ++ w ∷ older) → start ≤ from → every (from_lsn from) unwritten ≡ true → every (from_lsn from) (newer ++ w ∷ []) ≡ true
    → w.offset ≡ 0 → length w.bytes ≡ size → AllFit size older → length image ≡ size → length first ≡ size → redo from log p image ≡ redo start log p first
redo-over log start from size p first image unwritten newer older w stands le u n offset bytes fit long opening =
    let f = filter (from_lsn from) in
    let joined : records_from start log p ≡ unwritten ++ ((newer ++ w ∷ []) ++ older) = stands ∙ ap (λ rs. unwritten ++ rs) (sym (append_assoc newer (w ∷ []) older)) in
    let wants : records_from from log p ≡ unwritten ++ (newer ++ w ∷ f older) = wanted-split log start from p unwritten (newer ++ w ∷ []) older joined le u n ∙ ap (λ rs. unwritten ++ rs) (append_assoc newer (w ∷ []) (f older)) in
    ap (λ rs. put rs image) wants
    ∙ over (f older) image (filter-fit size (from_lsn from) older fit) long
    ∙ sym (ap (λ rs. put rs first) stands ∙ over older first fit opening)
  where
    over : (rest : List LogRecord) (x : List ℕ) → AllFit size rest → length x ≡ size → put (unwritten ++ (newer ++ w ∷ rest)) x ≡ put unwritten (put newer w.bytes)
    over rest x f is =
        put-append unwritten (newer ++ w ∷ rest) x
        ∙ ap (put unwritten) (put-append newer (w ∷ rest) x ∙ ap (put newer) (full-bytes w rest size x offset bytes f is))

-- ---- the theorem

-- Redo from the redo point, over whatever image the device has, gives what redo from the start gives over the first one.
pub recovers-ordered : (c : Parameters) (first : ℕ → List ℕ) (synced past : Trail) (log : List LogRecord) (start from end p : ℕ) (image : List ℕ)
    → Stopped c first synced past log start from end p → Ordered from (records_from start log p) → MayHave first synced past p image → redo from log p image ≡ redo start log p (first p)
recovers-ordered c first synced past log start from end p image s rises may = go s.gave_back may
  where
    u : List LogRecord
    u = s.has.unwritten

    over : (a : UsedAgain c.size first end past p) → some (λ d. began_saving synced p d.reply) a.later ≡ false → length image ≡ c.size → redo from log p image ≡ redo start log p (first p)
    over a last is =
        redo-over log start from c.size p (first p) image u (records p (within end a.later)) (records p (within end a.earlier)) (record_of a.entry.call)
        (s.has.stands ∙ ap (λ rs. u ++ rs) (again-cut c first end past p s.legal a)) s.from_start s.has.unwritten_from (again-wanted c first end past p s.legal a synced from s.point last)
        a.offset a.bytes (again-fit c first end past p s.legal a) is a.opening

    has : (out : WentOut synced past p) → image ≡ out.image → HasRecords (first p) (records p (within end out.earlier)) out.image → some (discards p) out.later ≡ false → redo from log p image ≡ redo start log p (first p)
    has out is h kept =
        let newer = records p (within end out.later) in
        let older = records p (within end out.earlier) in
        let whole : records_from start log p ≡ u ++ (newer ++ older) = s.has.stands ∙ ap (λ rs. u ++ rs) (split c first past out.later out.earlier out.entry p out.ticket out.image out.stands out.begins s.legal end) in
        let ordered = each_before _ newer older (each_before _ u (newer ++ older) (subst (Ordered from) whole rises)) in
        let point : AtLeast from (least_since (lsn_written p) (settles synced p) (out.later ++ out.entry ∷ out.earlier)) = subst (λ s. AtLeast from (least_since (lsn_written p) (settles synced p) s)) out.stands s.point in
        let all_newer = every-within (from_lsn from) p end out.later (later-from from p (settles synced p) out.later (out.entry ∷ out.earlier) (none-settled synced p out.later kept out.last) point) in
        redo-older log start from p (first p) image u newer older whole s.from_start s.has.unwritten_from all_newer h.fit ordered (is ∙ h.image_is)

    go : GaveBack c.size first end past p → MayHave first synced past p image → redo from log p image ≡ redo start log p (first p)
    go (from_opening honest kept) (inl (out, is)) = has out is (has-logged c first synced past p out s.legal honest kept end s.mark) (none-front (discards p) past out.later (out.entry ∷ out.earlier) out.stands kept)
    go (from_opening honest kept) (inr (none, is)) =
        let newer = records p (within end past) in
        let whole : records_from start log p ≡ u ++ (newer ++ []) = s.has.stands ∙ ap (λ rs. u ++ rs) (sym (append-nil newer)) in
        let point : AtLeast from (least_since (lsn_written p) (settles synced p) (past ++ [])) = subst (λ s. AtLeast from (least_since (lsn_written p) (settles synced p) s)) (sym (append-nil past)) s.point in
        redo-older log start from p (first p) image u newer [] whole s.from_start s.has.unwritten_from
        (every-within (from_lsn from) p end past (later-from from p (settles synced p) past [] (none-settled synced p past kept none) point))
        tt tt is
    go (since_used_again a) (inl (out, is)) = elim (has-again c first synced end past p out s.legal s.mark a) [
      | inl h ↦ has out is h.has h.kept
      | inr o ↦ over a o.last (ap length is ∙ o.image_size)
    ]
    go (since_used_again a) (inr (none, is)) = over a (none-front (λ d. began_saving synced p d.reply) past a.later (a.entry ∷ a.earlier) a.stands none) (ap length is ∙ a.opening)

-- and the plain map is what the writes make
pub plain-is : (c : Parameters) (first : ℕ → List ℕ) (past : Trail) (end p : ℕ) → Legal c past → GaveBack c.size first end past p → plain_map first past p ≡ written_into first past p
plain-is c first past end p l (from_opening honest kept) = plain-is_writes c first past p l kept
plain-is c first past end p l (since_used_again u) = again-is_writes c first end p past u l

-- which is what the plain map has from the writes within the log, with the records whose writes never came to be
pub redo-plain : (first : ℕ → List ℕ) (past : Trail) (log : List LogRecord) (start from end p : ℕ) (h : LogHas log start from end past p) → redo start log p (first p) ≡ put h.unwritten (written_into first (within end past) p)
redo-plain first past log start from end p h =
    ap (λ rs. put rs (first p)) h.stands ∙ put-append h.unwritten (records p (within end past)) (first p) ∙ ap (put h.unwritten) (sym (written-put first p (within end past)))

pub recovers : (c : Parameters) (first : ℕ → List ℕ) (synced past : Trail) (log : List LogRecord) (start from end p : ℕ) (image : List ℕ)
    → Stopped c first synced past log start from end p → NeverFall (records_from start log p) → MayHave first synced past p image → redo from log p image ≡ redo start log p (first p)
recovers c first synced past log start from end p image s rises may = recovers-ordered c first synced past log start from end p image s (ordered-never_fall from (records_from start log p) rises) may

pub recovers-plain : (c : Parameters) (first : ℕ → List ℕ) (synced past : Trail) (log : List LogRecord) (start from end p : ℕ) (image : List ℕ)
    → (s : Stopped c first synced past log start from end p) → NeverFall (records_from start log p) → MayHave first synced past p image → redo from log p image ≡ put s.has.unwritten (written_into first (within end past) p)
recovers-plain c first synced past log start from end p image s rises may = recovers c first synced past log start from end p image s rises may ∙ redo-plain first past log start from end p s.has

-- the whole log, in whatever order its LSNs are
pub recovers-whole : (c : Parameters) (first : ℕ → List ℕ) (synced past : Trail) (log : List LogRecord) (end p : ℕ) (image : List ℕ)
    → Legal c past → GaveBack c.size first end past p → durable past ≤ end → records_from 0 log p ≡ records p (within end past) → MayHave first synced past p image
    → redo 0 log p image ≡ written_into first (within end past) p
recovers-whole c first synced past log end p image l g mark stands may =
    let has : LogHas log 0 0 end past p = record { unwritten = []; stands = stands; unwritten_from = refl } in
    let s : Stopped c first synced past log 0 0 end p = record { legal = l; gave_back = g; mark = mark; has = has; from_start = omega arith; point = λ least e. omega arith } in
    recovers-ordered c first synced past log 0 0 end p image s (ordered-zero (records_from 0 log p)) may ∙ redo-plain first past log 0 0 end p has

-- a page that is used again
pub recovers-again : (c : Parameters) (first : ℕ → List ℕ) (synced past : Trail) (log : List LogRecord) (start from end p : ℕ) (image : List ℕ)
    → Legal c past → UsedAgain c.size first end past p → durable past ≤ end → (h : LogHas log start from end past p) → start ≤ from → IsRedoPoint from synced past p
    → NeverFall (records_from start log p) → MayHave first synced past p image → redo from log p image ≡ put h.unwritten (written_into first (within end past) p)
recovers-again c first synced past log start from end p image l u mark h le point rises may =
    recovers-plain c first synced past log start from end p image (record { legal = l; gave_back = since_used_again u; mark = mark; has = h; from_start = le; point = point }) rises may

-- the log may be redone piece by piece
pub redo-pieces : (newer older : List LogRecord) (from p : ℕ) (image : List ℕ) → redo from (newer ++ older) p image ≡ redo from newer p (redo from older p image)
redo-pieces newer older from p image = ap (λ rs. put rs image) (filter-append (wanted from p) newer older) ∙ put-append (records_from from newer p) (records_from from older p) image

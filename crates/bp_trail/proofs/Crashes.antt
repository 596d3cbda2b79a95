-- A checkpoint, redo that is cut off, a second crash, and pages that are torn.
use Rattle.std.proofs.Common.{◌≡◌, ◌⊎◌, inl, inr, refl, sym, ap, subst, ◌∙◌, ℕ, min, ◌≤◌, nat_le, Bool, true, false, ◌&&◌, ◌==◌, if◌then◌else◌, cond, ◌↔◌, Contains, List, [], ◌∷◌, ◌++◌, length, take, drop, reverse, get_or, suc, ◌<◌, Option, Some, None, arith}
use Rattle.std.proofs.lemmas.List.{take-append-drop, reverse-append}
use Rattle.std.proofs.Math.Seq.{drop-cons}
use Rattle.std.proofs.lemmas.List.Elements.{filter-append}
use Rattle.std.proofs.lemmas.Option.{none-some}
use Rattle.std.proofs.lemmas.Bool.{eqb-true, and_from, or_parts, leb-true, le-leb}
use Rattle.bp_trail.specs.declared.entries.Entry.{Entry}
use Rattle.bp_trail.specs.declared.entries.Reply.{Reply}
use Rattle.bp_trail.specs.declared.entries.Reply.TheVariants.{WriteFirst}
use Rattle.bp_trail.specs.declared.records.LogRecord.{LogRecord}
use Rattle.bp_trail.specs.Parameters.{Parameters}
use Rattle.bp_trail.specs.Lists.{some, every, or_less, least_since}
use Rattle.bp_trail.specs.Event.{discards, lsn_of, lsn_written, begins_of, ends_well}
use Rattle.bp_trail.specs.Trail.{Trail}
use Rattle.bp_trail.specs.Clock.{durable}
use Rattle.bp_trail.specs.Saved.{began_saving, settles, first_lsn, IsRedoFrom}
use Rattle.bp_trail.specs.Legal.{Legal}
use Rattle.bp_trail.specs.Standing.{Content}
use Rattle.bp_trail.specs.Device.{HonestOf}
use Rattle.bp_trail.specs.Recovery.{wanted, records, within, records_from, NeverFall, AllFit, FirstMisfit, HasFullImage, put, redo, WentOut, NoneSafe, MayHave, MayHaveStamped, AppliesAlike, apply_all, MakesAnew, Recovers, GaveBack, IsRedoPoint, LogHas, Stopped, redo_point, WritesFrom}
use Rattle.bp_trail.specs.Recovery.GaveBack.{from_opening, since_used_again}
use Rattle.bp_trail.specs.Places.{resident}
use Rattle.bp_trail.specs.Images.{held, written_into}
use Rattle.bp_trail.proofs.Elements.{contains-here, contains-later, contains-cases, contains-none}
use Rattle.bp_trail.proofs.Content.{held-plain}
use Rattle.bp_trail.proofs.Bytes.{length-put, full-bytes, fit-parts, from_lsn, ordered-zero, put-again, put-append}
use Rattle.bp_trail.proofs.Recovered.{filter-every, refilter, AtLeast, plain-put, legal-there}
use Rattle.bp_trail.proofs.UsedAgain.{sent-sized}
use Rattle.bp_trail.proofs.Redoing.{has-records, redo-plain, recovers, recovers-plain}
use Rattle.bp_trail.proofs.Stamped.{every-filtered}

-- ---- a checkpoint

least-from : (from : ℕ) (v least : Option ℕ) → AtLeast from v → AtLeast from least → AtLeast from (or_less v least)
least-from from None least h k = k
least-from from (Some n) None h k = h
least-from from (Some n) (Some m) h k = let a = h n refl in let b = k m refl in λ x e. (let i : min n m ≡ x = cc in omega arith)

asked : (synced : Trail) (o : Option ℕ) (next p : ℕ) → IsRedoFrom synced o → AtLeast (redo_point o next) (first_lsn synced p)
asked synced None next p h least e = absurd (none-some least (sym (h p) ∙ e))
asked synced (Some a) next p h least e = let k = h.1 p least e in omega arith

point-next : (o : Option ℕ) (next : ℕ) → redo_point o next ≤ next
point-next None next = omega arith
point-next (Some a) next = omega arith

pub checkpoint : (synced late : Trail) (o : Option ℕ) (next p : ℕ) → IsRedoFrom synced o → WritesFrom next p late → IsRedoPoint (redo_point o next) synced (late ++ synced) p
checkpoint synced [] o next p redo_from from = asked synced o next p redo_from
checkpoint synced (e ∷ late) o next p redo_from from =
    least-from (redo_point o next) (lsn_written p e) (if settles synced p e then None else least_since (lsn_written p) (settles synced p) (late ++ synced))
    (λ lsn is. (let a = from.here lsn is in let b = point-next o next in omega arith))
    (go (settles synced p e) (checkpoint synced late o next p redo_from from.before))
  where
    go : (b : Bool) → AtLeast (redo_point o next) (least_since (lsn_written p) (settles synced p) (late ++ synced))
        → AtLeast (redo_point o next) (if b then None else least_since (lsn_written p) (settles synced p) (late ++ synced))
    go true h = λ n e. cc
    go false h = h

-- of an older sync the device may have all that it may have of a newer one
none-saved : (newer synced : Trail) (f : Entry → Bool) → some f (newer ++ synced) ≡ false → some f synced ≡ false
none-saved [] synced f h = h
none-saved (e ∷ newer) synced f h = none-saved newer synced f (or_parts (f e) _ h).1

older-saving : (newer synced : Trail) (p : ℕ) (r : Reply) → began_saving (newer ++ synced) p r ≡ false → began_saving synced p r ≡ false
older-saving newer synced p (WriteFirst t q image) h = go (q == p) h
  where
    go : (b : Bool) → (b && some (λ e. ends_well t e.call) (newer ++ synced)) ≡ false → (b && some (λ e. ends_well t e.call) synced) ≡ false
    go true h = none-saved newer synced (λ e. ends_well t e.call) h
    go false h = refl
older-saving newer synced p _ h = refl

older-safe : (newer synced later : Trail) (p : ℕ) → some (λ e. began_saving (newer ++ synced) p e.reply) later ≡ false → some (λ e. began_saving synced p e.reply) later ≡ false
older-safe newer synced [] p h = refl
older-safe newer synced (e ∷ later) p h =
    let a = or_parts (began_saving (newer ++ synced) p e.reply) _ h in
    rw (older-saving newer synced p e.reply a.0) (older-safe newer synced later p a.1)

older-out : (newer synced past : Trail) (p : ℕ) → WentOut (newer ++ synced) past p → WentOut synced past p
older-out newer synced past p w = record { later = w.later; entry = w.entry; earlier = w.earlier; ticket = w.ticket; image = w.image; stands = w.stands; begins = w.begins; last = older-safe newer synced w.later p w.last }

pub older-sync : (first : ℕ → List ℕ) (newer synced past : Trail) (p : ℕ) (image : List ℕ) → MayHave first (newer ++ synced) past p image → MayHave first synced past p image
unfolding older-out
older-sync first newer synced past p image (inl (out, is)) = inl (older-out newer synced past p out, is)
older-sync first newer synced past p image (inr (none, is)) = inr (older-safe newer synced past p none, is)

pub older-sync_stamped : (first : ℕ → Content) (newer synced past : Trail) (p : ℕ) (x : Content) → MayHaveStamped first (newer ++ synced) past p x → MayHaveStamped first synced past p x
unfolding older-out
older-sync_stamped first newer synced past p x (inl (out, is)) = inl (older-out newer synced past p out, is)
older-sync_stamped first newer synced past p x (inr (none, is)) = inr (older-safe newer synced past p none, is)

-- ---- the log grows

added-alike : (start from p : ℕ) → start ≤ from → (added : List LogRecord) → every (from_lsn from) added ≡ true → records_from from added p ≡ records_from start added p
added-alike start from p le added h = refilter start from p le added ∙ filter-every (from_lsn from) (records_from start added p) (every-filtered (from_lsn from) (wanted start p) added h)

-- what redo makes of an image stays right as records are added
pub redo-grows : (log added : List LogRecord) (start from p : ℕ) (image x : List ℕ) → start ≤ from → every (from_lsn from) added ≡ true
    → redo from log p image ≡ redo start log p x → redo from (added ++ log) p image ≡ redo start (added ++ log) p x
redo-grows log added start from p image x le h is =
    ap (λ rs. put rs image) (filter-append (wanted from p) added log)
    ∙ put-append (records_from from added p) (records_from from log p) image
    ∙ ap (put (records_from from added p)) is
    ∙ ap (λ rs. put rs (redo start log p x)) (added-alike start from p le added h)
    ∙ sym (put-append (records_from start added p) (records_from start log p) x)
    ∙ ap (λ rs. put rs x) (sym (filter-append (wanted start p) added log))

-- a second run begins with what the first crash left, and redoes the log from its redo point
pub stopped-again : (c : Parameters) (second : ℕ → List ℕ) (synced past : Trail) (log added : List LogRecord) (start from later end p : ℕ) (first image : List ℕ)
    → Recovers log start from p first (second p) → every (from_lsn from) added ≡ true
    → Stopped c second synced past (added ++ log) from later end p → NeverFall (records_from from (added ++ log) p) → MayHave second synced past p image
    → Recovers (added ++ log) start later p first image
stopped-again c second synced past log added start from later end p first image was h s rises may =
    let a = was.from_start in
    let b = s.from_start in
    record {
      from_start = omega arith;
      same = recovers c second synced past (added ++ log) from later end p image s rises may ∙ redo-grows log added start from p (second p) first was.from_start h was.same;
    }

-- redo that was cut off is begun again
pub redo-cut_off : (newer older : List LogRecord) (from p : ℕ) (image : List ℕ) → AllFit (length image) (records_from from older p)
    → redo from (newer ++ older) p (redo from older p image) ≡ redo from (newer ++ older) p image
redo-cut_off newer older from p image fit =
    let a = records_from from newer p in
    let b = records_from from older p in
    let cut : records_from from (newer ++ older) p ≡ a ++ b = filter-append (wanted from p) newer older in
    let whole : put b (put b image) ≡ put b image = ap (λ rs. put rs (put b image)) (sym (filter-every (from_lsn 0) b (all-from-zero b))) ∙ put-again 0 b image fit (ordered-zero b) in
    ap (λ rs. put rs (put b image)) cut ∙ put-append a b (put b image) ∙ ap (put a) whole ∙ sym (put-append a b image) ∙ ap (λ rs. put rs image) (sym cut)
  where
    all-from-zero : (rs : List LogRecord) → every (from_lsn 0) rs ≡ true
    all-from-zero [] = refl
    all-from-zero (r ∷ rs) = and_from _ _ (le-leb 0 r.lsn (omega arith)) (all-from-zero rs)

-- ---- pages that are torn

-- where all bytes of the page are in one record, redo reads nothing of the image
pub redo-whole : (log : List LogRecord) (from p : ℕ) (a b : List ℕ) → HasFullImage (length a) (records_from from log p) → length b ≡ length a → redo from log p a ≡ redo from log p b
redo-whole log from p a b w same =
    let at : (x : List ℕ) → length x ≡ length a → redo from log p x ≡ put w.newer w.full.bytes =
    λ x i. ap (λ rs. put rs x) w.stands ∙ put-append w.newer (w.full ∷ w.older) x ∙ ap (put w.newer) (full-bytes w.full w.older (length a) x w.offset w.bytes w.fit i) in
    at a refl ∙ sym (at b same)

begun-not : (synced : Trail) (p : ℕ) (r : Reply) → begins_of p r ≡ false → began_saving synced p r ≡ false
begun-not synced p (WriteFirst t q image) h = rw h refl
begun-not synced p _ h = refl

-- some image there is
pub some-out : (synced : Trail) (p : ℕ) (past : Trail) → WentOut synced past p ⊎ NoneSafe synced past p
some-out synced p [] = inr refl
some-out synced p (e ∷ past) = go e.reply refl (some-out synced p past)
  where
    later-on : began_saving synced p e.reply ≡ false → WentOut synced past p ⊎ NoneSafe synced past p → WentOut synced (e ∷ past) p ⊎ NoneSafe synced (e ∷ past) p
    later-on n (inl w) = inl (record { later = e ∷ w.later; entry = w.entry; earlier = w.earlier; ticket = w.ticket; image = w.image; stands = ap (λ s. e ∷ s) w.stands; begins = w.begins; last = rw n w.last })
    later-on n (inr none) = inr (rw n none)

    go : (r : Reply) → e.reply ≡ r → WentOut synced past p ⊎ NoneSafe synced past p → WentOut synced (e ∷ past) p ⊎ NoneSafe synced (e ∷ past) p
    go (WriteFirst t q image) is w = at (q == p) refl
      where
        at : (b : Bool) → (q == p) ≡ b → WentOut synced (e ∷ past) p ⊎ NoneSafe synced (e ∷ past) p
        at true i = inl (record { later = []; entry = e; earlier = past; ticket = t; image = image; stands = refl; begins = is ∙ ap (λ n. WriteFirst t n image) (eqb-true q p i); last = refl })
        at false i = later-on (ap (began_saving synced p) is ∙ begun-not synced p (WriteFirst t q image) i) w
    go r is w = later-on (ap (began_saving synced p) is ∙ begun-not synced p r refl) w

pub image-length : (c : Parameters) (first : ℕ → List ℕ) (synced : Trail) (end : ℕ) (past : Trail) (p : ℕ) (image : List ℕ) → Legal c past → GaveBack c.size first end past p → MayHave first synced past p image
    → length image ≡ length (first p)
image-length c first synced end past p image l (from_opening honest kept) (inl (out, is)) =
    let h = has-records c first synced past p out l honest kept in
    ap length (is ∙ h.image_is) ∙ length-put (length (first p)) (records p out.earlier) (first p) h.fit refl
image-length c first synced end past p image l (since_used_again u) (inl (out, is)) =
    ap length is
    ∙ sent-sized c out.earlier out.entry out.ticket p out.image (legal-there c first past out.later out.earlier out.entry p out.ticket out.image out.stands out.begins l) out.begins
    ∙ sym u.opening
image-length c first synced end past p image l g (inr (none, is)) = ap length is

pub recovers-torn : (c : Parameters) (first : ℕ → List ℕ) (synced past : Trail) (log : List LogRecord) (start from end p : ℕ) (torn : List ℕ)
    → Stopped c first synced past log start from end p → NeverFall (records_from start log p) → HasFullImage (length torn) (records_from from log p) → length torn ≡ length (first p)
    → redo from log p torn ≡ redo start log p (first p)
recovers-torn c first synced past log start from end p torn s rises w long = go (some-out synced p past)
  where
    by : (image : List ℕ) → MayHave first synced past p image → redo from log p torn ≡ redo start log p (first p)
    by image may =
        let same = image-length c first synced end past p image s.legal s.gave_back may in
        redo-whole log from p torn image w (same ∙ sym long) ∙ recovers c first synced past log start from end p image s rises may

    go : WentOut synced past p ⊎ NoneSafe synced past p → redo from log p torn ≡ redo start log p (first p)
    go (inl out) = by out.image (inl (out, refl))
    go (inr none) = by (first p) (inr (none, refl))

-- ---- what a second run then has

-- a page to which a second run wrote what redo wants, and newer writes, has what the log of the first run tells, and these
pub seen-again : (c d : Parameters) (first second : ℕ → List ℕ) (synced past again : Trail) (log newer : List LogRecord) (start from end p : ℕ)
    → (s : Stopped c first synced past log start from end p) → NeverFall (records_from start log p) → MayHave first synced past p (second p)
    → Legal d again → HonestOf second p again → some (discards p) again ≡ false → records p again ≡ newer ++ records_from from log p → resident again p ≡ true
    → held again p ≡ put newer (put s.has.unwritten (written_into first (within end past) p))
seen-again c d first second synced past again log newer start from end p s rises may l h n told there =
    held-plain d second again p l h there
    ∙ plain-put d second p again l n
    ∙ ap (λ rs. put rs (second p)) told
    ∙ put-append newer (records_from from log p) (second p)
    ∙ ap (put newer) (recovers-plain c first synced past log start from end p (second p) s rises may)

-- ---- the entries within the log

pub within-in : (end : ℕ) (past : Trail) (e : Entry) → Contains (within end past) e → Contains past e × (lsn_of e.call ≤ end)
within-in end [] e k = absurd (contains-none e k)
within-in end (d ∷ past) e k = go (nat_le (lsn_of d.call) end) refl (within-in end past e) k
  where
    go : (b : Bool) → nat_le (lsn_of d.call) end ≡ b → (Contains (within end past) e → Contains past e × (lsn_of e.call ≤ end)) → Contains (cond b (d ∷ within end past) (within end past)) e
        → Contains (d ∷ past) e × (lsn_of e.call ≤ end)
    go true i ih k = elim (contains-cases d (within end past) e k) as (λ _. Contains (d ∷ past) e × (lsn_of e.call ≤ end)) [
      | inl same ↦ subst (λ x. Contains (d ∷ past) x × (lsn_of x.call ≤ end)) same (contains-here d past, leb-true (lsn_of d.call) end i)
      | inr older ↦ (let h = ih older in (contains-later d past e h.0, h.1))
    ]
    go false i ih k = let h = ih k in (contains-later d past e h.0, h.1)

pub within-from : (end : ℕ) (past : Trail) (e : Entry) → Contains past e → lsn_of e.call ≤ end → Contains (within end past) e
within-from end [] e k le = absurd (contains-none e k)
within-from end (d ∷ past) e k le = elim (contains-cases d past e k) as (λ _. Contains (within end (d ∷ past)) e) [
  | inl same ↦ subst (λ x. Contains (within end (d ∷ past)) x) same (here (le-leb (lsn_of d.call) end (subst (λ x. lsn_of x.call ≤ end) (sym same) le)))
  | inr older ↦ there (nat_le (lsn_of d.call) end) (within-from end past e older le)
]
  where
    here : nat_le (lsn_of d.call) end ≡ true → Contains (cond (nat_le (lsn_of d.call) end) (d ∷ within end past) (within end past)) d
    here i = rw i (contains-here d (within end past))

    there : (b : Bool) → Contains (within end past) e → Contains (cond b (d ∷ within end past) (within end past)) e
    there true k = contains-later d (within end past) e k
    there false k = k

pub within-is : (end : ℕ) (past : Trail) (e : Entry) → Contains (within end past) e ↔ (Contains past e × (lsn_of e.call ≤ end))
within-is end past e = (within-in end past e, λ h. within-from end past e h.0 h.1)

-- ---- redo, record by record

-- where all fit, each does
pub fit-at : (size from p : ℕ) (log : List LogRecord) (i : ℕ) (r : LogRecord) → i < length log → r ≡ get_or log i r → AllFit size (records_from from (reverse log) p) → AllFit size (records_from from (r ∷ []) p)
fit-at size from p log i r below is fit =
    let rest = drop (suc i) log in
    let cut : reverse log ≡ (reverse rest ++ r ∷ []) ++ reverse (take i log) =
    ap reverse (sym (take-append-drop i log) ∙ ap (λ xs. take i log ++ xs) (drop-cons log i r below ∙ ap (λ (x : LogRecord). x ∷ rest) (sym is)))
    ∙ reverse-append (take i log) (r ∷ rest) ∙ ap (λ xs. xs ++ reverse (take i log)) (reverse-append (r ∷ []) rest) in
    let parts = filter-append (wanted from p) (reverse rest ++ r ∷ []) (reverse (take i log)) ∙ ap (λ xs. xs ++ records_from from (reverse (take i log)) p) (filter-append (wanted from p) (reverse rest) (r ∷ [])) in
    let all = subst (AllFit size) (ap (λ rs. records_from from rs p) cut ∙ parts) fit in
    (fit-parts size (records_from from (reverse rest) p) (records_from from (r ∷ []) p) (fit-parts size (records_from from (reverse rest) p ++ records_from from (r ∷ []) p) (records_from from (reverse (take i log)) p) all).0).1

-- and where one does not
pub first-misfit : (size from p : ℕ) (log : List LogRecord) (i : ℕ) (r : LogRecord) (first image : List ℕ) → i < length log → r ≡ get_or log i r → AllFit size (records_from from (reverse (take i log)) p)
    → ¬ AllFit size (records_from from (r ∷ []) p) → image ≡ redo from (reverse (take i log)) p first → (m : FirstMisfit size from p log) × (image ≡ redo from (reverse m.before) p first)
first-misfit size from p log i r first image below is fit beyond made = (
  record {
    before = take i log;
    misfit = r;
    rest = drop (suc i) log;
    stands = sym (take-append-drop i log) ∙ ap (λ xs. take i log ++ xs) (drop-cons log i r below ∙ ap (λ (x : LogRecord). x ∷ drop (suc i) log) (sym is));
    fit = fit;
    beyond = beyond;
  },
  made,
)

-- ---- redo from the log alone

applied-anew : (apply : LogRecord → List ℕ → List ℕ) (newer older rest : List LogRecord) (full : LogRecord) (first image : List ℕ) → AppliesAlike apply (newer ++ full ∷ rest) first → apply full (apply_all apply older image) ≡ put (full ∷ rest) first
    → apply_all apply (newer ++ full ∷ older) image ≡ put (newer ++ full ∷ rest) first
applied-anew apply [] older rest full first image alike anew = anew
applied-anew apply (r ∷ newer) older rest full first image alike anew = ap (apply r) (applied-anew apply newer older rest full first image alike.before anew) ∙ alike.here

pub redo-alone : (apply : LogRecord → List ℕ → List ℕ) (first : ℕ → List ℕ) (past : Trail) (log : List LogRecord) (start from end p : ℕ) (image : List ℕ)
    → (h : LogHas log start from end past p) → AppliesAlike apply (records_from start log p) (first p) → MakesAnew apply log start from p (first p) image
    → apply_all apply (records_from from log p) image ≡ put h.unwritten (written_into first (within end past) p)
redo-alone apply first past log start from end p image h alike w =
    ap (λ rs. apply_all apply rs image) w.needed
    ∙ applied-anew apply w.newer w.older w.rest w.full (first p) image (subst (λ rs. AppliesAlike apply rs (first p)) w.all alike) w.anew
    ∙ ap (λ rs. put rs (first p)) (sym w.all)
    ∙ redo-plain first past log start from end p h

-- ---- a checkpoint, and a crash after it

pub checkpoint-recovers : (c : Parameters) (first : ℕ → List ℕ) (synced late : Trail) (log : List LogRecord) (least : Option ℕ) (start next end p : ℕ) (image : List ℕ)
    → Legal c (late ++ synced) → GaveBack c.size first end (late ++ synced) p → durable (late ++ synced) ≤ end
    → (h : LogHas log start (redo_point least next) end (late ++ synced) p) → start ≤ redo_point least next → NeverFall (records_from start log p)
    → IsRedoFrom synced least → WritesFrom next p late → MayHave first synced (late ++ synced) p image
    → redo (redo_point least next) log p image ≡ put h.unwritten (written_into first (within end (late ++ synced)) p)
checkpoint-recovers c first synced late log least start next end p image l g mark h le rises redo_from from may =
    recovers-plain c first synced (late ++ synced) log start (redo_point least next) end p image
    (record { legal = l; gave_back = g; mark = mark; has = h; from_start = le; point = checkpoint synced late least next p redo_from from })
    rises may

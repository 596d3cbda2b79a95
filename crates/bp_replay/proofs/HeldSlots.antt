-- Slots of passes, newest first: the newest of a key, and what one more leaves, and one whose pass goes back.
use Rattle.std.proofs.Common.{◌≡◌, refl, sym, ◌∙◌, ap, subst, ℕ, ◌+◌, ◌<◌, ◌≤◌, arith, cond, if◌then◌else◌, List, [], ◌∷◌, ◌++◌, true, false, not, Bool, ◌==◌, ◌&&◌, Option, Some, None, length, length-append, get_or, set, take, drop}
use Rattle.std.specs.Prelude.{find, filter, reverse}
use Rattle.std.proofs.lemmas.Bool.{eqb-true, eq-eqb, and_parts, and_from}
use Rattle.std.proofs.lemmas.List.{append_assoc, append-nil, length-reverse, reverse-append, reverse-reverse, set_at, get_or_at, take-append-drop, drop_more, take_more}
use Rattle.std.specs.HashMap.{HashMap, get}
use Rattle.bp_trail.specs.Event.{Grant}
use Rattle.bp_scripts.specs.Script.{is_pass_of}
use Rattle.bp_trail.specs.Lists.{count}
use Rattle.bp_replay.specs.declared.held_list.Slot.{Slot}
use Rattle.bp_replay.specs.HeldLists.{HeldValue, passes_in, same_key, has_pass_of, newest_of, AreLinked, FindsNewest}
use Rattle.bp_replay.specs.Rows.{SerialsDiffer}
use Rattle.bp_replay.proofs.Removing.{one-removed}

and-false : (b : Bool) → (b && false) ≡ false
and-false true = refl
and-false false = refl

-- ---- the passes of slots

pub passes-append : (ss ts : List Slot) → passes_in (ss ++ ts) ≡ passes_in ss ++ passes_in ts
passes-append [] ts = refl
passes-append (s ∷ ss) ts = go s.is_held (passes-append ss ts)
  where
    go : (b : Bool) → passes_in (ss ++ ts) ≡ passes_in ss ++ passes_in ts → (if b then s.note ∷ passes_in (ss ++ ts) else passes_in (ss ++ ts)) ≡ (if b then s.note ∷ passes_in ss else passes_in ss) ++ passes_in ts
    go true rest = ap (λ gs. s.note ∷ gs) rest
    go false rest = rest

pub passes-reverse : (ss : List Slot) → reverse (passes_in ss) ≡ passes_in (reverse ss)
passes-reverse [] = refl
passes-reverse (s ∷ ss) = sym (ap passes_in (reverse-append (s ∷ []) ss) ∙ passes-append (reverse ss) (s ∷ []) ∙ go s.is_held (passes-reverse ss))
  where
    go : (b : Bool) → reverse (passes_in ss) ≡ passes_in (reverse ss) → passes_in (reverse ss) ++ (if b then s.note ∷ [] else []) ≡ reverse (if b then s.note ∷ passes_in ss else passes_in ss)
    go true rest = ap (λ gs. gs ++ s.note ∷ []) (sym rest) ∙ sym (reverse-append (s.note ∷ []) (passes_in ss))
    go false rest = append-nil (passes_in (reverse ss)) ∙ sym rest

-- ---- the newest of a key

-- it stands between newer slots, none of which has a pass of the key, and older ones
pub record StandsIn (k : ℕ × ℕ) (slots : List Slot) (place : ℕ) : Type 0 where
  pub newer : List Slot
  pub slot : Slot
  pub older : List Slot
  pub split : slots ≡ newer ++ slot ∷ older
  pub place_is : length older ≡ place
  pub has : has_pass_of k slot ≡ true
  pub none : newest_of k newer ≡ None

pub newest-stands : (k : ℕ × ℕ) (slots : List Slot) (place : ℕ) → newest_of k slots ≡ Some place → StandsIn k slots place
newest-stands k [] place is = cc
newest-stands k (s ∷ older) place is = go (has_pass_of k s) refl is (newest-stands k older place)
  where
    go : (b : Bool) → has_pass_of k s ≡ b → (if b then Some (length older) else newest_of k older) ≡ Some place → (newest_of k older ≡ Some place → StandsIn k older place) → StandsIn k (s ∷ older) place
    go true has is later =
        let same : length older ≡ place = cc in
        record { newer = []; slot = s; older = older; split = refl; place_is = same; has = has; none = refl }
    go false other is later =
        let f = later is in
        record { newer = s ∷ f.newer; slot = f.slot; older = f.older; split = ap (λ ss. s ∷ ss) f.split; place_is = f.place_is; has = f.has; none = ap (λ b. if b then Some (length f.newer) else newest_of k f.newer) other ∙ f.none }

-- none has a pass of the key
record NoneHas (k : ℕ × ℕ) (s : Slot) (older : List Slot) : Type 0 where
  first : has_pass_of k s ≡ false
  others : newest_of k older ≡ None

none-parts : (k : ℕ × ℕ) (s : Slot) (older : List Slot) → newest_of k (s ∷ older) ≡ None → NoneHas k s older
none-parts k s older none = go (has_pass_of k s) refl none
  where
    go : (b : Bool) → has_pass_of k s ≡ b → (if b then Some (length older) else newest_of k older) ≡ None → NoneHas k s older
    go true has none = cc
    go false other none = record { first = other; others = none }

-- a slot that has no pass of the key is no matter to the search
find-other : (k : ℕ × ℕ) (s : Slot) (gs : List Grant) → has_pass_of k s ≡ false → find (is_pass_of k.0 k.1) (if s.is_held then s.note ∷ gs else gs) ≡ find (is_pass_of k.0 k.1) gs
find-other k s gs other = go s.is_held (is_pass_of k.0 k.1 s.note) refl other
  where
    go : (b p : Bool) → is_pass_of k.0 k.1 s.note ≡ p → (b && p) ≡ false → find (is_pass_of k.0 k.1) (if b then s.note ∷ gs else gs) ≡ find (is_pass_of k.0 k.1) gs
    go true true is other = cc
    go true false is other = ap (λ p. cond p (Some s.note) (find (is_pass_of k.0 k.1) gs)) is
    go false p is other = refl

pub find-none : (k : ℕ × ℕ) (slots : List Slot) → newest_of k slots ≡ None → find (is_pass_of k.0 k.1) (passes_in slots) ≡ None
find-none k [] none = refl
find-none k (s ∷ older) none =
    let parts = none-parts k s older none in
    find-other k s (passes_in older) parts.first ∙ find-none k older parts.others

find-here : (k : ℕ × ℕ) (s : Slot) (gs : List Grant) → has_pass_of k s ≡ true → find (is_pass_of k.0 k.1) (if s.is_held then s.note ∷ gs else gs) ≡ Some s.note
find-here k s gs has =
    let parts = and_parts s.is_held (is_pass_of k.0 k.1 s.note) has in
    ap (λ b. find (is_pass_of k.0 k.1) (if b then s.note ∷ gs else gs)) parts.0 ∙ ap (λ p. cond p (Some s.note) (find (is_pass_of k.0 k.1) gs)) parts.1

find-past : (k : ℕ × ℕ) (newer : List Slot) (s : Slot) (older : List Slot) → newest_of k newer ≡ None → has_pass_of k s ≡ true → find (is_pass_of k.0 k.1) (passes_in (newer ++ s ∷ older)) ≡ Some s.note
find-past k [] s older none has = find-here k s (passes_in older) has
find-past k (t ∷ newer) s older none has =
    let parts = none-parts k t newer none in
    find-other k t (passes_in (newer ++ s ∷ older)) parts.first ∙ find-past k newer s older parts.others has

pub find-newest : (k : ℕ × ℕ) (slots : List Slot) (place : ℕ) (stands : StandsIn k slots place) → find (is_pass_of k.0 k.1) (passes_in slots) ≡ Some stands.slot.note
find-newest k slots place stands = ap (λ ss. find (is_pass_of k.0 k.1) (passes_in ss)) stands.split ∙ find-past k stands.newer stands.slot stands.older stands.none stands.has

-- ---- a pass goes back

pub turned : (newer older : List Slot) (s : Slot) → reverse (newer ++ s ∷ older) ≡ reverse older ++ s ∷ reverse newer
turned newer older s = reverse-append newer (s ∷ older) ∙ ap (λ ss. ss ++ reverse newer) (reverse-append (s ∷ []) older) ∙ append_assoc (reverse older) (s ∷ []) (reverse newer)

-- who has a key
record HasKey (k : ℕ × ℕ) (s : Slot) : Type 0 where
  is_held : s.is_held ≡ true
  client_is : s.note.client ≡ k.0
  page_is : s.note.page ≡ k.1

key-of : (k : ℕ × ℕ) (s : Slot) → has_pass_of k s ≡ true → HasKey k s
key-of k s has =
    let parts = and_parts s.is_held (is_pass_of k.0 k.1 s.note) has in
    let both = and_parts (s.note.client == k.0) (s.note.page == k.1) parts.1 in
    record { is_held = parts.0; client_is = eqb-true s.note.client k.0 both.0; page_is = eqb-true s.note.page k.1 both.1 }

-- of slots newest first, the newest of key k, s, is followed by one whose pass went back
module _ (k : ℕ × ℕ) (s dead : Slot) (older : List Slot) (has : has_pass_of k s ≡ true) (gone : dead.is_held ≡ false) where
  dead-has : (q : ℕ × ℕ) → has_pass_of q dead ≡ false
  dead-has q = ap (λ b. b && is_pass_of q.0 q.1 dead.note) gone

  same-length : (newer : List Slot) → length (newer ++ dead ∷ older) ≡ length (newer ++ s ∷ older)
  same-length newer = omega (arith, length-append newer (dead ∷ older), length-append newer (s ∷ older))

  -- another key's newest stays
  newest-other : (q : ℕ × ℕ) → is_pass_of q.0 q.1 s.note ≡ false → (newer : List Slot) → newest_of q (newer ++ dead ∷ older) ≡ newest_of q (newer ++ s ∷ older)
  newest-other q other [] =
      let s-has : has_pass_of q s ≡ false = ap (λ p. s.is_held && p) other ∙ and-false s.is_held in
      ap (λ b. if b then Some (length older) else newest_of q older) (dead-has q) ∙ sym (ap (λ b. if b then Some (length older) else newest_of q older) s-has)
  newest-other q other (t ∷ newer) =
      ap (λ n. if has_pass_of q t then Some n else newest_of q (newer ++ dead ∷ older)) (same-length newer) ∙ ap (λ o. if has_pass_of q t then Some (length (newer ++ s ∷ older)) else o) (newest-other q other newer)

  -- its own key's is the one before it
  newest-own : (newer : List Slot) → newest_of k newer ≡ None → newest_of k (newer ++ dead ∷ older) ≡ newest_of k older
  newest-own [] none = ap (λ b. if b then Some (length older) else newest_of k older) (dead-has k)
  newest-own (t ∷ newer) none =
      let parts = none-parts k t newer none in
      ap (λ b. if b then Some (length (newer ++ dead ∷ older)) else newest_of k (newer ++ dead ∷ older)) parts.first ∙ newest-own newer parts.others

  -- a held slot of another key than k has a note that is not of the key of s
  keys-differ : (t : Slot) → t.is_held ≡ true → has_pass_of k t ≡ false → is_pass_of t.note.client t.note.page s.note ≡ false
  keys-differ t held apart = go (is_pass_of t.note.client t.note.page s.note) refl
    where
      go : (b : Bool) → is_pass_of t.note.client t.note.page s.note ≡ b → b ≡ false
      go false is = refl
      go true is =
          let both = and_parts (s.note.client == t.note.client) (s.note.page == t.note.page) is in
          let own = key-of k s has in
          let client : (t.note.client == k.0) ≡ true = eq-eqb t.note.client k.0 (sym (eqb-true s.note.client t.note.client both.0) ∙ own.client_is) in
          let page : (t.note.page == k.1) ≡ true = eq-eqb t.note.page k.1 (sym (eqb-true s.note.page t.note.page both.1) ∙ own.page_is) in
          let there : has_pass_of k t ≡ true = and_from t.is_held (is_pass_of k.0 k.1 t.note) held (and_from (t.note.client == k.0) (t.note.page == k.1) client page) in
          sym there ∙ apart

  pub links-left : (newer : List Slot) → newest_of k newer ≡ None → AreLinked (newer ++ s ∷ older) → AreLinked (newer ++ dead ∷ older)
  links-left [] none links =
      let dead-link : dead.is_held ≡ true → dead.previous ≡ newest_of (dead.note.client, dead.note.page) older = λ held. absurd (let no : false ≡ true = sym gone ∙ held in cc) in
      (dead-link, links.1)
  links-left (t ∷ newer) none links =
      let parts = none-parts k t newer none in
      let t-link : t.is_held ≡ true → t.previous ≡ newest_of (t.note.client, t.note.page) (newer ++ dead ∷ older) = λ held. links.0 held ∙ sym (newest-other (t.note.client, t.note.page) (keys-differ t held parts.first) newer) in
      (t-link, links-left newer parts.others links.1)

  -- what the links say of s itself
  pub own-link : (newer : List Slot) → AreLinked (newer ++ s ∷ older) → s.previous ≡ newest_of k older
  own-link [] links =
      let own = key-of k s has in
      links.0 own.is_held ∙ ap (λ c. newest_of (c, s.note.page) older) own.client_is ∙ ap (λ p. newest_of (k.0, p) older) own.page_is
  own-link (t ∷ newer) links = own-link newer links.1

  -- the newest of each key then
  pub newest-left : (newer : List Slot) → newest_of k newer ≡ None → AreLinked (newer ++ s ∷ older) → (q : ℕ × ℕ)
      → newest_of q (newer ++ dead ∷ older) ≡ (if is_pass_of q.0 q.1 s.note then s.previous else newest_of q (newer ++ s ∷ older))
  newest-left newer none links q = go (is_pass_of q.0 q.1 s.note) refl
    where
      go : (b : Bool) → is_pass_of q.0 q.1 s.note ≡ b → newest_of q (newer ++ dead ∷ older) ≡ (if b then s.previous else newest_of q (newer ++ s ∷ older))
      go false is = newest-other q is newer
      go true is =
          let both = and_parts (s.note.client == q.0) (s.note.page == q.1) is in
          let own = key-of k s has in
          let client : k.0 ≡ q.0 = sym own.client_is ∙ eqb-true s.note.client q.0 both.0 in
          let page : k.1 ≡ q.1 = sym own.page_is ∙ eqb-true s.note.page q.1 both.1 in
          let same : (k.0, k.1) ≡ (q.0, q.1) = λ i. (client i, page i) in
          ap (λ q. newest_of q (newer ++ dead ∷ older)) (sym same) ∙ newest-own newer none ∙ sym (own-link newer links)

-- ---- slots in the order taken, of which the newest of a key has this place

module _ (k : ℕ × ℕ) (slots : List Slot) (place : ℕ) (stands : StandsIn k (reverse slots) place) where
  in-order : slots ≡ reverse stands.older ++ stands.slot ∷ reverse stands.newer
  in-order = sym (reverse-reverse slots) ∙ ap reverse stands.split ∙ turned stands.newer stands.older stands.slot

  older-count : length (reverse stands.older) ≡ place
  older-count = length-reverse stands.older ∙ stands.place_is

  pub place-within : place < length slots
  place-within = omega (arith, ap length in-order, length-append (reverse stands.older) (stands.slot ∷ reverse stands.newer), older-count)

  pub slot-there : (d : Slot) → get_or slots place d ≡ stands.slot
  slot-there d = ap (λ ss. get_or ss place d) in-order ∙ get_or_at (reverse stands.older) stands.slot (reverse stands.newer) d place older-count

  pub passes-there : passes_in slots ≡ passes_in (reverse stands.older) ++ stands.slot.note ∷ passes_in (reverse stands.newer)
  passes-there = ap passes_in in-order ∙ passes-append (reverse stands.older) (stands.slot ∷ reverse stands.newer)
      ∙ ap (λ b. passes_in (reverse stands.older) ++ (if b then stands.slot.note ∷ passes_in (reverse stands.newer) else passes_in (reverse stands.newer))) (key-of k stands.slot stands.has).is_held

  module _ (dead : Slot) (gone : dead.is_held ≡ false) where
    set-there : set slots place dead ≡ reverse stands.older ++ dead ∷ reverse stands.newer
    set-there = ap (λ ss. set ss place dead) in-order ∙ set_at (reverse stands.older) stands.slot (reverse stands.newer) dead place older-count

    pub set-turned : reverse (set slots place dead) ≡ stands.newer ++ dead ∷ stands.older
    set-turned = ap reverse (set-there ∙ sym (turned stands.newer stands.older dead)) ∙ reverse-reverse (stands.newer ++ dead ∷ stands.older)

    pub set-passes : passes_in (set slots place dead) ≡ passes_in (reverse stands.older) ++ passes_in (reverse stands.newer)
    set-passes = ap passes_in set-there ∙ passes-append (reverse stands.older) (dead ∷ reverse stands.newer)
        ∙ ap (λ b. passes_in (reverse stands.older) ++ (if b then dead.note ∷ passes_in (reverse stands.newer) else passes_in (reverse stands.newer))) gone

    -- the pass alone is gone
    pub passes-left : SerialsDiffer (passes_in slots) → passes_in (set slots place dead) ≡ filter (λ (g : Grant). not (g.serial == stands.slot.note.serial)) (passes_in slots)
    passes-left differ =
        let n = stands.slot.note.serial in
        set-passes
        ∙ sym (ap (filter (λ (g : Grant). not (g.serial == n))) passes-there
        ∙ one-removed (passes_in (reverse stands.older)) (passes_in (reverse stands.newer)) stands.slot.note
        (subst (λ gs. count (λ (h : Grant). h.serial == n) gs ≤ 1) passes-there (differ n)))

    pub set-links : AreLinked (reverse slots) → AreLinked (reverse (set slots place dead))
    set-links links = subst AreLinked (sym set-turned) (links-left k stands.slot dead stands.older stands.has gone stands.newer stands.none (subst AreLinked stands.split links))

    pub set-newest : AreLinked (reverse slots) → (q : ℕ × ℕ) → newest_of q (reverse (set slots place dead)) ≡ (if is_pass_of q.0 q.1 stands.slot.note then stands.slot.previous else newest_of q (reverse slots))
    set-newest links q =
        ap (newest_of q) set-turned
        ∙ newest-left k stands.slot dead stands.older stands.has gone stands.newer stands.none (subst AreLinked stands.split links) q
        ∙ ap (λ ss. if is_pass_of q.0 q.1 stands.slot.note then stands.slot.previous else newest_of q ss) (sym stands.split)

-- ---- copying

-- one more slot of those that were looked at
pub passes-more : (slots : List Slot) (i : ℕ) (s : Slot) → i < length slots → s ≡ get_or slots i s → passes_in (take (i + 1) slots) ≡ passes_in (take i slots) ++ (if s.is_held then s.note ∷ [] else [])
passes-more slots i s within is = ap passes_in (take_more slots i s within ∙ ap (λ t. take i slots ++ t ∷ []) (sym is)) ∙ passes-append (take i slots) (s ∷ [])

-- there is room for one that is held still
pub passes-room : (slots : List Slot) (i : ℕ) (s : Slot) → i < length slots → s ≡ get_or slots i s → s.is_held ≡ true → length (passes_in (take i slots)) < length (passes_in slots)
passes-room slots i s within is held =
    let whole : passes_in slots ≡ passes_in (take i slots) ++ passes_in (drop i slots) = ap passes_in (sym (take-append-drop i slots)) ∙ passes-append (take i slots) (drop i slots) in
    let here : passes_in (drop i slots) ≡ s.note ∷ passes_in (drop (i + 1) slots) =
    ap passes_in (drop_more slots i s within ∙ ap (λ t. t ∷ drop (i + 1) slots) (sym is)) ∙ ap (λ b. if b then s.note ∷ passes_in (drop (i + 1) slots) else passes_in (drop (i + 1) slots)) held in
    omega (arith, ap length whole, ap length here, length-append (passes_in (take i slots)) (passes_in (drop i slots)))

-- ---- the table

-- what a look-up by client and page says of the slots
pub looked-up : {S : Type 0} (latest : HashMap (ℕ × ℕ) ℕ S) (slots : List Slot) (client page n : ℕ) (place o : Option ℕ) → FindsNewest latest slots → n ≡ page → place ≡ get same_key latest (client, n) → place ≡ o → newest_of (client, page) slots ≡ o
looked-up latest slots client page n place o finds number is found = sym (finds (client, page)) ∙ ap (λ n. get same_key latest (client, n)) (sym number) ∙ sym is ∙ found

-- the newest slot's pass is of the key
pub own-key : (k : ℕ × ℕ) (slots : List Slot) (place : ℕ) (stands : StandsIn k slots place) → (stands.slot.note.client, stands.slot.note.page) ≡ k
own-key k slots place stands = let own = key-of k stands.slot stands.has in λ i. (own.client_is i, own.page_is i)

-- what the list lends of its slots is what it is seen as
pub seen-latest : (slots : List Slot) (seen : HeldValue) (client page : ℕ) (o : Option Grant) → passes_in slots ≡ seen.passes → find (is_pass_of client page) (passes_in (reverse slots)) ≡ o → o ≡ find (is_pass_of client page) (reverse seen.passes)
seen-latest slots seen client page o are found = sym found ∙ ap (find (is_pass_of client page)) (sym (passes-reverse slots)) ∙ ap (λ gs. find (is_pass_of client page) (reverse gs)) are

-- a look-up in the table of slots in the order taken
module _ {S : Type 0} (latest : HashMap (ℕ × ℕ) ℕ S) (items : List Slot) (client page n : ℕ) (looked : Option ℕ) (finds : FindsNewest latest (reverse items)) (number : n ≡ page) (is : looked ≡ get same_key latest (client, n)) where
  pub stands-at : (place : ℕ) → looked ≡ Some place → StandsIn (client, page) (reverse items) place
  stands-at place found = newest-stands (client, page) (reverse items) place (looked-up latest (reverse items) client page n looked (Some place) finds number is found)

  pub none-found : (seen : HeldValue) → passes_in items ≡ seen.passes → looked ≡ None → None ≡ find (is_pass_of client page) (reverse seen.passes)
  none-found seen are none = seen-latest items seen client page None are (find-none (client, page) (reverse items) (looked-up latest (reverse items) client page n looked None finds number is none))

  pub note-found : (seen : HeldValue) (place : ℕ) (s : Slot) → passes_in items ≡ seen.passes → looked ≡ Some place → s ≡ get_or items place s → Some s.note ≡ find (is_pass_of client page) (reverse seen.passes)
  note-found seen place s are found read =
      let there = stands-at place found in
      ap (λ (s : Slot). Some s.note) (read ∙ slot-there (client, page) items place there s)
      ∙ seen-latest items seen client page (Some there.slot.note) are (find-newest (client, page) (reverse items) place there)

  -- its slot is marked: the table, once it has the place before at the slot's own key, finds the newest still
  module _ (place : ℕ) (s dead : Slot) (found : looked ≡ Some place) (read : s ≡ get_or items place s) (gone : dead.is_held ≡ false) where
    pub own-place : get same_key latest (s.note.client, s.note.page) ≡ Some place
    own-place =
        let there = stands-at place found in
        ap (λ (s : Slot). get same_key latest (s.note.client, s.note.page)) (read ∙ slot-there (client, page) items place there s)
        ∙ ap (get same_key latest) (own-key (client, page) (reverse items) place there) ∙ ap (λ n. get same_key latest (client, n)) (sym number) ∙ sym is ∙ found

    pub marked-links : AreLinked (reverse items) → AreLinked (reverse (set items place dead))
    marked-links links = set-links (client, page) items place (stands-at place found) dead gone links

    pub marked-newest : AreLinked (reverse items) → (new : HashMap (ℕ × ℕ) ℕ S) → ((q : ℕ × ℕ) → get same_key new q ≡ (if is_pass_of q.0 q.1 s.note then s.previous else get same_key latest q))
        → FindsNewest new (reverse (set items place dead))
    marked-newest links new places q =
        let there = stands-at place found in
        places q
        ∙ ap (λ (s : Slot). if is_pass_of q.0 q.1 s.note then s.previous else get same_key latest q) (read ∙ slot-there (client, page) items place there s)
        ∙ ap (λ o. if is_pass_of q.0 q.1 there.slot.note then there.slot.previous else o) (finds q)
        ∙ sym (set-newest (client, page) items place there dead gone links q)

    pub marked-passes : (seen : HeldValue) → passes_in items ≡ seen.passes → SerialsDiffer seen.passes → passes_in (set items place dead) ≡ filter (λ (g : Grant). not (g.serial == s.note.serial)) seen.passes
    marked-passes seen are differ =
        let there = stands-at place found in
        passes-left (client, page) items place there dead gone (subst SerialsDiffer (sym are) differ)
        ∙ ap (λ (s : Slot). filter (λ (g : Grant). not (g.serial == s.note.serial)) (passes_in items)) (sym (read ∙ slot-there (client, page) items place there s))
        ∙ ap (filter (λ (g : Grant). not (g.serial == s.note.serial))) are

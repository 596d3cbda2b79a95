-- The sessions of one more client ended, one in each part.
use Rattle.std.proofs.Common.{◌≡◌, ◌≢◌, ◌⊎◌, inl, inr, refl, sym, ap, ◌∙◌, subst, ℕ, ◌+◌, ◌<◌, List, [], ◌∷◌, ◌++◌, length, slice_index_or, slice_set, arith}
use Rattle.std.specs.declared.vec.Vec.{Vec}
use Rattle.std.proofs.Math.Nat.{eq-or-lt_of_le}
use Rattle.std.proofs.lemmas.Grind.{get_or-set_at}
use Rattle.std.proofs.lemmas.List.{get_or-set_other, get_or_append_left, get_or_default}
use Rattle.bp_trail.specs.Parameters.{Parameters}
use Rattle.bp_trail.specs.Trail.{Trail}
use Rattle.bp_core.specs.CoreView.{CoreView}
use Rattle.bp_mark.specs.Marks.{LogEndValue}
use Rattle.bp_session_log.specs.Books.{BookValue}
use Rattle.bp_shared.specs.Closing.{ClosedPartValue}
use Rattle.bp_shared.specs.Locked.{no_parameters}
use Rattle.bp_shared.specs.Posting.{TakesBack}
use Rattle.bp_shared.specs.Sessions.{SessionValue, new_session}
use Rattle.bp_shared.specs.Taking.{TakerValue}
use Rattle.bp_shared.proofs.Telling.{goes_on_taken, listed_taken_back}
use Rattle.bp_parts.specs.Parts.{PartedValue, AreSessionsOf}
use Rattle.bp_parts.specs.Ending.{AreEnded, BooksOf, CoresOf, EndsEach, EndsIn, IsBookOf, IsCoreOf, SameCores}
use Rattle.bp_parts.specs.Places.{AtEachPlace}
use Rattle.bp_parts.proofs.Placing.{at_end, each_pushed}

-- the end of another client's session leaves a book what it is
pub still_book : (start : Trail) (c : ℕ) (session : SessionValue) (old new : CoreView) (book : BookValue) → book.client ≢ c → TakesBack c old new → IsBookOf start session old.past book → IsBookOf start session new.past book
still_book start c session old new book apart takes is = record {
  client_is = is.client_is;
  before_is = is.before_is;
  said_is = is.said_is;
  saw = goes_on_taken c session.seen old new is.saw takes;
  theirs = listed_taken_back start c book.client old new book.said apart is.theirs takes;
}

pub ended_none : {A : Type 0} (start : Trail) (parts : ℕ) (sessions : List PartedValue) (closed : List ClosedPartValue) (books : List (Vec BookValue A)) → AreEnded start parts 0 sessions closed books
ended_none start parts sessions closed books = record {
  count = λ c l below. absurd (omega (arith, below));
  whose = λ c i l b below within. absurd (omega (arith, below));
  each = λ c i s v p l b below within. absurd (omega (arith, below));
}

no_part : ClosedPartValue
no_part = record { part = 0; core = record { parameters = no_parameters; before = []; past = [] } }

-- one client more, whose sessions these are
pub ended_more : {A : Type 0} (start : Trail) (parts k : ℕ) (sessions : List PartedValue) (own : PartedValue) (old new : List ClosedPartValue) (books : List (Vec BookValue A)) (book : Vec BookValue A)
    → AreEnded start parts k sessions old books → length old ≡ parts → length own.sessions ≡ parts → k < length books → own.client ≡ k → ((s : PartedValue) → slice_index_or sessions k s ≡ own) → AreSessionsOf own.client own.sessions
    → EndsEach start own.sessions old new book.items → length book.items ≡ parts → AreEnded start parts (k + 1) sessions new (slice_set books k book)
ended_more {A} start parts k sessions own old new books book so_far len many within number stands are ends count = record { count = counted; whose = whose; each = each }
  where
    here : (c : ℕ) (l : Vec BookValue A) → c ≡ k → slice_index_or (slice_set books k book) c l ≡ book
    here c l same = get_or-set_at books k c book l same within

    there : (c : ℕ) (l : Vec BookValue A) → c < k → slice_index_or (slice_set books k book) c l ≡ slice_index_or books c l
    there c l less = get_or-set_other books k c book l (λ same. absurd (omega (arith, less, same)))

    split : (c : ℕ) → c < k + 1 → (c ≡ k) ⊎ (c < k)
    split c below = eq-or-lt_of_le (omega (arith, below))

    counted : (c : ℕ) (l : Vec BookValue A) → c < k + 1 → length (slice_index_or (slice_set books k book) c l).items ≡ parts
    counted c l below = go (split c below)
      where
        go : (c ≡ k) ⊎ (c < k) → length (slice_index_or (slice_set books k book) c l).items ≡ parts
        go (inl same) = ap (λ (v : Vec BookValue A). length v.items) (here c l same) ∙ count
        go (inr less) = ap (λ (v : Vec BookValue A). length v.items) (there c l less) ∙ so_far.count c l less

    -- the client's session in a part
    its : (i : ℕ) (v : SessionValue) → i < parts → (slice_index_or own.sessions i v).client ≡ k
    its i v below = (are i v (omega (arith, below, many))).client_is ∙ number

    whose : (c i : ℕ) (l : Vec BookValue A) (b : BookValue) → c < k + 1 → i < parts → (slice_index_or (slice_index_or (slice_set books k book) c l).items i b).client ≡ c
    whose c i l b below inside = go (split c below)
      where
        go : (c ≡ k) ⊎ (c < k) → (slice_index_or (slice_index_or (slice_set books k book) c l).items i b).client ≡ c
        go (inl same) =
            ap (λ (w : Vec BookValue A). (slice_index_or w.items i b).client) (here c l same)
            ∙ (ends i (new_session [] 0) no_part no_part b (omega (arith, inside, len))).book_is.client_is ∙ its i (new_session [] 0) inside ∙ sym same
        go (inr less) = ap (λ (w : Vec BookValue A). (slice_index_or w.items i b).client) (there c l less) ∙ so_far.whose c i l b less inside

    each : (c i : ℕ) (s : PartedValue) (v : SessionValue) (p : ClosedPartValue) (l : Vec BookValue A) (b : BookValue) → c < k + 1 → i < parts
        → IsBookOf start (slice_index_or (slice_index_or sessions c s).sessions i v) (slice_index_or new i p).core.past (slice_index_or (slice_index_or (slice_set books k book) c l).items i b)
    each c i s v p l b below inside = go (split c below)
      where
        Of : PartedValue → Vec BookValue A → Type 0
        Of x w = IsBookOf start (slice_index_or x.sessions i v) (slice_index_or new i p).core.past (slice_index_or w.items i b)

        go : (c ≡ k) ⊎ (c < k) → Of (slice_index_or sessions c s) (slice_index_or (slice_set books k book) c l)
        go (inl same) =
            subst (λ x. Of x (slice_index_or (slice_set books k book) c l)) (sym (ap (λ n. slice_index_or sessions n s) same ∙ stands s))
            (subst (Of own) (sym (here c l same)) (ends i v p p b (omega (arith, inside, len))).book_is)
        go (inr less) =
            let ended = ends i v p p b (omega (arith, inside, len)) in
            let was = slice_index_or (slice_index_or books c l).items i b in
            let apart : was.client ≢ k = λ same. absurd (omega (arith, less, same, so_far.whose c i l b less inside)) in
            let takes = subst (λ n. TakesBack n (slice_index_or old i p).core (slice_index_or new i p).core) (its i v inside) ended.takes in
            subst (Of (slice_index_or sessions c s)) (sym (there c l less))
            (still_book start k _ (slice_index_or old i p).core (slice_index_or new i p).core was apart takes (so_far.each c i s v p l b less inside))

-- the books are of the cores that the parts leave
pub books_of : {A : Type 0} (start : Trail) (parts clients : ℕ) (sessions : List PartedValue) (closed : List ClosedPartValue) (cores : List CoreView) (books : List (Vec BookValue A)) → AreEnded start parts clients sessions closed books → SameCores closed cores → length cores ≡ parts
    → BooksOf start parts clients sessions cores books
books_of {A} start parts clients sessions closed cores books are same len = record {
  count = are.count;
  whose = are.whose;
  each = λ c i s v d l b below inside.
      let p : ClosedPartValue = record { part = 0; core = d } in
      subst (λ (core : CoreView). IsBookOf start (slice_index_or (slice_index_or sessions c s).sessions i v) core.past (slice_index_or (slice_index_or books c l).items i b))
      (sym (same i p d (omega (arith, inside, len)))) (are.each c i s v p l b below inside);
}

-- ---- one client's sessions, part after part

-- the same of the same
ends_at : (start : Trail) (s s' : SessionValue) (o o' n n' : ClosedPartValue) (b b' : BookValue) → s' ≡ s → o' ≡ o → n' ≡ n → b' ≡ b → EndsIn start s o n b → EndsIn start s' o' n' b'
ends_at start s s' o o' n n' b b' same_s same_o same_n same_b e =
    subst (λ x. EndsIn start x o' n' b') (sym same_s) (subst (λ x. EndsIn start s x n' b') (sym same_o) (subst (λ x. EndsIn start s o x b') (sym same_n) (subst (EndsIn start s o n) (sym same_b) e)))

-- the sessions of the first so many parts ended
abbrev pub EndsBelow : Trail → ℕ → List SessionValue → List ClosedPartValue → List ClosedPartValue → List BookValue → Type 0
EndsBelow start k sessions old new books =
    (i : ℕ) (s : SessionValue) (o n : ClosedPartValue) (b : BookValue) → i < k → EndsIn start (slice_index_or sessions i s) (slice_index_or old i o) (slice_index_or new i n) (slice_index_or books i b)

pub ends_more : (start : Trail) (k : ℕ) (sessions : List SessionValue) (old new : List ClosedPartValue) (books more : List BookValue) (session : SessionValue) (was is : ClosedPartValue) (book : BookValue)
    → EndsBelow start k sessions old new books → k < length new → length books ≡ k → more ≡ books ++ book ∷ [] → ((s : SessionValue) → slice_index_or sessions k s ≡ session) → ((o : ClosedPartValue) → slice_index_or old k o ≡ was)
    → EndsIn start session was is book → EndsBelow start (k + 1) sessions old (slice_set new k is) more
ends_more start k sessions old new books more session was is book so_far within len adds stands stood ends i s o n b below = go (eq-or-lt_of_le (omega (arith, below)))
  where
    go : (i ≡ k) ⊎ (i < k) → EndsIn start (slice_index_or sessions i s) (slice_index_or old i o) (slice_index_or (slice_set new k is) i n) (slice_index_or more i b)
    go (inl same) =
        ends_at start session _ was _ is _ book _ (ap (λ j. slice_index_or sessions j s) same ∙ stands s) (ap (λ j. slice_index_or old j o) same ∙ stood o) (get_or-set_at new k i is n same within)
        (ap (λ l. slice_index_or l i b) adds ∙ at_end books book i b (same ∙ sym len)) ends
    go (inr less) =
        ends_at start _ _ _ _ _ _ _ _ refl refl (get_or-set_other new k i is n (λ same. absurd (omega (arith, less, same))))
        (ap (λ l. slice_index_or l i b) adds ∙ get_or_append_left books (book ∷ []) b i (omega (arith, less, len))) (so_far i s o n b less)

-- what stands at each place of a list, whatever stands for what is not there
pub stands_each : {A : Type 0} (Is : ℕ → A → Type 0) (xs : List A) → AtEachPlace Is xs → AtEachPlace (λ i x. Is i x × ((e : A) → slice_index_or xs i e ≡ x)) xs
stands_each Is xs all i d below = (all i d below, λ e. get_or_default xs i e d below)

-- ---- cores, part after part

pub same_more : (closed : List ClosedPartValue) (cores more : List CoreView) (part : ClosedPartValue) (core : CoreView) → SameCores closed cores → more ≡ cores ++ core ∷ [] → ((p : ClosedPartValue) → slice_index_or closed (length cores) p ≡ part) → core ≡ part.core → SameCores closed more
same_more closed cores more part core so_far adds stands is i p d below =
    each_pushed (λ k x. (q : ClosedPartValue) → x ≡ (slice_index_or closed k q).core) cores more core (length cores) refl adds (λ k e less q. so_far k q e less) (λ q. is ∙ ap (λ (part : ClosedPartValue). part.core) (sym (stands q))) i d below p

pub cores_more : (p : Parameters) (start : Trail) (raised : ℕ) (takers : List TakerValue) (cores more : List CoreView) (taker : TakerValue) (core : CoreView) → CoresOf p start raised takers cores → more ≡ cores ++ core ∷ []
    → ((t : TakerValue) → slice_index_or takers (length cores) t ≡ taker) → IsCoreOf p start raised taker core → CoresOf p start raised takers more
cores_more p start raised takers cores more taker core so_far adds stands is i t d below =
    each_pushed (λ k x. (u : TakerValue) → IsCoreOf p start raised (slice_index_or takers k u) x) cores more core (length cores) refl adds (λ k e less u. so_far k u e less) (λ u. subst (λ v. IsCoreOf p start raised v core) (sym (stands u)) is) i d below t

-- the session, client, part, taker or log end that stands at a place, with its number
abbrev pub OwnSession : List SessionValue → ℕ → SessionValue → Type 0
OwnSession sessions i s = (s.part ≡ i) × ((d : SessionValue) → slice_index_or sessions i d ≡ s)

abbrev pub OwnClient : List PartedValue → ℕ → PartedValue → Type 0
OwnClient sessions i s = (s.client ≡ i) × ((d : PartedValue) → slice_index_or sessions i d ≡ s)

abbrev pub OwnPart : List ClosedPartValue → ℕ → ClosedPartValue → Type 0
OwnPart closed i part = (part.part ≡ i) × ((d : ClosedPartValue) → slice_index_or closed i d ≡ part)

abbrev pub OwnTaker : List TakerValue → ℕ → TakerValue → Type 0
OwnTaker takers i taker = (taker.part ≡ i) × ((d : TakerValue) → slice_index_or takers i d ≡ taker)

abbrev pub OwnEnd : List LogEndValue → ℕ → LogEndValue → Type 0
OwnEnd ends i e = (d : LogEndValue) → slice_index_or ends i d ≡ e

-- One part more.
use Rattle.std.proofs.Common.{◌≡◌, refl, sym, ap, ◌∙◌, subst, ℕ, zero, suc, ◌+◌, All, List, [], ◌∷◌, ◌++◌, length, arith}
use Rattle.std.proofs.lemmas.List.Elements.{All-append, All-cons, All-nil}
use Rattle.bp_mark.specs.Marks.{MarkName, LogEndValue}
use Rattle.bp_trail.specs.Trail.{Trail}
use Rattle.bp_shared.specs.Sessions.{SessionValue, new_session_of, new_sessions_of}
use Rattle.bp_shared.specs.Taking.{TakerValue}
use Rattle.bp_parts.specs.Logs.{AreEndsFrom}
use Rattle.bp_parts.specs.Making.{new_in_parts}
use Rattle.bp_parts.specs.Parts.{AreNumbered, AreSessionsOf, PartedValue}
use Rattle.bp_parts.specs.Places.{AtEachPlace, up_to}
use Rattle.bp_parts.proofs.Placing.{AtPlacesFrom, below_pushed, from_first, up_to_each, up_to_length, up_to_more}

-- all of a list, and one more
pub all_more : {A : Type 0} (P : A → Type 0) (xs ys : List A) (x : A) → ys ≡ xs ++ x ∷ [] → All P xs → P x → All P ys
all_more P xs ys x more all last = subst (All P) (sym more) (All-append P xs (x ∷ []) all (All-cons P x [] last (All-nil P)))

pub none_all : {A : Type 0} (P : A → Type 0) (xs : List A) → xs ≡ [] → All P xs
none_all P xs none = subst (All P) (sym none) (All-nil P)

pub none_each : {A : Type 0} (Is : ℕ → A → Type 0) (xs : List A) → length xs ≡ 0 → AtEachPlace Is xs
none_each Is xs none i d below = absurd (omega (arith, below, none))

-- a part's sessions, place by place
sessions_up_to : (part n : ℕ) → new_sessions_of part [] n ≡ up_to (new_session_of part []) n
sessions_up_to part zero = refl
sessions_up_to part (suc n) = ap (λ l. l ++ new_session_of part [] n ∷ []) (sessions_up_to part n)

pub sessions_from : (part n : ℕ) (given left : List SessionValue) → given ≡ new_sessions_of part [] n → left ≡ given → AtPlacesFrom (λ client s. s ≡ new_session_of part [] client) 0 left
sessions_from part n given left are is =
    from_first (λ client s. s ≡ new_session_of part [] client) given left is (up_to_each (new_session_of part []) n given (are ∙ sessions_up_to part n))

-- a client's list with its session of one part more
pub row_more : (part client : ℕ) (old new : List SessionValue) (s : SessionValue) → old ≡ new_in_parts part client → new ≡ old ++ s ∷ [] → s ≡ new_session_of part [] client → new ≡ new_in_parts (part + 1) client
row_more part client old new s are more is = up_to_more (λ n. new_session_of n [] client) part (part + 1) old new s are more is refl

-- the parts have the numbers of their places
pub numbered_up_to : (n : ℕ) (parts : List ℕ) → parts ≡ up_to (λ part. part) n → AreNumbered parts
numbered_up_to n parts are i d below = up_to_each (λ part. part) n parts are i d below

-- one log end more, which was not raised
pub ends_pushed : (mark : ℕ → MarkName) (xs ys : List LogEndValue) (e : LogEndValue) (n : ℕ) → AreEndsFrom mark 0 0 n xs → length xs ≡ n → ys ≡ xs ++ e ∷ []
    → e ≡ record { mark = mark n; frontier = 0 } → AreEndsFrom mark 0 0 (n + 1) ys
ends_pushed mark xs ys e n are is more new i d from below =
    below_pushed (λ k x. x ≡ record { mark = mark k; frontier = 0 }) xs ys e n is more (λ k f less. are k f (omega arith) less) new i d below

-- a client's new sessions are its own, one in each part
pub own_row : (parts client : ℕ) (xs : List SessionValue) → xs ≡ new_in_parts parts client → AreSessionsOf client xs
own_row parts client xs are i d below =
    let at = up_to_each (λ n. new_session_of n [] client) parts xs are i d below in
    record { client_is = ap (λ (s : SessionValue). s.client) at; part_is = ap (λ (s : SessionValue). s.part) at }

pub parted_is : (v : PartedValue) (client : ℕ) (sessions : List SessionValue) → v.client ≡ client → v.sessions ≡ sessions → v ≡ record { client = client; sessions = sessions }
parted_is v client sessions who what =
    ap (λ (c : ℕ). record { client = c; sessions = v.sessions }) who ∙ ap (λ s. record { client = client; sessions = s }) what

pub sessions_at : (part n : ℕ) → length (new_sessions_of part [] n) ≡ n
sessions_at part n = ap length (sessions_up_to part n) ∙ up_to_length (new_session_of part []) n

pub taker_is : (t : TakerValue) (part : ℕ) → t.part ≡ part → t.past ≡ [] → t.pieces ≡ 0 → t ≡ record { part = part; past = []; pieces = 0 }
taker_is t part who had many =
    ap (λ (n : ℕ). record { part = n; past = t.past; pieces = t.pieces }) who ∙ ap (λ (p : Trail). record { part = part; past = p; pieces = t.pieces }) had ∙ ap (λ (n : ℕ). record { part = part; past = []; pieces = n }) many

pub end_is : (e : LogEndValue) (mark own : MarkName) → e.mark ≡ own → own ≡ mark → e.frontier ≡ 0 → e ≡ record { mark = mark; frontier = 0 }
end_is e mark own its named low =
    ap (λ (m : MarkName). record { mark = m; frontier = e.frontier }) (its ∙ named) ∙ ap (λ (n : ℕ). record { mark = mark; frontier = n }) low

-- Lists side by side: workers, ports, their jobs, and what these leave.
use Rattle.std.proofs.Common.{◌≡◌, ◌⊎◌, inl, inr, refl, sym, ap, ◌∙◌, subst, ℕ, ◌+◌, ◌<◌, All, List, [], ◌∷◌, ◌++◌, length, slice_index_or, arith}
use Rattle.std.specs.declared.vec.Vec.{Vec}
use Rattle.std.proofs.Math.Nat.{eq-or-lt_of_le}
use Rattle.std.proofs.lemmas.List.{get_or_append_left, get_or_default}
use Rattle.bp_trail.specs.Clients.{of_client}
use Rattle.bp_trail.specs.Parameters.{Parameters}
use Rattle.bp_core.specs.CoreView.{CoreView}
use Rattle.bp_ports.specs.Stripes.{StripedView}
use Rattle.bp_session_log.specs.Books.{BookValue}
use Rattle.bp_shared.specs.Sessions.{SessionValue}
use Rattle.bp_shared.specs.Taking.{TakerValue}
use Rattle.bp_shared.proofs.Telling.{listed_whole}
use Rattle.bp_parts.specs.Ending.{AreClients, BooksOf, IsBookOf}
use Rattle.bp_parts.specs.Making.{new_in_parts}
use Rattle.bp_parts.specs.Parts.{PartedValue}
use Rattle.bp_parts.specs.Places.{AtEachPlace}
use Rattle.bp_parts.proofs.Placing.{AtPlacesFrom, at_end, below_pushed, from_first, rest_are}
use Rattle.bp_part_workers.specs.declared.worker.PartedLeft.{PartedLeft}
use Rattle.bp_part_workers.specs.Workers.{IsPortTo, Leaving}
use Rattle.bp_part_workers.specs.Jobs.{AreNewJobs, AreTakenApart, IsNewJob, IsReady, IsTakenApart, JobValue, Ran}
use Rattle.bp_part_workers.specs.Runs.{AreLeftBy, IsBookBy, IsLeftBy}

-- what stands at a place of a list, whatever stands for what is not there
abbrev pub Stands : {A : Type 0} → List A → ℕ → A → Type 0
Stands {A} xs i x = (d : A) → slice_index_or xs i d ≡ x

pub stands_all : {A : Type 0} (xs : List A) → AtEachPlace (Stands xs) xs
stands_all xs i d below e = get_or_default xs i e d below

-- the sessions of a client whose sessions are new
abbrev pub new_client : ℕ → ℕ → PartedValue
new_client parts client = record { client = client; sessions = new_in_parts parts client }

abbrev pub IsNewClient : ℕ → ℕ → PartedValue → Type 0
IsNewClient parts client s = s ≡ new_client parts client

-- the port that was given to a client
abbrev pub IsGiven : {S : Type 0} → ℕ → Parameters → List (StripedView S) → ℕ → StripedView S → Type 0
IsGiven parts p ports client port = Stands ports client port × IsPortTo parts p port

pub all_given : {S : Type 0} (parts : ℕ) (p : Parameters) (ports : List (StripedView S)) → All (IsPortTo parts p) ports → AtEachPlace (IsGiven parts p ports) ports
all_given parts p ports are i d below = (stands_all ports i d below, are i d below)

-- what was left from the first place on is left from a place that is the first
pub at_zero : {A : Type 0} (Is : ℕ → A → Type 0) (n : ℕ) (xs left : List A) → n ≡ 0 → left ≡ xs → AtEachPlace Is xs → AtPlacesFrom Is n left
at_zero Is n xs left zero gives are = subst (λ k. AtPlacesFrom Is k left) (sym zero) (from_first Is xs left gives are)

pub at_next : {A : Type 0} (Is : ℕ → A → Type 0) (k m : ℕ) (left rest : List A) (x : A) → m ≡ k + 1 → left ≡ x ∷ rest → AtPlacesFrom Is k left → AtPlacesFrom Is m rest
at_next Is k m left rest x one next are = subst (λ n. AtPlacesFrom Is n rest) (sym one) (rest_are Is k left rest x are next)

-- ---- the jobs, one after another

abbrev pub AreNewBelow : {W S : Type 0} → ℕ → ℕ → List W → List (StripedView S) → List (JobValue W S) → Type 0
AreNewBelow {W} {S} parts k workers ports jobs = (c : ℕ) (w : W) (p : StripedView S) (j : JobValue W S) → c < k → IsNewJob parts c (slice_index_or workers c w) (slice_index_or ports c p) (slice_index_or jobs c j)

pub none_new : {W S : Type 0} (parts : ℕ) (workers : List W) (ports : List (StripedView S)) (jobs : List (JobValue W S)) → AreNewBelow parts 0 workers ports jobs
none_new parts workers ports jobs c w p j below = absurd (omega (arith, below))

pub new_more : {W S : Type 0} (parts k : ℕ) (workers : List W) (ports : List (StripedView S)) (jobs more : List (JobValue W S)) (w : W) (p : StripedView S) (j : JobValue W S)
    → AreNewBelow parts k workers ports jobs → length jobs ≡ k → more ≡ jobs ++ j ∷ [] → Stands workers k w → Stands ports k p → IsNewJob parts k w p j → AreNewBelow parts (k + 1) workers ports more
new_more {W} {S} parts k workers ports jobs more w p j so_far len adds at_w at_p is c u q d below =
    below_pushed (λ n x. (v : W) (r : StripedView S) → IsNewJob parts n (slice_index_or workers n v) (slice_index_or ports n r) x) jobs more j k len adds (λ n e less v r. so_far n v r e less)
    (λ v r. record { worker_is = is.worker_is ∙ sym (at_w v); port_is = is.port_is ∙ sym (at_p r); session_is = is.session_is }) c d below u q

pub all_ready : {W S : Type 0} (parts : ℕ) (workers : List W) (ports : List (StripedView S)) (jobs : List (JobValue W S)) → AreNewJobs parts workers ports jobs → All (IsReady parts) jobs
all_ready {W} {S} parts workers ports jobs are c d below =
    let is = (are.each c d.worker d.port d (omega (arith, below, are.count))).session_is in
    ap (λ (s : PartedValue). s.sessions) is ∙ ap (λ (n : ℕ). new_in_parts parts n) (sym (ap (λ (s : PartedValue). s.client) is))

-- ---- what is taken of the jobs, one after another

apart_at : {W S : Type 0} (j k : JobValue W S) (s t : PartedValue) (l m : PartedLeft W S) → k ≡ j → t ≡ s → m ≡ l → IsTakenApart j s l → IsTakenApart k t m
apart_at j k s t l m same_j same_s same_l is = subst (λ x. IsTakenApart x t m) (sym same_j) (subst (λ x. IsTakenApart j x m) (sym same_s) (subst (IsTakenApart j s) (sym same_l) is))

abbrev pub AreApartBelow : {W S : Type 0} → ℕ → List (JobValue W S) → List PartedValue → List (PartedLeft W S) → Type 0
AreApartBelow {W} {S} k jobs sessions left = (c : ℕ) (j : JobValue W S) (s : PartedValue) (l : PartedLeft W S) → c < k → IsTakenApart (slice_index_or jobs c j) (slice_index_or sessions c s) (slice_index_or left c l)

pub none_apart : {W S : Type 0} (jobs : List (JobValue W S)) (sessions : List PartedValue) (left : List (PartedLeft W S)) → AreApartBelow 0 jobs sessions left
none_apart jobs sessions left c j s l below = absurd (omega (arith, below))

pub apart_more : {W S : Type 0} (k : ℕ) (jobs : List (JobValue W S)) (sessions more : List PartedValue) (left others : List (PartedLeft W S)) (job : JobValue W S) (session : PartedValue) (one : PartedLeft W S)
    → AreApartBelow k jobs sessions left → length sessions ≡ k → length left ≡ k → more ≡ sessions ++ session ∷ [] → others ≡ left ++ one ∷ [] → Stands jobs k job → IsTakenApart job session one → AreApartBelow (k + 1) jobs more others
apart_more k jobs sessions more left others job session one so_far len_s len_l adds_s adds_l stands is c j s l below = go (eq-or-lt_of_le (omega (arith, below)))
  where
    go : (c ≡ k) ⊎ (c < k) → IsTakenApart (slice_index_or jobs c j) (slice_index_or more c s) (slice_index_or others c l)
    go (inl same) =
        apart_at job _ session _ one _ (ap (λ i. slice_index_or jobs i j) same ∙ stands j)
        (ap (λ xs. slice_index_or xs c s) adds_s ∙ at_end sessions session c s (same ∙ sym len_s)) (ap (λ xs. slice_index_or xs c l) adds_l ∙ at_end left one c l (same ∙ sym len_l)) is
    go (inr less) =
        apart_at _ _ _ _ _ _ refl (ap (λ xs. slice_index_or xs c s) adds_s ∙ get_or_append_left sessions (session ∷ []) s c (omega (arith, less, len_s)))
        (ap (λ xs. slice_index_or xs c l) adds_l ∙ get_or_append_left left (one ∷ []) l c (omega (arith, less, len_l))) (so_far c j s l less)

-- ---- from the jobs to what they left

abbrev pub EachRan : {W S : Type 0} → Leaving W S → List (JobValue W S) → List (JobValue W S) → Type 0
EachRan {W} {S} Leaves olds news = (k : ℕ) (d : JobValue W S) → k < length olds → Ran Leaves (slice_index_or olds k d) (slice_index_or news k d)

-- some job of this worker and port
some_job : {W S : Type 0} → W → StripedView S → JobValue W S
some_job w p = record { worker = w; port = p; session = record { client = 0; sessions = [] } }

pub clients_are : {W S : Type 0} (Leaves : Leaving W S) (parts : ℕ) (workers : List W) (ports : List (StripedView S)) (olds news : List (JobValue W S)) (sessions : List PartedValue) (left : List (PartedLeft W S))
    → AreNewJobs parts workers ports olds → length ports ≡ length workers → length news ≡ length olds → EachRan Leaves olds news → AreTakenApart news sessions left → AreClients sessions
clients_are Leaves parts [] ports olds news sessions left are len same ran apart c s below = absurd (omega (arith, below, apart.sessions_are, same, are.count))
clients_are Leaves parts (w ∷ workers) [] olds news sessions left are len same ran apart c s below = absurd (omega (arith, len))
clients_are Leaves parts (w ∷ workers) (p ∷ ports) olds news sessions left are len same ran apart c s below =
    let j = some_job w p in
    let in_olds : c < length olds = omega (arith, below, apart.sessions_are, same) in
    let t = apart.each c j s (record { worker = w; port = p }) (omega (arith, below, apart.sessions_are)) in
    ap (λ (v : PartedValue). v.client) t.session_is ∙ (ran c j in_olds).whose ∙ ap (λ (v : PartedValue). v.client) (are.each c w p j (omega (arith, in_olds, are.count))).session_is

-- what a client's job left, by its worker's own word
left_by : {W S : Type 0} (Leaves : Leaving W S) (parts client : ℕ) (worker : W) (port : StripedView S) (old new : JobValue W S) (session : PartedValue) (left : PartedLeft W S)
    → IsNewJob parts client worker port old → Ran Leaves old new → IsTakenApart new session left → Leaves client worker port left.worker left.port new.session.sessions
left_by Leaves parts client worker port old new session left is ran apart =
    let sessions = new.session.sessions in
    subst (λ (c : ℕ). Leaves c worker port left.worker left.port sessions) (ap (λ (v : PartedValue). v.client) is.session_is)
    (subst (λ w. Leaves old.session.client w port left.worker left.port sessions) is.worker_is
    (subst (λ p. Leaves old.session.client old.worker p left.worker left.port sessions) is.port_is
    (subst (λ w. Leaves old.session.client old.worker old.port w left.port sessions) (sym apart.worker_is)
    (subst (λ p. Leaves old.session.client old.worker old.port new.worker p sessions) (sym apart.port_is) ran.leaves))))

-- a client's book of a part, of a pool that began with no entry
book_by : (client : ℕ) (returned : SessionValue) (core : CoreView) (book : BookValue) → book.client ≡ client → IsBookOf [] returned core.past book → IsBookBy client returned core book
book_by client returned core book whose is = record {
  client_is = whose;
  cut = is.before_is;
  said_is = is.said_is;
  saw = is.saw;
  theirs = subst (λ c. of_client c core.past ≡ book.said) whose (listed_whole core.past book.client book.said is.theirs);
}

pub all_left_by : {W S A : Type 0} (Leaves : Leaving W S) (parts clients : ℕ) (workers : List W) (ports : List (StripedView S)) (olds news : List (JobValue W S)) (sessions : List PartedValue) (left : List (PartedLeft W S)) (cores : List CoreView) (books : List (Vec BookValue A))
    → AreNewJobs parts workers ports olds → length news ≡ length olds → EachRan Leaves olds news → AreTakenApart news sessions left → BooksOf [] parts clients sessions cores books → clients ≡ length workers → length books ≡ length workers
    → AreLeftBy Leaves parts workers ports cores left books
all_left_by {W} {S} {A} Leaves parts clients workers ports olds news sessions left cores books are same ran apart ended many book_for_each = record {
  left_are = apart.left_are ∙ same ∙ are.count;
  books_are = book_for_each;
  each = each;
}
  where
    no_session : PartedValue
    no_session = record { client = 0; sessions = [] }

    each : (c : ℕ) (w : W) (p : StripedView S) (l : PartedLeft W S) (b : Vec BookValue A) → c < length workers → IsLeftBy Leaves parts cores c (slice_index_or workers c w) (slice_index_or ports c p) (slice_index_or left c l) (slice_index_or books c b).items
    each c w p l b below =
        let j = some_job w p in
        let in_olds : c < length olds = omega (arith, below, are.count) in
        let in_news : c < length news = omega (arith, in_olds, same) in
        let own = slice_index_or news c j in
        let t = apart.each c j no_session l in_news in
        let in_clients : c < clients = omega (arith, below, many) in
        record {
          returned = own.session.sessions;
          leaves = left_by Leaves parts c (slice_index_or workers c w) (slice_index_or ports c p) (slice_index_or olds c j) own (slice_index_or sessions c no_session) (slice_index_or left c l) (are.each c w p j below) (ran c j in_olds) t;
          count = ended.count c b in_clients;
          each = λ i s d k inside.
              book_by c (slice_index_or own.session.sessions i s) (slice_index_or cores i d) (slice_index_or (slice_index_or books c b).items i k) (ended.whose c i b k in_clients inside)
              (subst (λ (v : PartedValue). IsBookOf [] (slice_index_or v.sessions i s) (slice_index_or cores i d).past (slice_index_or (slice_index_or books c b).items i k)) t.session_is (ended.each c i no_session s d b k in_clients inside));
        }

-- what takes the trail of a part, and took nothing yet
abbrev pub new_taker : ℕ → TakerValue
new_taker part = record { part = part; past = []; pieces = 0 }

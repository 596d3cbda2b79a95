-- Lists side by side: workers, their jobs and what these leave.
use Rattle.std.proofs.Common.{◌≡◌, refl, sym, ◌∙◌, ap, subst, ℕ, zero, suc, ◌+◌, ◌<◌, ◌≤◌, true, false, arith, List, [], ◌∷◌, ◌++◌, All, length, get_or, Option, Some, None}
use Rattle.std.specs.Prelude.{IsSome, is_some, zip}
use Rattle.std.proofs.lemmas.List.{append_assoc, append-nil}
use Rattle.std.proofs.lemmas.List.Elements.{All-nil, All-cons}
use Rattle.bp_page.specs.declared.limits.Geometry.{Geometry}
use Rattle.bp_trail.specs.Parameters.{Parameters}
use Rattle.bp_trail.specs.HeldPasses.{held_passes}
use Rattle.bp_trail.specs.Trail.{Trail}
use Rattle.bp_trail.specs.Clients.{of_client}
use Rattle.bp_core.specs.CoreView.{CoreView}
use Rattle.bp_shared.specs.Sessions.{SessionValue, new_session, new_sessions}
use Rattle.bp_shared.specs.Telling.{GoesOnFrom}
use Rattle.bp_shared.proofs.Telling.{listed_whole, listed_taken_back, goes_on_taken}
use Rattle.bp_shared.specs.Posting.{TakesBack}
use Rattle.bp_workers.specs.declared.worker.Left.{Left}
use Rattle.bp_workers.specs.Giving.{GoBack}
use Rattle.bp_workers.specs.Lists.{SideBySide}
use Rattle.bp_workers.specs.Workers.{UpkeepValue, new_upkeep, Leaving}
use Rattle.bp_workers.specs.Jobs.{IsOfPool, JobValue, IsReady, Ran, IsLeftOf, AreNumbered, first_upkeep}
use Rattle.bp_workers.specs.Runs.{IsNewJob, KeepsUp, LeftBy}

pub as_long : {A B : Type 0} (P : ℕ → A → B → Type 0) (n : ℕ) (xs : List A) (ys : List B) → SideBySide P n xs ys → length xs ≡ length ys
as_long P n [] [] each = refl
as_long P n (x ∷ xs) (y ∷ ys) each = ap suc (as_long P (suc n) xs ys each.1)
as_long P n [] (y ∷ ys) each = absurd each
as_long P n (x ∷ xs) [] each = absurd each

-- one more of each
pub side_more : {A B : Type 0} (P : ℕ → A → B → Type 0) (n m : ℕ) (xs : List A) (ys : List B) (x : A) (y : B) → SideBySide P n xs ys → n + length ys ≡ m → P m x y → SideBySide P n (xs ++ x ∷ []) (ys ++ y ∷ [])
side_more P n m [] [] x y each at is = (subst (λ k. P k x y) (omega (arith, at)) is, tt)
side_more P n m (a ∷ xs) (b ∷ ys) x y each at is = (each.0, side_more P (suc n) m xs ys x y each.1 (omega (arith, at)) is)
side_more P n m [] (b ∷ ys) x y each at is = absurd each
side_more P n m (a ∷ xs) [] x y each at is = absurd each

-- some were put beside these, and the rest is to come
pub record Beside {A B : Type 0} (P : ℕ → A → B → Type 0) (all rest : List A) (made : List B) : Type 0 where
  pub done : List A
  pub joined : done ++ rest ≡ all
  pub each : SideBySide P 0 done made

pub none_beside : {A B : Type 0} (P : ℕ → A → B → Type 0) (all rest : List A) (made : List B) → rest ≡ all → made ≡ [] → Beside P all rest made
none_beside P all rest made whole none = record { done = []; joined = whole; each = subst (SideBySide P 0 []) (sym none) tt }

pub one_beside : {A B : Type 0} (P : ℕ → A → B → Type 0) (all rest later : List A) (made after : List B) (x : A) (y : B) (n : ℕ) → Beside P all rest made → rest ≡ x ∷ later → after ≡ made ++ y ∷ [] → length made ≡ n → P n x y → Beside P all later after
one_beside P all rest later made after x y n so_far next adds at is = record {
  done = so_far.done ++ x ∷ [];
  joined = append_assoc so_far.done (x ∷ []) later ∙ ap (λ xs. so_far.done ++ xs) (sym next) ∙ so_far.joined;
  each = subst (SideBySide P 0 (so_far.done ++ x ∷ [])) (sym adds) (side_more P 0 n so_far.done made x y so_far.each (omega (arith, at)) is);
}

pub all_beside : {A B : Type 0} (P : ℕ → A → B → Type 0) (all rest : List A) (made : List B) → Beside P all rest made → length rest ≡ 0 → SideBySide P 0 all made
all_beside P all [] made b none = subst (λ xs. SideBySide P 0 xs made) (sym (append-nil b.done) ∙ b.joined) b.each
all_beside P all (x ∷ rest) made b none = absurd (omega (arith, none))

-- ---- sessions, counted from a client on

abbrev pub sessions_from : ℕ → ℕ → List SessionValue
sessions_from first zero = []
sessions_from first (suc n) = new_session [] first ∷ sessions_from (suc first) n

one_more : (first n : ℕ) → sessions_from first (suc n) ≡ sessions_from first n ++ new_session [] (first + n) ∷ []
one_more first zero = ap (λ c. new_session [] c ∷ []) (omega arith)
one_more first (suc n) = ap (λ ss. new_session [] first ∷ ss) (one_more (suc first) n ∙ ap (λ c. sessions_from (suc first) n ++ new_session [] c ∷ []) (omega arith))

pub in_order : (n : ℕ) → new_sessions [] n ≡ sessions_from 0 n
in_order zero = refl
in_order (suc n) = ap (λ ss. ss ++ new_session [] n ∷ []) (in_order n) ∙ sym (one_more 0 n ∙ ap (λ c. sessions_from 0 n ++ new_session [] c ∷ []) (omega arith))

-- the session that comes next, and those after it
pub record NextSession (n left : ℕ) (s : SessionValue) (rest : List SessionValue) : Type 0 where
  pub is : s ≡ new_session [] n
  pub after : rest ≡ sessions_from (suc n) left

pub next_session : (n m left : ℕ) (sessions rest : List SessionValue) (s : SessionValue) → sessions ≡ sessions_from n m → sessions ≡ s ∷ rest → m ≡ suc left → NextSession n left s rest
next_session n m left sessions rest s are begins some =
    let same : s ∷ rest ≡ new_session [] n ∷ sessions_from (suc n) left = sym begins ∙ are ∙ ap (sessions_from n) some in
    record { is = cc; after = cc }

-- ---- jobs

-- workers and ports one by one
pub one_of_each : {W P : Type 0} (ws later : List W) (ps rest : List P) (w : W) (p : P) → ws ≡ w ∷ later → ps ≡ p ∷ rest → zip ws ps ≡ (w, p) ∷ zip later rest
one_of_each ws later ps rest w p first second = ap (λ xs. zip xs ps) first ∙ ap (λ ys. zip (w ∷ later) ys) second

pub none_of_each : {W P : Type 0} (ws : List W) (ps : List P) → length ws ≡ 0 → length (zip ws ps) ≡ 0
none_of_each [] ps none = refl
none_of_each (w ∷ ws) ps none = absurd (omega (arith, none))

pub as_many : {W P : Type 0} (ws : List W) (ps : List P) → length ps ≡ length ws → length (zip ws ps) ≡ length ws
as_many [] ps same = refl
as_many (w ∷ ws) [] same = absurd (omega (arith, same))
as_many (w ∷ ws) (p ∷ ps) same = ap suc (as_many ws ps (omega (arith, same)))

pub all_ready : {W P : Type 0} (n : ℕ) (given : List (W × P)) (jobs : List (JobValue W P)) → SideBySide IsNewJob n given jobs → All IsReady jobs
all_ready n [] [] each = All-nil IsReady
all_ready n (x ∷ given) (j ∷ jobs) each =
    let new = each.0 in
    let client : n ≡ j.session.client = sym (ap (λ s. s.client) new.session) in
    All-cons IsReady j jobs (record {
      new = new.session ∙ ap (new_session []) client;
      upkeep = new.upkeep ∙ ap new_upkeep client;
    }) (all_ready (suc n) given jobs each.1)
all_ready n [] (j ∷ jobs) each = absurd each
all_ready n (x ∷ given) [] each = absurd each

pub new_numbered : {W P : Type 0} (n : ℕ) (given : List (W × P)) (jobs : List (JobValue W P)) → SideBySide IsNewJob n given jobs → AreNumbered n jobs
new_numbered n [] [] each = tt
new_numbered n (x ∷ given) (j ∷ jobs) each = (ap (λ (s : SessionValue). s.client) each.0.session, new_numbered (suc n) given jobs each.1)
new_numbered n [] (j ∷ jobs) each = absurd each
new_numbered n (x ∷ given) [] each = absurd each

has_upkeep : (upkeep : Option UpkeepValue) → upkeep ≡ new_upkeep 0 → IsSome upkeep
has_upkeep None is = absurd (let no = is in cc)
has_upkeep (Some u) is = refl

pub first_keeps : {W P : Type 0} (given : List (W × P)) (jobs : List (JobValue W P)) → SideBySide IsNewJob 0 given jobs → 0 < length given → IsSome (first_upkeep jobs)
first_keeps [] jobs each some = absurd (omega (arith, some))
first_keeps (x ∷ given) [] each some = absurd each
first_keeps (x ∷ given) (j ∷ jobs) each some = has_upkeep j.upkeep each.0.upkeep

-- each job ran
abbrev pub EachRan : {W P : Type 0} → Leaving W P → List (JobValue W P) → List (JobValue W P) → Type 0
EachRan Leaves olds news = (k : ℕ) (d : _) → k < length olds → Ran Leaves (get_or olds k d) (get_or news k d)

pub still_keeps : {W P : Type 0} (Leaves : Leaving W P) (olds news : List (JobValue W P)) → length news ≡ length olds → EachRan Leaves olds news → IsSome (first_upkeep olds) → IsSome (first_upkeep news)
still_keeps Leaves [] news len ran is = absurd (let no = is in cc)
still_keeps Leaves (j ∷ olds) [] len ran is = absurd (omega (arith, len))
still_keeps Leaves (j ∷ olds) (k ∷ news) len ran is = (ran 0 j (omega arith)).upkeep ∙ is

pub ran_numbered : {W P : Type 0} (Leaves : Leaving W P) (n : ℕ) (olds news : List (JobValue W P)) → length news ≡ length olds → EachRan Leaves olds news → AreNumbered n olds → AreNumbered n news
ran_numbered Leaves n [] [] len ran are = tt
ran_numbered Leaves n (o ∷ olds) (j ∷ news) len ran are = ((ran 0 o (omega arith)).whose ∙ are.0, ran_numbered Leaves (suc n) olds news (omega (arith, len)) (λ k d below. ran (suc k) d (omega (arith, below))) are.1)
ran_numbered Leaves n [] (j ∷ news) len ran are = absurd (omega (arith, len))
ran_numbered Leaves n (o ∷ olds) [] len ran are = absurd (omega (arith, len))

-- ---- what jobs left of their sessions, one after another
-- what is left of the job of this client
pub record IsLeftAt {W P K I B S : Type 0} (p : Parameters) (geometry_of : P → Geometry) (start past : Trail) (client : ℕ) (j : JobValue W P) (left : Left P W K I B S) : Type 0 where
  pub number : j.session.client ≡ client
  pub left_is : IsLeftOf p geometry_of start past j left

-- the end of another client's session leaves it
left_still : {W P K I B S : Type 0} (p : Parameters) (geometry_of : P → Geometry) (start : Trail) (c client : ℕ) (old new : CoreView) (j : JobValue W P) (left : Left P W K I B S) → client < c → TakesBack c old new → IsLeftAt p geometry_of start old.past client j left
    → IsLeftAt p geometry_of start new.past client j left
left_still p geometry_of start c client old new j left below b is = record {
  number = is.number;
  left_is = record {
    worker = is.left_is.worker;
    port = is.left_is.port;
    of_pool = is.left_is.of_pool;
    client = is.left_is.client;
    before = is.left_is.before;
    said = is.left_is.said;
    saw = goes_on_taken c j.session.seen old new is.left_is.saw b;
    held = is.left_is.held;
    all_back = is.left_is.all_back;
    theirs = listed_taken_back start c left.book.client old new left.book.said (λ same. let mine = is.left_is.client ∙ is.number in absurd (omega (arith, same, mine, below))) is.left_is.theirs b;
  };
}

each_still : {W P K I B S : Type 0} (p : Parameters) (geometry_of : P → Geometry) (start : Trail) (c n : ℕ) (old new : CoreView) (jobs : List (JobValue W P)) (lefts : List (Left P W K I B S)) → n + length lefts ≤ c → TakesBack c old new
    → SideBySide (IsLeftAt p geometry_of start old.past) n jobs lefts → SideBySide (IsLeftAt p geometry_of start new.past) n jobs lefts
each_still p geometry_of start c n old new [] [] below b each = tt
each_still p geometry_of start c n old new (j ∷ jobs) (l ∷ lefts) below b each = (left_still p geometry_of start c n old new j l (omega (arith, below)) b each.0, each_still p geometry_of start c (suc n) old new jobs lefts (omega (arith, below)) b each.1)
each_still p geometry_of start c n old new [] (l ∷ lefts) below b each = absurd each
each_still p geometry_of start c n old new (j ∷ jobs) [] below b each = absurd each

pub left_beside : {W P K I B S : Type 0} (p : Parameters) (geometry_of : P → Geometry) (start : Trail) (c : ℕ) (old new : CoreView) (all rest later : List (JobValue W P)) (made after : List (Left P W K I B S)) (j : JobValue W P) (left : Left P W K I B S)
    → Beside (IsLeftAt p geometry_of start old.past) all rest made → rest ≡ j ∷ later → after ≡ made ++ left ∷ [] → length made ≡ c → j.session.client ≡ c → TakesBack j.session.client old new → IsLeftOf p geometry_of start new.past j left
    → Beside (IsLeftAt p geometry_of start new.past) all later after
left_beside p geometry_of start c old new all rest later made after j left so_far next adds at number b is =
    let back : TakesBack c old new = subst (λ n. TakesBack n old new) number b in
    let still : Beside (IsLeftAt p geometry_of start new.past) all rest made = record { done = so_far.done; joined = so_far.joined; each = each_still p geometry_of start c 0 old new so_far.done made (omega (arith, at)) back so_far.each } in
    one_beside (IsLeftAt p geometry_of start new.past) all rest later made after j left c still next adds at (record { number = number; left_is = is })

pub first_beside : {W P K I B S : Type 0} (p : Parameters) (geometry_of : P → Geometry) (start past : Trail) (all later : List (JobValue W P)) (made after : List (Left P W K I B S)) (j : JobValue W P) (left : Left P W K I B S)
    → all ≡ j ∷ later → made ≡ [] → after ≡ made ++ left ∷ [] → AreNumbered 0 all → IsLeftOf p geometry_of start past j left → Beside (IsLeftAt p geometry_of start past) all later after
first_beside p geometry_of start past all later made after j left begins none adds are is =
    one_beside (IsLeftAt p geometry_of start past) all all later made after j left 0 (none_beside (IsLeftAt p geometry_of start past) all all made refl none) begins adds (ap length none)
    (record { number = (subst (AreNumbered 0) begins are).0; left_is = is })

pub left_of_each : {W P K I B S : Type 0} (p : Parameters) (geometry_of : P → Geometry) (start past : Trail) (n : ℕ) (jobs : List (JobValue W P)) (lefts : List (Left P W K I B S)) → SideBySide (IsLeftAt p geometry_of start past) n jobs lefts
    → SideBySide (λ _. IsLeftOf p geometry_of start past) n jobs lefts
left_of_each p geometry_of start past n [] [] each = tt
left_of_each p geometry_of start past n (j ∷ jobs) (l ∷ lefts) each = (each.0.left_is, left_of_each p geometry_of start past (suc n) jobs lefts each.1)
left_of_each p geometry_of start past n [] (l ∷ lefts) each = absurd each
left_of_each p geometry_of start past n (j ∷ jobs) [] each = absurd each

pub next_numbered : {W P : Type 0} (n m : ℕ) (rest later : List (JobValue W P)) (j : JobValue W P) → rest ≡ j ∷ later → m ≡ n + 1 → AreNumbered n rest → (j.session.client ≡ n) × AreNumbered m later
next_numbered n m rest later j next is are =
    let both : AreNumbered n (j ∷ later) = subst (AreNumbered n) next are in
    let more : suc n ≡ m = omega (arith, is) in
    (both.0, subst (λ k. AreNumbered k later) more both.1)

-- only client 0 has the upkeep, and what it came to is known of that
keeps_at : (core : CoreView) (n : ℕ) (old new : Option UpkeepValue) → old ≡ new_upkeep n → is_some new ≡ is_some old → (n ≡ 0 → KeepsUp core 0 new) → KeepsUp core n new
keeps_at core zero old new given same first = first refl
keeps_at core (suc n) old None given same first = tt
keeps_at core (suc n) old (Some u) given same first = absurd (let no : true ≡ false = same ∙ ap (λ (o : Option UpkeepValue). is_some o) given in cc)

-- what one job left is what is left of its client
left_by : {W P K I B S : Type 0} (p : Parameters) (geometry_of : P → Geometry) (core : CoreView) (Leaves : Leaving W P) (client : ℕ) (given : W × P) (old new : JobValue W P) (left : Left P W K I B S)
    → IsNewJob client given old → Ran Leaves old new → IsLeftOf p geometry_of [] core.past new left → p ≡ core.parameters → (client ≡ 0 → KeepsUp core 0 new.upkeep) → LeftBy core geometry_of Leaves client given left
left_by p geometry_of core Leaves client given old new left is ran leaves same keeps =
    let own : old.session.client ≡ client = ap (λ (s : SessionValue). s.client) is.session in
    let whose : left.book.client ≡ client = leaves.client ∙ ran.whose ∙ own in
    record {
      returned = ran.returned;
      upkeep = new.upkeep;
      leaves =
          subst (λ (c : ℕ). Leaves c given.0 given.1 left.worker left.port ran.returned new.upkeep) own
          (subst (λ w. Leaves old.session.client w given.1 left.worker left.port ran.returned new.upkeep) is.worker_is
          (subst (λ q. Leaves old.session.client old.worker q left.worker left.port ran.returned new.upkeep) is.port_is
          (subst (λ w. Leaves old.session.client old.worker old.port w left.port ran.returned new.upkeep) (sym leaves.worker)
          (subst (λ q. Leaves old.session.client old.worker old.port new.worker q ran.returned new.upkeep) (sym leaves.port) ran.leaves))));
      keeps_up = keeps_at core client old.upkeep new.upkeep is.upkeep ran.upkeep keeps;
      of_pool = subst (λ q. IsOfPool q (geometry_of left.port)) same leaves.of_pool;
      whose = whose;
      client_is = leaves.client ∙ ran.client;
      held = leaves.held ∙ ran.held;
      back = subst (GoBack ran.returned.said) (sym leaves.said) ran.back;
      all_back = (leaves.all_back ∙ ran.all_back.0, ap held_passes leaves.said ∙ ran.all_back.1);
      cut = leaves.before ∙ ran.before;
      saw = subst (λ l. GoesOnFrom l core.past) ran.seen leaves.saw;
      theirs = subst (λ c. of_client c core.past ≡ left.book.said) whose (listed_whole core.past left.book.client left.book.said leaves.theirs);
    }

each_left : {W P K I B S : Type 0} (p : Parameters) (geometry_of : P → Geometry) (core : CoreView) (Leaves : Leaving W P) (n : ℕ) (given : List (W × P)) (olds news : List (JobValue W P)) (lefts : List (Left P W K I B S))
    → SideBySide IsNewJob n given olds → length news ≡ length olds → EachRan Leaves olds news → SideBySide (λ _. IsLeftOf p geometry_of [] core.past) n news lefts → p ≡ core.parameters
    → (n ≡ 0 → 0 < length news → KeepsUp core 0 (first_upkeep news)) → SideBySide (LeftBy core geometry_of Leaves) n given lefts
each_left p geometry_of core Leaves n [] [] [] [] new len ran left same keeps = tt
each_left p geometry_of core Leaves n (x ∷ given) (o ∷ olds) (j ∷ news) (l ∷ lefts) new len ran left same keeps = (
  left_by p geometry_of core Leaves n x o j l new.0 (ran 0 j (omega arith)) left.0 same (λ none. keeps none (omega arith)),
  each_left p geometry_of core Leaves (suc n) given olds news lefts new.1 (omega (arith, len)) (λ k d below. ran (suc k) d (omega (arith, below))) left.1 same (λ none _. absurd (omega (arith, none))),
)
each_left p geometry_of core Leaves n [] (o ∷ olds) news lefts new len ran left same keeps = absurd new
each_left p geometry_of core Leaves n (x ∷ given) [] news lefts new len ran left same keeps = absurd new
each_left p geometry_of core Leaves n [] [] (j ∷ news) lefts new len ran left same keeps = absurd (omega (arith, len))
each_left p geometry_of core Leaves n [] [] [] (l ∷ lefts) new len ran left same keeps = absurd left
each_left p geometry_of core Leaves n (x ∷ given) (o ∷ olds) [] lefts new len ran left same keeps = absurd (omega (arith, len))
each_left p geometry_of core Leaves n (x ∷ given) (o ∷ olds) (j ∷ news) [] new len ran left same keeps = absurd left

pub all_left_by : {W P K I B S : Type 0} (p : Parameters) (geometry_of : P → Geometry) (core : CoreView) (Leaves : Leaving W P) (u : UpkeepValue) (given : List (W × P)) (olds news : List (JobValue W P)) (lefts : List (Left P W K I B S))
    → SideBySide IsNewJob 0 given olds → length news ≡ length olds → EachRan Leaves olds news → SideBySide (λ _. IsLeftOf p geometry_of [] core.past) 0 news lefts → p ≡ core.parameters
    → first_upkeep news ≡ Some u → KeepsUp core 0 (Some u) → SideBySide (LeftBy core geometry_of Leaves) 0 given lefts
all_left_by p geometry_of core Leaves u given olds news lefts new len ran left same first keeps =
    each_left p geometry_of core Leaves 0 given olds news lefts new len ran left same (λ _ _. subst (KeepsUp core 0) (sym first) keeps)

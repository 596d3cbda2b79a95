-- Scripts that fit, and a player for each.
use Rattle.std.proofs.Common.{◌≡◌, refl, sym, ◌∙◌, ap, subst, ℕ, suc, ◌+◌, ◌<◌, arith, List, [], ◌∷◌, ◌++◌, length, get_or, Bool, true, false, ◌==◌, ◌≢◌}
use Rattle.std.proofs.lemmas.Bool.{eqb-true, eq-eqb}
use Rattle.std.specs.declared.vec.Vec.{Vec}
use Rattle.std.proofs.lemmas.List.{get_or-map, length-map, append_assoc}
use Rattle.bp_page.specs.declared.limits.Geometry.{Geometry}
use Rattle.bp_scripts.specs.declared.rows.Row.{Row}
use Rattle.bp_scripts.specs.declared.rows.Step.{Step}
use Rattle.bp_scripts.specs.declared.rows.Step.TheVariants as step
use Rattle.bp_trail.specs.Parameters.{Parameters}
use Rattle.bp_scripts.specs.Fits.{StepFits}
use Rattle.bp_replay.specs.Scripts.{list_of, lists, ScriptFits, EachScriptFits, CanPlay, EachCanPlay}
use Rattle.bp_replay.specs.Players.{PlayerValue, new_player, new_players}

-- the list that the vector at a place holds
list_at : {A : Type 0} (scripts : List (Vec Row A)) (n : ℕ) (script : Vec Row A) (rows : List Row) → n < length scripts → script ≡ get_or scripts n script → rows ≡ script.items → list_of n (lists scripts) ≡ rows
list_at scripts n script rows below is are = get_or-map (λ v. v.items) scripts n script [] below ∙ ap (λ v. v.items) (sym is) ∙ sym are

-- the script at a place fits where each does
pub fits_at : {A : Type 0} (p : Parameters) (scripts : List (Vec Row A)) (n : ℕ) (script : Vec Row A) (rows : List Row) → n < length scripts → script ≡ get_or scripts n script → rows ≡ script.items
    → EachScriptFits p (lists scripts) → ScriptFits p n rows
fits_at p scripts n script rows below is are fits =
    subst (λ rs. ScriptFits p n rs) (list_at scripts n script rows below is are) (fits n (omega (arith, below, length-map scripts (λ v. v.items))))

-- one script more fits
pub one_more_fits : {A : Type 0} (p : Parameters) (scripts : List (Vec Row A)) (n : ℕ) (script : Vec Row A) (rows : List Row) → ((c : ℕ) → c < n → ScriptFits p c (list_of c (lists scripts))) → n < length scripts
    → script ≡ get_or scripts n script → rows ≡ script.items → ScriptFits p n rows → (c : ℕ) → c < n + 1 → ScriptFits p c (list_of c (lists scripts))
one_more_fits p scripts n script rows so_far below is are fits c within = go (c == n) refl
  where
    go : (b : Bool) → (c == n) ≡ b → ScriptFits p c (list_of c (lists scripts))
    go true same = subst (λ m. ScriptFits p m (list_of m (lists scripts))) (sym (eqb-true c n same)) (subst (λ rs. ScriptFits p n rs) (sym (list_at scripts n script rows below is are)) fits)
    go false other = let apart : c ≢ n = λ same. (let both = eq-eqb c n same in cc) in so_far c (omega (arith, within, apart))

-- ---- what players need

-- whether a step fits is a matter of the pages
step-fits : (p q : Parameters) (s : Step) → q.pages ≡ p.pages → q.size ≡ p.size → StepFits p s → StepFits q s
step-fits p q (step.Fix page) pages size fits = subst (λ n. page < n) (sym pages) fits
step-fits p q (step.Unfix page) pages size fits = subst (λ n. page < n) (sym pages) fits
step-fits p q (step.Read page) pages size fits = subst (λ n. page < n) (sym pages) fits
step-fits p q (step.Write page offset bytes lsn) pages size fits = (subst (λ n. page < n) (sym pages) fits.0, omega (arith, fits.1, size))
step-fits p q (step.Flush page) pages size fits = subst (λ n. page < n) (sym pages) fits
step-fits p q (step.Discard page) pages size fits = subst (λ n. page < n) (sym pages) fits
step-fits p q (step.Tick n) pages size fits = tt
step-fits p q step.Purge pages size fits = tt
step-fits p q (step.Log lsn) pages size fits = tt

can-play : (p : Parameters) (g : Geometry) (c : ℕ) (rows : List Row) → p.pages ≡ g.pages → p.size ≡ g.size → ScriptFits p c rows → CanPlay g c rows
can-play p g c rows pages size fits q q_pages q_size k d below =
    let row = fits k d below in
    record { own = row.own; fits = step-fits p q (get_or rows k d).step (q_pages ∙ sym pages) (q_size ∙ sym size) row.fits.step_fits }

can-play_from : (p : Parameters) (g : Geometry) (first : ℕ) (scripts : List (List Row)) → p.pages ≡ g.pages → p.size ≡ g.size → ((k c : ℕ) → first + k ≡ c → k < length scripts → ScriptFits p c (list_of k scripts)) → EachCanPlay g first scripts
can-play_from p g first [] pages size each = tt
can-play_from p g first (script ∷ scripts) pages size each = (
  can-play p g first script pages size (each 0 first (omega arith) (omega arith)),
  can-play_from p g (suc first) scripts pages size (λ k c is below. each (suc k) c (omega (arith, is)) (omega (arith, below))),
)

pub each_can_play : (p : Parameters) (g : Geometry) (scripts : List (List Row)) → p.pages ≡ g.pages → p.size ≡ g.size → EachScriptFits p scripts → EachCanPlay g 0 scripts
each_can_play p g scripts pages size each = can-play_from p g 0 scripts pages size (λ k c is below. subst (λ n. ScriptFits p n (list_of k scripts)) (omega (arith, is)) (each k below))

-- the script that comes next can be played, and so can those after it
pub next_can_play : (g : Geometry) (n : ℕ) (rows : List Row) (scripts rest : List (List Row)) → EachCanPlay g n scripts → scripts ≡ rows ∷ rest → CanPlay g n rows × EachCanPlay g (suc n) rest
next_can_play g n rows scripts rest each begins = subst (EachCanPlay g n) begins each

-- ---- one player more

pub made_more : (g : Geometry) (players after all : List PlayerValue) (n next : ℕ) (rows : List Row) (scripts rest : List (List Row)) (p : PlayerValue) → players ++ new_players g n scripts ≡ all → scripts ≡ rows ∷ rest → after ≡ players ++ p ∷ []
    → p ≡ new_player g n rows → next ≡ suc n → after ++ new_players g next rest ≡ all
made_more g players after all n next rows scripts rest p so_far begins adds is one =
    ap (λ m. after ++ new_players g m rest) one ∙ ap (λ ps. ps ++ new_players g (suc n) rest) (adds ∙ ap (λ q. players ++ q ∷ []) is) ∙ append_assoc players (new_player g n rows ∷ []) (new_players g (suc n) rest)
    ∙ ap (λ ss. players ++ new_players g n ss) (sym begins) ∙ so_far

pub length-new_players : (g : Geometry) (first : ℕ) (scripts : List (List Row)) → length (new_players g first scripts) ≡ length scripts
length-new_players g first [] = refl
length-new_players g first (script ∷ scripts) = ap suc (length-new_players g (suc first) scripts)

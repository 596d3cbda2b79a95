-- In the piece of which row an entry stands.
use Rattle.std.proofs.Common.{◌≡◌, ◌⊎◌, inl, inr, ℕ, suc, ◌+◌, ◌<◌, ◌≤◌, false, List, [], ◌∷◌, ◌++◌, length, reverse, refl, sym, ap, ◌∙◌, subst, length-append, arith, true≢false}
use Rattle.std.proofs.lemmas.List.{reverse-append, length-reverse}
use Rattle.bp_trail.specs.declared.entries.Entry.{Entry}
use Rattle.bp_scripts.specs.declared.rows.Row.{Row}
use Rattle.bp_scripts.specs.declared.rows.Refused.{Refused}
use Rattle.bp_trail.specs.Lists.{EachEntry}
use Rattle.bp_trail.specs.Event.{Grant}
use Rattle.bp_trail.specs.Trail.{Trail}
use Rattle.bp_trail.specs.HeldPasses.{unfix_of}
use Rattle.bp_trail.specs.Pieces.{Manner}
use Rattle.bp_scripts.specs.Script.{FollowsBy, Follows, GivesBack}
use Rattle.bp_scripts.specs.Script.GivesBack.{none_held, next}
use Rattle.bp_trail.specs.Clients.{of_client}
use Rattle.bp_scripts.specs.LogBound.{row_at, is_unfix, EntryWithinLog, IsWithinLog}
use Rattle.bp_scripts.specs.InPieces.{StandsIn, InPieceOf, BoundedByItsRow}
use Rattle.bp_trail.proofs.OfClient.{of_client-append, of_client-hit}
use Rattle.bp_trail.proofs.Since.{each_before}

-- an end past the place counts nothing, and one at or before it counts one more where all before it did
pub stops_there : (ends : List ℕ) (end place : ℕ) → place < end → row_at (ends ++ end ∷ []) place ≡ row_at ends place
stops_there [] end place past_it = grind arith
stops_there (x ∷ ends) end place past_it = grind (arith, stops_there ends end place past_it)

goes_on : (ends : List ℕ) (end place : ℕ) → end ≤ place → row_at ends place ≡ length ends → row_at (ends ++ end ∷ []) place ≡ suc (length ends)
goes_on [] end place by_then all = grind arith
goes_on (x ∷ ends) end place by_then all = grind (arith, goes_on ends end place by_then)

reverse-cons : {X : Type 0} (x : X) (xs : List X) → reverse (x ∷ xs) ≡ reverse xs ++ x ∷ []
reverse-cons x xs = reverse-append (x ∷ []) xs

-- each row has an end
pub same_length : (m : Manner) (rows : List Row) (ends : List ℕ) (past : Trail) (refusals : List Refused) → FollowsBy m rows ends past refusals → length ends ≡ length rows
same_length m [] [] past refusals cut = refl
same_length m [] (end ∷ ends) past refusals cut = absurd cut
same_length m (row ∷ rows) [] past refusals cut = absurd cut
same_length m (row ∷ rows) (end ∷ ends) past refusals cut = ap suc (same_length m rows ends cut.before cut.earlier cut.follows)

-- past the last entry, all pieces have ended
pub all_ended : (m : Manner) (rows : List Row) (ends : List ℕ) (past : Trail) (refusals : List Refused) (place : ℕ) → FollowsBy m rows ends past refusals → length past ≤ place → row_at (reverse ends) place ≡ length ends
all_ended m [] [] past refusals place cut after = refl
all_ended m [] (end ∷ ends) past refusals place cut after = absurd cut
all_ended m (row ∷ rows) [] past refusals place cut after = absurd cut
all_ended m (row ∷ rows) (end ∷ ends) past refusals place cut after =
    let longer : length past ≡ length cut.adds.piece + length cut.before = ap length cut.adds.grows ∙ length-append cut.adds.piece cut.before in
    let rest : row_at (reverse ends) place ≡ length ends = all_ended m rows ends cut.before cut.earlier place cut.follows (omega arith) in
    let ends_by : end ≤ place = omega (arith, cut.ends_here) in
    ap (λ (xs : List ℕ). row_at xs place) (reverse-cons end ends) ∙ goes_on (reverse ends) end place ends_by (rest ∙ sym (length-reverse ends)) ∙ ap suc (length-reverse ends)

-- e stands in the first of two lists that are joined, or in the second
pub record Later (newer second older : Trail) (e : Entry) : Type 0 where
  pub rest : Trail
  pub has : second ≡ rest ++ e ∷ older

further : (x y : Entry) (newer piece before older : Trail) (e : Entry) → StandsIn piece before older e ⊎ Later newer before older e → StandsIn (x ∷ piece) before older e ⊎ Later (y ∷ newer) before older e
further x y newer piece before older e (inl h) = inl (record { newer = x ∷ h.newer; sooner = h.sooner; has = ap (λ zs. x ∷ zs) h.has; follows = h.follows })
further x y newer piece before older e (inr h) = inr (record { rest = h.rest; has = h.has })

split : (newer piece before older : Trail) (e : Entry) → newer ++ e ∷ older ≡ piece ++ before → StandsIn piece before older e ⊎ Later newer before older e
split newer [] before older e is = inr (record { rest = newer; has = sym is })
split [] (x ∷ piece) before older e is =
    let same : x ≡ e = cc in
    let tail : older ≡ piece ++ before = cc in
    inl (record { newer = []; sooner = piece; has = ap (λ y. y ∷ piece) same; follows = tail })
split (y ∷ newer) (x ∷ piece) before older e is =
    let tail : newer ++ e ∷ older ≡ piece ++ before = cc in
    further x y newer piece before older e (split newer piece before older e tail)

-- where e stands
at_place : (m : Manner) (row : Row) (rows : List Row) (end : ℕ) (ends : List ℕ) (past newer older : Trail) (e : Entry) (refusals : List Refused) (cut : FollowsBy m (row ∷ rows) (end ∷ ends) past refusals)
    → row_at (reverse (end ∷ ends)) (length older) ≡ row_at (reverse ends) (length older)
    → ((rest : Trail) → cut.before ≡ rest ++ e ∷ older → InPieceOf m (row_at (reverse ends) (length older)) e older rows ends cut.before cut.earlier cut.follows)
    → StandsIn cut.adds.piece cut.before older e ⊎ Later newer cut.before older e → InPieceOf m (row_at (reverse (end ∷ ends)) (length older)) e older (row ∷ rows) (end ∷ ends) past refusals cut
at_place m row rows end ends past newer older e refusals cut stops before (inl h) =
    let longer : length older ≡ length h.sooner + length cut.before = ap length h.follows ∙ length-append h.sooner cut.before in
    inl (stops ∙ all_ended m rows ends cut.before cut.earlier (length older) cut.follows (omega arith) ∙ same_length m rows ends cut.before cut.earlier cut.follows, h)
at_place m row rows end ends past newer older e refusals cut stops before (inr h) =
    inr (subst (λ r. InPieceOf m r e older rows ends cut.before cut.earlier cut.follows) (sym stops) (before h.rest h.has))

pub in_piece : (m : Manner) (rows : List Row) (ends : List ℕ) (past newer older : Trail) (e : Entry) (refusals : List Refused) (cut : FollowsBy m rows ends past refusals) → past ≡ newer ++ e ∷ older → InPieceOf m (row_at (reverse ends) (length older)) e older rows ends past refusals cut
in_piece m [] [] past newer older e refusals cut is =
    let none : 0 ≡ length newer + suc (length older) = ap length (sym cut.0 ∙ is) ∙ length-append newer (e ∷ older) in
    absurd (omega arith)
in_piece m [] (end ∷ ends) past newer older e refusals cut is = absurd cut
in_piece m (row ∷ rows) [] past newer older e refusals cut is = absurd cut
in_piece m (row ∷ rows) (end ∷ ends) past newer older e refusals cut is =
    let long : length past ≡ length newer + suc (length older) = ap length is ∙ length-append newer (e ∷ older) in
    let below : length older < end = omega (arith, cut.ends_here) in
    let stops : row_at (reverse (end ∷ ends)) (length older) ≡ row_at (reverse ends) (length older) =
    ap (λ (xs : List ℕ). row_at xs (length older)) (reverse-cons end ends) ∙ stops_there (reverse ends) end (length older) below in
    at_place m row rows end ends past newer older e refusals cut stops (λ rest has. in_piece m rows ends cut.before rest older e cut.earlier cut.follows has)
    (split newer cut.adds.piece cut.before older e (sym is ∙ cut.adds.grows))

-- an entry that is no unfix was there before the passes went back
one_sooner : (g : Grant) (past newer rest older : Trail) (e : Entry) → is_unfix e.call ≡ false → unfix_of g ∷ past ≡ rest ++ e ∷ older → Later newer past older e
one_sooner g past newer [] older e kept is =
    let same : unfix_of g ≡ e = cc in
    absurd (true≢false (ap (λ (x : Entry). is_unfix x.call) same ∙ kept))
one_sooner g past newer (x ∷ rest) older e kept is = record { rest = rest; has = cc }

pub not_given_back : (past said newer older : Trail) (e : Entry) → GivesBack past said → is_unfix e.call ≡ false → said ≡ newer ++ e ∷ older → Later newer past older e
not_given_back past said newer older e (none_held none) kept is = record { rest = newer; has = is }
not_given_back past said newer older e (next g first back) kept is =
    let h = not_given_back (unfix_of g ∷ past) said newer older e back kept is in
    one_sooner g past newer h.rest older e kept h.has

pub bounded_by_its_row : (m : Manner) (script : List Row) (trail newer past said : Trail) (e : Entry) (refusals : List Refused) (cut : Follows m script said refusals) → said ≡ of_client 0 trail → IsWithinLog script cut.ends trail → trail ≡ newer ++ e ∷ past → e.client ≡ 0
    → is_unfix e.call ≡ false → BoundedByItsRow m script said refusals cut past e
bounded_by_its_row m script trail newer past said e refusals cut theirs within is mine kept =
    let stands : said ≡ of_client 0 newer ++ e ∷ of_client 0 past =
    theirs ∙ ap (of_client 0) is ∙ of_client-append 0 newer (e ∷ past) ∙ ap (λ xs. of_client 0 newer ++ xs) (of_client-hit 0 e past mine) in
    let h = not_given_back cut.by_rows said (of_client 0 newer) (of_client 0 past) e cut.gives_back kept stands in
    let here = (each_before (EntryWithinLog script cut.ends) newer (e ∷ past) (subst (EachEntry (EntryWithinLog script cut.ends)) is within.each)).here in
    record {
      r = row_at (reverse cut.ends) (length (of_client 0 past));
      in_piece = in_piece m (reverse script) cut.ends cut.by_rows h.rest (of_client 0 past) e (reverse refusals) cut.pieces h.has;
      bounded = here mine kept;
    }

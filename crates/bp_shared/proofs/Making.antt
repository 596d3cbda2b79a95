-- The sessions of a new pool.
use Rattle.std.proofs.Common.{◌≡◌, sym, ap, ◌∙◌, ℕ, suc, List, [], ◌∷◌, ◌++◌}
use Rattle.bp_trail.specs.Trail.{Trail}
use Rattle.bp_shared.specs.Sessions.{SessionValue, new_session_of, new_sessions_of}

pub sessions_more : (part : ℕ) (start : Trail) (n m : ℕ) (made more : List SessionValue) (s : SessionValue) → made ≡ new_sessions_of part start n → more ≡ made ++ s ∷ [] → s.part ≡ part → s.client ≡ n → s.before ≡ [] → s.said ≡ [] → s.seen ≡ start → s.free ≡ 32 → s.room ≡ 0 → s.passes ≡ 0 → s.copies ≡ 0 → s.places ≡ 0 → m ≡ suc n → more ≡ new_sessions_of part start m
sessions_more part start n m made more s are adds of client before said seen free room passes copies places next =
    let new : s ≡ new_session_of part start n =
    λ i. record { part = of i; client = client i; before = before i; said = said i; seen = seen i; free = free i; room = room i; passes = passes i; copies = copies i; places = places i } in
    adds ∙ ap (λ ss. ss ++ s ∷ []) are ∙ ap (λ x. new_sessions_of part start n ++ x ∷ []) new ∙ ap (new_sessions_of part start) (sym next)

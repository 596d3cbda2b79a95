-- What one entry more changes of the entries kept.
use Rattle.std.proofs.Common.{◌≡◌, sym, ap, ◌∙◌, ℕ, ◌+◌, ◌∷◌, add-one}
use Rattle.bp_trail.specs.declared.entries.Call.{Call}
use Rattle.bp_trail.specs.declared.entries.Reply.{Reply}
use Rattle.bp_trail.specs.Pieces.{by}
use Rattle.bp_keeper.specs.Kept.{Kept, with_next}

pub next_past : (old new : Kept) (client : ℕ) (call : Call) (reply : Reply) → new ≡ with_next old client call reply → new.past ≡ by client call reply ∷ old.past
next_past old new client call reply is = ap (λ (k : Kept). k.past) is

pub next_len : (old new : Kept) (client : ℕ) (call : Call) (reply : Reply) → new ≡ with_next old client call reply → new.len ≡ old.len + 1
next_len old new client call reply is = ap (λ (k : Kept). k.len) is ∙ sym (add-one old.len)

pub next_capacity : (old new : Kept) (client : ℕ) (call : Call) (reply : Reply) → new ≡ with_next old client call reply → new.capacity ≡ old.capacity
next_capacity old new client call reply is = ap (λ (k : Kept). k.capacity) is

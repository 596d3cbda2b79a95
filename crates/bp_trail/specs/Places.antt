-- Where a page is: in a frame, on its way there, or being written out.
use Rattle.std.specs.Prelude.{ℕ, Bool, ◌==◌, List}
use Rattle.bp_trail.specs.Trail.{Trail}
use Rattle.bp_trail.specs.Lists.{some, outstanding}
use Rattle.bp_trail.specs.Event.{page_of, loaded, left}
use Rattle.bp_trail.specs.Passes.{is_of, reads_out, writes_out}

abbrev pub loading : Trail → ℕ → Bool
loading past p = some (is_of p) (reads_out past)

abbrev pub writing : Trail → ℕ → Bool
writing past p = some (is_of p) (writes_out past)

-- the pages whose read ended well and that left by no later entry: they were neither evicted nor
-- discarded
abbrev pub residents : Trail → List ℕ
residents past =
    outstanding (λ p. p) (λ e. loaded (page_of e.call) e.reply) (λ e. left (page_of e.call) e.reply)
    past

abbrev pub resident : Trail → ℕ → Bool
resident past p = some (λ q. q == p) (residents past)

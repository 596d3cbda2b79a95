-- The time, and how far the log is durable.
use Rattle.std.specs.Prelude.{ℕ, ◌+◌, filter_map}
use Rattle.bp_trail.specs.Trail.{Trail}
use Rattle.bp_trail.specs.Lists.{total, greatest}
use Rattle.bp_trail.specs.Event.{ticks, marked}

abbrev pub clock : Trail → ℕ
clock past = 1 + total (filter_map (λ e. ticks e.call) past)

-- the greatest LSN marked durable
abbrev pub durable : Trail → ℕ
durable past = greatest (filter_map (λ e. marked e.call) past)

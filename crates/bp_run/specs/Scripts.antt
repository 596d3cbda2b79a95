-- The scripts of the clients of a trace.
use Rattle.std.specs.Prelude.{ℕ, ◌+◌, ◌==◌, List, filter, map}
use Rattle.std.specs.List.{range_with_len}
use Rattle.bp_scripts.specs.declared.rows.Row.{Row}
use Rattle.bp_trail.specs.Lists.{greatest}

-- one more than the greatest client number, so 1 where there are no rows
abbrev pub clients_of : List Row → ℕ
clients_of rows = greatest (map (λ row. row.client) rows) + 1

-- the rows of a client, in order
abbrev pub rows_of : ℕ → List Row → List Row
rows_of client rows = filter (λ row. row.client == client) rows

-- the rows of each of so many clients, from client 0 on
abbrev pub scripts_for : ℕ → List Row → List (List Row)
scripts_for clients rows = map (λ client. rows_of client rows) (range_with_len 0 clients)

-- the rows of each client
abbrev pub scripts_of : List Row → List (List Row)
scripts_of rows = scripts_for (clients_of rows) rows

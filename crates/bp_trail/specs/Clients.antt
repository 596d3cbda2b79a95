-- Of a list of entries, those of one client. They keep the order of the list.
use Rattle.std.specs.Prelude.{ℕ, ◌==◌, List, filter}
use Rattle.bp_trail.specs.declared.entries.Entry.{Entry}

abbrev pub of_client : ℕ → List Entry → List Entry
of_client client entries = filter (λ e. e.client == client) entries

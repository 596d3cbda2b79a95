-- Passes and tickets: those that are out, and how many were ever given, which is the next serial
-- number.
use Rattle.std.specs.Prelude.{ℕ, Bool, ◌==◌, List, length, filter_map, Option}
use Rattle.bp_trail.specs.declared.entries.Entry.{Entry}
use Rattle.bp_trail.specs.Trail.{Trail}
use Rattle.bp_trail.specs.Lists.{count, outstanding}
use Rattle.bp_trail.specs.Event.{Grant, page_of, pass_given, read_ticket_given, write_ticket_given, ticket_given, pass_back, read_ticket_back, write_ticket_back}

-- passes and tickets: those out, and how many were ever given, which is the next serial number
abbrev pub pass_of : Entry → Option Grant
pass_of e = pass_given e.client (page_of e.call) e.reply

abbrev pub read_ticket_of : Entry → Option Grant
read_ticket_of e = read_ticket_given e.client (page_of e.call) e.reply

abbrev pub write_ticket_of : Entry → Option Grant
write_ticket_of e = write_ticket_given e.client e.reply

abbrev pub passes_out : Trail → List Grant
passes_out past = outstanding (λ g. g.serial) pass_of (λ e. pass_back e.call) past

abbrev pub reads_out : Trail → List Grant
reads_out past = outstanding (λ g. g.serial) read_ticket_of (λ e. read_ticket_back e.call) past

abbrev pub writes_out : Trail → List Grant
writes_out past = outstanding (λ g. g.serial) write_ticket_of (λ e. write_ticket_back e.call) past

abbrev pub passes : Trail → ℕ
passes past = length (filter_map pass_of past)

abbrev pub tickets : Trail → ℕ
tickets past = length (filter_map (λ e. ticket_given e.reply) past)

abbrev pub is_of : ℕ → Grant → Bool
is_of p g = g.page == p

abbrev pub pins : Trail → ℕ → ℕ
pins past p = count (is_of p) (passes_out past)

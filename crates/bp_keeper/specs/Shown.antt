-- The entry of an event whose bytes someone else keeps, or nobody.
use Rattle.std.specs.Prelude.{ℕ, List, Some}
use Rattle.bp_trail.specs.declared.entries.Entry.{Entry}
use Rattle.bp_trail.specs.declared.entries.Grant.{Grant}
use Rattle.bp_trail.specs.declared.entries.Call.TheVariants.{Read, ReadEnd, Write}
use Rattle.bp_trail.specs.declared.entries.Reply.TheVariants.{Done, Content, Fixed, WriteFirst}
use Rattle.bp_keeper.specs.declared.ghost_trail.Shown.{Shown}
use Rattle.bp_keeper.specs.declared.ghost_trail.Event.{Event}
use Rattle.bp_keeper.specs.declared.ghost_trail.Event.TheVariants as event

abbrev entry_with : Event → Grant → List ℕ → Entry
entry_with event.Read pass bytes =
    record { client = pass.client; call = Read pass.serial pass.page; reply = Content bytes }
entry_with (event.Write offset lsn) pass bytes =
    record {
      client = pass.client;
      call = Write pass.serial pass.page offset bytes lsn;
      reply = Done;
    }
entry_with (event.Load pass image) ticket bytes =
    record {
      client = ticket.client;
      call = ReadEnd ticket.serial ticket.page (Some image.bytes);
      reply = Fixed pass;
    }
entry_with (event.BeginWrite call) ticket bytes =
    record {
      client = ticket.client;
      call = call;
      reply = WriteFirst ticket.serial ticket.page bytes;
    }

abbrev pub shown_entry : Shown → Entry
shown_entry shown = entry_with shown.event shown.grant shown.bytes.now

-- So many sessions were made, each with a line of both boards, and the rings of the others are left.
use Rattle.std.proofs.Common.{All, ◌≡◌, ◌≤◌, length, drop, vec_len, vec_capacity}
use Rattle.std.specs.Vec.Iter.{into_iter_items}
use Rattle.bp_shared.specs.Sessions.{new_sessions_of}
use Rattle.bp_shared.specs.Telling.{IsBlank}
use Rattle.bp_shared.proofs.pool.new_clients.Given as goal

abbrev pub invariant-loop-client : goal.invariant-loop-client
invariant-loop-client g l = record {
  clients : l.clients ≡ g.N.PartNames.parameters.clients;
  sessions : l.sessions.items ≡ new_sessions_of l.fn.part g.N.PartNames.past l.client;
  rings : into_iter_items l.producers ≡ drop l.client l.fn.producers.items;
  board : l.board.name ≡ (g.N.PartNames.ring l.fn.part).board;
  lines : length l.board.lists ≡ l.client;
  blank : IsBlank l.board.lists;
  seen : l.seen.name ≡ (g.N.PartNames.ring l.fn.part).seen;
  shown : All (λ list. list ≡ g.N.PartNames.past) l.seen.lists;
  count : vec_len l.sessions ≡ l.client;
  room : l.clients ≤ vec_capacity l.sessions;
}

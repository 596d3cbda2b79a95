-- A seal is sent where its pool is.
use Rattle.std.specs.Prelude.{Option, Some, None}
use base.Shift.{Keyless}
use mir.Raw.{raw}
use denote.Memory.{lone}
use denote.RawPtr.{Ptr}
use denote.Struct.Struct.{exits_of}
use denote.Struct.Owning.{shape, fields, to}
use denote.Param.Send.{IsSend, AllSend, owning_send, struct_send, sendable}
use Rattle.std.specs.Global.{Global}
use Rattle.std.proofs.Crossing as heap
use Rattle.std_alloc.proofs.SendSync.{quiet, lies}
use Rattle.std_heap.proofs.Global.TheSendSync as handle
use Rattle.hojzmated_c.specs.Owned.{pool_owns}
use Rattle.hojzmated_c.specs.contracts.pool.Pool as Home
use Rattle.hojzmated_c.proofs.pool.Pool.TheSendSync.{the_send as home}
use Rattle.hojzmated_c.specs.contracts.seal.Seal.{the_row, the_type}

owned : (a : Global) (p : Ptr) (pool : Option Home.the_row.Denot) → Keyless (pool_owns a p pool)
owned a p None = tt
owned a p (Some x) = (lies Home.the_row home p x, heap.frees.frees a (raw (lone Home.the_row.mir)) p)

pub send : IsSend the_row
send =
    let all : AllSend (fields the_type) = (search sendable, (handle.the_field_send, tt)) in
    owning_send the_type all (λ d. owned d.alloc d.ptr d.pool)
    (λ k. quiet (to the_type) (exits_of k (fields the_type)) ((struct_send (shape the_type) all).leaving k))

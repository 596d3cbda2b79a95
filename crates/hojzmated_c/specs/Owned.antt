-- What a seal owns: nothing, or a pool in its block with the right to free the block. Of the
-- pointer of one with no pool nothing is said: no call reads it, and whether there is a pool the
-- handle tells by a field of its own. So the handle that C fills with zeros is one with none,
-- whatever null is.
use base.Fml.{Fml, ftrue}
use base.Stored.{Coded}
use denote.RawPtr.{Ptr}
use Rattle.std.specs.Box.Ownership.{box_owns}
use Rattle.std.specs.Global.{Global}
use Rattle.std.specs.Prelude.{Option, None, Some}
use Rattle.std.specs.Coded.{coded_option}
use Rattle.std_heap.specs.contracts.GlobalAllocator.TheImpl.{ghosts}
use Rattle.hojzmated_c.specs.contracts.pool.Pool.{the_row}

abbrev pub pool_owns : Global → Ptr → Option the_row.Denot → Fml
pool_owns alloc p None = ftrue
pool_owns alloc p (Some pool) = box_owns (ghosts.dealloc_token alloc) the_row p pool

abbrev pub pool_coded : Coded (Option the_row.Denot)
pool_coded = coded_option the_row.coded

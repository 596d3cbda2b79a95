use Rattle.std.proofs.Common.{rules, arith, nat_lt}
use Rattle.std.proofs.lemmas.List.Sorted.{IsPartitionPoint-from_clause}
use Rattle.bp_frames.specs.declared.grant_list.Slot.{Slot}
use Rattle.bp_frames.proofs.Rising.{rising-partitions, place-from_partition}
use Rattle.bp_frames.proofs.grant_list.place_for.Goals as goal

pub returns : goal.returns
returns c =
    place-from_partition (λ (s : Slot). s.grant.serial) c.args.slots.now.items c.args.serial c.partition_point.result (omega (arith, c.partition_point.ensures.bound))
    (IsPartitionPoint-from_clause (λ (s : Slot). nat_lt s.grant.serial c.args.serial) c.args.slots.now.items c.partition_point.result c.partition_point.ensures.partitioned (rising-partitions (λ (s : Slot). s.grant.serial) c.args.slots.now.items c.requires c.args.serial) (λ a r f called. search rules))

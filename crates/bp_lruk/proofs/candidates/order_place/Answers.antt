use Rattle.std.proofs.Common.{rules, arith}
use Rattle.std.proofs.lemmas.List.Sorted.{IsPartitionPoint-from_clause}
use Rattle.bp_references.specs.Candidates.{is_before}
use Rattle.bp_references.proofs.OrderLaws.{before_partitions}
use Rattle.bp_references.proofs.VictimLaws.{before_later}
use Rattle.bp_lruk.proofs.candidates.order_place.Goals as goal

pub returns : goal.returns
returns c =
    let parted = IsPartitionPoint-from_clause (λ e. is_before e c.args.entry.now) c.args.entries.now c.partition_point.result c.partition_point.ensures.partitioned (before_partitions is_before before_later c.args.entries.now c.requires c.args.entry.now) (λ a r f called. search rules) in
    record { in_range = c.partition_point.ensures.bound; before = λ k d lt. parted.0 k d (omega arith) lt; not_before = λ k d le lt. parted.1 k d le lt }

use Rattle.std.proofs.Common.{rules, nat_lt, of_calls}
use Rattle.std.proofs.lemmas.List.Sorted.{IsPartitionPoint-from_clause, IsPartitionedBy-ltb}
use Rattle.x2_nets.proofs.label_table.labels_before.Goals as goal

pub returns-clause-place : goal.returns-clause-place
returns-clause-place c = IsPartitionPoint-from_clause (λ l. nat_lt l.command c.args.command) c.args.labels.now c.partition_point.result c.partition_point.ensures.partitioned (IsPartitionedBy-ltb (λ l. l.command) c.args.labels.now c.args.command c.requires) (λ a r f k. search (rules, of_calls))

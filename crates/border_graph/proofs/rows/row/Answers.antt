use Rattle.border_graph.proofs.Prelude.{Spill, leb, ltb, rules}
use Rattle.std.proofs.lemmas.List.Sorted.{IsPartitionPoint-from_clause, IsPartitionedBy-leb, IsPartitionedBy-ltb}
use Rattle.border_graph.proofs.RowSteps.{from-le-to, row_is}
use Rattle.border_graph.proofs.rows.row.Goals as goal

pub slice_bounds-result-count : goal.slice_bounds-result-count
slice_bounds-result-count c =
    let first = IsPartitionPoint-from_clause (λ (s : Spill). ltb s.a c.args.label) _ _ c.partition_point-from.ensures.partitioned (IsPartitionedBy-ltb (λ (s : Spill). s.a) _ c.args.label c.requires) (λ a r q k. search rules) in
    let last = IsPartitionPoint-from_clause (λ (s : Spill). leb s.a c.args.label) _ _ c.partition_point-to.ensures.partitioned (IsPartitionedBy-leb (λ (s : Spill). s.a) _ c.args.label c.requires) (λ a r q k. search rules) in
    let le = from-le-to c.args.spills.now c.args.label c.partition_point-from.result c.partition_point-to.result first last c.partition_point-from.ensures.bound c.partition_point-to.ensures.bound in
    search rules

pub slice_bounds-result-start : goal.slice_bounds-result-start
slice_bounds-result-start c =
    let first = IsPartitionPoint-from_clause (λ (s : Spill). ltb s.a c.args.label) _ _ c.partition_point-from.ensures.partitioned (IsPartitionedBy-ltb (λ (s : Spill). s.a) _ c.args.label c.requires) (λ a r q k. search rules) in
    let last = IsPartitionPoint-from_clause (λ (s : Spill). leb s.a c.args.label) _ _ c.partition_point-to.ensures.partitioned (IsPartitionedBy-leb (λ (s : Spill). s.a) _ c.args.label c.requires) (λ a r q k. search rules) in
    let le = from-le-to c.args.spills.now c.args.label c.partition_point-from.result c.partition_point-to.result first last c.partition_point-from.ensures.bound c.partition_point-to.ensures.bound in
    search rules

pub returns : goal.returns
returns c =
    let first = IsPartitionPoint-from_clause (λ (s : Spill). ltb s.a c.args.label) _ _ c.partition_point-from.ensures.partitioned (IsPartitionedBy-ltb (λ (s : Spill). s.a) _ c.args.label c.requires) (λ a r q k. search rules) in
    let last = IsPartitionPoint-from_clause (λ (s : Spill). leb s.a c.args.label) _ _ c.partition_point-to.ensures.partitioned (IsPartitionedBy-leb (λ (s : Spill). s.a) _ c.args.label c.requires) (λ a r q k. search rules) in
    row_is c.args.spills.now c.args.label c.partition_point-from.result c.partition_point-to.result first last c.partition_point-from.ensures.bound c.partition_point-to.ensures.bound

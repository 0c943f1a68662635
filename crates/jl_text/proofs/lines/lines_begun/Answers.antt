-- The starts up to the place come first, and the binary search finds how many they are.
use Rattle.std.proofs.Common.{nat_le, leb-true, arith, rules, sym}
use Rattle.std.proofs.lemmas.List.Sorted.{IsPartitionPoint-from_clause, IsPartitionedBy-leb}
use Rattle.jl_text.proofs.PlacesLemmas.{count_by-partition}
use Rattle.jl_text.proofs.lines.lines_begun.Goals as goal

pub returns : goal.returns
returns c =
    let parted = IsPartitionedBy-leb (λ start. start) c.args.starts.now c.args.at c.requires in
    let point = IsPartitionPoint-from_clause
    (λ start. nat_le start c.args.at) _ _ c.partition_point.ensures.partitioned parted (λ a r q k. search rules) in
    record {
      bound = c.partition_point.ensures.bound;
      value = sym (count_by-partition _ _ _ c.partition_point.ensures.bound point);
      last = λ some. leb-true _ _ (point.0 _ 0 (omega arith) (omega arith));
    }

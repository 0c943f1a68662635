use Rattle.std.proofs.Common.{arith}
use Rattle.jl_heap.proofs.Shortened.{reached_over-above}
use Rattle.jl_heap.proofs.heap.Heap.reachable_length.Goals as goal

pub loop-names-init : goal.loop-names-init
loop-names-init c = record {
  so_far = omega (arith, reached_over-above c.args.self.now c.args.id.0 c.args.low c.args.high c.args.names.now);
  above = omega arith;
}

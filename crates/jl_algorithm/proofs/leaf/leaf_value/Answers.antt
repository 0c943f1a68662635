use Rattle.std.proofs.Common.{arith}
use Rattle.jl_algorithm.proofs.Leaves.{leaf_left, supplies_leaf}
use Rattle.jl_algorithm.proofs.leaf.leaf_value.Goals as goal

pub returns-clause-left : goal.returns-clause-left
returns-clause-left c = leaf_left c.args.state.now.left c.value_at_once.result (omega arith)

pub returns-clause-supplies : goal.returns-clause-supplies
returns-clause-supplies c =
    supplies_leaf c.args.state.now c.args.e.now c.args.here c.value_at_once.result c.value_at_once.ensures

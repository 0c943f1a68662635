use Rattle.std.proofs.Common.{ap}
use Rattle.jl_progress.specs.Arrays.{reverse_others}
use Rattle.jl_lib_array.proofs.reversing.turn_after.Goals as goal

pub returns-clause-turn : goal.returns-clause-turn
returns-clause-turn c = ap (reverse_others c.args.reversing c.args.reversing.left) c.in_ok-lower.ensures

use Rattle.std.proofs.Common.{refl}
use Rattle.jl_state.proofs.Passing.{unwinding_falls, unwinding_leaves}
use Rattle.jl_state.proofs.state.State.unwind.Goals as goal

pub returns-clause-leaves : goal.returns-clause-leaves
returns-clause-leaves c =
    unwinding_leaves c.args.self.now (record c.args.self.now { stack = c.unwind.new.self }) c.args.how.now
    c.unwind.result refl c.unwind.ensures

pub returns-clause-bounded : goal.returns-clause-bounded
returns-clause-bounded c =
    unwinding_falls c.args.how.now c.args.self.now.stack c.unwind.new.self c.unwind.result c.unwind.ensures

use Rattle.jl_ast.specs.View.{view}
use Rattle.jl_op.specs.KindSets.{is_member}
use Rattle.jl_machine.proofs.Ends.{few_hooks, runs}
use Rattle.jl_machine.proofs.running.run.Goals as goal

pub returns-clause-is : goal.returns-clause-is
returns-clause-is g c = λ before stands.
    runs g.O.Observer.stands_for before c.args.budget c.args.kinds (view c.args.program.now) _ _ _ _ _ _ _ _ _ _
    c.in_ok-state.ensures.is c.is_strict.ensures c.in_ok-act.ensures c.in_ok-outcome.ensures.goes
    c.steps_taken-steps.ensures stands
    (few_hooks c.hooks_take_steps.ensures.quietly (is_member c.args.kinds) (view c.args.program.now) c.args.budget
    c.ranges.budget.fits)

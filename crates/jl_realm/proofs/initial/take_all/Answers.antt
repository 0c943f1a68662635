use Rattle.jl_realm.specs.inner.Steps.{step_fits}
use Rattle.jl_realm.specs.declared.steps.Step.{Step}
use Rattle.jl_realm.specs.declared.steps.Step.TheVariants as step
use Rattle.jl_realm.proofs.Taken.{all_after, items_left, next_left, next_ready}
use Rattle.jl_realm.proofs.initial.take_all.Goals as goal

-- what stands for a step past the end
abbrev none : Step
none = step.Nothing

pub take-requires-clause-ready : goal.take-requires-clause-ready
take-requires-clause-ready c =
    next_ready
    (items_left c.loop-step.step-index c.args.steps.now none c.loop-step-test.true c.loop-step.invariant.left)

pub loop-step-preserved : goal.loop-step-preserved
loop-step-preserved c =
    let i = c.loop-step.step-index in
    let steps = c.args.steps.now in
    record {
      fit = all_after step_fits i steps none c.loop-step-test.true c.loop-step.invariant.fit;
      left = next_left (items_left i steps none c.loop-step-test.true c.loop-step.invariant.left) c.take.new.store
          c.in_ok-take.ensures;
    }

use Rattle.std.proofs.lemmas.Result.{IfOk-weaker}
use Rattle.jl_state.specs.declared.value_frame.ValueFrame.TheVariants as waiting
use Rattle.jl_state.proofs.Leaves.{falls_supplied, supplied_value}
use Rattle.jl_member.proofs.assigned_names.write_value.Goals as goal

pub returns-in-Some-clause-refines : goal.returns-in-Some-clause-refines
returns-in-Some-clause-refines c =
    IfOk-weaker _ _ _ (λ a refines. supplied_value c.args.state.now _ c.take_step.ensures.left _ _ ((rw c.in-Some.is at
    c.in_ok-found.ensures.supplies) _ c.take_step.ensures.took c.take_step.ensures.left) (waiting.WriteName (record {
      0
          = 0;
    }) c.args.name c.args.reference c.args.here.strict) _ _ refines) c.step_write_name.ensures.refines

pub returns-in-Some-clause-bounded : goal.returns-in-Some-clause-bounded
returns-in-Some-clause-bounded c =
    falls_supplied 50 46 c.args.state.now _ _ _ c.take_step.ensures.less c.step_write_name.ensures.bounded

use Rattle.jl_state.proofs.Acts.{works_act}
use Rattle.jl_lib_array.proofs.Called.{calls_join}
use Rattle.jl_lib_array.proofs.strings.step_join_property.Goals as goal

pub returns-clause-refines : goal.returns-clause-refines
returns-clause-refines c =
    works_act _ _ _ _ c.call.ensures _ (calls_join c.args.state.now c.args.object _ c.args.join.now _ _
    c.is_callable-callable.ensures c.callee_of.ensures c.new.ensures)

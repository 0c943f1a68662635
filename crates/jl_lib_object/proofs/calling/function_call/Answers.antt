use Rattle.std.proofs.Common.{◌∙◌, ap, drop}
use Rattle.jl_state.proofs.Acts.{works_act}
use Rattle.jl_builtin.proofs.Calls.{calls_now}
use Rattle.jl_lib_object.proofs.Ends.{goes_on, throws_on}
use Rattle.jl_lib_object.proofs.calling.function_call.Goals as goal

pub returns-in-Throws-clause-refines : goal.returns-in-Throws-clause-refines
returns-in-Throws-clause-refines c = throws_on _ _ _ _ _ c.in_ok-thrown.ensures _ c.in-Throws.is

pub returns-in-Gives-clause-refines : goal.returns-in-Gives-clause-refines
returns-in-Gives-clause-refines c =
    works_act _ _ _ _ c.call.ensures _ (goes_on _ _ _ _ _ c.in_ok-thrown.ensures _ _ _ c.in-Gives.is
    (calls_now _ _ _ _ _ _ c.in_ok-this.ensures (c.in_ok-args.ensures ∙ ap (drop 1) c.items.ensures)))

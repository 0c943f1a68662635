use Rattle.std.proofs.lemmas.Result.{IfOk-weaker}
use Rattle.jl_lib_object.proofs.Definitions.{all_read, all_thrown}
use Rattle.jl_lib_object.proofs.defining.define_all.Goals as goal

pub returns-in-Throws-clause-refines : goal.returns-in-Throws-clause-refines
returns-in-Throws-clause-refines c = all_thrown _ _ _ _ _ c.in_ok-thrown.ensures _ c.in-Throws.is

pub returns-in-Gives-clause-refines : goal.returns-in-Gives-clause-refines
returns-in-Gives-clause-refines c =
    IfOk-weaker _ _ _ (λ a refines. all_read c.args.state.now _ c.args.object _ _ c.in_ok-thrown.ensures _ _ _
    c.in-Gives.is refines) c.read_all.ensures.refines

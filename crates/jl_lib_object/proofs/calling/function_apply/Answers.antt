use Rattle.std.proofs.lemmas.Result.{IfOk-weaker}
use Rattle.jl_meaning.specs.Parts.{call, ◌>>=◌}
use Rattle.jl_meaning.specs.builtins.Arguments.{argument}
use Rattle.jl_meaning.specs.builtins.Function.{arguments_in}
use Rattle.jl_state.specs.Words.{call_of}
use Rattle.jl_lib_object.proofs.Ends.{goes_on, throws_on, works_of}
use Rattle.jl_lib_object.proofs.calling.function_apply.Goals as goal

pub returns-in-Throws-clause-refines : goal.returns-in-Throws-clause-refines
returns-in-Throws-clause-refines c = throws_on _ _ _ _ _ c.in_ok-thrown.ensures _ c.in-Throws.is

pub returns-clause-refines : goal.returns-clause-refines
returns-clause-refines c =
    IfOk-weaker _ _ _ (λ a refines. goes_on _ _ _ _ _ c.in_ok-thrown.ensures _ _ _ c.in-Gives.is (works_of _ (λ v.
    arguments_in v >>= λ args. call c.in-Gives.function (argument (call_of c.args.call.now) 0) args) _ _ _ _
    c.in_ok-values.ensures (works_of _ (λ w. arguments_in c.in_ok-values.values >>= λ args. call c.in-Gives.function w
    args) _ _ _ _ c.in_ok-this.ensures refines))) c.apply_values.ensures.refines

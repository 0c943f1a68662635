use Rattle.std.proofs.Common.{◌∙◌, ap, drop}
use Rattle.std.proofs.lemmas.Result.{IfOk-weaker}
use Rattle.jl_meaning.specs.Parts.{◌>>=◌}
use Rattle.jl_meaning.specs.builtins.Arguments.{argument, give_object}
use Rattle.jl_meaning.specs.builtins.Function.{create_bound}
use Rattle.jl_state.specs.Words.{call_of}
use Rattle.jl_lib_object.proofs.Ends.{goes_on, throws_on, works_of}
use Rattle.jl_lib_object.proofs.binding.function_bind.Goals as goal

pub returns-in-Throws-clause-refines : goal.returns-in-Throws-clause-refines
returns-in-Throws-clause-refines c = throws_on _ _ _ _ _ c.in_ok-thrown.ensures _ c.in-Throws.is

pub returns-in-Gives-clause-refines : goal.returns-in-Gives-clause-refines
returns-in-Gives-clause-refines c =
    IfOk-weaker _ _ _ (λ a refines. goes_on _ _ _ _ _ c.in_ok-thrown.ensures _ _ _ c.in-Gives.is (works_of _ (λ l.
    create_bound c.in-Gives.target (argument (call_of c.args.call.now) 0) l >>= give_object) _ _ _ _
    (c.in_ok-args.ensures ∙ ap (drop 1) c.items.ensures) (works_of _ (λ v. create_bound c.in-Gives.target v
    c.in_ok-args.args >>= give_object) _ _ _ _ c.in_ok-this.ensures refines))) c.give_bound.ensures.refines

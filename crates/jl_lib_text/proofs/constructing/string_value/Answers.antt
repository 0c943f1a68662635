use Rattle.std.proofs.lemmas.Result.{IfOk-weaker}
use Rattle.jl_meaning.specs.builtins.Arguments.{give_string}
use Rattle.jl_meaning.specs.builtins.String.{string_of_receiver}
use Rattle.jl_builtin.proofs.Receivers.{refuses}
use Rattle.jl_lib_text.proofs.constructing.string_value.Goals as goal

pub returns-in-None-clause-refines : goal.returns-in-None-clause-refines
returns-in-None-clause-refines c =
    IfOk-weaker _ _ _ (λ a refines. refuses c.args.state.now
    (λ store. string_of_receiver store.heap c.args.call.now.this)
    _ (λ units. give_string units) _ _ c.in_ok-units.ensures c.in-None.is refines) c.throw_native.ensures.refines

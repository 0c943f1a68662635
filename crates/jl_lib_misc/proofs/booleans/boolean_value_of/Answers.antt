use Rattle.std.proofs.lemmas.Result.{IfOk-weaker}
use Rattle.jl_meaning.specs.Relations.{give_truth}
use Rattle.jl_meaning.specs.builtins.Boolean.{boolean_of_receiver}
use Rattle.jl_builtin.proofs.Receivers.{refuses}
use Rattle.jl_lib_misc.proofs.booleans.boolean_value_of.Goals as goal

pub returns-in-None-clause-refines : goal.returns-in-None-clause-refines
returns-in-None-clause-refines c =
    IfOk-weaker _ _ _ (λ a refines. refuses c.args.state.now
    (λ store. boolean_of_receiver store.heap c.args.call.now.this) _ (λ b. give_truth b) _ _
    c.boolean_of_receiver.ensures c.in-None.is refines) c.throw_native.ensures.refines

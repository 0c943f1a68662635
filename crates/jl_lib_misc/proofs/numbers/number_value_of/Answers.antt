use Rattle.std.proofs.lemmas.Result.{IfOk-weaker}
use Rattle.jl_value.specs.declared.value.Value.TheVariants as value
use Rattle.jl_meaning.specs.Parts.{give}
use Rattle.jl_meaning.specs.builtins.Number.{number_of_receiver}
use Rattle.jl_builtin.proofs.Receivers.{refuses}
use Rattle.jl_lib_misc.proofs.numbers.number_value_of.Goals as goal

pub returns-in-None-clause-refines : goal.returns-in-None-clause-refines
returns-in-None-clause-refines c =
    IfOk-weaker _ _ _ (λ a refines. refuses c.args.state.now
    (λ store. number_of_receiver store.heap c.args.call.now.this)
    _ (λ n. give (value.Num n)) _ _ c.number_of_receiver.ensures c.in-None.is refines) c.throw_native.ensures.refines

use Rattle.std.proofs.Common.{pos}
use Rattle.std.proofs.lemmas.Result.{IfOk-weaker}
use Rattle.jl_meaning.specs.Conversions.{to_integer}
use Rattle.jl_meaning.specs.Parts.{◌>>=◌}
use Rattle.jl_meaning.specs.builtins.Arguments.{argument, unless_undefined}
use Rattle.jl_meaning.specs.builtins.Number.{number_of_receiver, string_in_radix}
use Rattle.jl_state.specs.Words.{call_of}
use Rattle.jl_builtin.proofs.Receivers.{refuses}
use Rattle.jl_lib_misc.proofs.numbers.number_to_string.Goals as goal

pub returns-in-None-clause-refines : goal.returns-in-None-clause-refines
returns-in-None-clause-refines c =
    IfOk-weaker _ _ _ (λ a refines. refuses c.args.state.now
    (λ store. number_of_receiver store.heap c.args.call.now.this)
    _ (λ n. unless_undefined (pos 10) to_integer (argument (call_of c.args.call.now) 0) >>= λ z. string_in_radix n z) _
    _ c.number_of_receiver.ensures c.in-None.is refines) c.throw_native.ensures.refines

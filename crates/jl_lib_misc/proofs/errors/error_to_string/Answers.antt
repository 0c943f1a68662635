use Rattle.std.proofs.Common.{rules}
use Rattle.std.proofs.lemmas.Result.{IfOk-weaker}
use Rattle.jl_state.specs.Words.{call_of}
use Rattle.jl_lib_misc.proofs.Messages.{no_error_object}
use Rattle.jl_lib_misc.proofs.errors.error_to_string.Goals as goal

pub returns-in_default : goal.returns-in_default
returns-in_default c = record {
  refines = IfOk-weaker _ _ _ (λ a refines. no_error_object _
      (call_of c.args.call.now) _ _ c.in_default.not-Obj refines)
      c.throw_native.ensures.refines;
  bounded = search rules;
}

use Rattle.jl_state.specs.Words.{call_of}
use Rattle.jl_lib_object.proofs.Classes.{null_text, undefined_text}
use Rattle.jl_lib_object.proofs.objects.object_to_string.Goals as goal

pub returns-in_ok-word-in-Undefined-clause-refines : goal.returns-in_ok-word-in-Undefined-clause-refines
returns-in_ok-word-in-Undefined-clause-refines c =
    undefined_text _ (call_of c.args.call.now) _ c.in-Undefined.is c.in_ok-word-in-Undefined.ensures

pub returns-in_ok-word-in-Null-clause-refines : goal.returns-in_ok-word-in-Null-clause-refines
returns-in_ok-word-in-Null-clause-refines c =
    null_text _ (call_of c.args.call.now) _ c.in-Null.is c.in_ok-word-in-Null.ensures

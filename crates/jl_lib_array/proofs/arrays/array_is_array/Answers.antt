use Rattle.std.proofs.Common.{ap, ◌∙◌}
use Rattle.jl_progress.specs.ArrayCalls.{argument_of}
use Rattle.jl_state.specs.Words.{call_of}
use Rattle.jl_lib_array.proofs.NewArrays.{tests_array}
use Rattle.jl_lib_array.proofs.arrays.array_is_array.Goals as goal

pub returns-clause-refines : goal.returns-clause-refines
returns-clause-refines c =
    tests_array _ (call_of c.args.call.now) _ _ (c.in_ok-v.ensures ∙ ap (λ l. argument_of l 0) c.items.ensures)
    c.is_array_value.ensures

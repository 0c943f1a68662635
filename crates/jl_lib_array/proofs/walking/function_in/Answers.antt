use Rattle.std.proofs.Common.{ap, ◌∙◌}
use Rattle.jl_progress.specs.ArrayCalls.{argument_of}
use Rattle.jl_lib_array.proofs.Walks.{needed}
use Rattle.jl_lib_array.proofs.walking.function_in.Goals as goal

pub returns : goal.returns
returns c =
    needed _ _ c.args.args.now _ _ (c.in_ok-v.ensures ∙ ap (λ l. argument_of l 0) c.items.ensures)
    c.in_ok-answer.ensures

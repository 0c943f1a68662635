use Rattle.std.proofs.Common.{codes}
use Rattle.std.proofs.lemmas.Result.{IfOk-weaker}
use Rattle.jl_progress.specs.Arrays.{array_after}
use Rattle.jl_progress.specs.declared.array.ArrayProgress.TheVariants as array
use Rattle.jl_lib_array.proofs.Gets.{named_got}
use Rattle.jl_lib_array.proofs.strings.string_on.Goals as goal

pub returns-clause-refines : goal.returns-clause-refines
returns-clause-refines c =
    IfOk-weaker _ _ _ (λ a refines. named_got c.args.state.now _ _ c.args.object _ (codes "join")
    (array_after (array.Join c.args.object)) c.in_ok-name.ensures (c.in_ok-wait.ensures.waits.works _ _ _ refines))
    c.get.ensures.refines

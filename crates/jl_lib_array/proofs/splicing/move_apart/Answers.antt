use Rattle.std.proofs.Common.{◌+◌, ap, ◌∙◌}
use Rattle.std.proofs.lemmas.Result.{IfOk-weaker}
use Rattle.jl_lib_array.proofs.Moved.{opens}
use Rattle.jl_lib_array.proofs.splicing.move_apart.Goals as goal

pub returns-clause-refines : goal.returns-clause-refines
returns-clause-refines c =
    IfOk-weaker _ _ _ (λ a refines. opens _ _ _ c.args.splicing _ _ _ c.in_ok-sum.ensures (c.in_ok-sum-2.ensures ∙ ap
    (λ n. c.args.splicing.start + n) c.len.ensures) c.after_removed.ensures refines) c.begin_turn.ensures.refines

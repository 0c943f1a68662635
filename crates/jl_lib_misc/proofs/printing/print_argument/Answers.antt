use Rattle.std.proofs.Common.{refl}
use Rattle.std.proofs.lemmas.Result.{IfOk-weaker}
use Rattle.jl_lib_misc.proofs.Lines.{converts_argument}
use Rattle.jl_lib_misc.proofs.printing.print_argument.Goals as goal

pub returns-clause-refines : goal.returns-clause-refines
returns-clause-refines c =
    IfOk-weaker _ _ _ (λ a refines. converts_argument _ _ c.args.line c.args.is_first c.args.v c.args.args c.args.from _
    _
    (c.if-not-spend.ensures.took refl) refines) c.wait_for_string.ensures.refines

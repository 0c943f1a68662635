use Rattle.std.proofs.lemmas.Result.{IfOk-weaker}
use Rattle.jl_lib_text.proofs.Splits.{fills}
use Rattle.jl_lib_text.proofs.splitting.fill_with_pieces.Goals as goal

pub returns-clause-refines : goal.returns-clause-refines
returns-clause-refines c =
    IfOk-weaker _ _ _ (λ a refines. fills _ _ _ c.args.array c.args.limit _ c.args.pieces.now c.in_ok-values.ensures
    refines) c.fill_array.ensures.refines

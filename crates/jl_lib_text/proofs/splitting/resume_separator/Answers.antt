use Rattle.std.proofs.Common.{◌∙◌}
use Rattle.std.proofs.lemmas.Result.{IfOk-weaker}
use Rattle.jl_lib_text.proofs.Splits.{separated}
use Rattle.jl_lib_text.proofs.splitting.resume_separator.Goals as goal

pub returns-clause-refines : goal.returns-clause-refines
returns-clause-refines c =
    IfOk-weaker _ _ _ (λ a refines. separated _ _ _ c.args.units.now c.args.array c.args.limit c.args.p.now _ _
    c.in_ok-separator.ensures (c.items.ensures ∙ c.in_ok-pieces.ensures) refines) c.fill_with_pieces.ensures.refines

use Rattle.std.proofs.Common.{◌∙◌}
use Rattle.std.proofs.lemmas.Result.{IfOk-weaker}
use Rattle.jl_ast.specs.View.{view}
use Rattle.jl_op.specs.KindSets.{is_member}
use Rattle.jl_app.proofs.WovenTexts.{is_woven_text}
use Rattle.jl_app.proofs.instrument.woven_text.Goals as goal

pub returns : goal.returns
returns c =
    IfOk-weaker c.print.result _ _
    (λ text is. is ∙ is_woven_text (is_member c.args.kinds) (view c.args.program.now) (view c.in_ok-woven.woven)
    c.in_ok-woven.ensures.woven)
    c.print.ensures

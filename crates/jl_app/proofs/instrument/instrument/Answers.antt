use Rattle.std.proofs.Common.{◌∙◌, ap, refl}
use Rattle.jl_ast.specs.View.{view}
use Rattle.jl_op.specs.Chosen.{every_kind}
use Rattle.jl_text.specs.Encoding.{bytes_of}
use Rattle.jl_app.proofs.WovenTexts.{of_kinds_text}
use Rattle.jl_app.proofs.instrument.instrument.Goals as goal

pub returns : goal.returns
returns c = (
  refl,
  c.in_ok-to_utf8.ensures
      ∙ ap bytes_of (c.deref.ensures.value ∙ c.in_ok-text.ensures
      ∙ of_kinds_text c.all.result every_kind c.all.ensures (view c.args.program.now)),
)

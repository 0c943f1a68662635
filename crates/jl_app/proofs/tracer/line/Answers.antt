use Rattle.std.proofs.Common.{◌∙◌, ◌++◌, [], ◌∷◌, ap}
use Rattle.jl_text.specs.Encoding.{bytes_of}
use Rattle.jl_app.proofs.tracer.line.Goals as goal

pub returns : goal.returns
returns c =
    c.in_ok-push.ensures.items
    ∙ ap (λ text. text ++ 10 ∷ []) (c.in_ok-line.ensures
    ∙ ap bytes_of (c.deref.ensures.value ∙ c.in_ok-op_text.ensures))

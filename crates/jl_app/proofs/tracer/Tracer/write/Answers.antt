use Rattle.std.proofs.Common.{◌∙◌, ◌++◌, ap}
use Rattle.jl_app.proofs.tracer.Tracer.write.Goals as goal

pub returns-clause-line : goal.returns-clause-line
returns-clause-line c =
    c.in_ok-extend_from_slice.ensures.items
    ∙ ap (λ text. c.args.self.now.lines.items ++ text) (c.deref.ensures.value ∙ c.in_ok-line.ensures)

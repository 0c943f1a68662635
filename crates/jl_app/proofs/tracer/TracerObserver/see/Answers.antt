use Rattle.std.proofs.Common.{◌∙◌, ◌++◌, ap, sym}
use Rattle.jl_app.specs.Tracing.{trace_line}
use Rattle.jl_app.proofs.Traced.{trace_lines-push}
use Rattle.jl_app.proofs.tracer.TracerObserver.see.Goals as goal

pub returns-in-Ok-clause-told : goal.returns-in-Ok-clause-told
returns-in-Ok-clause-told c = λ told is.
    c.in-Ok.ensures.line ∙ ap (λ lines. lines ++ trace_line (c.args.id, c.args.op.now)) is
    ∙ sym (trace_lines-push told (c.args.id, c.args.op.now))

use Rattle.std.proofs.Common.{◌∙◌, refl, subst}
use Rattle.std.proofs.lemmas.Result.{IfOk-weaker}
use Rattle.std.specs.Fmt.{decimal}
use Rattle.std.specs.Prelude.{◌++◌, codes}
use Rattle.jl_record.specs.Records.{IsRefusedAt}
use Rattle.jl_record.specs.Stages.{stored}
use Rattle.jl_app.specs.Due.{refused_only}
use Rattle.jl_app.specs.Replaying.{no_record, replay_due, reported}
use Rattle.jl_app.proofs.replay.replay_units.Goals as goal

pub returns-in-Ok-clause-due : goal.returns-in-Ok-clause-due
returns-in-Ok-clause-due g c = λ chosen bytes choice text units.
    IfOk-weaker c.report_record.result _ _
    (λ given told. (
      replay_due c.in-Ok.run'.ops.items told.0,
      reported (stored c.in-Ok.run') told.0 text c.in-Ok.ensures.found.0 (c.in-Ok.ensures.found.1 ∙ units) told.1,
      record { status = told.2.status; bytes = told.2.bytes; told = told.3 },
    ))
    (c.report_record.ensures.due chosen choice)

pub returns-in-Err-BadRecord-clause-due : goal.returns-in-Err-BadRecord-clause-due
returns-in-Err-BadRecord-clause-due g c = λ chosen bytes choice text units.
    let line = c.in-Err-BadRecord.line in
    let why = rw c.in-Err-BadRecord.field-0-is at c.in-Err-BadRecord.ensures.refused in
    let said = rw c.in-Err-BadRecord.field-0-is at c.bad_record.ensures in
    IfOk-weaker c.bad_record.result _ _
    (λ given answered. (
      refused_only (codes "Record at line " ++ decimal line),
      no_record line text (subst (λ us. IsRefusedAt us line) units why),
      record { status = answered.status; bytes = answered.bytes; told = refl },
    )) said

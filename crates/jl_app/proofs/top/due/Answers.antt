use Rattle.std.proofs.Common.{ap, refl, Err}
use Rattle.std.proofs.lemmas.Result.{IfOk-weaker}
use Rattle.std.specs.Prelude.{codes}
use Rattle.jl_app.specs.Answers.{bad_words, due_to}
use Rattle.jl_app.specs.Due.{line_only}
use Rattle.jl_app.specs.declared.status.Status.TheVariants.{BadWords}
use Rattle.jl_app.proofs.top.due.Goals as goal

pub respond_to-requires-clause-meant : goal.respond_to-requires-clause-meant
respond_to-requires-clause-meant g c =
    let asked = c.in-Ok.ensures.asked in (asked.0, asked.2)

pub returns-in-Ok-clause-due : goal.returns-in-Ok-clause-due
returns-in-Ok-clause-due g c =
    let asked = c.in-Ok.ensures.asked in
    IfOk-weaker c.respond_to.result _ _
    (λ given due. (due.0, due_to asked.0 asked.1 due.1, due.2))
    (c.respond_to.ensures.due asked.0 asked.2)

pub returns-in-Ok-clause-shelf : goal.returns-in-Ok-clause-shelf
returns-in-Ok-clause-shelf g c = λ other.
    let asked = c.in-Ok.ensures.asked in
    c.respond_to.ensures.shelf asked.0 asked.2 (λ budget chosen reports. other asked.0 budget chosen asked.1 reports)

pub returns-in-Ok-clause-crowd : goal.returns-in-Ok-clause-crowd
returns-in-Ok-clause-crowd g c = λ other.
    let asked = c.in-Ok.ensures.asked in
    c.respond_to.ensures.crowd asked.0 asked.2 (λ reports. other asked.0 asked.1 reports)

pub returns-in-Err-BadWords-clause-due : goal.returns-in-Err-BadWords-clause-due
returns-in-Err-BadWords-clause-due g c =
    let none = c.in-Err-BadWords.ensures.bad (ap Err c.in-Err-BadWords.field-0-is) in
    IfOk-weaker c.line_only.result _ _
    (λ a answered. (
      line_only BadWords (codes "bad words"),
      bad_words none refl,
      record { status = answered.0; bytes = answered.1; told = refl },
    ))
    c.line_only.ensures

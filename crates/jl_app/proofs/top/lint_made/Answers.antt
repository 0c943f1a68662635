use Rattle.std.proofs.Common.{◌∙◌, ap, arith, length, refl}
use Rattle.std.proofs.lemmas.Result.{IfOk-weaker}
use Rattle.jl_command.specs.Asked.{lint}
use Rattle.jl_command.specs.Meant.{means_lint}
use Rattle.jl_app.specs.declared.form.Form.TheVariants as forms
use Rattle.jl_app.proofs.Answering.{asked_lint, same_script}
use Rattle.jl_app.proofs.Reading.{within_most}
use Rattle.jl_app.proofs.top.lint_made.Goals as goal

pub respond-requires-clause-small : goal.respond-requires-clause-small
respond-requires-clause-small g c = λ a means.
    let is = asked_lint a means in
    within_most a _ is.1 (omega (arith, c.in_ok-script.ensures.size, ap length c.deref.ensures.value))

pub respond-requires-clause-meant : goal.respond-requires-clause-meant
respond-requires-clause-meant g c =
    let choice = c.requires.choice in (
      lint c.args.budget choice.0,
      forms.Script,
      refl,
      means_lint c.args.budget c.args.rules choice.0 c.requires.budget choice.1,
    )

pub returns-clause-due : goal.returns-clause-due
returns-clause-due g c = λ chosen choice.
    IfOk-weaker c.respond.result _ _
    (λ given due. (
      due.0,
      same_script _ _ (c.deref.ensures.value ∙ c.in_ok-script.ensures.text) due.1,
      due.2,
    ))
    (c.respond.ensures.due (lint c.args.budget chosen)
    (means_lint c.args.budget c.args.rules chosen c.requires.budget choice))

use Rattle.std.proofs.Common.{◌≡◌, ◌∙◌, refl, subst, sym}
use Rattle.std.proofs.lemmas.Result.{IfOk-weaker}
use Rattle.std.specs.Prelude.{codes}
use Rattle.jl_ast.specs.View.{view}
use Rattle.jl_op.specs.KindSets.{is_member}
use Rattle.jl_op.specs.declared.kind.OpKind.{OpKind}
use Rattle.jl_app.specs.Due.{refused_only}
use Rattle.jl_app.specs.Linting.{lint_due, ran, unread}
use Rattle.jl_app.specs.WovenRuns.{hooked_run, woven_budget}
use Rattle.jl_app.specs.ReadBack.{IsReadBack}
use Rattle.jl_app.specs.WovenText.{kinds_of}
use Rattle.jl_app.proofs.Answering.{always_ok, both_ok}
use Rattle.jl_app.proofs.ChosenRules.{same_kinds}
use Rattle.jl_app.proofs.WovenTexts.{of_kinds_text}
use Rattle.jl_app.proofs.lint.lint.Goals as goal

pub returns-in-Ok-clause-handed : goal.returns-in-Ok-clause-handed
returns-in-Ok-clause-handed g c = λ chosen choice.
    let same : (kind : OpKind) → is_member c.needs.result kind ≡ kinds_of chosen kind = λ kind.
    c.needs.ensures kind ∙ same_kinds c.args.rules chosen choice kind in
    always_ok c.run_answer.result (c.put.ensures ∙ c.in_ok-woven_text.ensures
    ∙ of_kinds_text c.needs.result (kinds_of chosen) same (view c.args.accepted.now.program))

pub returns-in-Ok-clause-due : goal.returns-in-Ok-clause-due
returns-in-Ok-clause-due g c = λ chosen choice.
    let q = view c.in-Ok.woven in
    let steps = woven_budget c.args.budget in
    let read = subst (λ text. IsReadBack text q) c.lend.ensures c.in-Ok.ensures.read in
    both_ok c.run_answer.result _ _
    (λ a run told. (
      lint_due (hooked_run (kinds_of chosen) q steps) steps run.0 run.1,
      ran q run.0 run.1 read run.2,
      record { status = run.3; bytes = run.4; told = told },
    ))
    (c.run_answer.ensures.run chosen choice) (c.run_answer.ensures.told chosen choice)

pub returns-in-Err-NoProgram-clause-handed : goal.returns-in-Err-NoProgram-clause-handed
returns-in-Err-NoProgram-clause-handed g c = λ chosen choice.
    let same : (kind : OpKind) → is_member c.needs.result kind ≡ kinds_of chosen kind = λ kind.
    c.needs.ensures kind ∙ same_kinds c.args.rules chosen choice kind in
    always_ok c.line_only.result (c.put.ensures ∙ c.in_ok-woven_text.ensures
    ∙ of_kinds_text c.needs.result (kinds_of chosen) same (view c.args.accepted.now.program))

pub returns-in-Err-NoProgram-clause-due : goal.returns-in-Err-NoProgram-clause-due
returns-in-Err-NoProgram-clause-due g c = λ chosen choice.
    let only = rw c.in-Err-NoProgram.field-0-is at c.in-Err-NoProgram.ensures.only in
    IfOk-weaker c.line_only.result _ _
    (λ a answered. (
      refused_only (codes "ReadBack"),
      unread (λ q read. let e = only q (subst (λ text. IsReadBack text q) (sym c.lend.ensures) read) in absurd (cc)),
      record { status = answered.0; bytes = answered.1; told = refl },
    ))
    c.line_only.ensures

use Rattle.std.proofs.Common.{◌≡◌, ◌∙◌, ◌++◌, [], ap, arith, length}
use Rattle.jl_ast.specs.View.{view}
use Rattle.jl_machine.specs.declared.ending.Run.{Run}
use Rattle.jl_op.specs.KindSets.{is_member}
use Rattle.jl_op.specs.declared.kind.OpKind.{OpKind}
use Rattle.jl_app.specs.Linting.{end_line, lint_status}
use Rattle.jl_app.specs.WovenRuns.{woven_budget}
use Rattle.jl_app.specs.OwnRuns.{uncaught_line}
use Rattle.jl_app.specs.Reporting.{lines_text}
use Rattle.jl_app.specs.WovenText.{kinds_of}
use Rattle.jl_app.proofs.ChosenRules.{same_kinds}
use Rattle.jl_app.proofs.Linting.{few_kept, is_linted, told}
use Rattle.jl_app.proofs.lint.run_answer.Goals as goal

pub returns-clause-run : goal.returns-clause-run
returns-clause-run g c = λ chosen choice.
    let run : Run = c.in_ok-run.run' in
    let same : (kind : OpKind) → is_member c.needs.result kind ≡ kinds_of chosen kind = λ kind.
    c.needs.ensures kind ∙ same_kinds c.args.rules chosen choice kind in
    is_linted _ _ run c.needs.result chosen same (view c.args.woven.now) c.woven_budget.result
    (woven_budget c.args.budget) c.woven_budget.ensures (c.in_ok-run.ensures.is [] c.requires.fresh)
    c.args.accepted.now.source (view c.args.accepted.now.program)
    c.in_ok-map.map c.in_ok-lines.lines.items c.lint_status.result c.in_ok-answer_bytes.field-0.items
    c.in_ok-map.ensures.rows
    (c.in_ok-lines.ensures.report chosen choice)
    (few_kept c.hooks_take_steps.ensures.meant (kinds_of chosen) (view c.args.woven.now) (woven_budget c.args.budget))
    (let most = c.requires.budget in omega arith)
    (c.lint_status.ensures ∙ ap (λ l. lint_status run.outcome l) c.deref.ensures.value)
    (c.in_ok-answer_bytes.ensures ∙ ap (λ l. run.output ++ (lines_text l ++ (uncaught_line run.store.heap run.outcome
    ++ end_line run.outcome run.steps run.hooks (length l)))) c.deref-2.ensures.value)

pub returns-clause-told : goal.returns-clause-told
returns-clause-told g c = λ chosen choice.
    let same : (kind : OpKind) → is_member c.needs.result kind ≡ kinds_of chosen kind = λ kind.
    c.needs.ensures kind ∙ same_kinds c.args.rules chosen choice kind in
    told _ _ c.in_ok-run.run' c.needs.result chosen same (view c.args.woven.now) c.woven_budget.result
    (woven_budget c.args.budget) c.woven_budget.ensures (c.in_ok-run.ensures.is [] c.requires.fresh)

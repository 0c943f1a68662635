use Rattle.std.proofs.Common.{◌≡◌, ℕ, List, refl, subst, sym}
use Rattle.jl_command.specs.Asked.{lint, run}
use Rattle.jl_command.specs.Meant.{means_lint, means_run}
use Rattle.jl_app.specs.Answers.{IsDueTo}
use Rattle.jl_app.proofs.SameAnswers.{choice_of, is_choice, shows_same}
use Rattle.jl_app.proofs.comparison.run_and_lint.Goals as goal

pub respond_to-requires-clause-meant : goal.respond_to-requires-clause-meant
respond_to-requires-clause-meant g c = (run c.args.budget, means_run c.args.budget c.requires.budget)

pub respond_to-requires-2-clause-meant : goal.respond_to-requires-2-clause-meant
respond_to-requires-2-clause-meant g c = (
  lint c.args.budget (choice_of c.args.rules),
  means_lint c.args.budget c.args.rules (choice_of c.args.rules) c.requires.budget (is_choice c.args.rules),
)

pub respond_to-requires-2-clause-fresh : goal.respond_to-requires-2-clause-fresh
respond_to-requires-2-clause-fresh g c =
    rw (c.in_ok-run.ensures.crowd (run c.args.budget) (means_run c.args.budget c.requires.budget) (λ x. x))
    c.requires.fresh

pub returns-clause-same : goal.returns-clause-same
returns-clause-same g c =
    let chosen = choice_of c.args.rules in
    let ran = c.in_ok-run.ensures.due (run c.args.budget) (means_run c.args.budget c.requires.budget) in
    let linted = c.in_ok-lint.ensures.due (lint c.args.budget chosen)
    (means_lint c.args.budget c.args.rules chosen c.requires.budget (is_choice c.args.rules)) in
    shows_same c.in_ok-run.run' c.in_ok-lint.lint c.needed_is_enough.ensures c.never_both.ensures
    c.one_reading.ensures c.scripts_are_woven_well.ensures c.args.bytes.now c.args.budget chosen (record {
      handed = c.respond_to.new.shelf;
      lent = c.respond_to.new.shelf;
      same = c.respond_to.new.shelf ≡ c.new.result;
    }) (record {
      handed = c.respond_to-2.new.shelf;
      lent = c.respond_to-2.new.shelf;
      same = c.respond_to-2.new.shelf ≡ c.new-3.result;
    }) ran.0 linted.0 ran.1 ran.2.status ran.2.bytes refl linted.1 linted.2.status
    linted.2.bytes

pub returns-clause-run : goal.returns-clause-run
returns-clause-run g c =
    let ran = c.in_ok-run.ensures.due (run c.args.budget) (means_run c.args.budget c.requires.budget) in (
      c.respond_to.new.shelf,
      ran.0,
      subst (λ (before : List ℕ). IsDueTo (run c.args.budget) c.args.bytes.now (record {
        handed = c.respond_to.new.shelf;
        lent = c.respond_to.new.shelf;
        same = c.respond_to.new.shelf ≡ before;
      }) ran.0) c.new.ensures ran.1,
      ran.2.status,
      ran.2.bytes,
    )

pub returns-clause-lint : goal.returns-clause-lint
returns-clause-lint g c = λ chosen choice.
    let linted = c.in_ok-lint.ensures.due (lint c.args.budget chosen)
    (means_lint c.args.budget c.args.rules chosen c.requires.budget choice) in (
      c.respond_to-2.new.shelf,
      linted.0,
      subst (λ (before : List ℕ). IsDueTo (lint c.args.budget chosen) c.args.bytes.now (record {
        handed = c.respond_to-2.new.shelf;
        lent = c.respond_to-2.new.shelf;
        same = c.respond_to-2.new.shelf ≡ before;
      }) linted.0) c.new-3.ensures linted.1,
      rw (sym (c.in_ok-run.ensures.crowd (run c.args.budget) (means_run c.args.budget c.requires.budget) (λ x. x)))
          linted.2,
    )

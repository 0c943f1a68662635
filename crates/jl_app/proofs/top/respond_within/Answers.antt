use Rattle.std.proofs.Common.{◌≤◌, ap, arith, length, refl, subst, sym}
use Rattle.std.proofs.lemmas.Result.{IfOk-weaker}
use Rattle.std.specs.Prelude.{IfSome}
use denote.Enum.Declared.{tag_of}
use Rattle.jl_command.specs.Asked.{Asked}
use Rattle.jl_command.specs.contracts.command.Command.{the_type}
use Rattle.jl_app.specs.Answers.{answered_to, answered_to_made, replayed, unmapped}
use Rattle.jl_app.specs.Forms.{ReadsSource, most_read}
use Rattle.jl_app.specs.Scripts.{IsReporting, Reports, lints, soaks}
use Rattle.jl_app.proofs.Answering.{asked_replay, asked_soak, asked_unmap, given_said, not_lint, reads_program}
use Rattle.jl_app.proofs.Reading.{reads_form}
use Rattle.jl_app.proofs.top.respond_within.Goals as goal

pub lint_made-requires-clause-few : goal.lint_made-requires-clause-few
lint_made-requires-clause-few g c =
    let meant = c.requires.meant in (asked_soak c.args.command meant.0 meant.1 c.in-Soak.is).2

pub lint_made-requires-clause-budget : goal.lint_made-requires-clause-budget
lint_made-requires-clause-budget g c =
    let meant = c.requires.meant in (asked_soak c.args.command meant.0 meant.1 c.in-Soak.is).3

pub lint_made-requires-clause-choice : goal.lint_made-requires-clause-choice
lint_made-requires-clause-choice g c =
    let meant = c.requires.meant in
    let is = asked_soak c.args.command meant.0 meant.1 c.in-Soak.is in
    (is.0, is.4)

pub unmap-requires : goal.unmap-requires
unmap-requires g c =
    let meant = c.requires.meant in
    subst (λ (x : Asked). IfSome (most_read x) (λ most. length c.args.bytes.now ≤ most))
    (asked_unmap c.args.command meant.0 meant.1 c.in-Unmap.is) (c.requires.small meant.0 meant.1)

pub replay-requires-clause-short : goal.replay-requires-clause-short
replay-requires-clause-short g c =
    let meant = c.requires.meant in
    subst (λ (x : Asked). IfSome (most_read x) (λ most. length c.args.bytes.now ≤ most))
    (asked_replay c.args.command meant.0 meant.1 c.in-Replay.is).1 (c.requires.small meant.0 meant.1)

pub returns-in-Soak-clause-due : goal.returns-in-Soak-clause-due
returns-in-Soak-clause-due g c = λ a means.
    let is = asked_soak c.args.command a means c.in-Soak.is in
    IfOk-weaker c.lint_made.result _ _
    (λ given due. (
      due.0,
      answered_to_made c.in-Soak.number c.in-Soak.budget is.0 is.1 due.1,
      due.2,
    ))
    (c.lint_made.ensures.due is.0 is.4)

pub returns-in-Soak-clause-shelf : goal.returns-in-Soak-clause-shelf
returns-in-Soak-clause-shelf g c = λ a means other.
    let is = asked_soak c.args.command a means c.in-Soak.is in
    absurd (other c.in-Soak.budget is.0 (subst (λ (x : Asked). Reports x c.in-Soak.budget is.0) (sym is.1)
    (soaks c.in-Soak.number c.in-Soak.budget is.0)))

pub returns-in-Soak-clause-crowd : goal.returns-in-Soak-clause-crowd
returns-in-Soak-clause-crowd g c = λ a means other.
    let is = asked_soak c.args.command a means c.in-Soak.is in
    absurd (other (subst (λ (x : Asked). IsReporting x) (sym is.1) tt))

pub returns-in-Unmap-clause-due : goal.returns-in-Unmap-clause-due
returns-in-Unmap-clause-due g c = λ a means.
    let is = asked_unmap c.args.command a means c.in-Unmap.is in
    IfOk-weaker c.unmap.result _ _
    (λ given due. (
      due.0,
      answered_to (subst (λ (x : Asked). ReadsSource x) (sym is) tt) (unmapped is due.1 refl),
      given_said refl due.2,
    ))
    c.unmap.ensures

pub returns-in-Replay-clause-due : goal.returns-in-Replay-clause-due
returns-in-Replay-clause-due g c = λ a means.
    let is = asked_replay c.args.command a means c.in-Replay.is in
    IfOk-weaker c.replay.result _ _
    (λ given due. (
      due.0,
      answered_to (subst (λ (x : Asked). ReadsSource x) (sym is.1) tt) (replayed is.0 is.1 due.1 refl),
      due.2,
    ))
    (c.replay.ensures.due is.0 is.2)

pub returns-in-Replay-clause-crowd : goal.returns-in-Replay-clause-crowd
returns-in-Replay-clause-crowd g c = λ a means other.
    let is = asked_replay c.args.command a means c.in-Replay.is in
    absurd (other (subst (λ (x : Asked). IsReporting x) (sym is.1) tt))

pub respond-requires-clause-meant : goal.respond-requires-clause-meant
respond-requires-clause-meant g c =
    let meant = c.requires.meant in
    let form = reads_program c.args.command meant.0 meant.1
    (λ number budget rules is. omega (arith, ap (tag_of the_type) is)) (λ is. omega (arith, ap (tag_of the_type) is))
    (λ rules is. omega (arith, ap (tag_of the_type) is)) in
    (meant.0, form.0, form.1, meant.1)

pub returns-in_default-clause-due : goal.returns-in_default-clause-due
returns-in_default-clause-due g c = λ a means.
    let form = reads_program c.args.command a means
    (λ number budget rules is. omega (arith, ap (tag_of the_type) is)) (λ is. omega (arith, ap (tag_of the_type) is))
    (λ rules is. omega (arith, ap (tag_of the_type) is)) in
    IfOk-weaker c.respond.result _ _
    (λ given due. (due.0, answered_to (reads_form a form.0 form.1) due.1, due.2))
    (c.respond.ensures.due a means)

pub returns-in_default-clause-shelf : goal.returns-in_default-clause-shelf
returns-in_default-clause-shelf g c = λ a means other.
    c.respond.ensures.shelf (λ budget chosen lints_too. not_lint c.args.command a budget chosen means lints_too
    (λ most rules is. other most rules (subst (λ (x : Asked). Reports x most rules) (sym is) (lints most rules))))

pub returns-in_default-clause-crowd : goal.returns-in_default-clause-crowd
returns-in_default-clause-crowd g c = λ a means other.
    c.respond.ensures.crowd (λ budget chosen lints_too. not_lint c.args.command a budget chosen means lints_too
    (λ most rules is. other (subst (λ (x : Asked). IsReporting x) (sym is) tt)))

use Rattle.std.proofs.Common.{◌≡◌, ◌∙◌, ◌≤◌, ap, length, sym, subst, refl}
use Rattle.std.specs.Prelude.{IfSome}
use Rattle.std.proofs.lemmas.Result.{IfOk-weaker}
use Rattle.jl_ast.specs.View.{view}
use Rattle.jl_op.specs.Chosen.{every_kind}
use Rattle.jl_text.specs.Encoding.{units_of}
use Rattle.jl_token.specs.Tokens.{Tokens}
use Rattle.jl_app.specs.Accepting.{IsRead}
use Rattle.jl_app.specs.Answers.{canonical_text, counted, ended, ended_alone, ended_woven, execute_due, functions_line}
use Rattle.jl_app.specs.Answers.{instrument_due, listed, listed_map, refused, text, trace_due, written}
use Rattle.jl_app.specs.Due.{refused_only}
use Rattle.jl_app.specs.Forms.{form_of_command}
use Rattle.jl_app.specs.WovenRuns.{woven_budget}
use Rattle.jl_app.specs.declared.form.Form.TheVariants as forms
use Rattle.jl_command.specs.Asked as asked
use Rattle.jl_app.specs.SourceMapping.{IsMappedBack}
use Rattle.jl_app.specs.Telling.{IsToldOfWoven, told_run}
use Rattle.jl_command.specs.Meant.{Means, means_lint}
use Rattle.jl_app.specs.OwnRuns.{own_run}
use Rattle.jl_app.specs.Refusals.{refusal_words}
use Rattle.jl_command.specs.declared.command.Command.{Command}
use Rattle.jl_app.proofs.Answering.{answers, asked_check, asked_cover, asked_exec, asked_instrument, asked_lint}
use Rattle.jl_app.proofs.Answering.{asked_map, asked_objects, asked_print, asked_record, asked_run, asked_srcmap}
use Rattle.jl_app.proofs.Answering.{asked_trace, both_ok, form_for, given_said, never_replay, never_soak, never_unmap}
use Rattle.jl_app.proofs.Answering.{same_source}
use Rattle.jl_app.proofs.Reading.{most_of_form}
use Rattle.jl_app.proofs.answer.respond.Goals as goal

pub accept-requires : goal.accept-requires
accept-requires g c =
    let meant = c.requires.meant in
    let is = form_for c.args.command meant.0 meant.0 meant.1 c.of-form.result meant.3 meant.2 c.of-form.ensures meant.3
    in
    subst (λ o. IfSome o (λ most. length c.args.bytes.now ≤ most)) (most_of_form meant.0 c.of-form.result is)
    (c.requires.small meant.0 meant.3)

pub lint-requires-clause-few : goal.lint-requires-clause-few
lint-requires-clause-few g c = c.in-Ok.ensures.few

pub lint-requires-clause-places : goal.lint-requires-clause-places
lint-requires-clause-places g c = c.in-Ok.ensures.places

pub lint-requires-clause-lexed : goal.lint-requires-clause-lexed
lint-requires-clause-lexed g c =
    let is = c.in-Ok.ensures.accepted in
    (is.0.tokens, subst (λ us. Tokens us is.0.tokens) (sym is.1) is.0.lexed)

pub lint-requires-clause-budget : goal.lint-requires-clause-budget
lint-requires-clause-budget g c =
    let meant = c.requires.meant in
    (asked_lint meant.0 (subst (λ (x : Command). Means x meant.0) c.in-Lint.is meant.3)).2

pub instrument-requires : goal.instrument-requires
instrument-requires g c = c.in-Ok.ensures.few

pub list_map-requires-clause-few : goal.list_map-requires-clause-few
list_map-requires-clause-few g c = c.in-Ok.ensures.few

pub list_map-requires-clause-places : goal.list_map-requires-clause-places
list_map-requires-clause-places g c = c.in-Ok.ensures.places

pub trace-requires-clause-few : goal.trace-requires-clause-few
trace-requires-clause-few g c = c.in-Ok.ensures.few

pub trace-requires-clause-budget : goal.trace-requires-clause-budget
trace-requires-clause-budget g c =
    let meant = c.requires.meant in
    (asked_trace meant.0 (subst (λ (x : Command). Means x meant.0) c.in-Trace.is meant.3)).1

pub unreachable-requires : goal.unreachable-requires
unreachable-requires g c =
    let meant = c.requires.meant in
    never_soak meant.0 meant.1 meant.2 (subst (λ (x : Command). Means x meant.0) c.in-Soak.is meant.3)

pub unreachable-requires-in-Unmap : goal.unreachable-requires-in-Unmap
unreachable-requires-in-Unmap g c =
    let meant = c.requires.meant in
    never_unmap meant.0 meant.1 meant.2 (subst (λ (x : Command). Means x meant.0) c.in-Unmap.is meant.3)

pub unreachable-requires-in-Replay : goal.unreachable-requires-in-Replay
unreachable-requires-in-Replay g c =
    let meant = c.requires.meant in
    never_replay meant.0 meant.1 meant.2 (subst (λ (x : Command). Means x meant.0) c.in-Replay.is meant.3)

pub returns-in-Err-Refused-clause-due : goal.returns-in-Err-Refused-clause-due
returns-in-Err-Refused-clause-due g c = λ a means.
    let cause = c.in-Err-Refused.refusal in
    let why = rw c.in-Err-Refused.field-0-is at c.in-Err-Refused.ensures.refused in
    let said = rw c.in-Err-Refused.field-0-is at c.refusal_answer.ensures in
    IfOk-weaker c.refusal_answer.result _ _
    (λ given answered. (
      refused_only (refusal_words cause),
      refused c.of-form.result cause (form_for c.args.command c.requires.meant.0 a c.requires.meant.1 c.of-form.result
          c.requires.meant.3
          c.requires.meant.2 c.of-form.ensures means) why refl,
      record { status = answered.0; bytes = answered.1; told = refl },
    )) said

pub returns-in-Lint-clause-due : goal.returns-in-Lint-clause-due
returns-in-Lint-clause-due g c = λ a means.
    let p = view c.in-Ok.accepted.program in
    let read = c.in-Ok.ensures.accepted in
    let is = asked_lint a (subst (λ (x : Command). Means x a) c.in-Lint.is means) in
    both_ok c.lint.result _ _
    (λ given due handed. (
      due.0,
      answers a (asked.lint c.in-Lint.budget is.0) c.of-form.result p is.1
          (form_for c.args.command c.requires.meant.0 a c.requires.meant.1 c.of-form.result c.requires.meant.3
          c.requires.meant.2 c.of-form.ensures means) read.0 (handed, same_source _ _ read.1 due.1),
      due.2,
    ))
    (c.lint.ensures.due is.0 is.3) (c.lint.ensures.handed is.0 is.3)

pub returns-in-Lint-clause-shelf : goal.returns-in-Lint-clause-shelf
returns-in-Lint-clause-shelf g c = λ other.
    let meant = c.requires.meant in
    let is = asked_lint meant.0 (subst (λ (x : Command). Means x meant.0) c.in-Lint.is meant.3) in
    absurd (other c.in-Lint.budget is.0 (subst (λ (x : Command). Means x (asked.lint c.in-Lint.budget is.0))
    (sym c.in-Lint.is) (means_lint c.in-Lint.budget c.in-Lint.rules is.0 is.2 is.3)))

pub returns-in-Lint-clause-crowd : goal.returns-in-Lint-clause-crowd
returns-in-Lint-clause-crowd g c = λ other.
    let meant = c.requires.meant in
    let is = asked_lint meant.0 (subst (λ (x : Command). Means x meant.0) c.in-Lint.is meant.3) in
    absurd (other c.in-Lint.budget is.0 (subst (λ (x : Command). Means x (asked.lint c.in-Lint.budget is.0))
    (sym c.in-Lint.is) (means_lint c.in-Lint.budget c.in-Lint.rules is.0 is.2 is.3)))

pub returns-in-Run-clause-due : goal.returns-in-Run-clause-due
returns-in-Run-clause-due g c = λ a means.
    let p = view c.in-Ok.accepted.program in
    let is = asked_run a (subst (λ (x : Command). Means x a) c.in-Run.is means) in
    IfOk-weaker c.execute.result _ _
    (λ given answered. (
      execute_due (own_run p c.in-Run.budget) c.in-Run.budget,
      answers a (asked.run c.in-Run.budget) c.of-form.result p is
          (form_for c.args.command c.requires.meant.0 a c.requires.meant.1 c.of-form.result c.requires.meant.3
          c.requires.meant.2 c.of-form.ensures means) c.in-Ok.ensures.accepted.0 (refl, ended),
      record { status = answered.0; bytes = answered.1; told = refl },
    ))
    c.execute.ensures

pub returns-in-Check-clause-due : goal.returns-in-Check-clause-due
returns-in-Check-clause-due g c = λ a means.
    let p = view c.in-Ok.accepted.program in
    let is = asked_check a (subst (λ (x : Command). Means x a) c.in-Check.is means) in
    IfOk-weaker c.check.result _ _
    (λ given answered. (
      functions_line p,
      answers a asked.check c.of-form.result p is
          (form_for c.args.command c.requires.meant.0 a c.requires.meant.1 c.of-form.result c.requires.meant.3
          c.requires.meant.2 c.of-form.ensures means) c.in-Ok.ensures.accepted.0 (refl, counted),
      record { status = answered.0; bytes = answered.1; told = refl },
    ))
    c.check.ensures

pub returns-in-Print-clause-due : goal.returns-in-Print-clause-due
returns-in-Print-clause-due g c = λ a means.
    let p = view c.in-Ok.accepted.program in
    let is = asked_print a (subst (λ (x : Command). Means x a) c.in-Print.is means) in
    IfOk-weaker c.print.result _ _
    (λ given answered. (
      canonical_text p,
      answers a asked.print c.of-form.result p is
          (form_for c.args.command c.requires.meant.0 a c.requires.meant.1 c.of-form.result c.requires.meant.3
          c.requires.meant.2 c.of-form.ensures means) c.in-Ok.ensures.accepted.0 (refl, written),
      record { status = answered.0; bytes = answered.1; told = refl },
    ))
    c.print.ensures

pub returns-in-Instrument-clause-due : goal.returns-in-Instrument-clause-due
returns-in-Instrument-clause-due g c = λ a means.
    let p = view c.in-Ok.accepted.program in
    let is = asked_instrument a (subst (λ (x : Command). Means x a) c.in-Instrument.is means) in
    IfOk-weaker c.instrument.result _ _
    (λ given answered. (
      instrument_due p,
      answers a asked.instrument c.of-form.result p is
          (form_for c.args.command c.requires.meant.0 a c.requires.meant.1 c.of-form.result c.requires.meant.3
          c.requires.meant.2 c.of-form.ensures means) c.in-Ok.ensures.accepted.0 (refl, text),
      record { status = answered.0; bytes = answered.1; told = refl },
    ))
    c.instrument.ensures

pub returns-in-Map-clause-due : goal.returns-in-Map-clause-due
returns-in-Map-clause-due g c = λ a means.
    let p = view c.in-Ok.accepted.program in
    let is = asked_map a (subst (λ (x : Command). Means x a) c.in-Map.is means) in
    let units = units_of c.args.bytes.now in
    IfOk-weaker c.list_map.result _ _
    (λ given answered. (
      listed_map units p,
      answers a asked.map_of_ids c.of-form.result p is
          (form_for c.args.command c.requires.meant.0 a c.requires.meant.1 c.of-form.result c.requires.meant.3
          c.requires.meant.2 c.of-form.ensures means) c.in-Ok.ensures.accepted.0 (refl, listed),
      record {
        status = answered.0;
        bytes = answered.1 ∙ ap (λ us. (listed_map us p).bytes) c.in-Ok.ensures.accepted.1;
        told = refl;
      },
    ))
    c.list_map.ensures

pub returns-in-Trace-clause-due : goal.returns-in-Trace-clause-due
returns-in-Trace-clause-due g c = λ a means.
    let p = view c.in-Ok.accepted.program in
    let is = asked_trace a (subst (λ (x : Command). Means x a) c.in-Trace.is means) in
    IfOk-weaker c.trace.result _ _
    (λ given answered. (
      trace_due (told_run every_kind p c.in-Trace.budget) (woven_budget c.in-Trace.budget),
      answers a (asked.trace c.in-Trace.budget) c.of-form.result p is.0
          (form_for c.args.command c.requires.meant.0 a c.requires.meant.1 c.of-form.result c.requires.meant.3
          c.requires.meant.2 c.of-form.ensures means) c.in-Ok.ensures.accepted.0 (refl, ended_woven),
      record { status = answered.0; bytes = answered.1; told = refl },
    ))
    c.trace.ensures

pub returns-in-Exec-clause-due : goal.returns-in-Exec-clause-due
returns-in-Exec-clause-due g c = λ a means.
    let p = view c.in-Ok.accepted.program in
    let is = asked_exec a (subst (λ (x : Command). Means x a) c.in-Exec.is means) in
    IfOk-weaker c.trace_alone.result _ _
    (λ given answered. (
      trace_due (own_run p c.in-Exec.budget) c.in-Exec.budget,
      answers a (asked.exec c.in-Exec.budget) c.of-form.result p is
          (form_for c.args.command c.requires.meant.0 a c.requires.meant.1 c.of-form.result c.requires.meant.3
          c.requires.meant.2 c.of-form.ensures means) c.in-Ok.ensures.accepted.0 (refl, ended_alone),
      record { status = answered.0; bytes = answered.1; told = refl },
    ))
    c.trace_alone.ensures

pub record_run-requires-clause-few : goal.record_run-requires-clause-few
record_run-requires-clause-few g c = c.in-Ok.ensures.few

pub record_run-requires-clause-places : goal.record_run-requires-clause-places
record_run-requires-clause-places g c = c.in-Ok.ensures.places

pub record_run-requires-clause-budget : goal.record_run-requires-clause-budget
record_run-requires-clause-budget g c =
    let meant = c.requires.meant in
    (asked_record meant.0 (subst (λ (x : Command). Means x meant.0) c.in-Record.is meant.3)).1

pub record_run-requires-clause-script : goal.record_run-requires-clause-script
record_run-requires-clause-script g c =
    let read = c.in-Ok.ensures.accepted in
    let bytes = c.args.bytes.now in
    let form : c.of-form.result ≡ forms.Script =
    subst (λ (x : Command). IfSome (form_of_command x) (λ f. c.of-form.result ≡ f)) c.in-Record.is c.of-form.ensures in
    (bytes, subst (λ f. IsRead f bytes (view c.in-Ok.accepted.program)) form read.0, read.1)

pub returns-in-Record-clause-due : goal.returns-in-Record-clause-due
returns-in-Record-clause-due g c = λ a means.
    let p = view c.in-Ok.accepted.program in
    let read = c.in-Ok.ensures.accepted in
    let is = asked_record a (subst (λ (x : Command). Means x a) c.in-Record.is means) in
    IfOk-weaker c.record_run.result _ _
    (λ given due. (
      due.0,
      answers a (asked.record_of_run c.in-Record.budget) c.of-form.result p is.0
          (form_for c.args.command c.requires.meant.0 a c.requires.meant.1 c.of-form.result c.requires.meant.3
          c.requires.meant.2 c.of-form.ensures means) read.0 (
            refl,
            subst (λ us. IsToldOfWoven
                (asked.record_of_run c.in-Record.budget) us p c.in-Record.budget due.0) read.1 due.1,
          ),
      given_said refl due.2,
    ))
    c.record_run.ensures

pub objects-requires-clause-few : goal.objects-requires-clause-few
objects-requires-clause-few g c = c.in-Ok.ensures.few

pub objects-requires-clause-places : goal.objects-requires-clause-places
objects-requires-clause-places g c = c.in-Ok.ensures.places

pub objects-requires-clause-budget : goal.objects-requires-clause-budget
objects-requires-clause-budget g c =
    let meant = c.requires.meant in
    (asked_objects meant.0 (subst (λ (x : Command). Means x meant.0) c.in-Objects.is meant.3)).1

pub returns-in-Objects-clause-due : goal.returns-in-Objects-clause-due
returns-in-Objects-clause-due g c = λ a means.
    let p = view c.in-Ok.accepted.program in
    let read = c.in-Ok.ensures.accepted in
    let is = asked_objects a (subst (λ (x : Command). Means x a) c.in-Objects.is means) in
    IfOk-weaker c.objects.result _ _
    (λ given due. (
      due.0,
      answers a (asked.objects c.in-Objects.budget) c.of-form.result p is.0
          (form_for c.args.command c.requires.meant.0 a c.requires.meant.1 c.of-form.result c.requires.meant.3
          c.requires.meant.2 c.of-form.ensures means) read.0 (
            refl,
            subst (λ us. IsToldOfWoven
                (asked.objects c.in-Objects.budget) us p c.in-Objects.budget due.0) read.1 due.1,
          ),
      given_said refl due.2,
    ))
    c.objects.ensures

pub cover-requires-clause-few : goal.cover-requires-clause-few
cover-requires-clause-few g c = c.in-Ok.ensures.few

pub cover-requires-clause-places : goal.cover-requires-clause-places
cover-requires-clause-places g c = c.in-Ok.ensures.places

pub cover-requires-clause-budget : goal.cover-requires-clause-budget
cover-requires-clause-budget g c =
    let meant = c.requires.meant in
    (asked_cover meant.0 (subst (λ (x : Command). Means x meant.0) c.in-Cover.is meant.3)).1

pub returns-in-Cover-clause-due : goal.returns-in-Cover-clause-due
returns-in-Cover-clause-due g c = λ a means.
    let p = view c.in-Ok.accepted.program in
    let read = c.in-Ok.ensures.accepted in
    let is = asked_cover a (subst (λ (x : Command). Means x a) c.in-Cover.is means) in
    IfOk-weaker c.cover.result _ _
    (λ given due. (
      due.0,
      answers a (asked.cover c.in-Cover.budget) c.of-form.result p is.0
          (form_for c.args.command c.requires.meant.0 a c.requires.meant.1 c.of-form.result c.requires.meant.3
          c.requires.meant.2 c.of-form.ensures means) read.0
          (refl, subst (λ us. IsToldOfWoven (asked.cover c.in-Cover.budget) us p c.in-Cover.budget due.0) read.1 due.1),
      given_said refl due.2,
    ))
    c.cover.ensures

pub srcmap-requires-clause-few : goal.srcmap-requires-clause-few
srcmap-requires-clause-few g c = c.in-Ok.ensures.few

pub srcmap-requires-clause-places : goal.srcmap-requires-clause-places
srcmap-requires-clause-places g c = c.in-Ok.ensures.places

pub returns-in-Srcmap-clause-due : goal.returns-in-Srcmap-clause-due
returns-in-Srcmap-clause-due g c = λ a means.
    let p = view c.in-Ok.accepted.program in
    let read = c.in-Ok.ensures.accepted in
    let is = asked_srcmap a (subst (λ (x : Command). Means x a) c.in-Srcmap.is means) in
    IfOk-weaker c.srcmap.result _ _
    (λ given due. (
      due.0,
      answers a asked.srcmap c.of-form.result p is
          (form_for c.args.command c.requires.meant.0 a c.requires.meant.1 c.of-form.result c.requires.meant.3
          c.requires.meant.2 c.of-form.ensures means) read.0
          (refl, subst (λ us. IsMappedBack us p due.0) read.1 due.1),
      given_said refl due.2,
    ))
    c.srcmap.ensures

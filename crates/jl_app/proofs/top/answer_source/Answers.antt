use Rattle.std.proofs.Common.{◌∙◌, sym}
use Rattle.jl_command.specs.Asked.{texts}
use Rattle.jl_app.proofs.Endings.{held_bytes}
use Rattle.jl_app.proofs.Reading.{any_bytes, words_read}
use Rattle.jl_app.proofs.top.answer_source.Goals as goal

pub answer_read-requires-clause-is : goal.answer_read-requires-clause-is
answer_read-requires-clause-is g c = sym c.in-Some.is ∙ c.in_ok-limit.ensures

pub returns-in-Some-clause-fault : goal.returns-in-Some-clause-fault
returns-in-Some-clause-fault g c = λ fails.
    let fault = c.answer_read.ensures.fault fails in (
      words_read (texts c.args.words.now) c.in-Some.most (sym c.in-Some.is ∙ c.in_ok-limit.ensures),
      fault.0,
      fault.1,
      fault.2,
    )

pub returns-in-Some-clause-unread : goal.returns-in-Some-clause-unread
returns-in-Some-clause-unread g c = λ other.
    let read = words_read (texts c.args.words.now) c.in-Some.most (sym c.in-Some.is ∙ c.in_ok-limit.ensures) in
    absurd (other read.0 read.1 read.2)

pub returns-in_ok-answer_to-in-None-clause-due : goal.returns-in_ok-answer_to-in-None-clause-due
returns-in_ok-answer_to-in-None-clause-due g c =
    let due = c.in_ok-answer_to-in-None.ensures.due in
    let held = held_bytes (g.S.Source.left c.args.source.now) in
    (held.0, due.0, held.1, any_bytes _ held.0 (sym c.in-None.is ∙ c.in_ok-limit.ensures) due.1, due.2)

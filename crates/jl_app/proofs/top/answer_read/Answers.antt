use Rattle.std.proofs.Common.{ap, refl, Err}
use Rattle.std.specs.Prelude.{codes}
use Rattle.jl_command.specs.Asked.{texts}
use Rattle.jl_app.specs.Due.{refused_only}
use Rattle.jl_app.proofs.Endings.{long_bytes, told_same}
use Rattle.jl_app.proofs.Reading.{few_read_for, long_due}
use Rattle.jl_app.proofs.top.answer_read.Goals as goal

pub read_all-requires : goal.read_all-requires
read_all-requires g c = few_read_for (texts c.args.words.now) c.args.most c.requires.is

pub returns-in_ok-answer_to-in-Ok-clause-due : goal.returns-in_ok-answer_to-in-Ok-clause-due
returns-in_ok-answer_to-in-Ok-clause-due g c =
    let due = c.in_ok-answer_to-in-Ok.ensures.due in (
      c.deref.result.now,
      due.0,
      told_same _ c.in-Ok.bytes.items c.deref.result.now c.deref.ensures.value c.in-Ok.ensures.told,
      due.1,
      due.2,
    )

pub returns-in_ok-too_long-in-Err-TooLong-clause-due : goal.returns-in_ok-too_long-in-Err-TooLong-clause-due
returns-in_ok-too_long-in-Err-TooLong-clause-due g c =
    let answered = c.in_ok-too_long-in-Err-TooLong.ensures in
    let read = c.in-Err-TooLong.ensures in
    let is = ap Err c.in-Err-TooLong.field-0-is in
    let long = long_bytes c.args.most _ _ (read.long is) (read.told_long is) in (
      long.0,
      refused_only (codes "TooLong"),
      long.2,
      long_due refl (texts c.args.words.now) c.args.most c.requires.is long.1,
      record { status = answered.status; bytes = answered.bytes; told = refl },
    )

pub returns-in-Err-ReadFault-clause-fault : goal.returns-in-Err-ReadFault-clause-fault
returns-in-Err-ReadFault-clause-fault g c = λ fails. (
  c.in-Err-ReadFault.ensures.fault (ap Err c.in-Err-ReadFault.field-0-is),
  refl,
  refl,
)

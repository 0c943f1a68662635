use Rattle.std.proofs.Common.{refl}
use Rattle.std.proofs.lemmas.Result.{IfOk-weaker}
use Rattle.jl_op.specs.Chosen.{every_kind}
use Rattle.jl_app.proofs.Concluding.{concludes}
use Rattle.jl_app.proofs.Endings.{ends_answered}
use Rattle.jl_app.proofs.Statuses.{due_answers}
use Rattle.jl_app.proofs.top.answer_to.Goals as goal

pub returns-clause-concludes : goal.returns-clause-concludes
returns-clause-concludes g c =
    IfOk-weaker c.due.result _ _
    (λ given due. (
      due_answers given.status due.0 due.2.status due.1,
      concludes c.needed_is_enough.ensures c.one_reading.ensures c.never_both.ensures
          (record {
            well = λ kinds p bytes is. c.scripts_are_woven_well.ensures kinds bytes p is;
            rows = λ p n. c.operations_have_rows.ensures every_kind p n;
            profiled = c.kinds_are_enough.ensures;
            covered = c.kinds_are_enough-2.ensures;
          })
          (ends_answered due.0 given.status given.bytes.items due.2.status due.2.bytes due.1 refl due.2.told),
    ))
    c.due.ensures.due

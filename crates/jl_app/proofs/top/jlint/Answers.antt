use Rattle.std.proofs.Common.{◌∙◌, refl, ap, Err}
use Rattle.jl_op.specs.Chosen.{every_kind}
use Rattle.jl_app.specs.Endings.{read_failed, no_memory}
use Rattle.jl_app.proofs.Concluding.{concludes}
use Rattle.jl_app.proofs.Endings.{ends_answered, ends_short, held_bytes}
use Rattle.jl_app.proofs.top.jlint.Goals as goal

pub returns-in-Err-ReadFault-clause-ends : goal.returns-in-Err-ReadFault-clause-ends
returns-in-Err-ReadFault-clause-ends g c =
    let fault = c.in-Err-ReadFault.ensures.fault (ap Err c.in-Err-ReadFault.field-0-is) in
    let held = held_bytes (g.S.Source.left c.args.source.now) in (
      held.0,
      held.1,
      concludes c.needed_is_enough.ensures c.one_reading.ensures c.never_both.ensures
          (record {
            well = λ kinds p bytes is. c.scripts_are_woven_well.ensures kinds bytes p is;
            rows = λ p n. c.operations_have_rows.ensures every_kind p n;
            profiled = c.kinds_are_enough.ensures;
            covered = c.kinds_are_enough-2.ensures;
          })
          (read_failed fault.0.0 fault.0.1 fault.0.2 fault.1 refl fault.2 fault.3),
    )

pub returns-in-Err-NoMemory-clause-ends : goal.returns-in-Err-NoMemory-clause-ends
returns-in-Err-NoMemory-clause-ends g c =
    let held = held_bytes (g.S.Source.left c.args.source.now) in (
      held.0,
      held.1,
      concludes c.needed_is_enough.ensures c.one_reading.ensures c.never_both.ensures
          (record {
            well = λ kinds p bytes is. c.scripts_are_woven_well.ensures kinds bytes p is;
            rows = λ p n. c.operations_have_rows.ensures every_kind p n;
            profiled = c.kinds_are_enough.ensures;
            covered = c.kinds_are_enough-2.ensures;
          })
          (no_memory refl),
    )

pub returns-in-Ok-write_all-clause-ends : goal.returns-in-Ok-write_all-clause-ends
returns-in-Ok-write_all-clause-ends g c =
    let found = c.in-Ok.ensures.due in (
      found.0,
      found.2,
      concludes c.needed_is_enough.ensures c.one_reading.ensures c.never_both.ensures
          (record {
            well = λ kinds p bytes is. c.scripts_are_woven_well.ensures kinds bytes p is;
            rows = λ p n. c.operations_have_rows.ensures every_kind p n;
            profiled = c.kinds_are_enough.ensures;
            covered = c.kinds_are_enough-2.ensures;
          })
          (ends_answered found.1 c.in-Ok.answer.status c.deref.result.now found.4.status
          (c.deref.ensures.value ∙ found.4.bytes) found.3 c.in-Ok-write_all.ensures.all found.4.told),
    )

pub returns-clause-ends : goal.returns-clause-ends
returns-clause-ends g c =
    let found = c.in-Ok.ensures.due in
    let failed = c.in-Err.ensures in (
      found.0,
      found.2,
      concludes c.needed_is_enough.ensures c.one_reading.ensures c.never_both.ensures
          (record {
            well = λ kinds p bytes is. c.scripts_are_woven_well.ensures kinds bytes p is;
            rows = λ p n. c.operations_have_rows.ensures every_kind p n;
            profiled = c.kinds_are_enough.ensures;
            covered = c.kinds_are_enough-2.ensures;
          })
          (ends_short found.1 c.deref.result.now c.in-Err.field-0.written
          (c.deref.ensures.value ∙ found.4.bytes) found.3 failed.fault failed.proper failed.front found.4.told),
    )

pub returns-in-Err-ReadFault-clause-no_misuse : goal.returns-in-Err-ReadFault-clause-no_misuse
returns-in-Err-ReadFault-clause-no_misuse g c = λ a bytes p words is. c.accepted_scripts_run_without_misuse.ensures a
    bytes p is

pub returns-in-Err-ReadFault-clause-stands_alone : goal.returns-in-Err-ReadFault-clause-stands_alone
returns-in-Err-ReadFault-clause-stands_alone g c = λ bytes p words is. c.text_stands_alone.ensures bytes p is

pub returns-in-Err-NoMemory-clause-no_misuse : goal.returns-in-Err-NoMemory-clause-no_misuse
returns-in-Err-NoMemory-clause-no_misuse g c = λ a bytes p words is. c.accepted_scripts_run_without_misuse.ensures a
    bytes p is

pub returns-in-Err-NoMemory-clause-stands_alone : goal.returns-in-Err-NoMemory-clause-stands_alone
returns-in-Err-NoMemory-clause-stands_alone g c = λ bytes p words is. c.text_stands_alone.ensures bytes p is

pub returns-in-Ok-write_all-clause-no_misuse : goal.returns-in-Ok-write_all-clause-no_misuse
returns-in-Ok-write_all-clause-no_misuse g c = λ a bytes p words is. c.accepted_scripts_run_without_misuse.ensures a
    bytes p is

pub returns-in-Ok-write_all-clause-stands_alone : goal.returns-in-Ok-write_all-clause-stands_alone
returns-in-Ok-write_all-clause-stands_alone g c = λ bytes p words is. c.text_stands_alone.ensures bytes p is

pub returns-clause-no_misuse : goal.returns-clause-no_misuse
returns-clause-no_misuse g c = λ a bytes p words is. c.accepted_scripts_run_without_misuse.ensures a bytes p is

pub returns-clause-stands_alone : goal.returns-clause-stands_alone
returns-clause-stands_alone g c = λ bytes p words is. c.text_stands_alone.ensures bytes p is

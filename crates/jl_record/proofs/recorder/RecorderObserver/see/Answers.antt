use Rattle.std.proofs.Common.{[], ◌∷◌, subst, arith, map}
use Rattle.std.proofs.lemmas.List.{length_push}
use Rattle.jl_record.specs.Bounded.{Holds}
use Rattle.jl_record.specs.Lines.{with_ends}
use Rattle.jl_record.specs.Records.{operation_line}
use Rattle.jl_record.specs.Storing.{CanBeStored}
use Rattle.jl_record.proofs.Peeling.{all_append}
use Rattle.jl_record.proofs.RecordText.{one_line_more}
use Rattle.jl_record.proofs.recorder.RecorderObserver.see.Goals as goal

pub returns-clause-told : goal.returns-clause-told
returns-clause-told c = λ told before.
    let wrote = c.in_ok-write_operation.ensures.holds in
    let pushed = length_push told (c.args.id, c.args.op.now) in (
      subst (Holds c.write_operation.new.text) (one_line_more operation_line told (c.args.id, c.args.op.now))
          (wrote.holds (with_ends (map operation_line told)) before.0),
      (let added = c.saturating_add-self.ensures in omega (arith, added, pushed, before.1)),
      all_append (λ o. CanBeStored o.1) told ((c.args.id, c.args.op.now) ∷ []) before.2
          (c.in_ok-write_operation.ensures.facts, tt),
    )

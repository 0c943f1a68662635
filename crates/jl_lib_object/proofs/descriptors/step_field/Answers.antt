use Rattle.std.proofs.lemmas.Result.{IfOk-weaker}
use Rattle.jl_meaning.specs.Parts.{◌>>=◌}
use Rattle.jl_progress.specs.Objects.{after_descriptor}
use Rattle.jl_lib_object.specs.inner.Fields.{change_from, next_field}
use Rattle.jl_lib_object.proofs.Fields.{field_got, next_read}
use Rattle.jl_lib_object.proofs.Ends.{goes_on, throws_on}
use Rattle.jl_lib_object.proofs.Ranks.{falls_after}
use Rattle.jl_lib_object.proofs.descriptors.step_field.Goals as goal

pub returns-in-Throws-clause-refines : goal.returns-in-Throws-clause-refines
returns-in-Throws-clause-refines c =
    field_got c.args.descriptor c.args.change c.args.purpose _ c.args.field c.args.v _ _
    (throws_on _ _ _
    (λ ch. change_from (next_field c.args.field) c.args.descriptor ch >>= after_descriptor c.args.purpose)
    _ c.in_ok-thrown.ensures _ c.in-Throws.is)

pub returns-in-Gives-clause-refines : goal.returns-in-Gives-clause-refines
returns-in-Gives-clause-refines c =
    IfOk-weaker _ _ _ (λ a refines. field_got c.args.descriptor c.args.change c.args.purpose _ c.args.field c.args.v _ _
    (goes_on _ _ _ (λ ch. change_from (next_field c.args.field) c.args.descriptor ch >>= after_descriptor
    c.args.purpose) _ c.in_ok-thrown.ensures _ _ _ c.in-Gives.is (next_read _ c.args.field _ c.args.descriptor
    c.in-Gives.change c.args.purpose _ _ c.next_field-next.ensures refines))) c.read_fields.ensures.refines

pub returns-in-Gives-clause-bounded : goal.returns-in-Gives-clause-bounded
returns-in-Gives-clause-bounded c =
    IfOk-weaker _ _ _ (λ a bounded. falls_after _ _ _ c.args.field c.args.purpose c.with_field.new.store
    c.args.descriptor
    c.args.change _ c.next_field-next.ensures bounded) c.read_fields.ensures.bounded

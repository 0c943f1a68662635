use Rattle.std.proofs.Common.{refl}
use Rattle.std.proofs.lemmas.Result.{IfOk-weaker}
use Rattle.jl_progress.specs.declared.object.DescriptorUse.TheVariants as use_of
use Rattle.jl_operator.proofs.Operands.{text_waits}
use Rattle.jl_lib_object.specs.inner.Parts.{define_by}
use Rattle.jl_lib_object.proofs.defining.convert_name.Goals as goal

pub returns-clause-refines : goal.returns-clause-refines
returns-clause-refines c =
    IfOk-weaker _ _ _ (λ a refines. text_waits _ _ _ _ (λ x. define_by (use_of.One c.args.object x) c.args.descriptor)
    c.args.name _ (λ p. refl) c.in_ok-wait_object.ensures.waits refines) c.to_primitive.ensures.refines

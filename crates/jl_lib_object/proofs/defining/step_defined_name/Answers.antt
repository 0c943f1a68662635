use Rattle.std.proofs.lemmas.Result.{IfOk-weaker}
use Rattle.jl_progress.specs.declared.object.DescriptorUse.TheVariants as use_of
use Rattle.jl_lib_object.specs.inner.Parts.{define_by}
use Rattle.jl_lib_object.proofs.Ends.{works_of}
use Rattle.jl_lib_object.proofs.defining.step_defined_name.Goals as goal

pub returns-clause-refines : goal.returns-clause-refines
returns-clause-refines c =
    IfOk-weaker _ _ _ (λ a refines. works_of _
    (λ x. define_by (use_of.One c.args.object x) c.args.descriptor.now) _ _ _ _
    c.in_ok-name.ensures refines) c.step_descriptor.ensures.refines

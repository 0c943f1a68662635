use Rattle.std.proofs.Common.{drop, refl}
use Rattle.std.proofs.lemmas.Result.{IfOk-weaker}
use Rattle.jl_value.specs.declared.value.Value.TheVariants as value
use Rattle.jl_meaning.specs.builtins.Object.{redefine}
use Rattle.jl_progress.specs.Objects.{restricted_property}
use Rattle.jl_lib_object.specs.inner.Parts.{restrict_and_give}
use Rattle.jl_lib_object.proofs.Definitions.{uncounted}
use Rattle.jl_lib_object.proofs.integrity.restrict_one.Goals as goal

pub returns-clause-refines : goal.returns-clause-refines
returns-clause-refines c =
    IfOk-weaker _ _ _ (λ a refines. (c.if-not-spend.ensures.took refl).works _ _ _ (uncounted _ (redefine
    (restricted_property c.args.integrity) c.args.object c.args.name.now) value.Undefined (restrict_and_give
    c.args.integrity c.args.object (drop c.args.from c.args.names)) _ _
    (c.in_ok-wait_object.ensures.waits.works _ _ _ refines))) c.redefine.ensures.refines

use Rattle.std.proofs.Common.{◌∙◌, sym, subst}
use Rattle.std.proofs.lemmas.Result.{IfOk-weaker}
use Rattle.jl_meaning.specs.Relations.{negate_if}
use Rattle.jl_state.specs.Rest.{RefinesAlgorithm}
use Rattle.jl_operator.proofs.Equalities.{of_left_object, of_objects_or_primitives}
use Rattle.jl_operator.proofs.equality.object_equals.Goals as goal

pub returns-then-is_object-clause-refines : goal.returns-then-is_object-clause-refines
returns-then-is_object-clause-refines c =
    let s = c.args.state.now in
    subst (λ q. RefinesAlgorithm s (negate_if c.args.is_negative q) s c.equal_primitives.result)
    (sym (of_objects_or_primitives c.args.a c.args.b (c.requires ∙ c.if-is_object.ensures)))
    (c.equal_primitives.ensures.refines s)

pub returns-clause-refines : goal.returns-clause-refines
returns-clause-refines c =
    IfOk-weaker _ _ _ (λ a refines.
    subst (λ q. RefinesAlgorithm c.args.state.now (negate_if c.args.is_negative q) c.equal_object.new.state a)
    (of_left_object c.args.a c.args.b (sym c.requires) c.if-is_object.ensures) refines) c.equal_object.ensures.refines

use Rattle.std.proofs.Common.{◌∙◌, sym}
use Rattle.std.proofs.lemmas.Result.{IfOk-weaker}
use Rattle.jl_lib_object.proofs.Applications.{begins_at, outside}
use Rattle.jl_lib_object.proofs.calling.step_length_primitive.Goals as goal

pub returns-in_default-clause-refines : goal.returns-in_default-clause-refines
returns-in_default-clause-refines c =
    outside _ _ _ _ _ (sym c.number_of_primitive.ensures ∙ c.in_default.is)

pub returns-clause-refines : goal.returns-clause-refines
returns-clause-refines c =
    IfOk-weaker _ _ _ (λ a refines. begins_at c.args.function c.args.this c.args.list c.args.state.now _ _ _ _ _ _
    (sym c.number_of_primitive.ensures ∙ c.in-Some.is) c.length_of-length.ensures c.new.ensures refines)
    c.apply_from.ensures.refines

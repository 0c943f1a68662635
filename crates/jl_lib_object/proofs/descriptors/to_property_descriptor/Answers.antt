use Rattle.std.proofs.lemmas.Result.{IfOk-weaker}
use Rattle.jl_lib_object.proofs.Fields.{first_read, first_thrown}
use Rattle.jl_lib_object.proofs.descriptors.to_property_descriptor.Goals as goal

pub returns-in-Throws-clause-refines : goal.returns-in-Throws-clause-refines
returns-in-Throws-clause-refines c =
    first_thrown _ _ _ c.args.purpose _ c.in_ok-thrown.ensures _ c.in-Throws.is

pub returns-in-Gives-clause-refines : goal.returns-in-Gives-clause-refines
returns-in-Gives-clause-refines c =
    IfOk-weaker _ _ _ (λ a refines. first_read _ _ _ c.args.purpose _ c.in_ok-thrown.ensures _ _ _ _ c.in-Gives.is
    c.no_change.ensures refines) c.read_fields.ensures.refines

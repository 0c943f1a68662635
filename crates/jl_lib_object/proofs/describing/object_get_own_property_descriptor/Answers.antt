use Rattle.std.proofs.lemmas.Result.{IfOk-weaker}
use Rattle.jl_meaning.specs.Conversions.{to_string}
use Rattle.jl_meaning.specs.Parts.{◌>>=◌}
use Rattle.jl_lib_object.specs.inner.Parts.{describe_own}
use Rattle.jl_lib_object.proofs.Ends.{goes_on, throws_on, works_of}
use Rattle.jl_lib_object.proofs.describing.object_get_own_property_descriptor.Goals as goal

pub returns-in-Throws-clause-refines : goal.returns-in-Throws-clause-refines
returns-in-Throws-clause-refines c = throws_on _ _ _ _ _ c.in_ok-thrown.ensures _ c.in-Throws.is

pub returns-in-Gives-clause-refines : goal.returns-in-Gives-clause-refines
returns-in-Gives-clause-refines c =
    IfOk-weaker _ _ _ (λ a refines. goes_on _ _ _ _ _ c.in_ok-thrown.ensures _ _ _ c.in-Gives.is (works_of _
    (λ v. to_string v >>= describe_own c.in-Gives.object) _ _ _ _ c.in_ok-name.ensures refines))
    c.convert_name.ensures.refines

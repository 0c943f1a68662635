use Rattle.std.proofs.lemmas.Result.{IfOk-weaker}
use Rattle.jl_meaning.specs.Parts.{◌>>=◌}
use Rattle.jl_meaning.specs.builtins.Arguments.{give_object}
use Rattle.jl_meaning.specs.builtins.Object.{define_all}
use Rattle.jl_lib_object.proofs.Ends.{goes_on, throws_on, works_of}
use Rattle.jl_lib_object.proofs.defining.object_define_properties.Goals as goal

pub returns-in-Throws-clause-refines : goal.returns-in-Throws-clause-refines
returns-in-Throws-clause-refines c = throws_on _ _ _ _ _ c.in_ok-thrown.ensures _ c.in-Throws.is

pub returns-clause-refines : goal.returns-clause-refines
returns-clause-refines c =
    IfOk-weaker _ _ _ (λ a refines. goes_on _ _ _ _ _ c.in_ok-thrown.ensures _ _ _ c.in-Gives.is (works_of _ (λ v.
    define_all c.in-Gives.object v >>= λ _. give_object c.in-Gives.object) _ _ _ _ c.in_ok-properties.ensures refines))
    c.define_all.ensures.refines

use Rattle.std.proofs.Common.{ap}
use Rattle.jl_value.specs.declared.value.Value.TheVariants as value
use Rattle.jl_meaning.specs.Relations.{is_prototype_of}
use Rattle.jl_lib_object.proofs.Ends.{gives_seen, goes_on, throws_on}
use Rattle.jl_lib_object.proofs.objects.is_prototype_of_object.Goals as goal

pub returns-in-Throws-clause-refines : goal.returns-in-Throws-clause-refines
returns-in-Throws-clause-refines c = throws_on _ _ _ _ _ c.in_ok-thrown.ensures _ c.in-Throws.is

pub returns-in-Gives-clause-refines : goal.returns-in-Gives-clause-refines
returns-in-Gives-clause-refines c =
    goes_on _ _ _ _ _ c.in_ok-thrown.ensures _ _ _ c.in-Gives.is
    (gives_seen _ (λ store. value.Bool (is_prototype_of store.heap c.in-Gives.proto.0 c.args.id.0)) _
    (ap (λ b. value.Bool b) c.is_prototype_of-is_prototype.ensures))

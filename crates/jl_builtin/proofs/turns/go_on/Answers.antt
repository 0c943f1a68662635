use Rattle.std.proofs.Common.{refl}
use Rattle.jl_value.specs.declared.value.Value.TheVariants as value
use Rattle.jl_meaning.specs.Parts.{give}
use Rattle.jl_builtin.proofs.turns.go_on.Goals as goal

pub returns-clause-refines : goal.returns-clause-refines
returns-clause-refines c =
    c.in_ok-push_builtin.ensures.waits.works (give value.Undefined) _ _ (record { is = λ kept told. refl })

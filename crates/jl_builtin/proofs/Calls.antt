-- Functions that are called.
use Rattle.std.proofs.Common.{◌≡◌, false, refl, subst, List}
use Rattle.jl_value.specs.declared.object.ObjId.{ObjId}
use Rattle.jl_value.specs.declared.value.Value.{Value}
use Rattle.jl_meaning.specs.Parts.{call}
use Rattle.jl_state.specs.Rest.{RefinesAlgorithm}
use Rattle.jl_state.specs.declared.act.Act.TheVariants as act
use Rattle.jl_state.specs.declared.state.State.{State}

-- a call, as an act
pub calls_now : (s : State) (f : ObjId) (this v : Value) (args l : List Value) → this ≡ v → args ≡ l
    → RefinesAlgorithm s (call f v l) s (act.Call (record { callee = f; this = this; args = args; by_new = false }))
calls_now s f this v args l this_is args_are =
    subst (λ w. RefinesAlgorithm s (call f w l) s
    (act.Call (record { callee = f; this = this; args = args; by_new = false })))
    this_is
    (subst (λ m. RefinesAlgorithm s (call f this m) s
    (act.Call (record { callee = f; this = this; args = args; by_new = false })))
    args_are (record { is = λ kept told. refl }))

-- Calls of the targets of bound functions (15.3.4.5.1, 15.3.4.5.2).
use Rattle.std.proofs.Common.{◌≡◌, ◌∙◌, ◌⊎◌, false, inl, inr, refl, sym, true, Bool, List}
use Rattle.std.proofs.lemmas.Bool.{false≢true}
use Rattle.jl_value.specs.declared.object.ObjId.{ObjId}
use Rattle.jl_value.specs.declared.value.Value.{Value}
use Rattle.jl_meaning.specs.Jobs.{call_bound}
use Rattle.jl_state.specs.Rest.{RefinesAlgorithm}
use Rattle.jl_state.specs.declared.act.Act.{Act}
use Rattle.jl_state.specs.declared.act.Act.TheVariants as act
use Rattle.jl_state.specs.declared.state.State.{State}

-- it is called, or constructed by, where it can construct
pub calls_target : (s : State) (can constructs by_new : Bool) (target : ObjId) (this : Value) (args : List Value)
    → constructs ≡ can → ((by_new ≡ true) × (constructs ≡ true)) ⊎ (by_new ≡ false)
    → RefinesAlgorithm s (call_bound can target this args by_new) s
    (act.Call (record { callee = target; this = this; args = args; by_new = by_new }))
unfolding call_bound
calls_target s true constructs true target this args same allowed = record { is = λ kept told. refl }
calls_target s true constructs false target this args same allowed = record { is = λ kept told. refl }
calls_target s false constructs false target this args same allowed = record { is = λ kept told. refl }
calls_target s false constructs true target this args same (inl is) = absurd (false≢true (sym same ∙ is.1))
calls_target s false constructs true target this args same (inr is) = absurd (false≢true (sym is))

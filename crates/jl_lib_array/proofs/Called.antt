-- `toString`: the function that it calls.
use Rattle.std.proofs.Common.{◌≡◌, [], false, refl, subst, sym, true, Bool, List}
use Rattle.jl_value.specs.declared.object.ObjId.{ObjId}
use Rattle.jl_value.specs.declared.value.Value.{Value}
use Rattle.jl_value.specs.declared.value.Value.TheVariants as value
use Rattle.jl_meaning.specs.Getting.{is_callable}
use Rattle.jl_meaning.specs.builtins.Array.{call_if}
use Rattle.jl_progress.specs.Arrays.{array_after}
use Rattle.jl_progress.specs.declared.array.ArrayProgress.TheVariants as array
use Rattle.jl_state.specs.Rest.{RefinesAlgorithm}
use Rattle.jl_state.specs.declared.act.Act.{Act}
use Rattle.jl_state.specs.declared.act.Act.TheVariants as act
use Rattle.jl_state.specs.declared.state.State.{State}
use Rattle.jl_lib_array.specs.inner.Functions.{callee_of}

module _ (s : State) (o : ObjId) where
  abbrev called : (callee : ObjId) → List Value → Act
  called callee args = act.Call (record { callee = callee; this = value.Obj o; args = args; by_new = false })

  calls : (callable : Bool) (join : Value)
      → RefinesAlgorithm s (call_if callable join o) s (called (callee_of callable join) [])
  calls false join = record { is = λ kept told. refl }
  calls true value.Undefined = record { is = λ kept told. refl }
  calls true value.Null = record { is = λ kept told. refl }
  calls true (value.Bool b) = record { is = λ kept told. refl }
  calls true (value.Num n) = record { is = λ kept told. refl }
  calls true (value.Text x) = record { is = λ kept told. refl }
  calls true (value.Obj f) = record { is = λ kept told. refl }

  pub calls_join : (callee : ObjId) (join : Value) (callable : Bool) (args : List Value)
      → callable ≡ is_callable s.store.heap join → callee ≡ callee_of callable join → args ≡ []
      → RefinesAlgorithm s (array_after (array.Join o) join) s (called callee args)
  calls_join callee join callable args is same none =
      let found =
      subst (λ b. RefinesAlgorithm s (call_if b join o) s (called (callee_of callable join) [])) is
      (calls callable join) in
      subst (λ f. RefinesAlgorithm s (array_after (array.Join o) join) s (called f args)) (sym same)
      (subst (λ (l : List Value). RefinesAlgorithm s (array_after (array.Join o) join) s
      (called (callee_of callable join) l))
      (sym none) (record { is = found.is }))

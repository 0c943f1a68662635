-- Numbers and booleans, and the objects that stand for them.
use Rattle.std.proofs.Common.{◌≡◌, ◌∷◌, ◌∙◌, drop, refl, subst, sym, true, Bool, List}
use Rattle.jl_value.specs.declared.object.Class.{Class}
use Rattle.jl_value.specs.declared.object.ObjId.{ObjId}
use Rattle.jl_value.specs.declared.value.Value.{Value}
use Rattle.jl_value.specs.declared.value.Value.TheVariants as value
use Rattle.jl_effects.specs.Running.{Ends}
use Rattle.jl_meaning.specs.Conversions.{new_wrapper, number_hint, to_primitive}
use Rattle.jl_meaning.specs.Parts.{gives, ◌>>=◌, Call}
use Rattle.jl_meaning.specs.Store.{Store}
use Rattle.jl_meaning.specs.builtins.Arguments.{give_object, value_or_object}
use Rattle.jl_meaning.specs.builtins.Number.{number_constructor, number_given}
use Rattle.jl_progress.specs.Progress.{progress_after}
use Rattle.jl_progress.specs.declared.number.NumberProgress.TheVariants as number
use Rattle.jl_progress.specs.declared.progress.Progress.TheVariants as progress
use Rattle.jl_store.specs.BigStep.{BigStep}
use Rattle.jl_state.specs.Rest.{RefinesAlgorithm}
use Rattle.jl_state.specs.declared.act.Act.{Act}
use Rattle.jl_state.specs.declared.act.Act.TheVariants as act
use Rattle.jl_state.specs.declared.state.State.{State}
use Rattle.jl_state.proofs.Stores.{works_comes}
use Rattle.jl_builtin.proofs.Conversions.{as_number}
use Rattle.jl_lib_misc.specs.inner.Numbers.{number_or_object}

-- the object that was made is given
pub gives_object : (s : State) (x : Store) (by_new : Bool) (kind : Class) (proto : ObjId) (v : Value) (id : ObjId)
    → by_new ≡ true → BigStep (new_wrapper kind proto v) s.store x (Ends (gives id))
    → RefinesAlgorithm s (value_or_object by_new kind proto v) (record s { store = x }) (act.Give (value.Obj id))
gives_object s x by_new kind proto v id is comes =
    subst (λ b. RefinesAlgorithm s (value_or_object b kind proto v) (record s { store = x }) (act.Give (value.Obj id)))
    (sym is)
    (works_comes s (record s { store = x }) refl (new_wrapper kind proto v) id give_object (record s { store = x })
    (act.Give (value.Obj id)) comes (record { is = λ kept told. refl }))

module _ (s : State) (c : Call) (args : List Value) (by_new : Bool) (t : State) (a : Act) (args_are : args ≡ c.args)
    (new_is : by_new ≡ c.by_new) where
  given : (l : List Value) → drop 0 args ≡ l → RefinesAlgorithm s (number_given l >>= number_or_object by_new) t a
      → RefinesAlgorithm s (number_constructor c) t a
  given l is refines =
      subst (λ k. RefinesAlgorithm s (number_given k >>= number_or_object c.by_new) t a) (sym is ∙ args_are)
      (subst (λ b. RefinesAlgorithm s (number_given l >>= number_or_object b) t a) new_is refines)

  pub constructs_with : (v : Value) (rest : List Value) → drop 0 args ≡ v ∷ rest
      → RefinesAlgorithm s (to_primitive number_hint v >>= progress_after (progress.Number (number.Given by_new))) t a
      → RefinesAlgorithm s (number_constructor c) t a
  constructs_with v rest is refines =
      given (v ∷ rest) is
      (as_number s t a v (progress_after (progress.Number (number.Given by_new))) (number_or_object by_new) (λ p. refl)
      refines)

-- Strings and the objects that stand for them.
use Rattle.std.proofs.Common.{◌≡◌, ◌∷◌, ◌∙◌, drop, refl, subst, sym, true, Bool, List, ℕ}
use Rattle.jl_value.specs.declared.object.ObjId.{ObjId}
use Rattle.jl_value.specs.declared.value.Value.{Value}
use Rattle.jl_value.specs.declared.value.Value.TheVariants as value
use Rattle.jl_effects.specs.Running.{Ends}
use Rattle.jl_meaning.specs.Conversions.{new_string_object, string_hint, to_primitive}
use Rattle.jl_meaning.specs.Parts.{gives, ◌>>=◌, Call}
use Rattle.jl_meaning.specs.Store.{Store}
use Rattle.jl_meaning.specs.builtins.Arguments.{give_object}
use Rattle.jl_meaning.specs.builtins.String.{string_constructor, string_given, string_or_object}
use Rattle.jl_progress.specs.Strings.{string_after}
use Rattle.jl_progress.specs.declared.string.StringProgress.TheVariants as progress
use Rattle.jl_store.specs.BigStep.{BigStep}
use Rattle.jl_state.specs.Rest.{RefinesAlgorithm}
use Rattle.jl_state.specs.declared.act.Act.{Act}
use Rattle.jl_state.specs.declared.act.Act.TheVariants as act
use Rattle.jl_state.specs.declared.state.State.{State}
use Rattle.jl_state.proofs.Stores.{works_comes}
use Rattle.jl_builtin.proofs.Conversions.{as_string}

-- the object that was made is given
pub gives_object : (s : State) (x : Store) (by_new : Bool) (units : List ℕ) (id : ObjId) → by_new ≡ true
    → BigStep (new_string_object units) s.store x (Ends (gives id))
    → RefinesAlgorithm s (string_or_object by_new units) (record s { store = x }) (act.Give (value.Obj id))
gives_object s x by_new units id is comes =
    subst (λ b. RefinesAlgorithm s (string_or_object b units) (record s { store = x }) (act.Give (value.Obj id)))
    (sym is)
    (works_comes s (record s { store = x }) refl (new_string_object units) id give_object (record s { store = x })
    (act.Give (value.Obj id)) comes (record { is = λ kept told. refl }))

module _ (s : State) (c : Call) (args : List Value) (by_new : Bool) (t : State) (a : Act) (args_are : args ≡ c.args)
    (new_is : by_new ≡ c.by_new) where
  given : (l : List Value) → drop 0 args ≡ l → RefinesAlgorithm s (string_given l >>= string_or_object by_new) t a
      → RefinesAlgorithm s (string_constructor c) t a
  given l is refines =
      subst (λ k. RefinesAlgorithm s (string_given k >>= string_or_object c.by_new) t a) (sym is ∙ args_are)
      (subst (λ b. RefinesAlgorithm s (string_given l >>= string_or_object b) t a) new_is refines)

  pub constructs_with : (v : Value) (rest : List Value) → drop 0 args ≡ v ∷ rest
      → RefinesAlgorithm s (to_primitive string_hint v >>= string_after (progress.Given by_new)) t a
      → RefinesAlgorithm s (string_constructor c) t a
  constructs_with v rest is refines =
      given (v ∷ rest) is
      (as_string s t a v (string_after (progress.Given by_new)) (string_or_object by_new) (λ p. refl) refines)

-- Methods of strings, and `this` as a string.
use Rattle.std.proofs.Common.{◌≡◌, ◌∙◌, ◌∷◌, [], ap, codes, length, refl, subst, sym, IfOk, List, None, Option}
use Rattle.std.proofs.Common.{Err, Ok, Result, ℕ, ℤ}
use mathlib.Core.Path.{fun_ext}
use Rattle.jl_text.specs.Search.{first_place}
use Rattle.jl_value.specs.declared.builtin_groups.StringMethod.{StringMethod}
use Rattle.jl_value.specs.declared.error_kind.ErrorKind.TheVariants.{TypeError}
use Rattle.jl_value.specs.declared.value.Value.{Value}
use Rattle.jl_value.specs.declared.value.Value.TheVariants as value
use Rattle.jl_meaning.specs.Conversions.{check_object_coercible, integer_of, string_hint, to_integer, to_number}
use Rattle.jl_meaning.specs.Conversions.{to_primitive, to_string}
use Rattle.jl_meaning.specs.Errors.{throw_error}
use Rattle.jl_meaning.specs.Parts.{give, ◌>>=◌, Algorithm, Call}
use Rattle.jl_meaning.specs.builtins.Arguments.{argument_at}
use Rattle.jl_meaning.specs.builtins.Elements.{clamp, index_or_none}
use Rattle.jl_meaning.specs.builtins.String.{method_of_string, string_index_of, string_method_algorithm}
use Rattle.jl_progress.specs.Strings.{string_after}
use Rattle.jl_progress.specs.declared.string.Search.TheVariants as search
use Rattle.jl_progress.specs.declared.string.StringProgress.TheVariants as progress
use Rattle.jl_state.specs.Rest.{RefinesAlgorithm}
use Rattle.jl_state.specs.declared.act.Act.{Act}
use Rattle.jl_state.specs.declared.state.State.{State}
use Rattle.jl_lib_text.specs.inner.Methods.{place_in_string}
use Rattle.jl_operator.proofs.Operands.{chained}
use Rattle.jl_builtin.proofs.Conversions.{as_string}

-- an integer is a number first
pub index_of : (units : List ℕ) (args : List Value)
    → place_in_string search.First units args ≡ string_index_of units args
index_of units args =
    ap (λ (k : List ℕ → Algorithm Value). to_string (argument_at args 0) >>= k)
    (fun_ext (λ part. chained (to_number (argument_at args 1)) (λ n. give (integer_of n))
    (λ z. give (index_or_none (first_place units part (clamp z (length units)))))))

-- a method that is known does the same
pub known_method : {E : Type 0} (s : State) (m known : StringMethod) (units : List ℕ) (args : List Value)
    (p : Algorithm Value) (t : State) (r : Result Act E) → m ≡ known → p ≡ method_of_string known units args
    → IfOk r (λ a. RefinesAlgorithm s p t a) → IfOk r (λ a. RefinesAlgorithm s (method_of_string m units args) t a)
known_method s m known units args p t r is same refines =
    subst (λ (n : StringMethod). IfOk r (λ a. RefinesAlgorithm s (method_of_string n units args) t a)) (sym is)
    (subst (λ q. IfOk r (λ a. RefinesAlgorithm s q t a)) same refines)

-- what holds in each state holds in one
pub in_state : {E : Type 0} (s : State) (p : Algorithm Value) (r : Result Act E)
    → IfOk r (λ a. (t : State) → RefinesAlgorithm t p t a) → IfOk r (λ a. RefinesAlgorithm s p s a)
in_state s p (Ok a) refines = refines s
in_state s p (Err none) refines = tt

-- `this` as a string

abbrev pub string_of : Value → Algorithm (List ℕ)
string_of v = check_object_coercible v >>= λ _. to_string v

module _ (s : State) (k : List ℕ → Algorithm Value) (t : State) (a : Act) where
  pub refuses_undefined : (v : Value) → v ≡ value.Undefined
      → RefinesAlgorithm s (throw_error TypeError (codes "no property of undefined")) t a
      → RefinesAlgorithm s (string_of v >>= k) t a
  unfolding check_object_coercible throw_error
  refuses_undefined v is refines =
      subst (λ (w : Value). RefinesAlgorithm s (string_of w >>= k) t a) (sym is) (record { is = refines.is })

  pub refuses_null : (v : Value) → v ≡ value.Null
      → RefinesAlgorithm s (throw_error TypeError (codes "no property of null")) t a
      → RefinesAlgorithm s (string_of v >>= k) t a
  unfolding check_object_coercible throw_error
  refuses_null v is refines =
      subst (λ (w : Value). RefinesAlgorithm s (string_of w >>= k) t a) (sym is) (record { is = refines.is })

  converts : (v : Value) → (v ≡ value.Undefined → ⊥) → (v ≡ value.Null → ⊥) → RefinesAlgorithm s (to_string v >>= k) t a
      → RefinesAlgorithm s (string_of v >>= k) t a
  unfolding check_object_coercible
  converts value.Undefined no_undefined no_null refines = absurd (no_undefined refl)
  converts value.Null no_undefined no_null refines = absurd (no_null refl)
  converts (value.Bool b) no_undefined no_null refines = refines
  converts (value.Num n) no_undefined no_null refines = refines
  converts (value.Text x) no_undefined no_null refines = refines
  converts (value.Obj id) no_undefined no_null refines = refines

-- what a method does waits for it
pub method_waits : (s : State) (m : StringMethod) (c : Call) (args : List Value) (v : Value) (t : State) (a : Act)
    → (c.this ≡ value.Undefined → ⊥) → (c.this ≡ value.Null → ⊥) → args ≡ c.args → v ≡ c.this
    → RefinesAlgorithm s (to_primitive string_hint v >>= string_after (progress.This m args)) t a
    → RefinesAlgorithm s (string_method_algorithm m c) t a
method_waits s m c args v t a no_undefined no_null args_are v_is refines =
    converts s (λ units. method_of_string m units c.args) t a c.this no_undefined no_null
    (as_string s t a c.this (string_after (progress.This m c.args)) (λ units. method_of_string m units c.args)
    (λ p. refl)
    (subst (λ (l : List Value). RefinesAlgorithm s
    (to_primitive string_hint c.this >>= string_after (progress.This m l)) t a)
    args_are
    (subst (λ (w : Value). RefinesAlgorithm s
    (to_primitive string_hint w >>= string_after (progress.This m args)) t a) v_is
    refines)))

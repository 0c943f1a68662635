-- Values that have to be objects or functions.
use Rattle.std.proofs.Common.{◌≡◌, codes, false, refl, subst, sym, true, Bool}
use Rattle.jl_value.specs.declared.object.ObjId.{ObjId}
use Rattle.jl_value.specs.declared.value.Value.{Value}
use Rattle.jl_value.specs.declared.value.Value.TheVariants as value
use Rattle.jl_effects.specs.Running.{Ends, Finish}
use Rattle.jl_meaning.specs.Errors.{throw_type_error}
use Rattle.jl_meaning.specs.Getting.{is_callable}
use Rattle.jl_meaning.specs.Parts.{gives, AlgorithmFault, Answer}
use Rattle.jl_meaning.specs.Store.{Store}
use Rattle.jl_meaning.specs.builtins.Arguments.{function_if, need_function, need_object}
use Rattle.jl_store.specs.BigStep.{BigStep}

module _ (from to : Store) (end : Finish AlgorithmFault (Answer ObjId)) where
  pub no_object : (v : Value) → ((id : ObjId) → v ≡ value.Obj id → ⊥)
      → BigStep (throw_type_error (codes "not an object")) from to end → BigStep (need_object v) from to end
  no_object value.Undefined differs comes = comes
  no_object value.Null differs comes = comes
  no_object (value.Bool b) differs comes = comes
  no_object (value.Num n) differs comes = comes
  no_object (value.Text x) differs comes = comes
  no_object (value.Obj id) differs comes = absurd (differs id refl)

  -- a value that isn't callable, and one that is no object
  pub not_callable : (v : Value) (b : Bool) → b ≡ is_callable from.heap v → b ≡ false
      → BigStep (throw_type_error (codes "not a function")) from to end → BigStep (need_function v) from to end
  not_callable v b is none comes =
      record { refines = (subst (λ c. BigStep (function_if c v) from to end) is (without v b none)).refines }
    where
      without : (v : Value) (b : Bool) → b ≡ false → BigStep (function_if b v) from to end
      without v true e = absurd (let differ = e in cc)
      without v false e = comes

  pub no_function_there : (v : Value) → ((id : ObjId) → v ≡ value.Obj id → ⊥)
      → BigStep (throw_type_error (codes "not a function")) from to end → BigStep (need_function v) from to end
  no_function_there value.Undefined differs comes = not_callable value.Undefined false refl refl comes
  no_function_there value.Null differs comes = not_callable value.Null false refl refl comes
  no_function_there (value.Bool b) differs comes = not_callable (value.Bool b) false refl refl comes
  no_function_there (value.Num n) differs comes = not_callable (value.Num n) false refl refl comes
  no_function_there (value.Text x) differs comes = not_callable (value.Text x) false refl refl comes
  no_function_there (value.Obj id) differs comes = absurd (differs id refl)

pub function_there : (s : Store) (v : Value) (id : ObjId) (b : Bool) → b ≡ is_callable s.heap v → b ≡ true
    → v ≡ value.Obj id → BigStep (need_function v) s s (Ends (gives id))
function_there s v id b is so same =
    record { refines = (subst (λ c. BigStep (function_if c v) s s (Ends (gives id))) is with_it).refines }
  where
    with_it : BigStep (function_if b v) s s (Ends (gives id))
    with_it =
        subst (λ c. BigStep (function_if c v) s s (Ends (gives id))) (sym so)
        (subst (λ w. BigStep (function_if true w) s s (Ends (gives id))) (sym same) (record { refines = (refl, refl) }))

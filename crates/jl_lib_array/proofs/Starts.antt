-- How functions begin, where the builtin is known.
use Rattle.std.proofs.Common.{◌≡◌, false, refl, subst, sym, true, IfOk, List, Result}
use Rattle.jl_value.specs.Tests.{is_undefined}
use Rattle.jl_value.specs.declared.builtin.Builtin.TheVariants as builtin
use Rattle.jl_value.specs.declared.builtin_groups.ArrayBuiltin.{ArrayBuiltin}
use Rattle.jl_value.specs.declared.builtin_groups.ArrayBuiltin.TheVariants as array_builtin
use Rattle.jl_value.specs.declared.object.ObjId.{ObjId}
use Rattle.jl_value.specs.declared.value.Value.{Value}
use Rattle.jl_value.specs.declared.value.Value.TheVariants as value
use Rattle.jl_effects.specs.Effects.{Fail}
use Rattle.jl_effects.specs.Running.{Ends}
use Rattle.jl_meaning.specs.Parts.{gives, ◌>>=◌, Algorithm, Call, Unsupported}
use Rattle.jl_meaning.specs.builtins.Arguments.{argument}
use Rattle.jl_meaning.specs.builtins.ArrayChanges.{array_sort, sort_by}
use Rattle.jl_meaning.specs.builtins.Elements.{get_length}
use Rattle.jl_meaning.specs.builtins.Table.{array_algorithm}
use Rattle.jl_meaning.specs.forms.Literals.{new_array}
use Rattle.jl_store.specs.BigStep.{BigStep}
use Rattle.jl_progress.specs.Arrays.{with_length}
use Rattle.jl_progress.specs.declared.array.LengthFunction.TheVariants as for_length
use Rattle.jl_state.specs.Rest.{RefinesAlgorithm}
use Rattle.jl_state.specs.declared.act.Act.{Act}
use Rattle.jl_state.specs.declared.state.State.{State}
use Rattle.jl_state.proofs.Stores.{works_comes, IsStored}
use Rattle.jl_lib_array.specs.inner.Functions.{change_call, splice_on}

-- what a builtin does is what another one of the same name does
pub starts : {E : Type 0} (s t : State) (r : Result Act E) (c : Call) (b d : ArrayBuiltin) (p : Algorithm Value)
    → b ≡ d → array_algorithm d c ≡ p → IfOk r (λ a. RefinesAlgorithm s p t a)
    → IfOk r (λ a. RefinesAlgorithm s (array_algorithm b c) t a)
starts {E} s t r c b d p is same refines =
    subst (λ x. IfOk r (λ a. RefinesAlgorithm s (array_algorithm x c) t a)) (sym is)
    (subst (λ q. IfOk r (λ a. RefinesAlgorithm s q t a)) (sym same) refines)

-- sort, without a function to compare by and with one

abbrev sort_left_out : Algorithm Value
sort_left_out = Fail (Unsupported (builtin.Array array_builtin.Sort))

sorts_plainly : (v : Value) (c : Call) → is_undefined v ≡ true → sort_by v c ≡ change_call for_length.Sort c
sorts_plainly value.Undefined c e = refl
sorts_plainly value.Null c e = absurd (let differ = e in cc)
sorts_plainly (value.Bool b) c e = absurd (let differ = e in cc)
sorts_plainly (value.Num n) c e = absurd (let differ = e in cc)
sorts_plainly (value.Text x) c e = absurd (let differ = e in cc)
sorts_plainly (value.Obj id) c e = absurd (let differ = e in cc)

leaves_out : (v : Value) (c : Call) → is_undefined v ≡ false → sort_by v c ≡ sort_left_out
leaves_out value.Undefined c e = absurd (let differ = e in cc)
leaves_out value.Null c e = refl
leaves_out (value.Bool b) c e = refl
leaves_out (value.Num n) c e = refl
leaves_out (value.Text x) c e = refl
leaves_out (value.Obj id) c e = refl

module _ (s : State) (c : Call) (t : State) (a : Act) (v : Value) (is : v ≡ argument c 0) where
  pub sorts : is_undefined v ≡ true → RefinesAlgorithm s (change_call for_length.Sort c) t a
      → RefinesAlgorithm s (array_sort c) t a
  sorts none refines =
      subst (λ w. RefinesAlgorithm s (sort_by w c) t a) is
      (subst (λ p. RefinesAlgorithm s p t a) (sym (sorts_plainly v c none)) refines)

  pub sorts_not : is_undefined v ≡ false → RefinesAlgorithm s sort_left_out t a → RefinesAlgorithm s (array_sort c) t a
  sorts_not there refines =
      subst (λ w. RefinesAlgorithm s (sort_by w c) t a) is
      (subst (λ p. RefinesAlgorithm s p t a) (sym (leaves_out v c there)) refines)

-- splice makes its array first
pub splices : (s t u : State) (a : Act) (o id : ObjId) (args : List Value) → IsStored s t
    → BigStep new_array s.store t.store (Ends (gives id))
    → RefinesAlgorithm t (get_length o >>= with_length (for_length.Splice id) o args) u a
    → RefinesAlgorithm s (splice_on o args) u a
splices s t u a o id args stored comes refines =
    works_comes s t stored new_array id
    (λ array. get_length o >>= λ length. with_length (for_length.Splice array) o args length) u a comes refines

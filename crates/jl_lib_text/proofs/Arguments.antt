-- Methods of strings that begin with an argument.
use Rattle.std.proofs.Common.{◌≡◌, false, length, pos, refl, subst, true, List, Some, ℕ, ℤ}
use Rattle.jl_num.specs.Number.{Number}
use Rattle.jl_value.specs.Tests.{is_undefined}
use Rattle.jl_value.specs.declared.value.Value.{Value}
use Rattle.jl_value.specs.declared.object.ObjId.{ObjId}
use Rattle.jl_effects.specs.Running.{Ends}
use Rattle.jl_meaning.specs.Conversions.{integer_of, number_hint, string_hint, to_integer, to_number, to_primitive}
use Rattle.jl_meaning.specs.Conversions.{to_string, to_uint32}
use Rattle.jl_meaning.specs.Parts.{give, gives, ◌>>=◌, Algorithm}
use Rattle.jl_meaning.specs.Store.{Store}
use Rattle.jl_meaning.specs.builtins.Arguments.{argument_at, give_string, unless_undefined}
use Rattle.jl_meaning.specs.builtins.Elements.{to_end}
use Rattle.jl_meaning.specs.builtins.String.{string_split, unit_at_position}
use Rattle.jl_meaning.specs.forms.Literals.{new_array}
use Rattle.jl_progress.specs.Strings.{place_of_part, split_up_to, string_after, unit_given, units_cut}
use Rattle.jl_progress.specs.declared.string.Cut.{Cut}
use Rattle.jl_progress.specs.declared.string.Search.{Search}
use Rattle.jl_progress.specs.declared.string.StringProgress.TheVariants as progress
use Rattle.jl_progress.specs.declared.string.UnitForm.{UnitForm}
use Rattle.jl_store.specs.BigStep.{BigStep}
use Rattle.jl_state.specs.Rest.{RefinesAlgorithm}
use Rattle.jl_state.specs.declared.act.Act.{Act}
use Rattle.jl_state.specs.declared.state.State.{State}
use Rattle.jl_state.proofs.Stores.{works_comes}
use Rattle.jl_lib_text.specs.inner.Methods.{part_of_string, place_in_string, unit_of_string}
use Rattle.jl_builtin.proofs.Conversions.{as_integer, as_string, missing, there}

module _ (s t : State) (a : Act) (units : List ℕ) (args : List Value) where
  pub position_waits : (form : UnitForm) (v : Value) → v ≡ argument_at args 0
      → RefinesAlgorithm s (to_primitive number_hint v >>= string_after (progress.Position form units)) t a
      → RefinesAlgorithm s (unit_of_string form units args) t a
  position_waits form v is refines =
      subst (λ (w : Value). RefinesAlgorithm s
      (to_integer w >>= λ z. give (unit_given form (unit_at_position units z))) t a) is
      (as_integer s t a v (string_after (progress.Position form units))
      (λ z. give (unit_given form (unit_at_position units z))) (λ p. refl) refines)

  pub part_waits : (which : Search) (part position : Value) → part ≡ argument_at args 0 → position ≡ argument_at args 1
      → RefinesAlgorithm s (to_primitive string_hint part >>= string_after (progress.Part which units position)) t a
      → RefinesAlgorithm s (place_in_string which units args) t a
  part_waits which part position part_is position_is refines =
      subst (λ (w : Value). RefinesAlgorithm s (to_string w >>= found (argument_at args 1)) t a) part_is
      (subst (λ (w : Value). RefinesAlgorithm s (to_string part >>= found w) t a) position_is
      (as_string s t a part (string_after (progress.Part which units position)) (found position) (λ p. refl) refines))
    where
      found : Value → List ℕ → Algorithm Value
      found w x = to_number w >>= λ n. give (place_of_part which units x n)

  pub start_waits : (which : Cut) (start end : Value) → start ≡ argument_at args 0 → end ≡ argument_at args 1
      → RefinesAlgorithm s (to_primitive number_hint start >>= string_after (progress.Start which units end)) t a
      → RefinesAlgorithm s (part_of_string which units args) t a
  start_waits which start end start_is end_is refines =
      subst (λ (w : Value). RefinesAlgorithm s (to_integer w >>= ended (argument_at args 1)) t a) start_is
      (subst (λ (w : Value). RefinesAlgorithm s (to_integer start >>= ended w) t a) end_is
      (as_integer s t a start (string_after (progress.Start which units end)) (ended end) (λ p. refl) refines))
    where
      ended : Value → ℤ → Algorithm Value
      ended w z = to_end w (length units) >>= λ e. give_string (units_cut which units z e)

  -- an array is made for the pieces
  pub splits : (x : Store) (array : ObjId) (separator limit : Value) → separator ≡ argument_at args 0
      → limit ≡ argument_at args 1 → BigStep new_array s.store x (Ends (gives array))
      → RefinesAlgorithm (record s { store = x })
      (unless_undefined 4294967295 to_uint32 limit >>= split_up_to units array separator) t a
      → RefinesAlgorithm s (string_split units args) t a
  splits x array separator limit separator_is limit_is comes refines =
      works_comes s (record s { store = x }) refl new_array array
      (λ made. unless_undefined 4294967295 to_uint32 (argument_at args 1)
      >>= λ n. split_up_to units made (argument_at args 0) n) t a comes
      (subst (λ (w : Value). RefinesAlgorithm (record s { store = x })
      (unless_undefined 4294967295 to_uint32 w >>= λ n. split_up_to units array (argument_at args 0) n) t a) limit_is
      (subst (λ (w : Value). RefinesAlgorithm (record s { store = x })
      (unless_undefined 4294967295 to_uint32 limit >>= λ n. split_up_to units array w n) t a) separator_is refines))

-- the end of a part
module _ (s t : State) (a : Act) (units : List ℕ) where
  pub end_missing : (which : Cut) (start last : Number) (end : Value) → is_undefined end ≡ true
      → last ≡ Some (pos (length units))
      → RefinesAlgorithm s (give_string (units_cut which units (integer_of start) (integer_of last))) t a
      → RefinesAlgorithm s (to_end end (length units) >>= λ z. give_string
      (units_cut which units (integer_of start) z)) t a
  end_missing which start last end none last_is refines =
      missing s t a (pos (length units)) to_integer end
      (λ z. give_string (units_cut which units (integer_of start) z)) none
      (subst (λ n. RefinesAlgorithm s (give_string
      (units_cut which units (integer_of start) (integer_of n))) t a) last_is refines)

  pub end_waits : (which : Cut) (start : Number) (end : Value) → is_undefined end ≡ false
      → RefinesAlgorithm s (to_primitive number_hint end >>= string_after (progress.End which units start)) t a
      → RefinesAlgorithm s (to_end end (length units) >>= λ z. give_string
      (units_cut which units (integer_of start) z)) t a
  end_waits which start end some refines =
      there s t a (pos (length units)) to_integer end
      (λ z. give_string (units_cut which units (integer_of start) z)) some
      (as_integer s t a end (string_after (progress.End which units start))
      (λ z. give_string (units_cut which units (integer_of start) z)) (λ p. refl) refines)

-- `split`, when its array has been made.
use Rattle.std.proofs.Common.{◌≡◌, ◌∷◌, ◌∙◌, [], ap, drop, false, map, refl, subst, take, true, List, ℕ}
use Rattle.std.proofs.lemmas.List.{take-map}
use Rattle.jl_value.specs.Tests.{is_undefined}
use Rattle.jl_value.specs.declared.object.ObjId.{ObjId}
use Rattle.jl_value.specs.declared.value.Value.{Value}
use Rattle.jl_value.specs.declared.value.Value.TheVariants as value
use Rattle.jl_conv.specs.Conversions.{text_of_value}
use Rattle.jl_meaning.specs.Conversions.{number_hint, string_hint, to_primitive, to_string, to_uint32}
use Rattle.jl_meaning.specs.Parts.{give, ◌>>=◌, Algorithm}
use Rattle.jl_meaning.specs.builtins.Arguments.{give_object, unless_undefined}
use Rattle.jl_meaning.specs.builtins.Elements.{add_in_turns}
use Rattle.jl_meaning.specs.builtins.String.{pieces}
use Rattle.jl_progress.specs.Strings.{fill_with_pieces, split_up_to, string_after}
use Rattle.jl_progress.specs.declared.string.StringProgress.TheVariants as progress
use Rattle.jl_state.specs.Rest.{RefinesAlgorithm}
use Rattle.jl_state.specs.declared.act.Act.{Act}
use Rattle.jl_state.specs.declared.state.State.{State}
use Rattle.jl_operator.proofs.Operands.{chained}
use Rattle.jl_builtin.proofs.Conversions.{as_string, as_uint32, missing, there}

-- an array is filled with values
abbrev pub filled : ObjId → List Value → Algorithm Value
filled array vs = add_in_turns array 0 vs >>= λ _. give_object array

module _ (s t : State) (a : Act) (array : ObjId) (limit : ℕ) where
  pub fills : (values all : List Value) → values ≡ take limit all
      → RefinesAlgorithm s (filled array (drop 0 values)) t a
      → RefinesAlgorithm s (filled array (take limit all)) t a
  fills values all is refines = subst (λ l. RefinesAlgorithm s (filled array l) t a) is refines

  -- pieces as values
  pub fills_pieces : (parts : List (List ℕ)) (all : List Value) → all ≡ map (λ part. value.Text part) parts
      → RefinesAlgorithm s (filled array (take limit all)) t a
      → RefinesAlgorithm s (fill_with_pieces array limit parts) t a
  fills_pieces parts all is refines =
      subst (λ l. RefinesAlgorithm s (filled array l) t a)
      (ap (take limit) is ∙ take-map (λ part. value.Text part) limit parts) refines

module _ (s t : State) (a : Act) (units : List ℕ) (array : ObjId) where
  pub separator_missing : (separator : Value) (limit : ℕ) (all : List Value) → is_undefined separator ≡ true
      → all ≡ value.Text units ∷ [] → RefinesAlgorithm s (filled array (take limit all)) t a
      → RefinesAlgorithm s (split_up_to units array separator limit) t a
  separator_missing separator limit all none is refines =
      missing s t a (units ∷ []) (λ v. to_string v >>= λ x. give (pieces x units)) separator
      (fill_with_pieces array limit) none (fills_pieces s t a array limit (units ∷ []) all is refines)

  pub separator_waits : (separator : Value) (limit : ℕ) → is_undefined separator ≡ false
      → RefinesAlgorithm s (to_primitive string_hint separator >>= string_after
      (progress.Separator units array limit)) t a
      → RefinesAlgorithm s (split_up_to units array separator limit) t a
  separator_waits separator limit some refines =
      there s t a (units ∷ []) (λ v. to_string v >>= λ x. give (pieces x units)) separator
      (fill_with_pieces array limit) some
      (subst (λ q. RefinesAlgorithm s q t a)
      (chained (to_string separator) (λ x. give (pieces x units)) (fill_with_pieces array limit))
      (as_string s t a separator (string_after (progress.Separator units array limit))
      (λ x. fill_with_pieces array limit (pieces x units)) (λ p. refl) refines))

  pub separated : (limit : ℕ) (p : Value) (x : List ℕ) (all : List Value) → x ≡ text_of_value p
      → all ≡ map (λ part. value.Text part) (pieces x units) → RefinesAlgorithm s (filled array (take limit all)) t a
      → RefinesAlgorithm s (string_after (progress.Separator units array limit) p) t a
  separated limit p x all x_is is refines =
      subst (λ y. RefinesAlgorithm s (fill_with_pieces array limit (pieces y units)) t a) x_is
      (fills_pieces s t a array limit (pieces x units) all is refines)

  pub limit_missing : (separator limit : Value) → is_undefined limit ≡ true
      → RefinesAlgorithm s (split_up_to units array separator 4294967295) t a
      → RefinesAlgorithm s (unless_undefined 4294967295 to_uint32 limit >>= split_up_to units array separator) t a
  limit_missing separator limit none refines =
      missing s t a 4294967295 to_uint32 limit (split_up_to units array separator) none refines

  pub limit_waits : (separator limit : Value) → is_undefined limit ≡ false
      → RefinesAlgorithm s (to_primitive number_hint limit >>= string_after (progress.Limit units array separator)) t a
      → RefinesAlgorithm s (unless_undefined 4294967295 to_uint32 limit >>= split_up_to units array separator) t a
  limit_waits separator limit some refines =
      there s t a 4294967295 to_uint32 limit (split_up_to units array separator) some
      (as_uint32 s t a limit (string_after (progress.Limit units array separator)) (split_up_to units array separator)
      (λ p. refl) refines)

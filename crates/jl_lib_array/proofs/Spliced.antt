-- `splice`: its arguments, and the elements that it puts.
use Rattle.std.proofs.Common.{◌≡◌, ◌∙◌, ◌-◌, ap, drop, subst, List, Some, ℕ, ℤ}
use Rattle.std.specs.Prelude.{slice_index_or}
use Rattle.jl_num.specs.Number.{Number}
use Rattle.jl_value.specs.declared.object.ObjId.{ObjId}
use Rattle.jl_value.specs.declared.value.Value.{Value}
use Rattle.jl_value.specs.declared.value.Value.TheVariants as value
use Rattle.jl_conv.specs.Conversions.{number_of_value}
use Rattle.jl_meaning.specs.Conversions.{integer_of, number_hint, to_integer, to_primitive}
use Rattle.jl_meaning.specs.Parts.{◌>>=◌, Algorithm}
use Rattle.jl_meaning.specs.builtins.ArrayChanges.{splice_at}
use Rattle.jl_meaning.specs.builtins.Elements.{clamp, relative_index}
use Rattle.jl_progress.specs.Arrays.{array_after, length_spliced, put_items, put_others, splice_from, with_length}
use Rattle.jl_progress.specs.declared.array.AfterPutting.TheVariants as put
use Rattle.jl_progress.specs.declared.array.ArrayProgress.TheVariants as array
use Rattle.jl_progress.specs.declared.array.LengthFunction.TheVariants as for_length
use Rattle.jl_progress.specs.declared.array.Splicing.{Splicing}
use Rattle.jl_state.specs.Rest.{RefinesAlgorithm}
use Rattle.jl_state.specs.declared.act.Act.{Act}
use Rattle.jl_state.specs.declared.state.State.{State}
use Rattle.jl_operator.proofs.Operands.{found}
use Rattle.jl_builtin.proofs.Conversions.{integer_converts}

module _ (s t : State) (a : Act) (o gone : ObjId) (length : ℕ) (args : List Value) where
  abbrev from : ℤ → Algorithm Value
  from z = splice_from o gone length (relative_index z length) args

  pub splices_start : (v : Value) → v ≡ slice_index_or args 0 value.Undefined
      → RefinesAlgorithm s (to_primitive number_hint v >>= array_after (array.SpliceStart o gone length args)) t a
      → RefinesAlgorithm s (with_length (for_length.Splice gone) o args length) t a
  splices_start v is refines =
      subst (λ w. RefinesAlgorithm s (to_integer w >>= from) t a) is
      (subst (λ p. RefinesAlgorithm s p t a) (integer_converts v from) refines)

  abbrev removing : (start : ℕ) → ℤ → Algorithm Value
  removing start z = splice_at o gone length start (clamp z (length - start)) (drop 2 args)

  pub splices_count : (p : Value) (n : Number) (start : ℕ) (v : Value) → Some n ≡ number_of_value p
      → start ≡ relative_index (integer_of n) length → v ≡ slice_index_or args 1 value.Undefined
      → RefinesAlgorithm s (to_primitive number_hint v >>= array_after (array.SpliceCount o gone length start args)) t a
      → RefinesAlgorithm s (array_after (array.SpliceStart o gone length args) p) t a
  splices_count p n start v there is_start is refines =
      found s t a (number_of_value p) n (λ m. from (integer_of m)) there
      (subst (λ i. RefinesAlgorithm s (splice_from o gone length i args) t a) is_start
      (subst (λ w. RefinesAlgorithm s (to_integer w >>= removing start) t a) is
      (subst (λ q. RefinesAlgorithm s q t a) (integer_converts v (removing start)) refines)))

  pub splices_at : (p : Value) (n : Number) (start most removed : ℕ) (items : List Value) → Some n ≡ number_of_value p
      → most ≡ length - start → removed ≡ clamp (integer_of n) most → items ≡ drop 2 args
      → RefinesAlgorithm s (splice_at o gone length start removed items) t a
      → RefinesAlgorithm s (array_after (array.SpliceCount o gone length start args) p) t a
  splices_at p n start most removed items there is_most is are refines =
      found s t a (number_of_value p) n (λ m. removing start (integer_of m)) there
      (subst (λ i. RefinesAlgorithm s (splice_at o gone length start i (drop 2 args)) t a)
      (is ∙ ap (clamp (integer_of n)) is_most)
      (subst (λ (l : List Value). RefinesAlgorithm s (splice_at o gone length start removed l) t a) are refines))

-- the elements that come are put
pub puts_items : (s t : State) (a : Act) (x : Splicing) (length : ℕ) → length ≡ length_spliced x
    → RefinesAlgorithm s (put_others x.object x.start x.items (put.Splice x.array length)) t a
    → RefinesAlgorithm s (put_items x) t a
puts_items s t a x length is refines =
    subst (λ n. RefinesAlgorithm s (put_others x.object x.start x.items (put.Splice x.array n)) t a) is refines

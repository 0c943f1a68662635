-- Functions that are called with the elements of a list (15.3.4.3).
use Rattle.std.proofs.Common.{◌≡◌, ◌<◌, ◌≤◌, ◌+◌, ◌++◌, ◌-◌, ◌∷◌, ◌∙◌, [], ap, arith, codes, false, refl, subst, suc}
use Rattle.std.proofs.Common.{sym}
use Rattle.std.proofs.Common.{true, List, None, Some, ℕ}
use mathlib.Core.Path.{fun_ext}
use Rattle.jl_num.specs.Bits.{uint32_of}
use Rattle.jl_num.specs.Number.{Number}
use Rattle.jl_value.specs.Tests.{is_nothing}
use Rattle.jl_value.specs.declared.ending.Fault.TheVariants as fault
use Rattle.jl_value.specs.declared.object.ObjId.{ObjId}
use Rattle.jl_value.specs.declared.value.Value.{Value}
use Rattle.jl_value.specs.declared.value.Value.TheVariants as value
use Rattle.jl_conv.specs.Conversions.{number_of_value}
use Rattle.jl_heap.specs.Define.{length_name}
use Rattle.jl_heap.specs.Objects.{Name}
use Rattle.jl_effects.specs.Effects.{Step}
use Rattle.jl_meaning.specs.Conversions.{number_hint, to_number, to_primitive, to_uint32}
use Rattle.jl_meaning.specs.Getting.{get}
use Rattle.jl_meaning.specs.Parts.{call, give, or_fault, ◌>>=◌, Algorithm, NumberOutside}
use Rattle.jl_meaning.specs.builtins.Arguments.{need_object}
use Rattle.jl_meaning.specs.builtins.Elements.{get_index, get_length}
use Rattle.jl_meaning.specs.builtins.Function.{append_element, arguments_in}
use Rattle.jl_meaning.specs.builtins.Turns.{upward}
use Rattle.jl_progress.specs.Functions.{function_after}
use Rattle.jl_progress.specs.declared.function.FunctionProgress.TheVariants as function
use Rattle.jl_progress.specs.declared.progress.Progress.TheVariants as progress
use Rattle.jl_state.specs.Rest.{RefinesAlgorithm}
use Rattle.jl_state.specs.Steps.{AlgorithmWaits}
use Rattle.jl_state.specs.declared.act.Act.{Act}
use Rattle.jl_state.specs.declared.act.Act.TheVariants as act
use Rattle.jl_state.specs.declared.algorithm_frame.AlgorithmFrame.TheVariants as algorithm
use Rattle.jl_state.specs.declared.state.State.{State}
use Rattle.jl_meaning.proofs.Binds.{bind_assoc}
use Rattle.jl_operator.proofs.Operands.{number_waits}
use Rattle.jl_builtin.proofs.Waits.{length_is}
use Rattle.jl_lib_object.specs.inner.Calls.{apply_by, apply_element, apply_list}

module _ (f : ObjId) (this : Value) (list : ObjId) where
  abbrev called : List Value → Algorithm Value
  called args = call f this args

  -- one element more
  element_same : (count k : ℕ) (args : List Value)
      → (append_element list k args >>= upward (append_element list) count (k + 1) >>= called)
      ≡ (get_index list k >>= λ v. apply_by f this list count (k + 1) (args ++ v ∷ []))
  element_same count k args =
      bind_assoc (append_element list k args) (upward (append_element list) count (k + 1)) called
      ∙ bind_assoc (get_index list k) (λ v. give (args ++ v ∷ []))
      (λ b. upward (append_element list) count (k + 1) b >>= called)

  left_over : (n k : ℕ) → k < n → n - k ≡ suc (n - (k + 1))
  left_over n k below = omega (arith, below)

  pub applies_element : (s : State) (args : List Value) (k n : ℕ) (t : State) (a : Act) → k < n
      → RefinesAlgorithm s (Step (apply_element f this list args k n)) t a
      → RefinesAlgorithm s (apply_by f this list (n - k) k args) t a
  applies_element s args k n t a below refines =
      subst (λ m. RefinesAlgorithm s (apply_by f this list m k args) t a) (sym (left_over n k below))
      (subst (λ (p : Algorithm Value). RefinesAlgorithm s (Step p) t a)
      (sym (element_same (n - (k + 1)) k args)) refines)

  -- no element more
  nothing_left : (n k : ℕ) → n ≤ k → n - k ≡ 0
  nothing_left n k above = omega (arith, above)

  pub applies : (s : State) (args : List Value) (k n : ℕ) (t : State) (a : Act) → n ≤ k
      → RefinesAlgorithm s (call f this args) t a → RefinesAlgorithm s (apply_by f this list (n - k) k args) t a
  applies s args k n t a above refines =
      subst (λ m. RefinesAlgorithm s (apply_by f this list m k args) t a) (sym (nothing_left n k above)) refines

  -- the length

  pub outside : (s : State) (p : Value) → number_of_value p ≡ None
      → RefinesAlgorithm s (function_after (function.LengthPrimitive f this list) p) s (act.Fault fault.NumberOutside)
  outside s p none =
      subst (λ o. RefinesAlgorithm s (or_fault NumberOutside o >>= λ n. apply_by f this list (uint32_of n) 0 []) s
      (act.Fault fault.NumberOutside)) (sym none) (record { is = λ kept told. refl })

  pub begins_at : (s : State) (p : Value) (n : Number) (m : ℕ) (args : List Value) (t : State) (a : Act)
      → number_of_value p ≡ Some n → m ≡ uint32_of n → args ≡ []
      → RefinesAlgorithm s (apply_by f this list (m - 0) 0 args) t a
      → RefinesAlgorithm s (function_after (function.LengthPrimitive f this list) p) t a
  begins_at s p n m args t a is counted none refines =
      let whole : m - 0 ≡ m = omega arith in
      subst (λ o. RefinesAlgorithm s (or_fault NumberOutside o >>= λ k. apply_by f this list (uint32_of k) 0 []) t a)
      (sym is)
      (subst (λ k. RefinesAlgorithm s (apply_by f this list k 0 []) t a) (whole ∙ counted)
      (subst (λ l. RefinesAlgorithm s (apply_by f this list (m - 0) 0 l) t a) none refines))

  pub goes_on_with : (s : State) (args more : List Value) (from length : ℕ) (v : Value) (t : State) (a : Act)
      → more ≡ args ++ v ∷ [] → RefinesAlgorithm s (apply_by f this list (length - from) from more) t a
      → RefinesAlgorithm s (function_after (function.Element f this list args from length) v) t a
  goes_on_with s args more from length v t a grown refines =
      subst (λ l. RefinesAlgorithm s (apply_by f this list (length - from) from l) t a) grown refines

  counts : (v : Value) → (to_number v >>= λ n. apply_by f this list (uint32_of n) 0 [])
      ≡ function_after (function.Length f this list) v
  counts v = sym (bind_assoc (to_number v) (λ n. give (uint32_of n)) (λ n. apply_by f this list n 0 []))

  pub converts_length : (s u : State) (v : Value) (t : State) (a : Act)
      → AlgorithmWaits s (algorithm.Builtin (progress.Function (function.LengthPrimitive f this list))) u
      → RefinesAlgorithm u (to_primitive number_hint v) t a
      → RefinesAlgorithm s (function_after (function.Length f this list) v) t a
  converts_length s u v t a waits refines =
      subst (λ p. RefinesAlgorithm s p t a) (counts v)
      (number_waits s u t (algorithm.Builtin (progress.Function (function.LengthPrimitive f this list)))
      (λ n. apply_by f this list (uint32_of n) 0 []) v a (λ p. refl) waits refines)

  pub gets_length : (s u : State) (x : Name) (t : State) (a : Act) → x ≡ codes "length"
      → AlgorithmWaits s (algorithm.Builtin (progress.Function (function.Length f this list))) u
      → RefinesAlgorithm u (get (value.Obj list) x) t a → RefinesAlgorithm s (apply_list f this list) t a
  gets_length s u x t a is waits refines =
      subst (λ p. RefinesAlgorithm s p t a)
      (sym (bind_assoc (get (value.Obj list) length_name) to_uint32 (λ n. apply_by f this list n 0 [])))
      (waits.works (get (value.Obj list) length_name) t a
      (subst (λ y. RefinesAlgorithm u (get (value.Obj list) y) t a) (is ∙ sym length_is) refines))

-- the arguments that a value has

module _ (f : ObjId) (this : Value) where
  some_arguments : (v : Value)
      → (need_object v >>= λ id. apply_list f this id)
      ≡ (need_object v >>= (λ id. get_length id >>= λ n. upward (append_element id) n 0 []) >>= call f this)
  some_arguments v =
      ap (λ (k : ObjId → Algorithm Value). need_object v >>= k) (fun_ext (λ id.
      sym (bind_assoc (get_length id) (λ n. upward (append_element id) n 0 []) (call f this))))
      ∙ sym (bind_assoc (need_object v) (λ id. get_length id >>= λ n. upward (append_element id) n 0 []) (call f this))

  pub no_arguments : (s : State) (v : Value) (t : State) (a : Act) → is_nothing v ≡ true
      → RefinesAlgorithm s (call f this []) t a → RefinesAlgorithm s (arguments_in v >>= λ args. call f this args) t a
  no_arguments s value.Undefined t a is refines = refines
  no_arguments s value.Null t a is refines = refines
  no_arguments s (value.Bool b) t a is refines = absurd (let differ = is in cc)
  no_arguments s (value.Num n) t a is refines = absurd (let differ = is in cc)
  no_arguments s (value.Text x) t a is refines = absurd (let differ = is in cc)
  no_arguments s (value.Obj id) t a is refines = absurd (let differ = is in cc)

  pub has_arguments : (s : State) (v : Value) (t : State) (a : Act) → is_nothing v ≡ false
      → RefinesAlgorithm s (need_object v >>= λ id. apply_list f this id) t a
      → RefinesAlgorithm s (arguments_in v >>= λ args. call f this args) t a
  has_arguments s value.Undefined t a is refines = absurd (let differ = is in cc)
  has_arguments s value.Null t a is refines = absurd (let differ = is in cc)
  has_arguments s (value.Bool b) t a is refines = subst (λ p. RefinesAlgorithm s p t a)
      (some_arguments (value.Bool b)) refines
  has_arguments s (value.Num n) t a is refines = subst (λ p. RefinesAlgorithm s p t a)
      (some_arguments (value.Num n)) refines
  has_arguments s (value.Text x) t a is refines = subst (λ p. RefinesAlgorithm s p t a)
      (some_arguments (value.Text x)) refines
  has_arguments s (value.Obj id) t a is refines = subst (λ p. RefinesAlgorithm s p t a)
      (some_arguments (value.Obj id)) refines

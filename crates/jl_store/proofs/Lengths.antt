-- Lengths of arrays that are asked for.
use Rattle.std.proofs.Common.{◌≡◌, ◌∙◌, ℕ, ◌%◌, Bool, true, false, ap, arith, refl, subst, sym}
use Rattle.std.proofs.lemmas.Bool.Decides.{nat_tests}
use Rattle.std.specs.Prelude.{if◌then◌else◌, codes, IfSome, IsSome, IsTrue, nat_lt, negsuc, pos, ◌&&◌, None, Option}
use Rattle.std.specs.Prelude.{Some}
use Rattle.std.specs.Ordering.{int_eq}
use Rattle.std.specs.Str.{bytes_eq}
use Rattle.jl_num.specs.Bits.{uint32_of}
use Rattle.jl_num.specs.Number.{Number}
use Rattle.jl_value.specs.Same.{same_number}
use Rattle.jl_value.specs.Tests.{is_object}
use Rattle.jl_value.specs.declared.error_kind.ErrorKind.TheVariants.{RangeError}
use Rattle.jl_value.specs.declared.value.Value.{Value}
use Rattle.jl_value.specs.declared.value.Value.TheVariants as value
use Rattle.jl_conv.specs.Conversions.{number_of_value}
use Rattle.jl_value.specs.declared.object.ObjId.{ObjId}
use Rattle.jl_heap.specs.Define.{is_array, is_length, length_name}
use Rattle.jl_heap.specs.Objects.{object_at, Name, Objects}
use Rattle.jl_heap.specs.declared.property.Change.{Change}
use Rattle.jl_effects.specs.Running.{Ends, Fails, Finish}
use Rattle.jl_meaning.specs.Conversions.{to_number, to_primitive, to_uint32}
use Rattle.jl_meaning.specs.Defining.{define_own_property, define_with_number, length_within, to_length, with_length}
use Rattle.jl_meaning.specs.Errors.{throw_error}
use Rattle.jl_meaning.specs.Parts.{give, gives, or_fault, throws, ◌>>=◌, AlgorithmFault, Answer, NumberOutside}
use Rattle.jl_meaning.specs.Store.{Store}
use Rattle.jl_store.specs.Answers.{fault_seen, MakesError}
use Rattle.std.specs.Option.{option_map_or}
use Rattle.jl_store.specs.Defining.{IsLengthOf, length_given, LengthIsPrimitive}
use Rattle.jl_store.specs.declared.answer.AlgorithmFault.{AlgorithmFault as Fault}
use Rattle.jl_store.specs.declared.answer.Finished.TheVariants as ended
use Rattle.jl_store.specs.BigStep.{BigStep}
use Rattle.jl_store.proofs.Chains.{comes_failed, comes_on, comes_thrown, error_comes}
use Rattle.jl_store.proofs.Steps.{comes_to}

number_of_primitive : (v : Value) → is_object v ≡ false → to_number v ≡ or_fault NumberOutside (number_of_value v)
unfolding to_number to_primitive
number_of_primitive value.Undefined bare = refl
number_of_primitive value.Null bare = refl
number_of_primitive (value.Bool b) bare = refl
number_of_primitive (value.Num n) bare = refl
number_of_primitive (value.Text t) bare = refl
number_of_primitive (value.Obj id) bare = absurd (cc)

number_given : (v : Value) (n : Number) (s : Store) → is_object v ≡ false → number_of_value v ≡ Some n
    → BigStep (to_number v) s s (Ends (gives n))
number_given v n s bare is =
    subst (λ p. BigStep p s s (Ends (gives n)))
    (sym (number_of_primitive v bare ∙ ap (or_fault NumberOutside) is)) comes_to

-- where there is no number
pub no_number : (v : Value) (s : Store) → is_object v ≡ false → number_of_value v ≡ None
    → BigStep (to_length v) s s (Fails NumberOutside)
no_number v s bare is =
    let first : BigStep (to_number v) s s (Fails NumberOutside) =
    subst (λ p. BigStep p s s (Fails NumberOutside))
    (sym (number_of_primitive v bare ∙ ap (or_fault NumberOutside) is)) (record { refines = (refl, refl) }) in
    comes_failed _ (comes_failed _ first)

after_number : (v : Value) (n : Number) (s t : Store) (e : Finish AlgorithmFault (Answer Value)) → is_object v ≡ false
    → number_of_value v ≡ Some n → BigStep (length_within (Some (pos (uint32_of n))) n) s t e
    → BigStep (to_length v) s t e
after_number v n s t e bare is rest =
    let number = number_given v n s bare is in
    let count : BigStep (to_uint32 v) s s (Ends (gives (uint32_of n))) =
    comes_on (λ m. give (uint32_of m)) number comes_to in
    comes_on (λ (k : ℕ). to_number v >>= (λ m. length_within (Some (pos k)) m)) count
    (comes_on (λ m. length_within (Some (pos (uint32_of n))) m) number rest)

same_count : (k : ℕ) → nat_lt k 4294967296 ≡ int_eq (pos (k % 4294967296)) (pos k)
same_count k = grind (arith, nat_tests)

same_by : (n : Number) → is_length (value.Num n) ≡ same_number (Some (pos (uint32_of n))) n
same_by None = refl
same_by (Some (pos k)) = same_count k
same_by (Some (negsuc k)) = refl

pub length_given_comes : (v : Value) (n : Number) (s : Store) → is_object v ≡ false → number_of_value v ≡ Some n
    → is_length (value.Num n) ≡ true → BigStep (to_length v) s s (Ends (gives (value.Num n)))
length_given_comes v n s bare is length =
    after_number v n s s (Ends (gives (value.Num n))) bare is
    (subst (λ b. BigStep (if b then give (value.Num n) else throw_error RangeError (codes "bad array length")) s s
    (Ends (gives (value.Num n)))) (sym length ∙ same_by n) comes_to)

pub no_length_comes : (v : Value) (n : Number) (s t : Store) (w : Value) → is_object v ≡ false
    → number_of_value v ≡ Some n → is_length (value.Num n) ≡ false
    → MakesError RangeError (codes "bad array length") s t w → BigStep (to_length v) s t (Ends (throws w))
no_length_comes v n s t w bare is length makes =
    after_number v n s t (Ends (throws w)) bare is
    (subst (λ b. BigStep (if b then give (value.Num n) else throw_error RangeError (codes "bad array length")) s t
    (Ends (throws w))) (sym length ∙ same_by n) (error_comes makes))

-- what becomes of a change

module _ (id : ObjId) (x : Name) (change : Change) (v : Value) (s : Store)
    (given : length_given s.heap id.0 x change ≡ Some v) where
  with_it : (b : Bool) (o : Option Value) (end : Finish AlgorithmFault (Answer Change)) (t : Store)
      → (if b then o else None) ≡ Some v
      → BigStep (to_length v >>= (λ (n : Value). give (record change { value = Some n }))) s t end
      → BigStep (with_length b change o) s t end
  with_it true (Some w) end t is comes =
      let same : v ≡ w = cc in
      subst (λ z. BigStep (to_length z >>= (λ (n : Value). give (record change { value = Some n }))) s t end) same comes
  with_it true None end t is comes = absurd (cc)
  with_it false o end t is comes = absurd (cc)

  abbrev is_asked : Bool
  is_asked = is_array (object_at s.heap id.0).class && bytes_eq x length_name

  pub own_defined : (w : Value) (t : Store) (e : Finish AlgorithmFault (Answer Bool))
      → BigStep (to_length v) s s (Ends (gives w))
      → BigStep (define_with_number id x (record change { value = Some w })) s t e
      → BigStep (define_own_property id x change) s t e
  unfolding define_own_property
  own_defined w t e length comes =
      let changed : BigStep (with_length is_asked change change.value) s s
      (Ends (gives (record change { value = Some w }))) =
      with_it is_asked change.value _ s given (comes_on _ length comes_to) in
      record { refines = (comes_on (λ (c : Change). define_with_number id x c) changed comes).refines }

  pub own_thrown : (w : Value) (t : Store) → BigStep (to_length v) s t (Ends (throws w))
      → BigStep (define_own_property id x change) s t (Ends (throws w))
  unfolding define_own_property
  own_thrown w t length =
      let changed : BigStep (with_length is_asked change change.value) s t (Ends (throws w)) =
      with_it is_asked change.value _ t given (comes_thrown _ length) in
      record { refines = (comes_thrown (λ (c : Change). define_with_number id x c) changed).refines }

  pub own_failed : BigStep (to_length v) s s (Fails NumberOutside)
      → BigStep (define_own_property id x change) s s (Fails NumberOutside)
  unfolding define_own_property
  own_failed length =
      let changed : BigStep (with_length is_asked change change.value) s s (Fails NumberOutside) =
      with_it is_asked change.value _ s given (comes_failed _ length) in
      record { refines = (comes_failed (λ (c : Change). define_with_number id x c) changed).refines }

  module _ (bare : is_object v ≡ false) (t u : Store) where
    pub gives_length : (n : Number) (done : Bool) → IsLengthOf v s t (ended.Gives n)
        → BigStep (define_with_number id x (record change { value = Some (value.Num n) })) t u (Ends (gives done))
        → BigStep (define_own_property id x change) s u (Ends (gives done))
    gives_length n done (is, length, same) comes =
        own_defined (value.Num n) u (Ends (gives done)) (length_given_comes v n s bare is length)
        (subst (λ w. BigStep (define_with_number id x (record change { value = Some (value.Num n) })) w u
        (Ends (gives done)))
        same comes)

    pub throws_length : (w : Value) → IsLengthOf v s t (ended.Throws w)
        → BigStep (define_own_property id x change) s t (Ends (throws w))
    throws_length w (none, there, makes) = own_thrown w t (by (number_of_value v) refl none there)
      where
        by : (o : Option Number) → number_of_value v ≡ o → IfSome o (λ n. is_length (value.Num n) ≡ false) → IsSome o
            → BigStep (to_length v) s t (Ends (throws w))
        by (Some n) e short is = no_length_comes v n s t w bare e short makes
        by None e short is = absurd (cc)

    pub fails_length : (f : Fault) → IsLengthOf v s t (ended.Fails f)
        → BigStep (define_own_property id x change) s t (Fails (fault_seen f))
    fails_length f (none, is, same) =
        subst (λ w. BigStep (define_own_property id x change) s w (Fails (fault_seen f))) (sym same)
        (subst (λ g. BigStep (define_own_property id x change) s s (Fails (fault_seen g))) (sym is)
        (own_failed (no_number v s bare none)))

bare_by : (a b : Bool) (o : Option Value) (v : Value) → (if a && b then o else None) ≡ Some v
    → (IsTrue a → IsTrue b → option_map_or is_object o false ≡ false) → is_object v ≡ false
bare_by true true (Some w) v is none =
    let same : w ≡ v = cc in
    subst (λ z. is_object z ≡ false) same (none refl refl)
bare_by true true None v is none = absurd (cc)
bare_by true false o v is none = absurd (cc)
bare_by false b o v is none = absurd (cc)

pub is_bare : (id : ObjId) (x : Name) (change : Change) (v : Value) (heap : Objects)
    → length_given heap id.0 x change ≡ Some v → LengthIsPrimitive heap id.0 x change → is_object v ≡ false
is_bare id x change v heap given primitive = bare_by _ _ change.value v given primitive

-- Properties that are defined.
use Rattle.std.proofs.Common.{◌≡◌, ◌<◌, ◌∙◌, ap, codes, false, pos, refl, subst, sym, true}
use Rattle.std.proofs.Common.{Bool, None, Option, Some, ℕ}
use Rattle.std.specs.Prelude.{◌&&◌, if◌then◌else◌, IsTrue}
use Rattle.std.specs.Str.{bytes_eq}
use Rattle.std.proofs.lemmas.Bool.{lt-ltb}
use Rattle.std.proofs.lemmas.Bool.Decides.{Decides-int_eq}
use Rattle.std.proofs.lemmas.Slice.Eq.{bytes_eq-Decides}
use mathlib.Core.Path.{fun_ext}
use Rattle.jl_num.specs.Bits.{uint32_of}
use Rattle.jl_num.specs.Number.{Number}
use Rattle.jl_value.specs.Same.{same_number}
use Rattle.jl_value.specs.declared.ending.Fault.TheVariants as fault
use Rattle.jl_value.specs.declared.error_kind.ErrorKind.TheVariants.{RangeError}
use Rattle.jl_value.specs.declared.object.ObjId.{ObjId}
use Rattle.jl_value.specs.declared.value.Value.{Value}
use Rattle.jl_value.specs.declared.value.Value.TheVariants as value
use Rattle.jl_conv.specs.Conversions.{number_of_value}
use Rattle.jl_heap.specs.Define.{is_length, length_name, IsOneKind}
use Rattle.jl_heap.specs.Objects.{Name}
use Rattle.jl_heap.specs.declared.property.Change.{Change}
use Rattle.jl_meaning.specs.Conversions.{number_hint, to_number, to_primitive, to_uint32}
use Rattle.jl_meaning.specs.Defining.{define_own_property, define_with_number, length_within, to_length, with_length}
use Rattle.jl_meaning.specs.Errors.{throw_error}
use Rattle.jl_meaning.specs.Parts.{give, or_fault, ◌>>=◌, Algorithm, NumberOutside}
use Rattle.jl_state.specs.AlgorithmFrames.{after_define, algorithm_after, data_change, define_length}
use Rattle.jl_state.specs.Rest.{RefinesAlgorithm}
use Rattle.jl_state.specs.Steps.{AlgorithmWaits}
use Rattle.jl_state.specs.declared.act.Act.{Act}
use Rattle.jl_state.specs.declared.act.Act.TheVariants as act
use Rattle.jl_state.specs.declared.algorithm_frame.AlgorithmFrame.TheVariants as algorithm
use Rattle.jl_state.specs.declared.algorithm_frame.Attributes.{Attributes}
use Rattle.jl_state.specs.declared.algorithm_frame.AfterDefine.{AfterDefine}
use Rattle.jl_state.specs.declared.state.State.{State}
use Rattle.jl_algorithm.specs.inner.Lengths.{is_array_length}
use Rattle.jl_meaning.proofs.Binds.{bind_assoc}
use Rattle.jl_state.proofs.Chains.{works_assoc}
use Rattle.jl_algorithm.proofs.Throwing.{works_left_out}

-- numbers

pub outside : (s : State) (v : Value) (k : Number → Algorithm Value) → number_of_value v ≡ None
    → RefinesAlgorithm s (or_fault NumberOutside (number_of_value v) >>= k) s (act.Fault fault.NumberOutside)
outside s v k none =
    subst (λ o. RefinesAlgorithm s (or_fault NumberOutside o >>= k) s (act.Fault fault.NumberOutside)) (sym none)
    (record { is = λ kept told. refl })

is_number : (s : State) (v : Value) (n : Number) (k : Number → Algorithm Value) (t : State) (a : Act)
    → number_of_value v ≡ Some n → RefinesAlgorithm s (k n) t a
    → RefinesAlgorithm s (or_fault NumberOutside (number_of_value v) >>= k) t a
is_number s v n k t a some refines = subst (λ o. RefinesAlgorithm s (or_fault NumberOutside o >>= k) t a)
    (sym some) refines

-- what is no length of an array

abbrev defined_with : (of_array : Bool) → ObjId → Name → Change → Option Value → AfterDefine → Algorithm Value
defined_with of_array id x change v purpose =
    with_length of_array change v >>= (λ converted. define_with_number id x converted) >>= after_define purpose

looked_up : (s : State) (id : ObjId) (x : Name) (change : Change) (v : Option Value) (purpose : AfterDefine) (b : Bool)
    (t : State) (a : Act) → is_array_length s.store id x ≡ b → change.value ≡ v
    → RefinesAlgorithm s (defined_with b id x change v purpose) t a
    → RefinesAlgorithm s (define_own_property id x change >>= after_define purpose) t a
unfolding define_own_property
looked_up s id x change v purpose b t a is same refines = record {
  is = (subst (λ c. RefinesAlgorithm s (defined_with c id x change change.value purpose) t a) (sym is)
      (subst (λ w. RefinesAlgorithm s (defined_with b id x change w purpose) t a) (sym same) refines)).is;
}

pub defines_now : (s : State) (id : ObjId) (x : Name) (change : Change) (purpose : AfterDefine) (t : State) (a : Act)
    → is_array_length s.store id x ≡ false
    → RefinesAlgorithm s (define_with_number id x change >>= after_define purpose) t a
    → RefinesAlgorithm s (define_own_property id x change >>= after_define purpose) t a
defines_now s id x change purpose t a no_length refines =
    looked_up s id x change change.value purpose false t a no_length refl refines

pub defines_no_length : (s : State) (id : ObjId) (x : Name) (change : Change) (purpose : AfterDefine) (t : State)
    (a : Act) → is_array_length s.store id x ≡ true → change.value ≡ None
    → RefinesAlgorithm s (define_with_number id x change >>= after_define purpose) t a
    → RefinesAlgorithm s (define_own_property id x change >>= after_define purpose) t a
defines_no_length s id x change purpose t a of_array none refines =
    looked_up s id x change None purpose true t a of_array none refines

-- the length of an array

abbrev attributes_of : Change → Attributes
attributes_of change = record {
  writable = change.writable;
  enumerable = change.enumerable;
  configurable = change.configurable;
}

is_length_name : (b : Bool) (x : Name) → (b && bytes_eq x length_name) ≡ true → x ≡ length_name
is_length_name true x e = (bytes_eq-Decides x length_name).0 e
is_length_name false x e = absurd (let differ = e in cc)

abbrev with_kinds : Change → Option Value → (get set : Option (Option ObjId)) → Change
with_kinds change w g h = record change { value = w; get = g; set = h }

-- with a length, a change of one kind is a data property
is_data_change : (v : Value) (change : Change) (length : Value) → change.value ≡ Some v → IsOneKind change
    → record change { value = Some length } ≡ data_change (attributes_of change) length
is_data_change v change length given one_kind = by change.value change.get change.set given one_kind
  where
    by : (w : Option Value) (g h : Option (Option ObjId)) → w ≡ Some v → IsOneKind (with_kinds change w g h)
        → with_kinds change (Some length) g h ≡ data_change (attributes_of change) length
    by (Some w) None None given one = refl
    by (Some w) None (Some h) given one = absurd (let differ = one in cc)
    by (Some w) (Some g) h given one = absurd (let differ = one in cc)
    by None g h given one = absurd (let differ = given in cc)

abbrev defined_length : ObjId → Attributes → AfterDefine → Value → Algorithm Value
defined_length id attributes purpose length =
    define_with_number id length_name (data_change attributes length) >>= after_define purpose

-- both conversions, and what follows
converted_is : (v : Value) (k : Value → Algorithm Value)
    → (to_length v >>= k)
    ≡ (to_primitive number_hint v >>= λ p. or_fault NumberOutside (number_of_value p) >>= λ first.
    to_number v >>= λ n. length_within (Some (pos (uint32_of first))) n >>= k)
unfolding to_number
converted_is v k =
    bind_assoc (to_uint32 v) (λ count. second count) k
    ∙ bind_assoc (to_number v) (λ n. give (uint32_of n)) (λ count. second count >>= k)
    ∙ bind_assoc (to_primitive number_hint v) (λ p. or_fault NumberOutside (number_of_value p))
    (λ first. second (uint32_of first) >>= k)
    ∙ ap (λ (f : Number → Algorithm Value).
    to_primitive number_hint v >>= λ p. or_fault NumberOutside (number_of_value p) >>= f)
    (fun_ext (λ first. bind_assoc (to_number v) (λ n. length_within (Some (pos (uint32_of first))) n) k))
  where
    second : ℕ → Algorithm Value
    second count = to_number v >>= λ n. length_within (Some (pos count)) n

pub converts_length : (s u : State) (id : ObjId) (x : Name) (change : Change) (v w : Value) (purpose : AfterDefine)
    (t : State) (a : Act) → is_array_length s.store id x ≡ true → change.value ≡ Some v → IsOneKind change → w ≡ v
    → AlgorithmWaits s (algorithm.LengthCount id w (attributes_of change) purpose) u
    → RefinesAlgorithm u (to_primitive number_hint v) t a
    → RefinesAlgorithm s (define_own_property id x change >>= after_define purpose) t a
converts_length s u id x change v w purpose t a of_array given one_kind same waits refines =
    looked_up s id x change (Some v) purpose true t a of_array given
    (subst (λ p. RefinesAlgorithm s p t a) (sym whole)
    (subst (λ y. RefinesAlgorithm s (begun y) t a) same (waits.works (to_primitive number_hint v) t a refines)))
  where
    begun : Value → Algorithm Value
    begun y =
        to_primitive number_hint v >>= algorithm_after (algorithm.LengthCount id y (attributes_of change) purpose)

    changed : Value → Algorithm Change
    changed length = give (record change { value = Some length })

    each : (length : Value)
        → (define_with_number id x (record change { value = Some length }) >>= after_define purpose)
        ≡ defined_length id (attributes_of change) purpose length
    each length =
        ap (λ y. define_with_number id y (record change { value = Some length }) >>= after_define purpose)
        (is_length_name _ x of_array)
        ∙ ap (λ c. define_with_number id length_name c >>= after_define purpose)
        (is_data_change v change length given one_kind)

    whole : defined_with true id x change (Some v) purpose ≡ begun v
    whole =
        ap (λ p. p >>= after_define purpose)
        (bind_assoc (to_length v) (λ length. changed length) (λ converted. define_with_number id x converted))
        ∙ bind_assoc (to_length v) (λ length. define_with_number id x (record change { value = Some length }))
        (after_define purpose)
        ∙ ap (λ (f : Value → Algorithm Value). to_length v >>= f) (fun_ext each)
        ∙ converted_is v (λ length. defined_length id (attributes_of change) purpose length)

pub counts_length : (s u : State) (array : ObjId) (length : Value) (attributes : Attributes) (purpose : AfterDefine)
    (v : Value) (first : Number) (count : ℕ) (t : State) (a : Act) → number_of_value v ≡ Some first
    → count ≡ uint32_of first → AlgorithmWaits s (algorithm.LengthNumber array count attributes purpose) u
    → RefinesAlgorithm u (to_primitive number_hint length) t a
    → RefinesAlgorithm s (algorithm_after (algorithm.LengthCount array length attributes purpose) v) t a
unfolding to_number
counts_length s u array length attributes purpose v first count t a is counted waits refines =
    is_number s v first _ t a is
    (subst (λ n. RefinesAlgorithm s (to_number length >>= λ m. define_length array n attributes purpose m) t a) counted
    (works_assoc s (to_primitive number_hint length) _ _ t a
    (waits.works (to_primitive number_hint length) t a refines)))

pub numbers_length : (s : State) (array : ObjId) (count : ℕ) (attributes : Attributes) (purpose : AfterDefine)
    (v : Value) (n : Number) (t : State) (a : Act) → number_of_value v ≡ Some n
    → RefinesAlgorithm s (define_length array count attributes purpose n) t a
    → RefinesAlgorithm s (algorithm_after (algorithm.LengthNumber array count attributes purpose) v) t a
numbers_length s array count attributes purpose v n t a is refines = is_number s v n _ t a is refines

abbrev length_if : Bool → ObjId → Attributes → AfterDefine → Number → Algorithm Value
length_if same array attributes purpose n =
    (if same then give (value.Num n) else throw_error RangeError (codes "bad array length"))
    >>= defined_length array attributes purpose

pub defines_length : (s : State) (array : ObjId) (x : Name) (count : ℕ) (attributes : Attributes)
    (purpose : AfterDefine)
    (n : Number) (t : State) (a : Act) → same_number (Some (pos count)) n ≡ true → x ≡ codes "length"
    → RefinesAlgorithm s (define_with_number array x
    (data_change attributes (value.Num n)) >>= after_define purpose) t a
    → RefinesAlgorithm s (define_length array count attributes purpose n) t a
unfolding length_name
defines_length s array x count attributes purpose n t a same named refines =
    subst (λ b. RefinesAlgorithm s (length_if b array attributes purpose n) t a) (sym same)
    (subst (λ y.
    RefinesAlgorithm s (define_with_number array y (data_change attributes (value.Num n)) >>= after_define purpose) t a)
    named refines)

pub bad_length : (s : State) (array : ObjId) (count : ℕ) (attributes : Attributes) (purpose : AfterDefine) (n : Number)
    (t : State) (a : Act) → same_number (Some (pos count)) n ≡ false
    → RefinesAlgorithm s (throw_error RangeError (codes "bad array length")) t a
    → RefinesAlgorithm s (define_length array count attributes purpose n) t a
bad_length s array count attributes purpose n t a differs refines =
    subst (λ b. RefinesAlgorithm s (length_if b array attributes purpose n) t a) (sym differs)
    (works_left_out s RangeError (codes "bad array length") (defined_length array attributes purpose) t a refines)

-- a number that is a count fits the length of an array
pub fits_count : (count : ℕ) (n : Number) → count < 4294967296 → same_number (Some (pos count)) n ≡ true
    → IsTrue (is_length (value.Num n))
fits_count count None below same = absurd (let differ = same in cc)
fits_count count (Some z) below same =
    subst (λ y. IsTrue (is_length (value.Num (Some y)))) ((Decides-int_eq (pos count) z).0 same)
    (lt-ltb count 4294967296 below)

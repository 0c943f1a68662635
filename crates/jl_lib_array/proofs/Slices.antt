-- slice: its turns, and where they begin and end.
use Rattle.std.proofs.Common.{◌≡◌, ◌≤◌, ◌<◌, ◌+◌, ◌-◌, ◌∙◌, ap, arith, false, refl, subst, suc, sym, true}
use Rattle.std.proofs.Common.{Bool, List, Option, ℕ}
use Rattle.std.specs.Prelude.{min}
use mathlib.Core.Path.{fun_ext}
use Rattle.jl_value.specs.Tests.{is_undefined}
use Rattle.jl_value.specs.declared.object.ObjId.{ObjId}
use Rattle.jl_value.specs.declared.value.Value.{Value}
use Rattle.jl_value.specs.declared.value.Value.TheVariants as value
use Rattle.jl_effects.specs.Effects.{Step}
use Rattle.jl_meaning.specs.Conversions.{number_hint, to_integer, to_object, to_primitive}
use Rattle.jl_meaning.specs.Parts.{◌>>=◌, Algorithm, Call}
use Rattle.jl_meaning.specs.builtins.Arguments.{give_object}
use Rattle.jl_meaning.specs.builtins.Array.{array_slice}
use Rattle.jl_meaning.specs.builtins.Elements.{add_if, copy_element, element, get_index, get_length, has_index}
use Rattle.jl_meaning.specs.builtins.Elements.{relative_index, to_end}
use Rattle.jl_meaning.specs.builtins.Turns.{upward}
use Rattle.jl_meaning.specs.forms.Literals.{new_array}
use Rattle.jl_progress.specs.ArrayCalls.{argument_of, copy_from, slice_to, with_length}
use Rattle.jl_progress.specs.declared.array_call.ArrayCallProgress.TheVariants as array_call
use Rattle.jl_progress.specs.declared.array_call.LengthFor.TheVariants as length_for
use Rattle.jl_progress.specs.declared.progress.Progress.TheVariants as progress
use Rattle.jl_state.specs.Rest.{RefinesAlgorithm}
use Rattle.jl_state.specs.Steps.{AlgorithmWaits, RanOut, Took}
use Rattle.jl_state.specs.declared.act.Act.{Act}
use Rattle.jl_state.specs.declared.act.Act.TheVariants as act
use Rattle.jl_state.specs.declared.algorithm_frame.AlgorithmFrame.TheVariants as algorithm
use Rattle.jl_state.specs.declared.state.State.{State}
use Rattle.jl_meaning.proofs.Binds.{bind_assoc}
use Rattle.jl_builtin.proofs.Waits.{element_missing, element_waits, integer_waits}

abbrev turn : ObjId → ℕ → ObjId → ℕ → Unit {0} → Algorithm (Unit {0})
turn o start a k _ = copy_element o (start + k) a (0 + k)

none_left : (count at : ℕ) → count ≤ at → count - at ≡ 0
none_left count at over = omega (arith, over)

one_left : (count at : ℕ) → at < count → count - at ≡ suc (count - (at + 1))
one_left count at below = omega (arith, below)

plain : (k : ℕ) → 0 + k ≡ k
plain k = omega arith

-- the turns are over
pub copied : (s : State) (o : ObjId) (start : ℕ) (a : ObjId) (count at : ℕ) → count ≤ at
    → RefinesAlgorithm s (copy_from o start a count at) s (act.Give (value.Obj a))
copied s o start a count at over =
    subst (λ n. RefinesAlgorithm s (upward (turn o start a) n at tt >>= λ _. give_object a) s (act.Give (value.Obj a)))
    (sym (none_left count at over)) (record { is = λ kept told. refl })

-- a turn begins
pub copies : (o : ObjId) (start : ℕ) (a : ObjId) (count at : ℕ) → at < count
    → Step (element o (start + at) >>= λ v. add_if a at v >>= λ _. copy_from o start a count (at + 1))
    ≡ copy_from o start a count at
copies o start a count at below =
    sym (ap (λ n. upward (turn o start a) n at tt >>= last) (one_left count at below)
    ∙ ap Step (bind_assoc (turn o start a at tt) (λ b. upward (turn o start a) (count - (at + 1)) (at + 1) b) last
    ∙ bind_assoc (element o (start + at)) (add_if a (0 + at)) (λ _. copy_from o start a count (at + 1))
    ∙ ap (λ m. element o (start + at) >>= λ v. add_if a m v >>= λ _. copy_from o start a count (at + 1)) (plain at)))
  where
    last : Unit {0} → Algorithm Value
    last _ = give_object a

-- an end that isn't given is the length
least_same : (n : ℕ) → min n n ≡ n
least_same n = omega arith

pub ends_with_length : (s : State) (o a : ObjId) (length start : ℕ) (end : Value) (t : State) (b : Act)
    → is_undefined end ≡ true → RefinesAlgorithm s (copy_from o start a (length - start) 0) t b
    → RefinesAlgorithm s (slice_to o a length start end) t b
ends_with_length s o a length start value.Undefined t b none refines =
    subst (λ n. RefinesAlgorithm s (copy_from o start a (n - start) 0) t b) (sym (least_same length)) refines
ends_with_length s o a length start value.Null t b none refines = absurd (let differ = none in cc)
ends_with_length s o a length start (value.Bool v) t b none refines = absurd (let differ = none in cc)
ends_with_length s o a length start (value.Num n) t b none refines = absurd (let differ = none in cc)
ends_with_length s o a length start (value.Text x) t b none refines = absurd (let differ = none in cc)
ends_with_length s o a length start (value.Obj id) t b none refines = absurd (let differ = none in cc)

pub converts_end : (s : State) (o a : ObjId) (length start : ℕ) (end : Value) (t : State) (b : Act)
    → is_undefined end ≡ false
    → RefinesAlgorithm s (to_integer end >>= λ z. copy_from o start a (relative_index z length - start) 0) t b
    → RefinesAlgorithm s (slice_to o a length start end) t b
converts_end s o a length start value.Undefined t b there refines = absurd (let differ = there in cc)
converts_end s o a length start value.Null t b there refines = refines
converts_end s o a length start (value.Bool v) t b there refines = refines
converts_end s o a length start (value.Num n) t b there refines = refines
converts_end s o a length start (value.Text x) t b there refines = refines
converts_end s o a length start (value.Obj id) t b there refines = refines

-- the same of states

pub copy_begins : (s t : State) (o : ObjId) (start : ℕ) (a : ObjId) (count at : ℕ) (u : State) (b : Act) → at < count
    → Took s t → RefinesAlgorithm t (element o (start + at) >>= λ v. add_if a at v >>= λ _. copy_from o start a count
    (at + 1)) u b
    → RefinesAlgorithm s (copy_from o start a count at) u b
copy_begins s t o start a count at u b below took refines =
    subst (λ p. RefinesAlgorithm s p u b) (copies o start a count at below)
    (took.works (element o (start + at) >>= λ v. add_if a at v >>= λ _. copy_from o start a count (at + 1)) u b refines)

pub copy_spent : (s t : State) (o : ObjId) (start : ℕ) (a : ObjId) (count at : ℕ) → at < count → t ≡ s → RanOut s
    → RefinesAlgorithm s (copy_from o start a count at) t act.Spent
copy_spent s t o start a count at below same ran =
    subst (λ (v : State). RefinesAlgorithm s (copy_from o start a count at) v act.Spent) (sym same)
    (subst (λ p. RefinesAlgorithm s p s act.Spent) (copies o start a count at below)
    (ran.works (element o (start + at) >>= λ v. add_if a at v >>= λ _. copy_from o start a count (at + 1))))

-- an element of a turn, at an index of the object
abbrev pub copied_on : (o : ObjId) (start : ℕ) (a : ObjId) (count k : ℕ) → Option Value → Algorithm Value
copied_on o start a count k v = add_if a k v >>= λ _. copy_from o start a count (k + 1)

pub copy_misses : (s : State) (o : ObjId) (start from : ℕ) (a : ObjId) (count k : ℕ) (there : Bool) (u : State)
    (b : Act)
    → from ≡ start + k → there ≡ has_index s.store o from → there ≡ false
    → RefinesAlgorithm s (copy_from o start a count (k + 1)) u b
    → RefinesAlgorithm s (element o (start + k) >>= copied_on o start a count k) u b
copy_misses s o start from a count k there u b place is so refines =
    subst (λ n. RefinesAlgorithm s (element o n >>= copied_on o start a count k) u b) place
    (element_missing s o from there (copied_on o start a count k) u b is so refines)

pub copy_waits : (s t : State) (o : ObjId) (start from : ℕ) (a : ObjId) (count k : ℕ) (there : Bool) (u : State)
    (b : Act) → from ≡ start + k → there ≡ has_index s.store o from → there ≡ true
    → AlgorithmWaits s (algorithm.Builtin (progress.ArrayCall (array_call.CopyElement o start a count k))) t
    → RefinesAlgorithm t (get_index o from) u b
    → RefinesAlgorithm s (element o (start + k) >>= copied_on o start a count k) u b
copy_waits s t o start from a count k there u b place is so waits refines =
    subst (λ n. RefinesAlgorithm s (element o n >>= copied_on o start a count k) u b) place
    (element_waits s t (progress.ArrayCall (array_call.CopyElement o start a count k)) o from there
    (copied_on o start a count k) u b is so (λ v. refl) waits refines)

-- it begins: its array is made before the length is asked for

abbrev sliced : (left : ℕ → ℕ) → Call → Algorithm Value
sliced left c = do
  o ← to_object c.this
  a ← new_array
  size ← get_length o
  start ← to_integer (argument_of c.args 0)
  end ← to_end (argument_of c.args 1) size
  _ ← upward (turn o (relative_index start size) a) (left (relative_index end size - relative_index start size)) 0 tt
  give_object a

all_left : (n : ℕ) → n - 0 ≡ n
all_left n = omega arith

pub slice_begins : (s : State) (c : Call) (t : State) (b : Act)
    → RefinesAlgorithm s (to_object c.this >>= λ o. new_array >>= λ a. get_length o >>= with_length
    (length_for.Slice a) o c.args)
    t b
    → RefinesAlgorithm s (array_slice c) t b
slice_begins s c t b refines = subst (λ left. RefinesAlgorithm s (sliced left c) t b) (fun_ext all_left) refines

-- the start is converted, and the end is kept
pub converts_start : (s u : State) (o a : ObjId) (length : ℕ) (args : List Value) (v end : Value) (t : State) (b : Act)
    → v ≡ argument_of args 0 → end ≡ argument_of args 1
    → AlgorithmWaits s (algorithm.Builtin (progress.ArrayCall (array_call.SliceStart o a length end))) u
    → RefinesAlgorithm u (to_primitive number_hint v) t b
    → RefinesAlgorithm s (with_length (length_for.Slice a) o args length) t b
converts_start s u o a length args v end t b is kept waits refines =
    subst (λ w. RefinesAlgorithm s (to_integer w >>= λ z. slice_to o a length (relative_index z length)
    (argument_of args 1)) t b)
    is
    (subst (λ e. RefinesAlgorithm s (to_integer v >>= λ z. slice_to o a length (relative_index z length) e) t b) kept
    (integer_waits s u (progress.ArrayCall (array_call.SliceStart o a length end))
    (λ z. slice_to o a length (relative_index z length) end) v t b (λ w. refl) waits refines))

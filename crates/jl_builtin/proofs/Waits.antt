-- Lengths and elements that are got, and numbers that values convert to.
use Rattle.std.proofs.Common.{◌≡◌, ◌∙◌, ap, codes, false, refl, subst, sym, true, Bool, None, Option, Some, ℕ, ℤ}
use mathlib.Core.Path.{fun_ext}
use Rattle.jl_num.specs.Bits.{uint32_of}
use Rattle.jl_num.specs.Number.{Number}
use Rattle.jl_value.specs.declared.ending.Fault.TheVariants as fault
use Rattle.jl_value.specs.declared.object.ObjId.{ObjId}
use Rattle.jl_value.specs.declared.value.Value.{Value}
use Rattle.jl_value.specs.declared.value.Value.TheVariants as value
use Rattle.jl_conv.specs.Conversions.{number_of_value}
use Rattle.jl_heap.specs.Define.{length_name}
use Rattle.jl_heap.specs.Objects.{Name}
use Rattle.jl_meaning.specs.Conversions.{integer_of, number_hint, to_integer, to_number, to_primitive, to_uint32}
use Rattle.jl_meaning.specs.Getting.{get}
use Rattle.jl_meaning.specs.Parts.{give, or_fault, ◌>>=◌, Algorithm, NumberOutside}
use Rattle.jl_meaning.specs.builtins.Elements.{element, element_if, get_index, get_length, has_index}
use Rattle.jl_progress.specs.Primitives.{number_of_primitive}
use Rattle.jl_progress.specs.Progress.{progress_after}
use Rattle.jl_progress.specs.declared.progress.Progress.{Progress}
use Rattle.jl_state.specs.Rest.{RefinesAlgorithm}
use Rattle.jl_state.specs.Steps.{AlgorithmWaits}
use Rattle.jl_state.specs.declared.act.Act.{Act}
use Rattle.jl_state.specs.declared.act.Act.TheVariants as act
use Rattle.jl_state.specs.declared.algorithm_frame.AlgorithmFrame.TheVariants as algorithm
use Rattle.jl_state.specs.declared.state.State.{State}
use Rattle.jl_state.proofs.Steps.{looks}
use Rattle.jl_meaning.proofs.Binds.{bind_assoc}
use Rattle.jl_operator.proofs.Operands.{chained, found, number_waits}

-- lengths

pub length_is : length_name ≡ codes "length"
unfolding length_name
length_is = refl

-- a length is got, and what follows converts it
pub got_length : (o : ObjId) (k : ℕ → Algorithm Value)
    → (get (value.Obj o) length_name >>= λ v. to_number v >>= λ n. k (uint32_of n)) ≡ (get_length o >>= k)
got_length o k =
    ap (λ (g : Value → Algorithm Value). get (value.Obj o) length_name >>= g)
    (fun_ext (λ v. chained (to_number v) (λ n. give (uint32_of n)) k))
    ∙ chained (get (value.Obj o) length_name) to_uint32 k

-- a builtin waits for the length of an object
pub length_waits : (s u : State) (p : Progress) (o : ObjId) (x : Name) (k : ℕ → Algorithm Value) (t : State) (a : Act)
    → x ≡ codes "length" → ((v : Value) → progress_after p v ≡ (to_number v >>= λ n. k (uint32_of n)))
    → AlgorithmWaits s (algorithm.Builtin p) u → RefinesAlgorithm u (get (value.Obj o) x) t a
    → RefinesAlgorithm s (get_length o >>= k) t a
length_waits s u p o x k t a named after waits refines =
    subst (λ q. RefinesAlgorithm s q t a) (got_length o k)
    (subst (λ (g : Value → Algorithm Value). RefinesAlgorithm s (get (value.Obj o) length_name >>= g) t a)
    (fun_ext after)
    (waits.works (get (value.Obj o) length_name) t a
    (subst (λ (y : Name). RefinesAlgorithm u (get (value.Obj o) y) t a) (named ∙ sym length_is) refines)))

-- numbers

-- a builtin waits for a value that is to be a number
pub builtin_waits : (s u : State) (p : Progress) (k : Number → Algorithm Value) (v : Value) (t : State) (a : Act)
    → ((w : Value) → progress_after p w ≡ (number_of_primitive w >>= k)) → AlgorithmWaits s (algorithm.Builtin p) u
    → RefinesAlgorithm u (to_primitive number_hint v) t a → RefinesAlgorithm s (to_number v >>= k) t a
builtin_waits s u p k v t a after waits refines = number_waits s u t (algorithm.Builtin p) k v a after waits refines

-- the same for an integer
pub integer_waits : (s u : State) (p : Progress) (k : ℤ → Algorithm Value) (v : Value) (t : State) (a : Act)
    → ((w : Value) → progress_after p w ≡ (number_of_primitive w >>= λ n. k (integer_of n)))
    → AlgorithmWaits s (algorithm.Builtin p) u → RefinesAlgorithm u (to_primitive number_hint v) t a
    → RefinesAlgorithm s (to_integer v >>= k) t a
integer_waits s u p k v t a after waits refines =
    subst (λ q. RefinesAlgorithm s q t a) (chained (to_number v) (λ n. give (integer_of n)) k)
    (builtin_waits s u p (λ n. k (integer_of n)) v t a after waits refines)

-- a primitive value that is a number, and one that is none
pub number_given : (s : State) (v : Value) (o : Option Number) (n : Number) (k : Number → Algorithm Value) (t : State)
    (a : Act) → o ≡ number_of_value v → o ≡ Some n → RefinesAlgorithm s (k n) t a
    → RefinesAlgorithm s (number_of_primitive v >>= k) t a
number_given s v o n k t a is there refines = found s t a (number_of_value v) n k (sym there ∙ is) refines

pub number_outside : (s : State) (v : Value) (o : Option Number) (k : Number → Algorithm Value)
    → o ≡ number_of_value v → o ≡ None → RefinesAlgorithm s (number_of_primitive v >>= k) s
    (act.Fault fault.NumberOutside)
number_outside s v o k is none =
    subst (λ (q : Option Number). RefinesAlgorithm s (or_fault NumberOutside q >>= k) s (act.Fault fault.NumberOutside))
    (sym none ∙ is) (record { is = λ kept told. refl })

-- elements

-- the element at an index is there
pub element_there : (s : State) (o : ObjId) (k : ℕ) (there : Bool) (l : Option Value → Algorithm Value) (t : State)
    (a : Act) → there ≡ has_index s.store o k → there ≡ true
    → RefinesAlgorithm s (get_index o k >>= λ v. l (Some v)) t a
    → RefinesAlgorithm s (element o k >>= l) t a
element_there s o k there l t a is so refines =
    looks s (λ store. element_if (has_index store o k) o k >>= l) (get_index o k >>= λ v. l (Some v)) t a same refines
  where
    same : (get_index o k >>= λ v. l (Some v)) ≡ (element_if (has_index s.store o k) o k >>= l)
    same =
        sym (bind_assoc (get_index o k) (λ v. give (Some v)) l)
        ∙ ap (λ (b : Bool). element_if b o k >>= l) (sym so ∙ is)

-- or it is missing
pub element_missing : (s : State) (o : ObjId) (k : ℕ) (there : Bool) (l : Option Value → Algorithm Value) (t : State)
    (a : Act) → there ≡ has_index s.store o k → there ≡ false → RefinesAlgorithm s (l None) t a
    → RefinesAlgorithm s (element o k >>= l) t a
element_missing s o k there l t a is so refines =
    looks s (λ store. element_if (has_index store o k) o k >>= l) (l None) t a
    (ap (λ (b : Bool). element_if b o k >>= l) (sym so ∙ is)) refines

-- a builtin waits for the element at an index
pub element_waits : (s u : State) (p : Progress) (o : ObjId) (k : ℕ) (there : Bool) (l : Option Value → Algorithm Value)
    (t : State) (a : Act) → there ≡ has_index s.store o k → there ≡ true
    → ((v : Value) → progress_after p v ≡ l (Some v)) → AlgorithmWaits s (algorithm.Builtin p) u
    → RefinesAlgorithm u (get_index o k) t a → RefinesAlgorithm s (element o k >>= l) t a
element_waits s u p o k there l t a is so after waits refines =
    element_there s o k there l t a is so
    (subst (λ (g : Value → Algorithm Value). RefinesAlgorithm s (get_index o k >>= g) t a) (fun_ext after)
    (waits.works (get_index o k) t a refines))

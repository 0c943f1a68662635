-- What a change of a value alone makes of a property that can be written.
use Rattle.std.proofs.Common.{◌≡◌, ◌∙◌, ℕ, Bool, true, false, List, [], ◌∷◌, refl, ap, sym, arith}
use Rattle.std.specs.Prelude.{Option, Some, None, Result, Ok, Err, IsOk, OnOk, OnErr, IsTrue, ◌↔◌, nat_le, nat_lt}
use Rattle.std.specs.Prelude.{if◌then◌else◌}
use Rattle.std.specs.Option.{option_map_or}
use Rattle.std.specs.Str.{bytes_eq}
use Rattle.std.proofs.lemmas.Bool.{false≢true}
use Rattle.std.proofs.lemmas.Option.{same_Some}
use Rattle.std.proofs.lemmas.Slice.Eq.{bytes_eq-Decides}
use Rattle.jl_props.specs.declared.entries.Entry.{Entry}
use Rattle.jl_props.specs.Entries.{IsInOrder, has_name, with_item}
use Rattle.jl_props.proofs.EntriesLemmas.{no_other, rest_in_order}
use Rattle.jl_props.proofs.OneLemmas.{map-none}
use Rattle.jl_value.specs.declared.value.Value.{Value}
use Rattle.jl_value.specs.Indices.{index_of}
use Rattle.jl_value.specs.Laws.{SameValuesAreEqual}
use Rattle.jl_value.specs.Same.{same_value}
use Rattle.jl_heap.specs.Define.{define_on, define_ordinary, define_own_property, defined_at, is_array, is_writable}
use Rattle.jl_heap.specs.Define.{keeps_length, length_name, takes_value_alone, length_of, with_property}
use Rattle.jl_heap.specs.Objects.{Objects, object_at, own, with_properties}
use Rattle.jl_heap.specs.Property.{value_change, with_value}
use Rattle.jl_heap.specs.declared.property.Defined.TheVariants.{Done}
use Rattle.jl_heap.specs.declared.property.Prop.{Prop}
use Rattle.jl_heap.specs.declared.property.Prop.TheVariants.{Plain, Accessor}
use Rattle.jl_heap.proofs.Items.{item_in}
use Rattle.jl_heap.proofs.Puts.{put_same}

-- an item that is written back changes nothing
same_step : (e : Entry Prop) (es : List (Entry Prop)) (n : List ℕ) (p : Prop) (b : Bool) → has_name n e ≡ b
    → IsInOrder (e ∷ es)
    → (item_in n es ≡ Some p → with_item es n p ≡ es) → item_in n (e ∷ es) ≡ Some p → with_item (e ∷ es) n p ≡ e ∷ es
same_step e es n p true fits ordered rest found =
    let f : Entry Prop → Entry Prop = λ x. record x { item = p } in
    let is : e.item ≡ p = same_Some e.item p (rw fits at found) in
    let others : with_item es n p ≡ es = map-none (has_name n) f es (no_other n e es ordered fits) in
    rw fits (λ i. record e { item = sym is i } ∷ others i)
same_step e es n p false fails ordered rest found = rw fails (ap (λ l. e ∷ l) (rest (rw fails at found)))

with_item-same : (es : List (Entry Prop)) (n : List ℕ) (p : Prop) → IsInOrder es → item_in n es ≡ Some p
    → with_item es n p ≡ es
with_item-same [] n p ordered found = refl
with_item-same (e ∷ es) n p ordered found =
    same_step e es n p (has_name n e) refl ordered (with_item-same es n p (rest_in_order e es ordered)) found

pub with_property-same : (h : Objects) (k : ℕ) (n : List ℕ) (p : Prop) → IsInOrder (object_at h k).properties
    → own h k n ≡ Some p → with_property h k n p ≡ h
with_property-same h k n p ordered found =
    ap (λ es. with_properties h k es) (with_item-same (object_at h k).properties n p ordered found) ∙ put_same h k

same_values : SameValuesAreEqual
same_values a b = grind (arith, bytes_eq-Decides)

-- a property that can be written takes another value, and keeps all else
written_plainly : (h : Objects) (k : ℕ) (n : List ℕ) (old v : Value) (enumerable configurable : Bool) (b : Bool)
    → same_value v old ≡ b
    → IsInOrder (object_at h k).properties → own h k n ≡ Some (Plain old true enumerable configurable)
    → define_on h k n (value_change v) (Some (Plain old true enumerable configurable))
    ≡ (with_property h k n (Plain v true enumerable configurable), Done)
written_plainly h k n old v e c true same ordered found =
    let is : v ≡ old = (same_values v old).0 same in
    rw same (ap (λ g. (g, Done))
    (sym (ap (λ (u : Value). with_property h k n (Plain u true e c)) is ∙ with_property-same h k n _ ordered found)))
written_plainly h k n old v e true false differs ordered found = rw differs refl
written_plainly h k n old v e false false differs ordered found = rw differs refl

writes : (h : Objects) (k : ℕ) (n : List ℕ) (p : Prop) (v : Value) → IsInOrder (object_at h k).properties
    → own h k n ≡ Some p → is_writable (Some p) ≡ true
    → define_ordinary h k n (value_change v) ≡ (with_property h k n (with_value p v), Done)
writes h k n (Plain old true e c) v ordered found writable =
    rw found (written_plainly h k n old v e c (same_value v old) refl ordered found)
writes h k n (Plain old false e c) v ordered found writable = absurd (false≢true writable)
writes h k n (Accessor get set e c) v ordered found writable = absurd (false≢true writable)

not_past : (i n : ℕ) → nat_lt i n ≡ true → nat_le n i ≡ false
not_past i n below = grind arith

-- on an array too, where the length stays
at_index : (h : Objects) (k : ℕ) (n : List ℕ) (v : Value) (q : Prop) (found : Option ℕ)
    → option_map_or (λ i. nat_lt i (length_of (own h k length_name))) found true ≡ true
    → define_ordinary h k n (value_change v) ≡ (with_property h k n q, Done)
    → defined_at h k n (value_change v) found ≡ (with_property h k n q, Done)
at_index h k n v q None counted is = is
at_index h k n v q (Some i) counted is = rw (not_past i _ counted, is, not_past i _ counted) refl

on_object : (h : Objects) (k : ℕ) (n : List ℕ) (v : Value) (q : Prop) (array length : Bool)
    → is_array (object_at h k).class ≡ array → bytes_eq n length_name ≡ length → keeps_length h k n ≡ true
    → define_ordinary h k n (value_change v) ≡ (with_property h k n q, Done)
    → define_own_property h k n (value_change v) ≡ (with_property h k n q, Done)
on_object h k n v q false length plain named keeps is = rw plain is
on_object h k n v q true true array named keeps is = absurd (false≢true (rw (array, named) at keeps))
on_object h k n v q true false array named keeps is =
    rw (array, named) (at_index h k n v q (index_of n) (rw (array, named) at keeps) is)

pub value_alone : (h : Objects) (k : ℕ) (n : List ℕ) (p : Prop) (v : Value) → IsInOrder (object_at h k).properties
    → own h k n ≡ Some p → is_writable (Some p) ≡ true → keeps_length h k n ≡ true
    → define_own_property h k n (value_change v) ≡ (with_property h k n (with_value p v), Done)
value_alone h k n p v ordered found writable keeps =
    on_object h k n v (with_value p v) (is_array (object_at h k).class) (bytes_eq n length_name) refl refl keeps
    (writes h k n p v ordered found writable)

-- what a value put on a property comes to, by the answer
pub record Puts (h f : Objects) (k : ℕ) (n : List ℕ) (v : Value) {T E : Type 0} (r : Result T E) : Type 0 where
  pub done : OnOk r ((f, Done) ≡ define_own_property h k n (value_change v))
  pub err : OnErr r (f ≡ h)
  pub taken : IsOk r ↔ IsTrue (takes_value_alone h k n)

puts_by : (h f : Objects) (k : ℕ) (n : List ℕ) (p q : Prop) (v : Value) {T E : Type 0} (r : Result T E) (w : Bool)
    → is_writable (Some p) ≡ w → IsInOrder (object_at h k).properties → own h k n ≡ Some p → keeps_length h k n ≡ true
    → f ≡ with_property h k n q → q ≡ (if w then with_value p v else p) → (IsOk r ↔ IsTrue w) → Puts h f k n v r
puts_by h f k n p q v (Ok x) true writable ordered found keeps is q_is ok = record {
  done = ap (λ g. (g, Done)) is ∙ ap (λ o. (with_property h k n o, Done)) q_is
      ∙ sym (value_alone h k n p v ordered found writable keeps);
  err = tt;
  taken = (λ _. rw (found, writable, keeps) refl, λ _. refl);
}
puts_by h f k n p q v (Ok x) false writable ordered found keeps is q_is ok = absurd (false≢true (ok.0 refl))
puts_by h f k n p q v (Err x) true writable ordered found keeps is q_is ok = absurd (false≢true (ok.1 refl))
puts_by h f k n p q v (Err x) false writable ordered found keeps is q_is ok = record {
  done = tt;
  err = is ∙ ap (λ o. with_property h k n o) q_is ∙ with_property-same h k n p ordered found;
  taken = (λ no. absurd (false≢true no), λ takes. absurd (false≢true (rw (found, writable) at takes)));
}

pub puts : (h f : Objects) (k : ℕ) (n : List ℕ) (p q : Prop) (v : Value) {T E : Type 0} (r : Result T E)
    → IsInOrder (object_at h k).properties → own h k n ≡ Some p → keeps_length h k n ≡ true
    → f ≡ with_property h k n q → q ≡ (if is_writable (Some p) then with_value p v else p)
    → (IsOk r ↔ IsTrue (is_writable (Some p))) → Puts h f k n v r
puts h f k n p q v r ordered found keeps is q_is ok =
    puts_by h f k n p q v r (is_writable (Some p)) refl ordered found keeps is q_is ok

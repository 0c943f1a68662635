-- A property that can be neither configured nor written is as it was after every change.
use Rattle.std.proofs.Common.{◌≡◌, ◌∙◌, ℕ, List, [], ◌∷◌, sym, Bool, true, false, not, ◌&&◌, ◌||◌, refl, ap}
use Rattle.std.specs.Prelude.{IsNone, IsTrue, Option, Some, None, if◌then◌else◌}
use Rattle.jl_value.specs.Same.{same_bool, same_value}
use Rattle.jl_value.specs.declared.value.Value.{Value}
use Rattle.std.specs.Option.{option_map, option_or}
use Rattle.jl_value.specs.declared.value.Value.TheVariants as value
use Rattle.jl_heap.specs.Define.{IsOneKind, define_on, define_ordinary, store_property}
use Rattle.jl_heap.specs.Objects.{Objects, own, own_or_unit, unit_at, unit_property}
use Rattle.jl_heap.specs.declared.property.Defined.TheVariants.{Done, Rejected}
use Rattle.jl_heap.specs.Property.{is_accessor, is_data, is_refused, is_same, property_after, stays, other_kind, turns}
use Rattle.jl_heap.specs.Property.{with_fields}
use Rattle.jl_heap.specs.declared.property.Change.{Change}
use Rattle.jl_heap.specs.declared.property.Prop.{Prop}
use Rattle.jl_heap.specs.declared.property.Prop.TheVariants.{Plain}

-- where some field differs, one of the causes of a refusal is there
differs : (configurable enumerable accessor plain writable value : Bool) → IsTrue (not (plain && accessor)) →
    (not accessor && (value && (writable && (enumerable && configurable)))) ≡ false →
    (not configurable || (not enumerable || ((accessor && not plain) || (true && (not writable || not value))))) ≡ true
differs false e a d w v one same = refl
differs true false a d w v one same = refl
differs true true true true w v one same = cc
differs true true true false w v one same = refl
differs true true false d false v one same = refl
differs true true false d true false one same = refl
differs true true false d true true one same = cc

refused-read_only : (value : Value) (enumerable : Bool) (change : Change) → IsOneKind change →
    is_same (Plain value false enumerable false) change ≡ false → is_refused (Plain value false enumerable false) change
    ≡ true
refused-read_only value enumerable change one same =
    differs (stays same_bool change.configurable false) (stays same_bool change.enumerable enumerable)
    (is_accessor change) (is_data change)
    (stays same_bool change.writable false) (stays same_value change.value value) one same

-- a change that asks for anything else is rejected
pub property_after-read_only : (value : Value) (enumerable : Bool) (change : Change) → IsOneKind change →
    is_same (Plain value false enumerable false) change ≡ false
    → property_after (Plain value false enumerable false) change ≡ None
property_after-read_only value enumerable change one same =
    let read_only : Prop = Plain value false enumerable false in
    ap (λ refused. if true && refused then None else Some
    (with_fields (if turns read_only change then other_kind read_only else read_only) change))
    (refused-read_only value enumerable change one same)

pub unit_is : (heap : Objects) (place : ℕ) (name : List ℕ) (unit : ℕ) → own heap place name ≡ None
    → unit_at heap place name ≡ Some unit →
    own_or_unit heap place name ≡ Some (unit_property unit)
unit_is heap place name unit absent e =
    ap (λ o. option_or o (option_map unit_property (unit_at heap place name))) absent
    ∙ ap (λ u. option_map unit_property u) e

-- a change of a unit to anything else is rejected
pub define_ordinary-unit : (heap : Objects) (place : ℕ) (name : List ℕ) (change : Change) (unit : ℕ) → IsOneKind change
    →
    own heap place name ≡ None → unit_at heap place name ≡ Some unit → is_same (unit_property unit) change ≡ false →
    define_ordinary heap place name change ≡ (heap, Rejected)
define_ordinary-unit heap place name change unit one absent e same =
    ap (λ o. define_on heap place name change o) (unit_is heap place name unit absent e)
    ∙ ap (λ b. if b then (heap, Done) else store_property heap place name (property_after (unit_property unit) change))
    same
    ∙ ap (λ o. store_property heap place name o) (property_after-read_only (value.Text (unit ∷ [])) true change one
    same)

none_is : {A : Type 0} (o : Option A) → IsNone o → o ≡ None
none_is None h = refl
none_is (Some x) h = cc

pub rejected-unit : (heap : Objects) (place : ℕ) (name : List ℕ) (change : Change) (found : Option ℕ) (unit : ℕ)
    → IsOneKind change →
    IsNone (own heap place name) → found ≡ unit_at heap place name → found ≡ Some unit
    → is_same (unit_property unit) change ≡ false →
    (heap, Rejected) ≡ define_ordinary heap place name change
rejected-unit heap place name change found unit one absent at e same =
    sym (define_ordinary-unit heap place name change unit one (none_is _ absent) (sym at ∙ e) same)

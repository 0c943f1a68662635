-- Names that cover the elements of an array in some bounds.
use Rattle.std.proofs.Common.{◌≡◌, ◌∙◌, ℕ, ◌+◌, ◌<◌, ◌≤◌, Bool, true, false, ◌&&◌, ◌||◌, List, [], ◌∷◌, ◌++◌, map, refl}
use Rattle.std.proofs.Common.{sym, subst, arith, ⊎_elim}
use Rattle.std.specs.Prelude.{IsSome, IsTrue, Option, None, Some, nat_le, nat_lt}
use Rattle.std.specs.Option.{option_map}
use Rattle.std.specs.Str.{bytes_eq}
use Rattle.std.proofs.lemmas.Bool.{false≢true, cases_lt}
use Rattle.std.proofs.lemmas.Option.{none-some}
use Rattle.std.proofs.lemmas.List.Folds.{list_any-append}
use Rattle.jl_props.specs.Entries.{entry_named, has_name, name_and_serial}
use Rattle.jl_props.specs.declared.entries.Entry.{Entry}
use Rattle.jl_num.specs.Digits.{digits_of}
use Rattle.jl_value.specs.Indices.{index_of}
use Rattle.jl_value.proofs.Numerals.{index_of_is}
use Rattle.jl_heap.specs.Define.{is_between}
use Rattle.jl_heap.specs.Objects.{Objects, names_of, object_at, own, serial_of}
use Rattle.jl_heap.specs.inner.Steps.{Covers, is_listed}
use Rattle.jl_heap.specs.declared.property.Prop.{Prop}
use Rattle.jl_heap.proofs.Items.{bytes_eq-same, item_in}

-- a property without a serial isn't there
none_without : (o : Option (Entry Prop)) → option_map (λ (e : Entry Prop). e.serial) o ≡ None
    → IsSome (option_map (λ (e : Entry Prop). e.item) o) → ⊥
none_without None none some = false≢true some
none_without (Some e) none some = none-some e.serial (sym none)

pub no_serial : (h : Objects) (k : ℕ) (n : List ℕ) → serial_of h k n ≡ None → IsSome (own h k n) → ⊥
no_serial h k n none some = none_without (entry_named n (object_at h k).properties) none some

pub still_listed : (x : List ℕ) (ns : List (List ℕ × ℕ)) (n : List ℕ × ℕ) → is_listed x ns ≡ true
    → is_listed x (ns ++ n ∷ []) ≡ true
still_listed x ns n listed = list_any-append (λ (m : List ℕ × ℕ). bytes_eq m.0 x) ns (n ∷ []) ∙ rw listed refl

pub new_listed : (x : List ℕ) (ns : List (List ℕ × ℕ)) (serial : ℕ) → is_listed x (ns ++ (x, serial) ∷ []) ≡ true
new_listed x ns serial = list_any-append (λ (m : List ℕ × ℕ). bytes_eq m.0 x) ns ((x, serial) ∷ [])
    ∙ rw (bytes_eq-same x) (last (is_listed x ns))
  where
    last : (b : Bool) → (b || true) ≡ true
    last true = refl
    last false = refl

-- the elements from one index to below another are listed
abbrev pub Lists : Objects → ℕ → ℕ → ℕ → List (List ℕ × ℕ) → Type 0
Lists h k low index ns = (i : ℕ) → low ≤ i → i < index → IsSome (own h k (digits_of 10 i))
    → IsTrue (is_listed (digits_of 10 i) ns)

pub lists_more : (h : Objects) (k low index : ℕ) (ns more : List (List ℕ × ℕ)) → Lists h k low index ns
    → ((x : List ℕ) → is_listed x ns ≡ true → is_listed x more ≡ true)
    → (IsSome (own h k (digits_of 10 index)) → is_listed (digits_of 10 index) more ≡ true)
    → Lists h k low (index + 1) more
lists_more h k low index ns more listed still new i above below there =
    ⊎_elim
    (λ (before : i < index). still (digits_of 10 i) (listed i above before there))
    (λ (at : index ≤ i).
    let same : index ≡ i = omega (arith, at, below) in
    subst (λ j. IsSome (own h k (digits_of 10 j)) → is_listed (digits_of 10 j) more ≡ true) same new there)
    (cases_lt i index)

-- an element's name has the digits of an index in the bounds
pub record Element (low high : ℕ) (name : List ℕ) : Type 0 where
  pub index : ℕ
  pub digits : name ≡ digits_of 10 index
  pub above : low ≤ index
  pub below : index < high
  pub short : index < 4294967295

pub element : (low high : ℕ) (name : List ℕ) → is_between low high name ≡ true → Element low high name
element low high name between = step (index_of name) refl
  where
    step : (o : Option ℕ) → index_of name ≡ o → Element low high name
    step None none = absurd (false≢true (rw none at between))
    step (Some i) is =
        let at = index_of_is name i is in
        let both : (nat_le low i && nat_lt i high) ≡ true = rw is at between in
        record {
          index = i;
          digits = at.digits;
          above = grind (arith, both);
          below = grind (arith, both);
          short = at.below;
        }

pub covers_from_lists : (h : Objects) (k low high index : ℕ) (ns : List (List ℕ × ℕ)) → Lists h k low index ns
    → high ≤ index
    → Covers h k low high ns
covers_from_lists h k low high index ns listed past name there between =
    let e = element low high name between in
    let digits : name ≡ digits_of 10 e.index = e.digits in
    rw digits (listed e.index e.above (let b = e.below in omega (arith, b, past)) (rw digits at there))

-- no name has an index from 2^32 - 1 on
pub covers_past : (h : Objects) (k low high end : ℕ) (ns : List (List ℕ × ℕ))
    → ((i : ℕ) → i < high → i < 4294967295 → i < end)
    → Covers h k low end ns → Covers h k low high ns
covers_past h k low high end ns short covers name there between =
    covers name there (at (index_of name) refl)
  where
    at : (o : Option ℕ) → index_of name ≡ o → is_between low end name ≡ true
    at None none = absurd (false≢true (rw none at between))
    at (Some i) is =
        let both : (nat_le low i && nat_lt i high) ≡ true = rw is at between in
        let below = short i (grind (arith, both)) ((index_of_is name i is).below) in
        rw is (grind (arith, both, below))

-- all names cover all elements
all_listed : (x : List ℕ) (es : List (Entry Prop)) → IsSome (item_in x es) → is_listed x (map name_and_serial es) ≡ true
all_listed x [] there = absurd (false≢true there)
all_listed x (e ∷ es) there = step (has_name x e) refl (all_listed x es)
  where
    step : (b : Bool) → has_name x e ≡ b → (IsSome (item_in x es) → is_listed x (map name_and_serial es) ≡ true)
        → is_listed x (map name_and_serial (e ∷ es)) ≡ true
    step true fits rest = rw fits refl
    step false fails rest = rw fails (rest (rw fails at there))

pub names_cover : (h : Objects) (k low high : ℕ) (ns : List (List ℕ × ℕ)) → ns ≡ names_of h k → Covers h k low high ns
names_cover h k low high ns is name there between = rw is (all_listed name (object_at h k).properties there)

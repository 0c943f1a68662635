-- What the loops that shorten an array come to, name by name.
use Rattle.std.specs.Prelude.{ℕ, max, Bool, List, [], ◌∷◌, IsSome, IsTrue, if◌then◌else◌}
use Rattle.std.specs.List.{list_any}
use Rattle.std.specs.Option.{option_map_or}
use Rattle.std.specs.Str.{bytes_eq}
use Rattle.jl_props.specs.Entries.{without}
use Rattle.jl_heap.specs.Define.{index_after, is_between}
use Rattle.jl_heap.specs.Objects.{Name, Objects, object_at, own, with_properties}

-- down to which index elements of these names are deleted
abbrev pub reached_over : Objects → ℕ → ℕ → ℕ → List (Name × ℕ) → ℕ
reached_over heap place low high [] = low
reached_over heap place low high (n ∷ ns) =
    max (option_map_or (index_after low high n.0) (own heap place n.0) low) (reached_over heap place low high ns)

-- the objects after those of these names that are elements in these bounds were deleted
abbrev pub without_elements : Objects → ℕ → ℕ → ℕ → List (Name × ℕ) → Objects
without_elements heap place low high [] = heap
without_elements heap place low high (n ∷ ns) =
    without_elements
    (if is_between low high n.0 then with_properties heap place (without (object_at heap place).properties n.0)
    else heap)
    place low high ns

abbrev pub is_listed : Name → List (Name × ℕ) → Bool
is_listed name names = list_any (λ n. bytes_eq n.0 name) names

-- the names of all elements of an object in these bounds are among these
abbrev pub Covers : Objects → ℕ → ℕ → ℕ → List (Name × ℕ) → Type 0
Covers heap place low high names =
    (name : Name) → IsSome (own heap place name) → IsTrue (is_between low high name) → IsTrue (is_listed name names)

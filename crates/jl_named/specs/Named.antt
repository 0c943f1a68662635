-- Items under names, in the order in which they were added.
use Rattle.std.specs.Prelude.{◌≢◌, ℕ, Bool, List, Option, find, map, if◌then◌else◌}
use Rattle.std.specs.List.{AllPairs}
use Rattle.std.specs.Option.{option_map}
use Rattle.std.specs.Str.{bytes_eq}
use Rattle.jl_named.specs.declared.named_list.Named.{Named}

-- whether an item has a name: the same units
abbrev pub has_name : {T : Type 0} → List ℕ → Named T → Bool
has_name name x = bytes_eq x.name name

abbrev pub item_named : {T : Type 0} → List ℕ → List (Named T) → Option T
item_named name xs = option_map (λ x. x.item) (find (has_name name) xs)

-- the list, with this item under a name
abbrev pub with_item : {T : Type 0} → List (Named T) → List ℕ → T → List (Named T)
with_item xs name item = map (λ x. if has_name name x then record x { item = item } else x) xs

-- no two have the same name
abbrev pub AreApart : {T : Type 0} → List (Named T) → Type 0
AreApart {T} xs = AllPairs (λ (a b : Named T). a.name ≢ b.name) xs

-- Where the names of a list stand in it.
use Rattle.std.specs.Prelude.{◌≡◌, ◌<◌, ℕ, List, Option, length}
use Rattle.std.specs.BTreeMap.{BTreeMap, get}
use Rattle.std.specs.Cmp.Lexicographic.{slice_cmp}
use Rattle.std.specs.List.{position_from}
use Rattle.std.specs.Ordering.{nat_cmp}
use Rattle.jl_named.specs.declared.named_list.Named.{Named}
use Rattle.jl_named.specs.Named.{has_name, AreApart}

-- the place of a name
abbrev pub place_of : {T : Type 0} → List ℕ → List (Named T) → Option ℕ
place_of name xs = position_from (has_name name) 0 xs

-- each name has its place, and there are no other names
abbrev pub ArePlacesOf : {T : Type 0} → List (Named T) → BTreeMap (List ℕ) ℕ → Type 0
ArePlacesOf xs places = (name : List ℕ) → get (slice_cmp nat_cmp) places name ≡ place_of name xs

-- names differ, and of more than eight the places are known
pub record IsKept {T : Type 0} (xs : List (Named T)) (places : BTreeMap (List ℕ) ℕ) : Type 0 where
  pub apart : AreApart xs
  pub placed : 8 < length xs → ArePlacesOf xs places

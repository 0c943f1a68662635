-- Words of ASCII characters.
use Rattle.std.specs.Prelude.{ℕ, Bool, false, nat_lt, List, [], ◌∷◌}
use Rattle.std.specs.List.{list_all}

-- some characters, each of them ASCII
abbrev pub is_plain : List ℕ → Bool
is_plain [] = false
is_plain (u ∷ us) = list_all (λ v. nat_lt v 128) (u ∷ us)

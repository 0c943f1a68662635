-- What a text feeds a hasher: four units as one number, and at the end those that are left, with how many they are.
use Rattle.std.specs.Prelude.{ℕ, ◌+◌, ◌*◌, List, [], ◌∷◌, ◌++◌}
use Rattle.std.specs.Hash as fed

-- four numbers below 2^16 as one below 2^64
abbrev pub four_units : (a b c d : ℕ) → ℕ
four_units a b c d = a + b * 65536 + (c + d * 65536) * 4294967296

abbrev pub fed_units : List ℕ → List (List ℕ)
fed_units (a ∷ b ∷ c ∷ d ∷ rest) = fed.u64 (four_units a b c d) ++ fed_units rest
fed_units (a ∷ b ∷ c ∷ []) = fed.u64 (four_units a b c 3)
fed_units (a ∷ b ∷ []) = fed.u64 (four_units a b 0 2)
fed_units (a ∷ []) = fed.u64 (four_units a 0 0 1)
fed_units [] = fed.u64 0

-- How many bytes units take in UTF-8 at most: one of ASCII takes one, a pair of surrogates four, and any other at most
-- four. Each half of a pair is counted with four. A number that is no unit, 2^16 or above, counts as `heavy` units
-- more: a sum below that then tells that there is none.
use Rattle.std.specs.Prelude.{ℕ, ◌+◌, ◌*◌, nat_lt, List, [], ◌∷◌, if◌then◌else◌}

module _ (heavy : ℕ) where
  -- what a number counts beside one
  abbrev pub excess : ℕ → ℕ
  excess u = if nat_lt u 0x1_0000 then 0 else heavy

  -- how many units
  abbrev pub text_weight : List ℕ → ℕ
  text_weight [] = 0
  text_weight (u ∷ us) = 1 + excess u + text_weight us

  abbrev pub unit_bytes : ℕ → ℕ
  unit_bytes u = (if nat_lt u 128 then 1 else 4) + 4 * excess u

  abbrev pub most_bytes : List ℕ → ℕ
  most_bytes [] = 0
  most_bytes (u ∷ us) = unit_bytes u + most_bytes us

use Rattle.std.specs.Prelude.{ℕ, min}

-- a number as a 32-bit counter gives it that stands still at its greatest value, 2^32 - 1
abbrev pub saturate_u32 : ℕ → ℕ
saturate_u32 n = min n 4294967295

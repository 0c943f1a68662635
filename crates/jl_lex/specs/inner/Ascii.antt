-- The classes of ASCII characters, by their numbers.
use Rattle.std.specs.Prelude.{ℕ, Bool, ◌==◌, ◌&&◌, ◌||◌, nat_le}

abbrev pub is_ascii_letter : ℕ → Bool
is_ascii_letter u = (nat_le 97 u && nat_le u 122) || (nat_le 65 u && nat_le u 90)

-- what a name may start with
abbrev pub is_ascii_start : ℕ → Bool
is_ascii_start u = is_ascii_letter u || u == 36 || u == 95

-- what a name may go on with
abbrev pub is_ascii_part : ℕ → Bool
is_ascii_part u = is_ascii_start u || (nat_le 48 u && nat_le u 57)

abbrev pub is_ascii_space : ℕ → Bool
is_ascii_space u = u == 32 || u == 9 || u == 11 || u == 12

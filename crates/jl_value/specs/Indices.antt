-- Which names of properties are array indices (15.4).
use Rattle.std.specs.Prelude.{◌≡◌, ℕ, ◌<◌, nat_lt, List, Option, Some, None, ◌&&◌, if◌then◌else◌}
use Rattle.std.specs.Str.{bytes_eq}
use Rattle.std.specs.Str.Parse.{digits_value}
use Rattle.jl_num.specs.Digits.{digits_of}

-- the units are the digits of n, which is below 2^32 - 1
pub record IsIndex (units : List ℕ) (n : ℕ) : Type 0 where
  pub digits : units ≡ digits_of 10 n
  pub below : n < 4294967295

-- that n, if there is one: the units, read as a numeral, give a number whose digits they are
unfoldable pub index_of : List ℕ → Option ℕ
index_of units =
    let n = digits_value 10 units in if bytes_eq units (digits_of 10 n) && nat_lt n 4294967295 then Some n else None

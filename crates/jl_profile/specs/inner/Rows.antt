-- The numbers of births, as a profile counts them.
use Rattle.std.specs.Prelude.{ℕ, Bool, List}
use Rattle.jl_profile.specs.Births.{Key, made_count, unused_count}
use Rattle.jl_profile.specs.declared.births.Births.{Births}
use Rattle.jl_profile.specs.declared.rows.Count.{Count}

-- the numbers of the births with this key
abbrev pub count_at : (used : ℕ → Bool) → List (Key × ℕ) → Key → Count
count_at used births key = record { made = made_count births key; unused = unused_count used births key }

-- where there are none
abbrev pub no_births : Count
no_births = record { made = 0; unused = 0 }

-- as a row
abbrev pub listed : Key × Count → Births
listed e = record { line = e.0.0; column = e.0.1; way = e.0.2; made = e.1.made; unused = e.1.unused }

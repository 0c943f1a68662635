-- Reading the numbers of a mappings text step by step, as plain functions. Lemmas tie them to the definitions of
-- numbers; no public clause stands on them.
use Rattle.std.specs.Prelude.{ℕ, zero, suc, ◌+◌, ◌-◌, ◌*◌, ◌/◌, ◌%◌, ◌==◌, nat_lt, nat_le, List, [], ◌∷◌, Option, Some}
use Rattle.std.specs.Prelude.{None, option_map, option_and_then, if◌then◌else◌}
use Rattle.jl_srcmap.specs.Numbers.{digit_value, most_digits}

-- the quantity that the first digits make, at most so many, and what follows them
abbrev pub grown : ℕ → ℕ × List ℕ → ℕ × List ℕ
grown v r = (v - 32 + 32 * r.0, r.1)

abbrev pub with_digit : ℕ → List ℕ → Option (ℕ × List ℕ) → Option (ℕ × List ℕ)
with_digit v cs more = if nat_lt v 32 then Some (v, cs) else option_map (grown v) more

unfoldable pub quantity : ℕ → List ℕ → Option (ℕ × List ℕ)
quantity zero cs = None
quantity (suc most) [] = None
quantity (suc most) (c ∷ cs) = option_and_then (λ v. with_digit v cs (quantity most cs)) (digit_value c)

-- where a quantity leads from a sum
abbrev pub if_below : ℕ → Option ℕ
if_below b = if nat_lt b 4294967296 then Some b else None

unfoldable pub moved : ℕ → ℕ → Option ℕ
moved n a = if n % 2 == 0 then if_below (a + n / 2) else (if nat_le (n / 2) a then if_below (a - n / 2) else None)

-- the field that the text begins with, after this sum, and what follows it
abbrev pub before : List ℕ → ℕ → ℕ × List ℕ
before rest b = (b, rest)

unfoldable pub field : ℕ → List ℕ → Option (ℕ × List ℕ)
field a text = option_and_then (λ q. option_map (before q.1) (moved q.0 a)) (quantity most_digits text)

-- all fields of a text, after these sums
unfoldable pub fields_in : List ℕ → List ℕ → Option (List ℕ)
fields_in sums [] = Some []
fields_in [] (c ∷ cs) = None
fields_in (a ∷ sums) (c ∷ cs) =
    option_and_then (λ f. option_map (λ fs. f.0 ∷ fs) (fields_in sums f.1)) (field a (c ∷ cs))

-- The script of a number: so many functions, each of which is called once, and the sum of what they give.
use Rattle.std.specs.Prelude.{ℕ, zero, suc, ◌+◌, ◌*◌, ◌%◌, List, [], ◌∷◌, ◌++◌, codes}
use Rattle.std.specs.Fmt.{decimal}

-- the line that declares the function of a number
abbrev pub function_line : ℕ → List ℕ
function_line i =
    codes "function f" ++ (decimal i ++ (codes "(a, b) { var o = { p: a, q: b }; o.p += " ++ (decimal i
    ++ (codes "; return o.p % " ++ (decimal (7 + i % 5) ++ (codes " - o.q; }" ++ 10 ∷ []))))))

-- the line that adds a call of it to the sum
abbrev pub call_line : ℕ → List ℕ
call_line i =
    codes "total += f" ++ (decimal i ++ (codes "(" ++ (decimal i ++ (codes ", " ++ (decimal (i * i % 11)
    ++ (codes ");" ++ 10 ∷ []))))))

-- both lines of a number
abbrev pub lines_of : ℕ → List ℕ
lines_of i = function_line i ++ call_line i

-- the lines of all numbers below one, by rising numbers
unfoldable pub lines_below : (number : ℕ) → List ℕ
lines_below zero = []
lines_below (suc i) = lines_below i ++ lines_of i

-- the whole script
abbrev pub script_of : (number : ℕ) → List ℕ
script_of number = codes "var total = 0;" ++ (10 ∷ [] ++ (lines_below number ++ (codes "print(total);" ++ 10 ∷ [])))

-- The lines of the numbers below one, as they grow, and how long they are at most.
use Rattle.std.proofs.Common.{◌≡◌, ◌≤◌, ◌<◌, ℕ, zero, suc, ◌+◌, ◌*◌, ◌%◌, List, [], ◌∷◌, ◌++◌, length}
use Rattle.std.proofs.Common.{refl, sym, ap, ◌∙◌, arith, add-one, length-append}
use Rattle.std.proofs.lemmas.Fmt.{length-decimal-le}
use Rattle.std.specs.Prelude.{codes}
use Rattle.std.specs.Fmt.{decimal}
use Rattle.jl_soak.specs.Script.{call_line, function_line, lines_below, lines_of, script_of}

more_below : (i : ℕ) → lines_below (i + 1) ≡ lines_below i ++ lines_of i
unfolding lines_below
more_below i = rw add-one refl

-- a text that has the lines below a number has them below the next one, once its own are added
pub one_more : (text lines : List ℕ) (i : ℕ) → text ≡ codes "var total = 0;" ++ (10 ∷ [] ++ lines_below i)
    → lines ≡ lines_of i → text ++ lines ≡ codes "var total = 0;" ++ (10 ∷ [] ++ lines_below (i + 1))
one_more text lines i is added =
    ap (λ t. t ++ lines) is ∙ ap (λ s. codes "var total = 0;" ++ (10 ∷ [] ++ (lines_below i ++ s))) added
    ∙ ap (λ s. codes "var total = 0;" ++ (10 ∷ [] ++ s)) (sym (more_below i))

-- digits of a number below 10,000
digits : (n : ℕ) → n < 10000 → length (decimal n) ≤ 4
digits n small = length-decimal-le 4 n (omega arith) small (omega arith)

modulus : (i : ℕ) → 7 + i % 5 < 10000
modulus i = omega arith

remainder : (i : ℕ) → i * i % 11 < 10000
remainder i = omega arith

around : (xs ys zs : List ℕ) → length (xs ++ (ys ++ zs)) ≡ length xs + (length ys + length zs)
around xs ys zs = length-append xs (ys ++ zs) ∙ ap (λ n. length xs + n) (length-append ys zs)

function_size : (i : ℕ) → i < 10000 → length (function_line i) ≤ 87
function_size i small =
    let a = digits i small in
    let b = digits (7 + i % 5) (modulus i) in
    omega (arith, length-append {A = ℕ})

call_size : (i : ℕ) → i < 10000 → length (call_line i) ≤ 28
call_size i small =
    let a = digits i small in
    let b = digits (i * i % 11) (remainder i) in
    omega (arith, length-append {A = ℕ})

-- the lines of a number take at most 115 bytes
lines_size : (number : ℕ) → number ≤ 8000 → length (lines_below number) ≤ 115 * number
unfolding lines_below
lines_size zero small = omega arith
lines_size (suc i) small =
    let before = lines_size i (omega arith) in
    let a = function_size i (omega arith) in
    let b = call_size i (omega arith) in
    let all = around (lines_below i) (function_line i) (call_line i) in
    omega (arith, all)

-- before the first number there are no lines
pub without_lines : codes "var total = 0;" ++ 10 ∷ [] ≡ codes "var total = 0;" ++ (10 ∷ [] ++ lines_below 0)
unfolding lines_below
without_lines = refl

-- a text that has the lines below the number, and then the last line, is the script
pub is_whole : (text : List ℕ) (reached number : ℕ) → number ≤ reached → reached ≤ number
    → text ≡ codes "var total = 0;" ++ (10 ∷ [] ++ lines_below reached)
    → text ++ (codes "print(total);" ++ 10 ∷ []) ≡ script_of number
is_whole text reached number far near is =
    let same : reached ≡ number = omega (arith, far, near) in
    ap (λ t. t ++ (codes "print(total);" ++ 10 ∷ [])) is ∙ ap script_of same

-- a script is at most a mebibyte long
pub is_short : (text : List ℕ) (number : ℕ) → number ≤ 8000 → text ≡ script_of number → length text ≤ 1048576
is_short text number few is =
    let all = ap (λ t. length t) is in
    let lines = lines_size number few in
    let last = length-append (lines_below number) (codes "print(total);" ++ 10 ∷ []) in
    omega (arith, all, lines, last)

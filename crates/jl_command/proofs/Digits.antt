-- Numbers among the words.
use Rattle.std.proofs.Common.{◌≡◌, ◌∙◌, ◌≤◌, ◌<◌, ℕ, Bool, true, false, not, ◌&&◌, ◌==◌, List, [], ◌∷◌}
use Rattle.std.proofs.Common.{Option, Some, None}
use Rattle.std.proofs.Common.{Ok, arith, length, refl, sym, ap, subst, if◌then◌else◌}
use Rattle.std.proofs.lemmas.Bool.Decides.{nat_tests}
use Rattle.std.proofs.lemmas.Str.Parse.{digits_value_short, numerals_by_value, parse_gives, tells_all_ascii_digits}
use Rattle.std.specs.Char.{is_ascii_digit}
use Rattle.std.specs.List.{list_all}
use Rattle.std.specs.Prelude.{IfErr, IfOk, Result, nat_le}
use Rattle.std.specs.Str.{all_ascii_digits}
use Rattle.std.specs.Str.Parse.{ParsesUnsigned, digits_value}
use Rattle.jl_command.specs.Asked.{at_most, budget_in, is_number, most_budget, most_functions, number_in, soak_number}
use Rattle.jl_command.specs.CommandLine.{Text}

and_both : (a b : Bool) → (a && b) ≡ true → (a ≡ true) × (b ≡ true)
and_both true b e = (refl, e)
and_both false b e = absurd (cc)

some_digit : (text : List ℕ) → not (length text == 0) ≡ true → 0 < length text
some_digit [] e = absurd (cc)
some_digit (byte ∷ text) e = omega arith

few_digits : (n : ℕ) → nat_le n 10 ≡ true → n ≤ 10
few_digits n e = grind (arith, nat_tests)

all_digits : (text : List ℕ) → list_all is_ascii_digit text ≡ all_ascii_digits text
all_digits [] = refl
all_digits (byte ∷ text) = ap (λ b. is_ascii_digit byte && b) (all_digits text)

-- one to ten digits are read as what they write
read_number : {E : Type 0} (text : List ℕ) (r : Result ℕ E) → ParsesUnsigned 64 10 text r → is_number text ≡ true
    → r ≡ Ok (digits_value 10 text)
read_number text r parses is =
    let parts = and_both (not (length text == 0) && nat_le (length text) 10) (list_all is_ascii_digit text) is in
    let size = and_both (not (length text == 0)) (nat_le (length text) 10) parts.0 in
    let digits = sym (all_digits text) ∙ parts.1 in
    let own = numerals_by_value (λ ds. all_ascii_digits ds ≡ true) tells_all_ascii_digits in
    parse_gives own 64 text r parses digits (some_digit text size.0)
    (omega (arith, digits_value_short own text 10 digits (few_digits (length text) size.1)))

-- so the number is the text's, and there is one
pub is_number_in : {E : Type 0} (text : List ℕ) (r : Result ℕ E) → ParsesUnsigned 64 10 text r → is_number text ≡ true
    → IfOk r (λ n. Some n ≡ number_in text)
is_number_in text r parses is =
    subst (λ x. IfOk x (λ n. Some n ≡ number_in text)) (sym (read_number text r parses is))
    (sym (ap (λ b. if b then Some (digits_value 10 text) else None) is))

pub no_refusal : {E : Type 0} (text : List ℕ) (r : Result ℕ E) → ParsesUnsigned 64 10 text r → is_number text ≡ true
    → IfErr r (λ e. ⊥)
no_refusal text r parses is = subst (λ x. IfErr x (λ e. ⊥)) (sym (read_number text r parses is)) tt

some_same : {a b : ℕ} → Some a ≡ Some b → a ≡ b
some_same e = cc

within : (n most : ℕ) → nat_le n most ≡ true → n ≤ most
within n most e = grind (arith, nat_tests)

at_most_is : (most : ℕ) (o : Option ℕ) (n : ℕ) → at_most most o ≡ Some n → n ≤ most
at_most_is most None n e = absurd (cc)
at_most_is most (Some m) n e = by_test (nat_le m most) refl
  where
    by_test : (b : Bool) → nat_le m most ≡ b → n ≤ most
    by_test true is =
        let same = some_same (sym (ap (λ b. if b then Some m else None) is) ∙ e) in
        subst (λ k. k ≤ most) same (within m most is)
    by_test false is =
        let none : None ≡ Some n = sym (ap (λ b. if b then Some m else None) is) ∙ e in absurd (cc)

-- a budget is none that is too great
pub budget_bound : (value : Option Text) (n : ℕ) → Some n ≡ budget_in value → n ≤ most_budget
budget_bound None n e = let same = some_same e in omega (arith, same)
budget_bound (Some text) n e = at_most_is most_budget (number_in text) n (sym e)

-- and neither is a number of functions
pub number_bound : (value : Option Text) (n : ℕ) → Some n ≡ soak_number value → n ≤ most_functions
number_bound None n e = absurd (cc)
number_bound (Some text) n e = at_most_is most_functions (number_in text) n (sym e)

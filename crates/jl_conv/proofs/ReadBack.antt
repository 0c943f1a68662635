-- The text of a number converts to that number.
use Rattle.std.proofs.Common.{◌≡◌, refl, sym, ap, ◌∙◌, ℕ, zero, suc, ◌+◌, ◌-◌, ◌*◌, ◌/◌, ◌%◌, ◌<◌, ◌≤◌, pos, negsuc}
use Rattle.std.proofs.Common.{Bool, true, false, ◌==◌, ◌&&◌, List, [], ◌∷◌, length, get_or, drop, Some, None, arith}
use Rattle.std.proofs.Common.{add-one, append-nil, length-append, ⊎_elim}
use Rattle.std.proofs.lemmas.Bool.{cases_lt}
use Rattle.std.proofs.lemmas.Bool.Decides.{nat_tests}
use Rattle.std.proofs.lemmas.List.{take_all, drop_all}
use Rattle.std.proofs.lemmas.List.Folds.{list_all-append}
use Rattle.std.proofs.lemmas.List.Sums.{prefix_len_is, suffix_len_is, position_or_len_is}
use Rattle.std.specs.Prelude.{if◌then◌else◌, codes, int_lt}
use Rattle.std.specs.Str.{bytes_eq}
use Rattle.std.specs.List.{prefix_len, suffix_len, position_or_len, before_first, after_first, list_all}
use Rattle.jl_num.specs.Digits.{digit_code, digits_within, digits_of}
use Rattle.jl_num.proofs.Places.{last_digit, one_digit, more_digits, quotient_less}
use Rattle.jl_num.proofs.Quotient.{small_size}
use Rattle.jl_token.specs.Characters.{is_white_space, is_line_terminator, is_digit, decimal_from, first_is}
use Rattle.jl_token.proofs.Tests.{or_false, both_false}
use Rattle.jl_token.proofs.Units.{units, all_below, digits, each_digit}
use Rattle.jl_lex.proofs.NumberLoops.{decimal_append}
use Rattle.jl_conv.specs.Numerals.{is_space, without_end, trim, are_digits, with_sign, exact_value, is_exponent_letter}
use Rattle.jl_conv.specs.Numerals.{is_point, whole_part, fraction_part, exponent_part, parts_number, decimal_number}
use Rattle.jl_conv.specs.Numerals.{is_hexadecimal_letter, literal_number, text_number}
use Rattle.jl_conv.specs.Laws.{TextsReadBack}
use Rattle.jl_conv.proofs.Splits.{passes_at, none_passes}
use Rattle.jl_conv.proofs.Values.{value_is}

-- ---- spaces

digit_no_space : (u : ℕ) → is_digit u ≡ true → is_space u ≡ false
digit_no_space u h = let d = digits u h in both_false (is_white_space u) (is_line_terminator u) d.white d.line

minus_no_space : is_space 45 ≡ false
unfolding units
minus_no_space = refl

trim_same : (us : List ℕ) → is_space (get_or us 0 0) ≡ false → is_space (get_or us (length us - 1) 0) ≡ false
    → trim us ≡ us
trim_same us first last =
    let front : prefix_len is_space us ≡ 0 =
    prefix_len_is is_space us 0 0 (omega arith) (λ k h. absurd (omega arith)) (λ h. first) in
    let end : suffix_len is_space us ≡ length us - length us =
    suffix_len_is is_space us (length us) 0 (omega arith) (λ k h g. absurd (omega arith)) (λ h. last) in
    ap (λ n. without_end (drop n us)) front ∙ take_all (length us - suffix_len is_space us) us (omega arith)

-- ---- the digits of a number

code_is_digit : (d : ℕ) → d < 10 → is_digit (digit_code d) ≡ true
unfolding is_digit
code_is_digit d h = grind (arith, nat_tests)

code_value : (d : ℕ) → d < 10 → digit_code d - 48 ≡ d
code_value d h = grind (arith, nat_tests)

are_all_digits : (places n : ℕ) → list_all is_digit (digits_within 10 places n) ≡ true
are_all_digits zero n = refl
are_all_digits (suc places) n =
    ⊎_elim
    (λ below. rw (one_digit 10 places n below, code_is_digit n below) refl)
    (λ above.
    let rest : n % 10 < 10 = omega arith in
    rw (more_digits 10 places n above) (list_all-append is_digit (digits_within 10 places (n / 10)) (last_digit 10 n)
    ∙ rw (are_all_digits places (n / 10), code_is_digit (n % 10) rest) refl))
    (cases_lt n 10)

some_within : (places n : ℕ) → 0 < length (digits_within 10 (suc places) n)
some_within places n =
    ⊎_elim
    (λ below. omega (arith, ap length (one_digit 10 places n below)))
    (λ above.
    let all = ap length (more_digits 10 places n above)
    ∙ length-append (digits_within 10 places (n / 10)) (last_digit 10 n) in
    omega arith)
    (cases_lt n 10)

some_digit : (n : ℕ) → 0 < length (digits_of 10 n)
some_digit n = rw add-one (some_within n n)

digits_value : (places n : ℕ) → n < places → decimal_from 0 (digits_within 10 places n) ≡ n
digits_value zero n h = absurd (omega arith)
digits_value (suc places) n h =
    ⊎_elim
    (λ below. rw (one_digit 10 places n below) (ap (λ k. 0 * 10 + k) (code_value n below) ∙ omega arith))
    (λ above.
    let less = quotient_less 10 n (omega arith) above in
    let rest : n % 10 < 10 = omega arith in
    rw (more_digits 10 places n above) (decimal_append 0 (digits_within 10 places (n / 10)) (last_digit 10 n)
    ∙ rw (digits_value places (n / 10) (omega arith), code_value (n % 10) rest) (omega arith)))
    (cases_lt n 10)

-- ---- digits alone are a literal

pub no_letter : (ds : List ℕ) → list_all is_digit ds ≡ true → position_or_len is_exponent_letter ds ≡ length ds
no_letter ds all =
    position_or_len_is is_exponent_letter ds (length ds) 0 (omega arith)
    (λ k h. (digits (get_or ds k 0) (passes_at is_digit ds k all h)).mark) (λ h. absurd (omega arith))

pub no_point : (ds : List ℕ) → list_all is_digit ds ≡ true → position_or_len is_point ds ≡ length ds
no_point ds all =
    position_or_len_is is_point ds (length ds) 0 (omega arith)
    (λ k h. (digits (get_or ds k 0) (passes_at is_digit ds k all h)).point) (λ h. absurd (omega arith))

pub all_before : (p : ℕ → Bool) (xs : List ℕ) → position_or_len p xs ≡ length xs → before_first p xs ≡ xs
all_before p xs e = take_all (position_or_len p xs) xs (omega arith)

pub nothing_after : (p : ℕ → Bool) (xs : List ℕ) → position_or_len p xs ≡ length xs → after_first p xs ≡ []
nothing_after p xs e = drop_all (position_or_len p xs + 1) xs (omega arith)

pub no_capital : (u : ℕ) → is_digit u ≡ true → (u == 73) ≡ false
unfolding all_below
no_capital u h = each_digit (λ v. v == 73) refl u h

not_infinity : (ds : List ℕ) → list_all is_digit ds ≡ true → 0 < length ds → bytes_eq ds (codes "Infinity") ≡ false
not_infinity [] all some = absurd (omega arith)
not_infinity (d ∷ ds) all some = rw (no_capital d (passes_at is_digit (d ∷ ds) 0 all some)) refl

digits_alone : (ds : List ℕ) → list_all is_digit ds ≡ true → 0 < length ds → are_digits is_digit ds ≡ true
digits_alone [] all some = absurd (omega arith)
digits_alone (d ∷ ds) all some = all

decimal_digits : (negative : Bool) (ds : List ℕ) → list_all is_digit ds ≡ true → 0 < length ds
    → decimal_from 0 ds ≤ 9007199254740991
    → decimal_number negative ds ≡ Some (Some (with_sign negative (decimal_from 0 ds)))
decimal_digits negative ds all some small =
    let whole : whole_part ds ≡ ds =
    ap (before_first is_point) (all_before is_exponent_letter ds (no_letter ds all))
    ∙ all_before is_point ds (no_point ds all) in
    let fraction : fraction_part ds ≡ [] =
    ap (after_first is_point) (all_before is_exponent_letter ds (no_letter ds all))
    ∙ nothing_after is_point ds (no_point ds all) in
    let exponent : exponent_part ds ≡ Some (0, 0) = rw (none_passes is_exponent_letter ds (no_letter ds all)) refl in
    rw (not_infinity ds all some)
    (ap (λ us. parts_number negative us (fraction_part ds) (exponent_part ds)) whole
    ∙ ap (λ us. parts_number negative ds us (exponent_part ds)) fraction
    ∙ ap (parts_number negative ds []) exponent
    ∙ ap (λ us. if are_digits is_digit us then exact_value negative (decimal_from 0 us) 0 0 else Some None)
    (append-nil ds)
    ∙ rw (digits_alone ds all some) (value_is negative (decimal_from 0 ds) 0 0 (decimal_from 0 ds) refl small))

no_hexadecimal : (d : ℕ) (ds : List ℕ) → list_all is_digit (d ∷ ds) ≡ true
    → (d == 48 && first_is is_hexadecimal_letter ds) ≡ false
no_hexadecimal d [] all = never (d == 48)
  where
    never : (b : Bool) → (b && false) ≡ false
    never true = refl
    never false = refl
no_hexadecimal d (e ∷ ds) all =
    rw ((digits e (passes_at is_digit (d ∷ e ∷ ds) 1 all (omega arith))).x_mark) (never (d == 48))
  where
    never : (b : Bool) → (b && false) ≡ false
    never true = refl
    never false = refl

literal_digits : (ds : List ℕ) → list_all is_digit ds ≡ true → 0 < length ds
    → literal_number ds ≡ decimal_number false ds
literal_digits [] all some = absurd (omega arith)
literal_digits (d ∷ ds) all some =
    let sign = or_false (d == 43) (d == 45) (digits d (passes_at is_digit (d ∷ ds) 0 all some)).sign in
    rw (sign.0, sign.1, no_hexadecimal d ds all) refl

-- ---- texts of numbers

digits_trimmed : (ds : List ℕ) → list_all is_digit ds ≡ true → 0 < length ds → trim ds ≡ ds
digits_trimmed ds all some =
    trim_same ds (digit_no_space (get_or ds 0 0) (passes_at is_digit ds 0 all some))
    (digit_no_space (get_or ds (length ds - 1) 0) (passes_at is_digit ds (length ds - 1) all (omega arith)))

last_of : (u : ℕ) (ds : List ℕ) → 0 < length ds → get_or (u ∷ ds) (length (u ∷ ds) - 1) 0 ≡ get_or ds (length ds - 1) 0
last_of u [] h = absurd (omega arith)
last_of u (d ∷ ds) h =
    let longer : suc (suc (length ds)) - 1 ≡ suc (length ds) = omega arith in
    let shorter : suc (length ds) - 1 ≡ length ds = omega arith in
    ap (λ k. get_or (u ∷ d ∷ ds) k 0) longer ∙ ap (λ k. get_or (d ∷ ds) k 0) (sym shorter)

minus_trimmed : (ds : List ℕ) → list_all is_digit ds ≡ true → 0 < length ds → trim (45 ∷ ds) ≡ 45 ∷ ds
minus_trimmed ds all some =
    trim_same (45 ∷ ds) minus_no_space
    (ap is_space (last_of 45 ds some)
    ∙ digit_no_space (get_or ds (length ds - 1) 0) (passes_at is_digit ds (length ds - 1) all (omega arith)))

read_digits : (negative : Bool) (n : ℕ) → n ≤ 9007199254740991
    → decimal_number negative (digits_of 10 n) ≡ Some (Some (with_sign negative n))
read_digits negative n small =
    let value : decimal_from 0 (digits_of 10 n) ≡ n = digits_value (n + 1) n (omega arith) in
    decimal_digits negative (digits_of 10 n) (are_all_digits (n + 1) n) (some_digit n) (omega arith)
    ∙ ap (λ k. Some (Some (with_sign negative k))) value

not_below : (n : ℕ) → int_lt (pos n) (pos 0) ≡ false
not_below n = grind (arith, nat_tests)

pub texts_read_back : TextsReadBack
unfolding units text_number
texts_read_back None h = refl
texts_read_back (Some (pos n)) h =
    let small = small_size (pos n) h in
    let all = are_all_digits (n + 1) n in
    rw (not_below n)
    (ap literal_number (digits_trimmed (digits_of 10 n) all (some_digit n))
    ∙ literal_digits (digits_of 10 n) all (some_digit n) ∙ read_digits false n (omega arith))
texts_read_back (Some (negsuc n)) h =
    let small = small_size (negsuc n) h in
    ap literal_number (minus_trimmed (digits_of 10 (suc n)) (are_all_digits (suc n + 1) (suc n)) (some_digit (suc n)))
    ∙ read_digits true (suc n) (omega arith)

-- The bytes of units that are written one after another.
use Rattle.std.proofs.Common.{◌≡◌, ℕ, ◌+◌, ◌<◌, ◌^◌, Bool, true, false, ◌&&◌, List, [], ◌∷◌, ◌++◌, length, map}
use Rattle.std.proofs.Common.{Some, refl, sym, ap, ◌∙◌, arith, append_assoc, nat_lt}
use Rattle.std.proofs.lemmas.List.{map-append, length-append}
use Rattle.std.specs.Prelude.{if◌then◌else◌, unwrap_or, encode_utf8_all}
use Rattle.std.specs.Char.Utf16.{utf16_chars, utf16_lossy_chars, is_high_surrogate, is_low_surrogate, lone_unit_char}
use Rattle.std.specs.Char.Utf16.{surrogate_pair_char}
use Rattle.std.proofs.Common.{◌/◌, ◌%◌, cond}
use Rattle.std.proofs.lemmas.Bool.Decides.{nat_tests}
use Rattle.std.proofs.lemmas.Fmt.{decimal_by_steps}
use Rattle.std.proofs.lemmas.List.Folds.{list_all-append}
use Rattle.std.proofs.lemmas.Str.{utf16_chars-nil, utf16_chars_lone}
use Rattle.std.proofs.str.Utf16.{lone_unit_char_low}
use Rattle.std.specs.Fmt.{decimal}
use Rattle.std.specs.List.{list_all}
use lib.Dec.{ltb}
use lib.Utf8.{encode, next}
use Rattle.jl_text.specs.Encoding.{bytes_of}
use Rattle.jl_text.specs.Quoted.{quote, quoted_after}
use Rattle.jl_record.specs.Plain.{is_plain}

no_pair : (a : Bool) (b : Bool) → b ≡ false → (a && b) ≡ false
no_pair true b e = e
no_pair false b e = refl

-- a unit that is no second half of a pair begins characters of its own
chars_append : (us : List ℕ) (u : ℕ) (vs : List ℕ) → is_low_surrogate u ≡ false
    → utf16_chars (us ++ u ∷ vs) ≡ utf16_chars us ++ utf16_chars (u ∷ vs)
unfolding utf16_chars
chars_append [] u vs h = refl
chars_append (a ∷ []) u vs h =
    ap (λ b. if b then Some (surrogate_pair_char a u) ∷ utf16_chars vs else lone_unit_char a ∷ utf16_chars (u ∷ vs))
    (no_pair (is_high_surrogate a) (is_low_surrogate u) h)
chars_append (a ∷ b ∷ us) u vs h =
    by (is_high_surrogate a && is_low_surrogate b) (chars_append us u vs h) (chars_append (b ∷ us) u vs h)
  where
    by : (t : Bool) → utf16_chars (us ++ u ∷ vs) ≡ utf16_chars us ++ utf16_chars (u ∷ vs)
        → utf16_chars (b ∷ (us ++ u ∷ vs)) ≡ utf16_chars (b ∷ us) ++ utf16_chars (u ∷ vs)
        → (if t then Some (surrogate_pair_char a b) ∷ utf16_chars (us ++ u ∷ vs)
        else lone_unit_char a ∷ utf16_chars (b ∷ (us ++ u ∷ vs)))
        ≡ (if t then Some (surrogate_pair_char a b) ∷ utf16_chars us else lone_unit_char a ∷ utf16_chars (b ∷ us))
        ++ utf16_chars (u ∷ vs)
    by true p q = ap (λ cs. Some (surrogate_pair_char a b) ∷ cs) p
    by false p q = ap (λ cs. lone_unit_char a ∷ cs) q

encodes_append : (cs ds : List ℕ) → encode_utf8_all (cs ++ ds) ≡ encode_utf8_all cs ++ encode_utf8_all ds
encodes_append [] ds = refl
encodes_append (c ∷ cs) ds =
    ap (λ us. encode c ++ us) (encodes_append cs ds)
    ∙ sym (append_assoc (encode c) (encode_utf8_all cs) (encode_utf8_all ds))

pub bytes_append : (us : List ℕ) (u : ℕ) (vs : List ℕ) → is_low_surrogate u ≡ false
    → bytes_of (us ++ u ∷ vs) ≡ bytes_of us ++ bytes_of (u ∷ vs)
bytes_append us u vs h =
    ap (λ cs. encode_utf8_all (map (λ o. unwrap_or o 0xFFFD) cs)) (chars_append us u vs h)
    ∙ ap encode_utf8_all (map-append (λ o. unwrap_or o 0xFFFD) (utf16_chars us) (utf16_chars (u ∷ vs)))
    ∙ encodes_append (utf16_lossy_chars us) (utf16_lossy_chars (u ∷ vs))

-- ---- ASCII characters

low_is_first : (u : ℕ) → u < 128 → is_low_surrogate u ≡ false
low_is_first u h = grind (arith, nat_tests)

encoded : (u : ℕ) → nat_lt u 128 ≡ true → encode u ≡ u ∷ []
unfolding encode
encoded u h =
    ap (λ b. cond b (u ∷ []) (cond (ltb u 2048) ((192 + u / 64) ∷ next u ∷ []) (cond (ltb u 65536)
    ((224 + u / 4096) ∷ next (u / 64) ∷ next u ∷ [])
    ((240 + u / 262144) ∷ next (u / 4096) ∷ next (u / 64) ∷ next u ∷ [])))) h

both : (a b : Bool) → (a && b) ≡ true → (a ≡ true) × (b ≡ true)
both true b e = (refl, e)
both false b e = cc

ascii_bytes : (us : List ℕ) → list_all (λ u. nat_lt u 128) us ≡ true → bytes_of us ≡ us
ascii_bytes [] h = ap (λ cs. encode_utf8_all (map (λ o. unwrap_or o 0xFFFD) cs)) utf16_chars-nil
ascii_bytes (u ∷ us) h =
    let parts = both (nat_lt u 128) (list_all (λ u. nat_lt u 128) us) h in
    let small : u < 128 = let first = parts.0 in grind (arith, nat_tests) in
    ap (λ cs. encode_utf8_all (map (λ o. unwrap_or o 0xFFFD) cs))
    (utf16_chars_lone u us (λ pair. omega (arith, pair.0))
    ∙ ap (λ o. o ∷ utf16_chars us) (lone_unit_char_low u (omega arith)))
    ∙ ap (λ bs. bs ++ bytes_of us) (encoded u parts.0)
    ∙ ap (λ bs. u ∷ bs) (ascii_bytes us parts.1)

pub plain_more : (units more : List ℕ) → is_plain more ≡ true → bytes_of (units ++ more) ≡ bytes_of units ++ more
plain_more units [] h = absurd (cc)
plain_more units (u ∷ us) h =
    let parts = both (nat_lt u 128) (list_all (λ u. nat_lt u 128) us) h in
    let small : u < 128 = let first = parts.0 in grind (arith, nat_tests) in
    bytes_append units u us (low_is_first u small) ∙ ap (λ bs. bytes_of units ++ bs) (ascii_bytes (u ∷ us) h)

pub quote_more : (units us : List ℕ) → bytes_of (units ++ quote us) ≡ bytes_of units ++ bytes_of (quote us)
quote_more units us = bytes_append units 0x22 (quoted_after 0 us ++ 0x22 ∷ []) refl

-- ---- numbers

digit_is_plain : (d : ℕ) → d < 10 → nat_lt (48 + d) 128 ≡ true
digit_is_plain d h = grind (arith, nat_tests)

plain_digit : (d : ℕ) → d < 10 → is_plain ((48 + d) ∷ []) ≡ true
plain_digit d h = ap (λ b. b && true) (digit_is_plain d h)

plain_digits : (ds : List ℕ) (d : ℕ) → d < 10 → is_plain ds ≡ true → is_plain (ds ++ (48 + d) ∷ []) ≡ true
plain_digits [] d h e = absurd (cc)
plain_digits (u ∷ ds) d h e =
    list_all-append (λ v. nat_lt v 128) (u ∷ ds) ((48 + d) ∷ [])
    ∙ ap (λ b. b && list_all (λ v. nat_lt v 128) ((48 + d) ∷ [])) e
    ∙ plain_digit d h

pub decimal_is_plain : (n : ℕ) → n < 2 ^ 64 → is_plain (decimal n) ≡ true
decimal_is_plain = decimal_by_steps (λ n ds. is_plain ds ≡ true) plain_digit
    (λ n ds h e. plain_digits ds (n % 10) (omega arith) e)

pub nothing : bytes_of [] ≡ []
nothing = ascii_bytes [] refl

-- ---- after a line's end

pub lf_more : (us vs : List ℕ) → bytes_of ((us ++ 10 ∷ []) ++ vs) ≡ bytes_of (us ++ 10 ∷ []) ++ bytes_of vs
lf_more us vs =
    ap bytes_of (append_assoc us (10 ∷ []) vs) ∙ bytes_append us 10 vs refl
    ∙ ap (λ bs. bytes_of us ++ bs) after_lf
    ∙ sym (append_assoc (bytes_of us) (10 ∷ []) (bytes_of vs))
    ∙ ap (λ bs. bs ++ bytes_of vs) (sym (plain_more us (10 ∷ []) refl))
  where
    after_lf : bytes_of (10 ∷ vs) ≡ 10 ∷ bytes_of vs
    after_lf =
        ap (λ cs. encode_utf8_all (map (λ o. unwrap_or o 0xFFFD) cs))
        (utf16_chars_lone 10 vs (λ pair. omega (arith, pair.0))
        ∙ ap (λ o. o ∷ utf16_chars vs) (lone_unit_char_low 10 (omega arith)))
        ∙ ap (λ bs. bs ++ bytes_of vs) (encoded 10 refl)

pub ends_in_lf : (us : List ℕ) → 0 < length (bytes_of (us ++ 10 ∷ []))
ends_in_lf us = omega (arith, ap length (plain_more us (10 ∷ []) refl), length-append (bytes_of us) (10 ∷ []))

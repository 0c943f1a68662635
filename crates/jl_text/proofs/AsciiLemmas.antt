-- ASCII characters are the same in UTF-8 and in UTF-16.
use Rattle.std.proofs.Common.{◌≡◌, ℕ, ◌<◌, List, [], ◌∷◌, ◌++◌, true, false, Bool, ◌&&◌, refl, ap, sym, ◌∙◌, arith}
use Rattle.std.proofs.Common.{All}
use Rattle.std.specs.Char.{is_ascii}
use Rattle.std.specs.Char.Utf16.{utf16_lossy_chars}
use Rattle.std.specs.List.{list_all}
use Rattle.std.specs.Prelude.{encode_utf8_all}
use Rattle.std.proofs.lemmas.List.Elements.{All-cons}
use Rattle.std.proofs.lemmas.Str.{chars-IsAscii, encode_ascii, scalars-chars, IsUtf8-from_ascii}
use lib.Utf8.{scalars}
use Rattle.std.proofs.lemmas.Str.Ascii.{IsAscii-from_all}
use Rattle.std.proofs.str.Utf16.{one_unit}
use Rattle.jl_text.specs.Encoding.{encode_utf16_all, units_of, bytes_of}
use Rattle.jl_text.proofs.EncodingLemmas.{utf16_chars-encode_utf16_all}

both : (a b : Bool) → a && b ≡ true → (a ≡ true) × (b ≡ true)
both true b e = (refl, e)
both false b e = cc

small : (c : ℕ) → is_ascii c ≡ true → c < 128
small c is = grind arith

pub each_is_ascii : (xs : List ℕ) → list_all is_ascii xs ≡ true → All (λ x. x < 128) xs
each_is_ascii [] is = λ k d less. absurd (omega arith)
each_is_ascii (x ∷ xs) is =
    let parts = both (is_ascii x) (list_all is_ascii xs) is in
    All-cons (λ x. x < 128) x xs (small x parts.0) (each_is_ascii xs parts.1)

units_stay : (cs : List ℕ) → list_all is_ascii cs ≡ true → encode_utf16_all cs ≡ cs
units_stay [] is = refl
units_stay (c ∷ cs) is =
    let parts = both (is_ascii c) (list_all is_ascii cs) is in
    let less = small c parts.0 in
    ap (λ us. us ++ encode_utf16_all cs) (one_unit c (omega arith)) ∙ ap (λ us. c ∷ us) (units_stay cs parts.1)

bytes_stay : (cs : List ℕ) → list_all is_ascii cs ≡ true → encode_utf8_all cs ≡ cs
bytes_stay [] is = refl
bytes_stay (c ∷ cs) is =
    let parts = both (is_ascii c) (list_all is_ascii cs) is in
    ap (λ us. us ++ encode_utf8_all cs) (encode_ascii c (small c parts.0)) ∙ ap (λ us. c ∷ us) (bytes_stay cs parts.1)

pub ascii_units : (bytes : List ℕ) → list_all is_ascii bytes ≡ true → units_of bytes ≡ bytes
ascii_units bytes is =
    ap encode_utf16_all (chars-IsAscii bytes (IsAscii-from_all bytes (each_is_ascii bytes is))) ∙ units_stay bytes is

pub ascii_bytes : (units : List ℕ) → list_all is_ascii units ≡ true → bytes_of units ≡ units
ascii_bytes units is =
    let ascii = IsAscii-from_all units (each_is_ascii units is) in
    let valid : scalars units ≡ true =
    ap scalars (sym (chars-IsAscii units ascii)) ∙ scalars-chars units (IsUtf8-from_ascii units ascii) in
    ap encode_utf8_all
    (ap utf16_lossy_chars (sym (units_stay units is)) ∙ utf16_chars-encode_utf16_all units valid)
    ∙ bytes_stay units is

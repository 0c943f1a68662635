-- The text that is written has only ASCII characters.
use Rattle.std.proofs.Common.{◌≡◌, ℕ, zero, suc, ◌+◌, ◌/◌, ◌%◌, ◌<◌, List, [], ◌∷◌, ◌++◌, Bool, true, false, nat_lt}
use Rattle.std.proofs.Common.{replicate}
use Rattle.std.proofs.Common.{◌-◌, refl, sym, subst, arith}
use Rattle.std.specs.Prelude.{if◌then◌else◌, nat_eq}
use Rattle.std.specs.Str.{IsAscii}
use Rattle.std.proofs.lemmas.Bool.Decides.{nat_tests}
use Rattle.std.proofs.lemmas.Str.{IsAscii-append}
use Rattle.std.proofs.lemmas.Str.Ascii.{IsAscii-nil}
use Rattle.jl_srcmap.specs.Mappings.{Running, after, comma, semicolon, start, sums_on}
use Rattle.jl_srcmap.specs.Numbers.{difference, differences, digit_of, digits_of, digits_within}
use Rattle.jl_srcmap.specs.Segments.{fields}
use Rattle.jl_srcmap.specs.Written.{between, following, mappings_text, segment_text}
use Rattle.jl_srcmap.specs.declared.segment.Segment.{Segment}

ascii_cons : (c : ℕ) (cs : List ℕ) → c < 128 → IsAscii cs → IsAscii (c ∷ cs)
ascii_cons c cs l h zero = l
ascii_cons c cs l h (suc i) = h i

digit_ascii : (v : ℕ) → digit_of v < 128
unfolding digit_of
digit_ascii v = by (nat_lt v 26) refl (nat_lt v 52) refl (nat_lt v 62) refl (nat_eq v 62) where
  by : (a : Bool) → nat_lt v 26 ≡ a → (b : Bool) → nat_lt v 52 ≡ b → (c : Bool) → nat_lt v 62 ≡ c → (d : Bool)
      → (if a then v + 65 else (if b then v + 71 else (if c then v - 4 else (if d then 43 else 47)))) < 128
  by true e b f c g d = grind (arith, nat_tests)
  by false e true f c g d = grind (arith, nat_tests)
  by false e false f true g d = grind (arith, nat_tests)
  by false e false f false g true = omega arith
  by false e false f false g false = omega arith

one_digit_ascii : (v : ℕ) (cs : List ℕ) → IsAscii cs → IsAscii (digit_of v ∷ cs)
one_digit_ascii v cs h = ascii_cons (digit_of v) cs (digit_ascii v) h

digits_ascii : (most n : ℕ) → IsAscii (digits_within most n)
unfolding digits_within
digits_ascii zero n = one_digit_ascii n [] IsAscii-nil
digits_ascii (suc most) n = by (nat_lt n 32) (digits_ascii most (n / 32)) where
  by : (b : Bool) → IsAscii (digits_within most (n / 32))
      → IsAscii (if b then digit_of n ∷ [] else digit_of (32 + n % 32) ∷ digits_within most (n / 32))
  by true h = one_digit_ascii n [] IsAscii-nil
  by false h = one_digit_ascii (32 + n % 32) (digits_within most (n / 32)) h

differences_ascii : (sums fs : List ℕ) → IsAscii (differences sums fs)
differences_ascii sums [] = IsAscii-nil
differences_ascii [] (b ∷ fs) = IsAscii-nil
differences_ascii (a ∷ sums) (b ∷ fs) =
    IsAscii-append (digits_of (difference a b)) (differences sums fs) (digits_ascii 6 (difference a b))
    (differences_ascii sums fs)

lines_ascii : (n : ℕ) → IsAscii (replicate n semicolon)
lines_ascii zero = IsAscii-nil
lines_ascii (suc n) = ascii_cons semicolon (replicate n semicolon) (omega arith) (lines_ascii n)

between_ascii : (line next : ℕ) → IsAscii (between line next)
between_ascii line next = by (nat_eq next line) where
  by : (b : Bool) → IsAscii (if b then comma ∷ [] else replicate (next - line) semicolon)
  by true = ascii_cons comma [] (omega arith) IsAscii-nil
  by false = lines_ascii (next - line)

following_ascii : (r : Running) (ss : List Segment) → IsAscii (following r ss)
following_ascii r [] = IsAscii-nil
following_ascii r (s ∷ ss) =
    IsAscii-append (between r.line s.line) (segment_text r s ++ following (after r s) ss) (between_ascii r.line s.line)
    (IsAscii-append (segment_text r s) (following (after r s) ss)
    (differences_ascii (sums_on s.line r) (fields s)) (following_ascii (after r s) ss))

pub mappings_ascii : (ss : List Segment) → IsAscii (mappings_text ss)
mappings_ascii [] = IsAscii-nil
mappings_ascii (s ∷ ss) =
    IsAscii-append (replicate s.line semicolon) (segment_text start s ++ following (after start s) ss)
    (lines_ascii s.line)
    (IsAscii-append (segment_text start s) (following (after start s) ss)
    (differences_ascii (sums_on s.line start) (fields s)) (following_ascii (after start s) ss))

pub text_ascii : (text : List ℕ) (ss : List Segment) → text ≡ mappings_text ss → IsAscii text
text_ascii text ss e = subst IsAscii (sym e) (mappings_ascii ss)

pub nothing_ascii : (text : List ℕ) → text ≡ [] → IsAscii text
nothing_ascii text e = subst IsAscii (sym e) IsAscii-nil

-- Text as bytes in UTF-8 and as units in UTF-16.
use Rattle.std.specs.Prelude.{◌≡◌, ℕ, ◌<◌, ◌^◌, All, false, List, [], ◌∷◌, ◌++◌, encode_utf8_all, Result, Ok, Err}
use Rattle.std.specs.Str.{IsUtf8, chars}
use Rattle.std.specs.Char.Escape.{encode_utf16}
use Rattle.std.specs.Char.Utf16.{utf16_lossy_chars, has_unpaired_surrogate}
use Rattle.jl_text.specs.declared.encoding.Utf8Fault.{Utf8Fault}
use Rattle.jl_text.specs.declared.encoding.Utf8Fault.TheVariants.{NotUtf8, NoMemory}

-- the units of these characters in UTF-16
abbrev pub encode_utf16_all : List ℕ → List ℕ
encode_utf16_all [] = []
encode_utf16_all (c ∷ cs) = encode_utf16 c ++ encode_utf16_all cs

-- the units of a text in UTF-8
abbrev pub units_of : List ℕ → List ℕ
units_of bytes = encode_utf16_all (chars bytes)

-- the bytes of units in UTF-16, with U+FFFD for each surrogate that has no partner
abbrev pub bytes_of : List ℕ → List ℕ
bytes_of units = encode_utf8_all (utf16_lossy_chars units)

-- UTF-8 comes back from its units as it was
abbrev pub Utf8ComesBack : Type 0
Utf8ComesBack = (bytes : List ℕ) → IsUtf8 bytes → bytes_of (units_of bytes) ≡ bytes

-- units come back from their bytes as they were, where each surrogate has its partner
abbrev pub UnitsComeBack : Type 0
UnitsComeBack =
    (units : List ℕ) → All (λ u. u < 2 ^ 16) units → has_unpaired_surrogate units ≡ false
    → units_of (bytes_of units) ≡ units

-- the answer is that the bytes are not UTF-8 after this many
abbrev pub IsNotUtf8At : {T : Type 0} → Result T Utf8Fault → ℕ → Type 0
IsNotUtf8At (Ok _) at = ⊥
IsNotUtf8At (Err (NotUtf8 n)) at = n ≡ at
IsNotUtf8At (Err NoMemory) at = ⊥

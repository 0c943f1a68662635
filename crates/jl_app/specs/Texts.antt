-- What a command reads that is no program: a text of at most this many bytes, in UTF-8.
use Rattle.std.specs.Prelude.{ℕ, ◌<◌, ◌≤◌, List, length}
use Rattle.std.specs.Str.{IsUtf8}
use Rattle.std.specs.Str.Lossy.{utf8_valid_len}
use Rattle.jl_app.specs.declared.refusal.Refusal.{Refusal}
use Rattle.jl_app.specs.declared.refusal.Refusal.TheVariants as refusals

-- the bytes are a text
pub record IsTextWithin (most : ℕ) (bytes : List ℕ) : Type 0 where
  pub short : length bytes ≤ most
  pub decoded : IsUtf8 bytes

-- the bytes are no text, for this cause; the first comes only where the second may be there or not
pub data IsNoText (most : ℕ) (bytes : List ℕ) : Refusal → Type 0 where
  longer : most < length bytes → IsNoText most bytes refusals.TooLong
  -- not UTF-8; the longest prefix of the bytes that is has this many bytes
  undecoded : length bytes ≤ most → (IsUtf8 bytes → ⊥) → IsNoText most bytes (refusals.NotUtf8 (utf8_valid_len bytes))

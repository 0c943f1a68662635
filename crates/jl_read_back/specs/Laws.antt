-- The woven script, with any places, reads back from its canonical text.
use Rattle.std.specs.Prelude.{◌≡◌, ◌+◌, ◌*◌, ◌^◌, ◌<◌, ◌≤◌, All, false, ℕ, List, length}
use Rattle.std.specs.Char.Utf16.{has_unpaired_surrogate}
use Rattle.std.specs.Str.{IsUtf8}
use Rattle.jl_num.specs.Number.{largest}
use Rattle.jl_ast.specs.Height.{program_height}
use Rattle.jl_ast.specs.Tree.{Program}
use Rattle.jl_grammar.specs.Program.{Reads}
use Rattle.jl_op.specs.Chosen.{Kinds}
use Rattle.jl_op.specs.Ids.{id_count}
use Rattle.jl_print.specs.Laws.{ReadsBack}
use Rattle.jl_print.specs.Layout.{text_of}
use Rattle.jl_print.specs.WellFormed.{IsWellFormed}
use Rattle.jl_text.specs.Encoding.{bytes_of, units_of}
use Rattle.jl_text.specs.declared.span.Span.{Span}
use Rattle.jl_token.specs.Tokens.{Tokens}
use Rattle.jl_token.specs.declared.token.Token.{Token}
use Rattle.jl_read_back.specs.Woven.{IsWoven}

-- its ids are numbers of a script: a program takes two, and then its parts take theirs
abbrev pub HasIds : {S : Type 0} → Program S → Type 0
HasIds p = 3 + id_count p.body ≤ largest

-- what is woven of a well formed program is well formed
abbrev pub WovenIsWellFormed : (S T : Type 0) → Type 0
WovenIsWellFormed S T =
    (chosen : Kinds) (p : Program S) (q : Program T) → IsWellFormed p → HasIds p → IsWoven chosen p q → IsWellFormed q

-- it is at most three times as high as the program, and 4
abbrev pub WovenHeight : (S T : Type 0) → Type 0
WovenHeight S T =
    (chosen : Kinds) (p : Program S) (q : Program T) → IsWoven chosen p q
    → program_height q ≤ 3 * program_height p + 4

-- its canonical text reads back within the limit on height, and each surrogate of the text has its partner
pub record ReadsBackWithin (limit : ℕ) (q : Program Span) : Type 0 where
  pub back : ReadsBack (text_of q) limit q
  pub paired : has_unpaired_surrogate (text_of q) ≡ false

-- so it is of every program that is read of a text with fewer than 2^30 - 1 units
abbrev pub WovenReadsBack : Type 0
WovenReadsBack =
    (chosen : Kinds) (text : List ℕ) (ts : List Token) (limit within : ℕ) (p q : Program Span) → Tokens text ts
    → Reads ts limit p → length text < 1073741823 → 3 * limit + 4 ≤ within → IsWoven chosen p q
    → ReadsBackWithin within q

-- and its canonical text has at most 64 units for each unit of the text, and 64
abbrev pub WovenTextIsBounded : Type 0
WovenTextIsBounded =
    (chosen : Kinds) (text : List ℕ) (ts : List Token) (limit : ℕ) (p q : Program Span) → Tokens text ts
    → Reads ts limit p → length text < 1073741823 → IsWoven chosen p q → length (text_of q) ≤ 64 * length text + 64

-- and in UTF-8 it has at most 64 bytes for each unit of the text, and 64
abbrev pub WovenBytesAreBounded : Type 0
WovenBytesAreBounded =
    (chosen : Kinds) (text : List ℕ) (ts : List Token) (limit : ℕ) (p q : Program Span) → Tokens text ts
    → Reads ts limit p → length text < 1073741823 → IsWoven chosen p q
    → length (bytes_of (text_of q)) ≤ 64 * length text + 64

-- so it has at most 64 bytes for each byte of a script in UTF-8, and 64
abbrev pub WovenScriptIsBounded : Type 0
WovenScriptIsBounded =
    (chosen : Kinds) (bytes : List ℕ) (ts : List Token) (limit : ℕ) (p q : Program Span) → IsUtf8 bytes
    → Tokens (units_of bytes) ts → Reads ts limit p → length bytes < 1073741823 → IsWoven chosen p q
    → length (bytes_of (text_of q)) ≤ 64 * length bytes + 64

-- of a text of units of UTF-16 it has only such units
abbrev pub WovenUnitsAreSmall : Type 0
WovenUnitsAreSmall =
    (chosen : Kinds) (text : List ℕ) (ts : List Token) (limit : ℕ) (p q : Program Span) → Tokens text ts
    → Reads ts limit p → length text < 1073741823 → IsWoven chosen p q → All (λ u. u < 2 ^ 16) text
    → All (λ u. u < 2 ^ 16) (text_of q)

-- and so it is of a script in UTF-8
abbrev pub WovenScriptIsSmall : Type 0
WovenScriptIsSmall =
    (chosen : Kinds) (bytes : List ℕ) (ts : List Token) (limit : ℕ) (p q : Program Span) → IsUtf8 bytes
    → Tokens (units_of bytes) ts → Reads ts limit p → length bytes < 1073741823 → IsWoven chosen p q
    → All (λ u. u < 2 ^ 16) (text_of q)

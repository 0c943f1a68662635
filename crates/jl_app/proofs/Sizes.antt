-- Sources are small.
use Rattle.std.proofs.Common.{ℕ, ◌+◌, ◌*◌, ◌≤◌, ◌<◌, List, length, arith}
use Rattle.std.specs.Str.{IsUtf8}
use Rattle.jl_ast.specs.Tree.{Program}
use Rattle.jl_grammar.specs.Program.{Reads}
use Rattle.jl_op.proofs.Entries.{map_length}
use Rattle.jl_op.specs.IdMap.{id_map}
use Rattle.jl_read_back.proofs.Bytes.{units_within}
use Rattle.jl_simulation.specs.Plain.{HasFewIds}
use Rattle.jl_text.specs.Encoding.{units_of}
use Rattle.jl_text.specs.declared.span.Span.{Span}
use Rattle.jl_token.proofs.Whole.{few_tokens}
use Rattle.jl_token.specs.declared.token.Token.{Token}
use Rattle.jl_app.specs.Accepting.{IsAccepted, IsRead}
use Rattle.jl_app.specs.Forms.{most_bytes, most_levels}
use Rattle.jl_app.specs.declared.form.Form.{Form}
use Rattle.jl_app.specs.declared.form.Form.TheVariants as forms

-- of neither form are there more bytes than this
few_bytes : (form : Form) (n : ℕ) → n ≤ most_bytes form → n ≤ 67108928
few_bytes forms.Script n few = omega arith
few_bytes forms.WovenText n few = few

-- so the program of a source has few ids
pub few_ids : ((ts : List Token) (limit : ℕ) (p : Program Span) → Reads ts limit p
    → length (id_map p) ≤ 4 * length ts + 2) → (form : Form) (bytes : List ℕ) (p : Program Span) → IsRead form bytes p
    → HasFewIds p
few_ids law form bytes p is =
    omega (
      arith,
      map_length p,
      law is.tokens (most_levels form) p is.read,
      few_tokens (units_of bytes) is.tokens is.lexed,
      units_within bytes is.decoded,
      few_bytes form (length bytes) is.short,
    )

-- an accepted script has few tokens
pub few_accepted_tokens : (bytes : List ℕ) (p : Program Span) (is : IsAccepted bytes p) → length is.tokens < 1073741823
few_accepted_tokens bytes p is =
    omega (
      arith,
      few_tokens (units_of bytes) is.tokens is.lexed,
      units_within bytes is.decoded,
      is.short,
    )

-- and its units are fewer than those of which the lines are kept
pub few_units_of : (form : Form) (bytes : List ℕ) → IsUtf8 bytes → length bytes ≤ most_bytes form
    → length (units_of bytes) < 4294967295
few_units_of form bytes utf8 short = omega (arith, units_within bytes utf8, few_bytes form (length bytes) short)

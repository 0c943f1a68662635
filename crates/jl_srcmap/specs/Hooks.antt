-- Where the hooks of a rewritten script stand, and where that stands in the script which they tell of.
use Rattle.std.specs.Prelude.{ℕ, ◌-◌, ◌&&◌, pos, Bool, true, false, List, [], ◌∷◌, map, codes, slice_get, Option}
use Rattle.std.specs.Prelude.{Some, None, if◌then◌else◌}
use Rattle.std.specs.Str.{bytes_eq}
use Rattle.jl_op.specs.Map.{MapRow}
use Rattle.jl_text.specs.Places.{LineTable, line_col}
use Rattle.jl_token.specs.declared.punct.Punct.TheVariants as puncts
use Rattle.jl_token.specs.declared.token.Token.{Token}
use Rattle.jl_token.specs.declared.token.TokenKind.{TokenKind}
use Rattle.jl_token.specs.declared.token.TokenKind.TheVariants as kinds
use Rattle.jl_srcmap.specs.declared.segment.Segment.{Segment}

-- the name `J$` of the hooks
abbrev pub is_hooks_name : TokenKind → Bool
is_hooks_name (kinds.Name text escaped) = bytes_eq text (codes "J$")
is_hooks_name _ = false

abbrev pub is_dot : TokenKind → Bool
is_dot (kinds.Punct puncts.Dot) = true
is_dot _ = false

abbrev pub is_name : TokenKind → Bool
is_name (kinds.Name text escaped) = true
is_name _ = false

-- `(`
abbrev pub is_open : TokenKind → Bool
is_open (kinds.Punct puncts.LeftParen) = true
is_open _ = false

abbrev pub number_in : TokenKind → Option ℕ
number_in (kinds.Number (Some (pos n))) = Some n
number_in _ = None

-- the number of the hook whose call these tokens begin: `J$`, `.`, a name, `(` and the number
abbrev pub hook_number : List Token → Option ℕ
hook_number (a ∷ b ∷ c ∷ d ∷ e ∷ ts) =
    if is_hooks_name a.kind && (is_dot b.kind && (is_name c.kind && is_open d.kind)) then number_in e.kind else None
hook_number _ = None

-- the call of a hook: the place at which it begins, and its number
pub record HookCall : Type 0 where
  pub at : ℕ
  pub number : ℕ

abbrev pub with_call : ℕ → Option ℕ → List HookCall → List HookCall
with_call at None calls = calls
with_call at (Some n) calls = record { at = at; number = n } ∷ calls

-- the calls of hooks among these tokens, in order
abbrev pub hook_calls : List Token → List HookCall
hook_calls [] = []
hook_calls (t ∷ ts) = with_call t.span.from (hook_number (t ∷ ts)) (hook_calls ts)

-- where the part of the script begins that does the operation with this number, and 0 where there is none
abbrev pub row_begin : Option MapRow → ℕ
row_begin None = 0
row_begin (Some row) = row.1.from

abbrev pub begin_of : List MapRow → ℕ → ℕ
begin_of rows number = row_begin (slice_get rows (number - 1))

-- the segment of a call: its line and its column in the rewritten script, and those in the script, which is the only
-- source, of the part that does the operation
abbrev pub call_segment : (woven : LineTable) → List MapRow → (lines : LineTable) → HookCall → Segment
call_segment woven rows lines call =
    let generated = line_col woven call.at in
    let original = line_col lines (begin_of rows call.number) in
    record {
      line = generated.0 - 1;
      column = generated.1 - 1;
      origin = Some (record
          { source = 0; line = original.0 - 1; column = original.1 - 1; name = None });
    }

-- the segments of a rewritten script with these tokens
abbrev pub segments_of : (woven : LineTable) → List MapRow → (lines : LineTable) → List Token → List Segment
segments_of woven rows lines ts = map (call_segment woven rows lines) (hook_calls ts)

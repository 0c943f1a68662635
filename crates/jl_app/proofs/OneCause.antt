-- Bytes are refused for one cause, but for the place of a text that is not read.
use Rattle.std.proofs.Common.{◌≡◌, ℕ, ◌<◌, ◌≤◌, List, Some, length, sym, ◌∙◌, ap, subst, arith}
use Rattle.std.specs.Str.{IsUtf8}
use Rattle.std.specs.Str.Lossy.{utf8_valid_len}
use Rattle.jl_ast.specs.Tree.{Program}
use Rattle.jl_text.specs.Encoding.{units_of}
use Rattle.jl_text.specs.declared.span.Span.{Span}
use Rattle.jl_token.proofs.Whole.{bad_place_is_unique, never_both, tokens_are_unique}
use Rattle.jl_token.specs.declared.token.Token.{Token}
use Rattle.jl_token.specs.declared.token.BadKind.{BadKind}
use Rattle.jl_token.specs.Tokens.{BadAt}
use Rattle.jl_grammar.proofs.One.{one_reading}
use Rattle.jl_grammar.specs.Program.{Reads}
use Rattle.jl_scope.specs.EarlyError.{EarlyError, first_early_error, early, left_out, reserved_name}
use Rattle.jl_app.specs.Accepting.{IsText, HasTokens, IsProgram}
use Rattle.jl_app.specs.Forms.{most_bytes, most_levels}
use Rattle.jl_app.specs.Refusals.{IsRefused, position_in, too_long, not_utf8, bad_input, unreadable, early_rule}
use Rattle.jl_app.specs.Refusals.{left_out_name, hooks_name}
use Rattle.jl_app.specs.declared.form.Form.{Form}
use Rattle.jl_app.specs.declared.position.Position.{Position}
use Rattle.jl_app.specs.declared.refusal.Refusal.{Refusal}
use Rattle.jl_app.specs.declared.refusal.Refusal.TheVariants as refusals

pub data AreOneCause : Refusal → Refusal → Type 0 where
  same_cause : (c : Refusal) → AreOneCause c c
  both_unread : (here there : Position) → AreOneCause (refusals.Unreadable here) (refusals.Unreadable there)

module _ (form : Form) (bytes : List ℕ) where
  -- the cause of an early error
  abbrev cause_of : EarlyError → Refusal
  cause_of (early rule s) = refusals.Early rule (position_in bytes s.from)
  cause_of (left_out name s) = refusals.LeftOut name (position_in bytes s.from)
  cause_of (reserved_name s) = refusals.ReservedName (position_in bytes s.from)

  -- how far the bytes came
  data Stage : Refusal → Type 0 where
    long : most_bytes form < length bytes → Stage refusals.TooLong
    undecoded : length bytes ≤ most_bytes form → (IsUtf8 bytes → ⊥) → Stage (refusals.NotUtf8 (utf8_valid_len bytes))
    unlexed : (at : ℕ) (kind : BadKind) → IsText form bytes → BadAt (units_of bytes) at kind
        → Stage (refusals.BadInput kind (position_in bytes at))
    unread : (ts : List Token) (place : Position) → HasTokens form bytes ts
        → ((p : Program Span) → Reads ts (most_levels form) p → ⊥) → Stage (refusals.Unreadable place)
    unsound : (p : Program Span) (e : EarlyError) → IsProgram form bytes p → first_early_error p ≡ Some e
        → Stage (cause_of e)

  stage_of : (c : Refusal) → IsRefused form bytes c → Stage c
  stage_of _ (too_long more) = long more
  stage_of _ (not_utf8 short bad) = undecoded short bad
  stage_of _ (bad_input at kind text bad) = unlexed at kind text bad
  stage_of _ (unreadable ts at has none place) = unread ts (position_in bytes at) has none
  stage_of _ (early_rule p rule s read e) = unsound p (early rule s) read e
  stage_of _ (left_out_name p name s read e) = unsound p (left_out name s) read e
  stage_of _ (hooks_name p s may read e) = unsound p (reserved_name s) read e

  same_tokens : (ts us : List Token) → HasTokens form bytes ts → HasTokens form bytes us → ts ≡ us
  same_tokens ts us a b = tokens_are_unique (units_of bytes) ts us a.lexed b.lexed

  same_program : (p q : Program Span) → IsProgram form bytes p → IsProgram form bytes q → p ≡ q
  same_program p q a b =
      one_reading b.tokens (most_levels form) p q
      (subst (λ ts. Reads ts (most_levels form) p) (same_tokens a.tokens b.tokens a.has b.has) a.read) b.read

  never_read : (ts : List Token) → HasTokens form bytes ts
      → ((p : Program Span) → Reads ts (most_levels form) p → ⊥) → (p : Program Span) → IsProgram form bytes p → ⊥
  never_read ts has none p is =
      none p (subst (λ us. Reads us (most_levels form) p) (same_tokens is.tokens ts is.has has) is.read)

  same_error : (p q : Program Span) (e f : EarlyError) → IsProgram form bytes p → IsProgram form bytes q
      → first_early_error p ≡ Some e → first_early_error q ≡ Some f → e ≡ f
  same_error p q e f a b is is' =
      let both : Some e ≡ Some f = sym is ∙ ap first_early_error (same_program p q a b) ∙ is' in cc

  same_place : (i j : ℕ) (k l : BadKind) → BadAt (units_of bytes) i k → BadAt (units_of bytes) j l
      → AreOneCause (refusals.BadInput k (position_in bytes i)) (refusals.BadInput l (position_in bytes j))
  same_place i j k l a b =
      let both = bad_place_is_unique (units_of bytes) i j k l a b in
      subst (λ n. AreOneCause (refusals.BadInput k (position_in bytes i)) (refusals.BadInput l (position_in bytes n)))
      both.0
      (subst (λ m. AreOneCause (refusals.BadInput k (position_in bytes i)) (refusals.BadInput m (position_in bytes i)))
      both.1 (same_cause (refusals.BadInput k (position_in bytes i))))

  one_stage : (c d : Refusal) → Stage c → Stage d → AreOneCause c d
  one_stage _ _ (long a) (long b) = same_cause refusals.TooLong
  one_stage _ _ (long a) (undecoded short bad) = absurd (omega arith)
  one_stage _ _ (long a) (unlexed at kind text bad) = absurd (omega (arith, text.short))
  one_stage _ _ (long a) (unread ts place has none) = absurd (omega (arith, has.text.short))
  one_stage _ _ (long a) (unsound p e read is) = absurd (omega (arith, read.has.text.short))
  one_stage _ _ (undecoded short bad) (long b) = absurd (omega arith)
  one_stage _ _ (undecoded short bad) (undecoded short' bad') = same_cause (refusals.NotUtf8 (utf8_valid_len bytes))
  one_stage _ _ (undecoded short bad) (unlexed at kind text fault) = absurd (bad text.decoded)
  one_stage _ _ (undecoded short bad) (unread ts place has none) = absurd (bad has.text.decoded)
  one_stage _ _ (undecoded short bad) (unsound p e read is) = absurd (bad read.has.text.decoded)
  one_stage _ _ (unlexed at kind text fault) (long b) = absurd (omega (arith, text.short))
  one_stage _ _ (unlexed at kind text fault) (undecoded short bad) = absurd (bad text.decoded)
  one_stage _ _ (unlexed at kind text fault) (unlexed at' kind' text' fault') =
      same_place at at' kind kind' fault fault'
  one_stage _ _ (unlexed at kind text fault) (unread ts place has none) =
      absurd (never_both (units_of bytes) ts at kind has.lexed fault)
  one_stage _ _ (unlexed at kind text fault) (unsound p e read is) =
      absurd (never_both (units_of bytes) read.tokens at kind read.has.lexed fault)
  one_stage _ _ (unread ts place has none) (long b) = absurd (omega (arith, has.text.short))
  one_stage _ _ (unread ts place has none) (undecoded short bad) = absurd (bad has.text.decoded)
  one_stage _ _ (unread ts place has none) (unlexed at kind text fault) =
      absurd (never_both (units_of bytes) ts at kind has.lexed fault)
  one_stage _ _ (unread ts place has none) (unread us there has' none') = both_unread place there
  one_stage _ _ (unread ts place has none) (unsound p e read is) = absurd (never_read ts has none p read)
  one_stage _ _ (unsound p e read is) (long b) = absurd (omega (arith, read.has.text.short))
  one_stage _ _ (unsound p e read is) (undecoded short bad) = absurd (bad read.has.text.decoded)
  one_stage _ _ (unsound p e read is) (unlexed at kind text fault) =
      absurd (never_both (units_of bytes) read.tokens at kind read.has.lexed fault)
  one_stage _ _ (unsound p e read is) (unread ts place has none) = absurd (never_read ts has none p read)
  one_stage _ _ (unsound p e read is) (unsound q f read' is') =
      subst (λ g. AreOneCause (cause_of e) (cause_of g)) (same_error p q e f read read' is is')
      (same_cause (cause_of e))

  pub one_cause : (c d : Refusal) → IsRefused form bytes c → IsRefused form bytes d → AreOneCause c d
  one_cause c d a b = one_stage c d (stage_of c a) (stage_of d b)

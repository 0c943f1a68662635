-- What the code's refusals say of the bytes; and no bytes are both read as a sound program and refused.
use Rattle.std.proofs.Common.{◌≡◌, ℕ, ◌≤◌, ◌⊎◌, inl, inr, Bool, true, false, List, Option, Some, None}
use Rattle.std.proofs.Common.{length, refl, sym, ap, ◌∙◌, subst, arith}
use Rattle.std.proofs.lemmas.Bool.{cases_lt}
use Rattle.std.proofs.lemmas.Str.{IsUtf8-from_is_utf8, is_utf8-from_IsUtf8}
use Rattle.std.specs.Prelude.{Result, Ok, Err, IfErr, IsErrAnd}
use Rattle.std.specs.Str.{is_utf8}
use Rattle.std.specs.Str.Lossy.{utf8_valid_len}
use Rattle.jl_ast.specs.Tree.{Program}
use Rattle.jl_text.specs.Encoding.{units_of}
use Rattle.jl_text.specs.declared.span.Span.{Span}
use Rattle.jl_token.proofs.Whole.{tokens_are_unique, never_both as never_both_tokens, tokens_or_bad}
use Rattle.jl_token.specs.declared.token.Token.{Token}
use Rattle.jl_token.specs.declared.token.BadKind.{BadKind}
use Rattle.jl_token.specs.Tokens.{BadAt, Tokens}
use Rattle.jl_parse.specs.Refusals.{IsPlace, at_end}
use Rattle.jl_scope.specs.declared.rules.EarlyRule.{EarlyRule}
use Rattle.jl_grammar.proofs.One.{one_reading, reader_tells}
use Rattle.jl_grammar.specs.Program.{Reads, last_end}
use Rattle.jl_grammar.specs.ReaderLevels.{program_at}
use Rattle.jl_scope.specs.EarlyError.{EarlyError, first_early_error, early, left_out, reserved_name}
use Rattle.jl_app.specs.declared.accept.Unaccepted.{Unaccepted}
use Rattle.jl_app.specs.declared.refusal.Refusal.{Refusal}
use Rattle.jl_app.specs.declared.refusal.Refusal.TheVariants as refusals
use Rattle.jl_app.specs.declared.position.Position.{Position}
use Rattle.jl_app.specs.Positions.{position}
use Rattle.jl_app.specs.Accepting.{IsRead, IsText, HasTokens, IsProgram, OneReading}
use Rattle.jl_app.specs.Forms.{is_sound, may_name_hooks, most_bytes, most_levels}
use Rattle.jl_app.specs.declared.form.Form.{Form}
use Rattle.jl_app.specs.Refusals.{NeverBoth, AcceptedOrRefused, IsRefused, position_in, too_long, not_utf8}
use Rattle.jl_app.specs.Refusals.{bad_input, unreadable, early_rule, left_out_name, hooks_name}
use Rattle.jl_app.specs.inner.Refused.{Refuses}

-- what refuses bytes refuses them where it is passed on
pub passed_on : {T : Type 0} (form : Form) (bytes : List ℕ) (why : Unaccepted) (r : Result T Unaccepted)
    → IsErrAnd r (λ e. e ≡ why) → Refuses form bytes why → IfErr r (Refuses form bytes)
passed_on form bytes why (Ok x) is refuses = tt
passed_on form bytes why (Err e) is refuses = subst (λ x. Refuses form bytes x) (sym is) refuses

-- From what was answered to the cause, where the units are those of the bytes.

module _ (form : Form) (bytes units : List ℕ) where
  pub bad_input_at : (at : ℕ) (kind : BadKind) (place : Position) → IsText form bytes → units ≡ units_of bytes
      → BadAt units at kind → place ≡ position units at → IsRefused form bytes (refusals.BadInput kind place)
  bad_input_at at kind place text e bad is =
      subst (λ x. IsRefused form bytes (refusals.BadInput kind x)) (sym (is ∙ ap (λ us. position us at) e))
      (bad_input at kind text (subst (λ us. BadAt us at kind) e bad))

  pub unreadable_at : (ts : List Token) (at : ℕ) (place : Position) → HasTokens form bytes ts → units ≡ units_of bytes
      → ((p : Program Span) → Reads ts (most_levels form) p → ⊥) → IsPlace ts at → place ≡ position units at
      → IsRefused form bytes (refusals.Unreadable place)
  unreadable_at ts at place has e none there is =
      subst (λ x. IsRefused form bytes (refusals.Unreadable x)) (sym (is ∙ ap (λ us. position us at) e))
      (unreadable ts at has none there)

  pub early_at : (p : Program Span) (rule : EarlyRule) (s : Span) (place : Position) → IsProgram form bytes p
      → units ≡ units_of bytes → first_early_error p ≡ Some (early rule s) → place ≡ position units s.from
      → IsRefused form bytes (refusals.Early rule place)
  early_at p rule s place read e broken is =
      subst (λ x. IsRefused form bytes (refusals.Early rule x)) (sym (is ∙ ap (λ us. position us s.from) e))
      (early_rule p rule s read broken)

  pub left_out_at : (p : Program Span) (name : List ℕ) (s : Span) (place : Position) → IsProgram form bytes p
      → units ≡ units_of bytes → first_early_error p ≡ Some (left_out name s) → place ≡ position units s.from
      → IsRefused form bytes (refusals.LeftOut name place)
  left_out_at p name s place read e broken is =
      subst (λ x. IsRefused form bytes (refusals.LeftOut name x)) (sym (is ∙ ap (λ us. position us s.from) e))
      (left_out_name p name s read broken)

  pub hooks_name_at : (p : Program Span) (s : Span) (place : Position) → may_name_hooks form ≡ false
      → IsProgram form bytes p → units ≡ units_of bytes → first_early_error p ≡ Some (reserved_name s)
      → place ≡ position units s.from → IsRefused form bytes (refusals.ReservedName place)
  hooks_name_at p s place may read e broken is =
      subst (λ x. IsRefused form bytes (refusals.ReservedName x)) (sym (is ∙ ap (λ us. position us s.from) e))
      (hooks_name p s may read broken)

-- a text with these tokens, which read as this sound program
pub is_read : (form : Form) (bytes units : List ℕ) (tokens items : List Token) (p : Program Span) → IsText form bytes
    → units ≡ units_of bytes → Tokens units tokens → items ≡ tokens → Reads items (most_levels form) p
    → is_sound form (first_early_error p) ≡ true → IsRead form bytes p
is_read form bytes units tokens items p text same lexed are read sound = record {
  short = text.short;
  decoded = text.decoded;
  tokens = tokens;
  lexed = subst (λ us. Tokens us tokens) same lexed;
  read = subst (λ ts. Reads ts (most_levels form) p) are read;
  sound = sound;
}

-- One reading.

module _ (form : Form) (bytes : List ℕ) where
  -- bytes that are read as a sound program read as no other
  same_program : (p q : Program Span) → IsRead form bytes p → IsProgram form bytes q → p ≡ q
  same_program p q a b =
      let e = tokens_are_unique (units_of bytes) a.tokens b.tokens a.lexed b.has.lexed in
      one_reading b.tokens (most_levels form) p q (subst (λ ts. Reads ts (most_levels form) p) e a.read) b.read

  program_of : (p : Program Span) → IsRead form bytes p → IsProgram form bytes p
  program_of p a = record {
    tokens = a.tokens;
    has = record { text = record { short = a.short; decoded = a.decoded }; lexed = a.lexed };
    read = a.read;
  }

pub one_read : OneReading
one_read form bytes p q a b = same_program form bytes p q a (program_of form bytes q b)

-- Never both.

unsound : (form : Form) (o : Option EarlyError) (b : EarlyError) → is_sound form o ≡ true → o ≡ Some b
    → is_sound form (Some b) ≡ false → ⊥
unsound form o b sound is not =
    let both : true ≡ false = sym sound ∙ ap (is_sound form) is ∙ not in cc

module _ (form : Form) (bytes : List ℕ) where
  broken : (p q : Program Span) (b : EarlyError) → IsRead form bytes p → IsProgram form bytes q
      → first_early_error q ≡ Some b → is_sound form (Some b) ≡ false → ⊥
  broken p q b a read e not =
      unsound form (first_early_error p) b a.sound (ap first_early_error (same_program form bytes p q a read) ∙ e) not

pub never_both : NeverBoth
never_both form bytes p _ a (too_long long) = omega (arith, a.short)
never_both form bytes p _ a (not_utf8 short bad) = bad a.decoded
never_both form bytes p _ a (bad_input at kind text bad) =
    never_both_tokens (units_of bytes) a.tokens at kind a.lexed bad
never_both form bytes p _ a (unreadable ts at has none place) =
    none p (subst (λ us. Reads us (most_levels form) p)
    (tokens_are_unique (units_of bytes) a.tokens ts a.lexed has.lexed) a.read)
never_both form bytes p _ a (early_rule q rule s read e) = broken form bytes p q (early rule s) a read e refl
never_both form bytes p _ a (left_out_name q name s read e) = broken form bytes p q (left_out name s) a read e refl
never_both form bytes p _ a (hooks_name q s may read e) = broken form bytes p q (reserved_name s) a read e may

-- One of the two.

module _ (form : Form) (bytes : List ℕ) where
  abbrev Answer : Type 0
  Answer = ((p : Program Span) × IsRead form bytes p) ⊎ ((cause : Refusal) × IsRefused form bytes cause)

  sound_program : (ts : List Token) (p : Program Span) → HasTokens form bytes ts → Reads ts (most_levels form) p
      → is_sound form (first_early_error p) ≡ true → Answer
  sound_program ts p has read e =
      inl (
        p,
        record {
          short = has.text.short;
          decoded = has.text.decoded;
          tokens = ts;
          lexed = has.lexed;
          read = read;
          sound = e;
        },
      )

  by_hooks_name : (ts : List Token) (p : Program Span) (s : Span) (may : Bool) → HasTokens form bytes ts
      → Reads ts (most_levels form) p → first_early_error p ≡ Some (reserved_name s) → may_name_hooks form ≡ may
      → Answer
  by_hooks_name ts p s true has read e m = sound_program ts p has read (ap (is_sound form) e ∙ m)
  by_hooks_name ts p s false has read e m =
      inr (
        refusals.ReservedName (position_in bytes s.from),
        hooks_name p s m (record { tokens = ts; has = has; read = read }) e,
      )

  by_early_error : (ts : List Token) (p : Program Span) (o : Option EarlyError) → HasTokens form bytes ts
      → Reads ts (most_levels form) p → first_early_error p ≡ o → Answer
  by_early_error ts p None has read e = sound_program ts p has read (ap (is_sound form) e)
  by_early_error ts p (Some (early rule s)) has read e =
      inr (
        refusals.Early rule (position_in bytes s.from),
        early_rule p rule s (record { tokens = ts; has = has; read = read }) e,
      )
  by_early_error ts p (Some (left_out name s)) has read e =
      inr (
        refusals.LeftOut name (position_in bytes s.from),
        left_out_name p name s (record { tokens = ts; has = has; read = read }) e,
      )
  by_early_error ts p (Some (reserved_name s)) has read e = by_hooks_name ts p s (may_name_hooks form) has read e refl

  by_program : (ts : List Token) (o : Option (Program Span)) → HasTokens form bytes ts
      → program_at ts (most_levels form) ≡ o → Answer
  by_program ts None has e =
      inr (
        refusals.Unreadable (position_in bytes (last_end ts)),
        unreadable ts (last_end ts) has (λ p read. let both : None ≡ Some p = sym e
            ∙ (reader_tells ts (most_levels form) p).1 read in cc) at_end,
      )
  by_program ts (Some p) has e =
      by_early_error ts p (first_early_error p) has ((reader_tells ts (most_levels form) p).0 e) refl

  by_tokens : IsText form bytes → Answer
  by_tokens text =
      elim (tokens_or_bad (units_of bytes)) [
        | inl found ↦ by_program found.0 (program_at found.0 (most_levels form))
            (record { text = text; lexed = found.1 }) refl
        | inr bad ↦ inr (refusals.BadInput bad.1 (position_in bytes bad.0), bad_input bad.0 bad.1 text bad.2)
      ]

  by_utf8 : (b : Bool) → length bytes ≤ most_bytes form → is_utf8 bytes ≡ b → Answer
  by_utf8 true short e = by_tokens (record { short = short; decoded = IsUtf8-from_is_utf8 bytes e })
  by_utf8 false short e =
      inr (
        refusals.NotUtf8 (utf8_valid_len bytes),
        not_utf8 short (λ utf8. let both : false ≡ true = sym e ∙ is_utf8-from_IsUtf8 bytes utf8 in cc),
      )

pub accepted_or_refused : AcceptedOrRefused
accepted_or_refused form bytes =
    elim (cases_lt (most_bytes form) (length bytes)) [
      | inl long ↦ inr (refusals.TooLong, too_long long)
      | inr short ↦ by_utf8 form bytes (is_utf8 bytes) short refl
    ]

-- The text of the woven script is short enough to be read back, and reads back as the woven script.
use Rattle.std.proofs.Common.{◌≡◌, ◌∙◌, ◌<◌, ◌≤◌, ◌^◌, ap, sym, subst, refl, arith, length, true, false, ℕ, List}
use Rattle.std.proofs.Common.{Option, None, Some}
use Rattle.std.specs.Char.Utf16.{has_unpaired_surrogate}
use Rattle.std.specs.Prelude.{All}
use Rattle.jl_ast.specs.Spans.{without_spans}
use Rattle.jl_ast.specs.Tree.{Program}
use Rattle.jl_grammar.specs.Laws.{OneReading}
use Rattle.jl_grammar.specs.Program.{Reads}
use Rattle.jl_op.specs.Chosen.{Kinds}
use Rattle.jl_print.proofs.WithoutPlaces.{same_text}
use Rattle.jl_print.specs.Layout.{text_of}
use Rattle.jl_read_back.specs.EarlyErrors.{FirstIsReservedName, IsReservedName}
use Rattle.jl_read_back.proofs.Bytes.{units_within}
use Rattle.jl_read_back.specs.Laws.{WovenReadsBack, WovenScriptIsBounded, WovenScriptIsSmall, WovenTextIsBounded}
use Rattle.jl_scope.specs.EarlyError.{first_early_error}
use Rattle.jl_scope.specs.Kinds.{early, left_out, reserved_name, EarlyError}
use Rattle.jl_simulation.specs.Weaving.{woven_program}
use Rattle.jl_text.specs.Encoding.{bytes_of, units_of}
use Rattle.jl_text.specs.declared.span.Span.{Span}
use Rattle.jl_token.proofs.Whole.{tokens_are_unique}
use Rattle.jl_token.specs.Tokens.{Tokens}
use Rattle.jl_app.specs.Accepting.{IsAccepted}
use Rattle.jl_app.specs.ReadBack.{may_run}
use Rattle.jl_app.specs.WovenText.{woven_text}
use Rattle.jl_app.specs.inner.Woven.{ReadsBackAsWoven}
use Rattle.jl_app.proofs.Legal.{nothing_wrong}
use Rattle.jl_app.proofs.Placed.{with_places}

-- where only the name of the hooks is wrong, a program may run
name_may : (o : Option EarlyError) → IsReservedName o → may_run o ≡ true
name_may None is = refl
name_may (Some (early rule at)) is = absurd is
name_may (Some (left_out x at)) is = absurd is
name_may (Some (reserved_name at)) is = refl

-- the woven script with some places has the text of the woven script
placed_text : (kinds : Kinds) (p : Program Span)
    → text_of (with_places (woven_program kinds p)).0 ≡ woven_text kinds p
placed_text kinds p =
    let placed = with_places (woven_program kinds p) in
    sym (same_text placed.0) ∙ ap (λ (w : Program (Unit {0})). text_of w) placed.1

-- which is short enough to be read back
fits : WovenTextIsBounded → (kinds : Kinds) (bytes : List ℕ) (p : Program Span) → IsAccepted bytes p
    → length (woven_text kinds p) ≤ 67108928
fits bounded kinds bytes p is =
    let placed = with_places (woven_program kinds p) in
    let within = units_within bytes is.decoded in
    let few = is.short in
    omega (
      arith,
      bounded kinds (units_of bytes) is.tokens 200 p placed.0 is.lexed is.read (omega arith) placed.1,
      ap length (placed_text kinds p),
      within,
      few,
    )

-- and its bytes are no more than `exec` reads
few_bytes : WovenScriptIsBounded → (kinds : Kinds) (bytes : List ℕ) (p : Program Span) → IsAccepted bytes p
    → length (bytes_of (woven_text kinds p)) ≤ 67108928
few_bytes bounded kinds bytes p is =
    let placed = with_places (woven_program kinds p) in
    let few = is.short in
    omega (
      arith,
      bounded kinds bytes is.tokens 200 p placed.0 is.decoded is.lexed is.read (omega arith) placed.1,
      ap (λ t. length (bytes_of t)) (placed_text kinds p),
      few,
    )

-- which are units of UTF-16
small : WovenScriptIsSmall → (kinds : Kinds) (bytes : List ℕ) (p : Program Span) → IsAccepted bytes p
    → All (λ u. u < 2 ^ 16) (woven_text kinds p)
small law kinds bytes p is =
    let placed = with_places (woven_program kinds p) in
    let few = is.short in
    subst (λ t. All (λ u. u < 2 ^ 16) t) (placed_text kinds p)
    (law kinds bytes is.tokens 200 p placed.0 is.decoded is.lexed is.read (omega arith) placed.1)

pub back_to_woven : WovenReadsBack → WovenTextIsBounded → WovenScriptIsBounded → WovenScriptIsSmall
    → FirstIsReservedName → OneReading → (kinds : Kinds)
    (bytes : List ℕ) (p : Program Span) → IsAccepted bytes p → ReadsBackAsWoven kinds p
back_to_woven reads bounded bytes_bounded units_small keeps one kinds bytes p is =
    let placed = with_places (woven_program kinds p) in
    let within = units_within bytes is.decoded in
    let few = is.short in
    let printed = reads kinds (units_of bytes) is.tokens 200 1000 p placed.0 is.lexed is.read (omega arith)
    (omega arith)
    placed.1 in
    let back = printed.back in
    let text = placed_text kinds p in
    let lexed : Tokens (woven_text kinds p) back.tokens = subst (λ t. Tokens t back.tokens) text back.lexed in
    record {
      program = back.program;
      read = record {
        short = fits bounded kinds bytes p is;
        tokens = back.tokens;
        lexed = lexed;
        read = back.read;
        sound = name_may (first_early_error back.program)
            (keeps kinds p back.program (nothing_wrong bytes p is) (back.same ∙ placed.1));
      };
      same = λ q read.
          let tokens = tokens_are_unique (woven_text kinds p) read.tokens back.tokens read.lexed lexed in
          let program = one back.tokens 1000 q back.program
          (subst (λ ts. Reads ts 1000 q) tokens read.read) back.read in
          ap (λ (r : Program Span). without_spans r) program ∙ back.same ∙ placed.1;
      few_bytes = few_bytes bytes_bounded kinds bytes p is;
      small = small units_small kinds bytes p is;
      paired = subst (λ t. has_unpaired_surrogate t ≡ false) text printed.paired;
    }

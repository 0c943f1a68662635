use Rattle.std.proofs.Common.{ap, length, arith, subst}
use Rattle.jl_ast.specs.View.{view}
use Rattle.jl_grammar.specs.Program.{Reads}
use Rattle.jl_token.proofs.Whole.{few_tokens}
use Rattle.jl_app.specs.Forms.{most_levels}
use Rattle.jl_app.proofs.Refusing.{is_read, passed_on}
use Rattle.jl_app.proofs.Sizes.{few_ids, few_units_of}
use Rattle.jl_app.proofs.accept.accept.Goals as goal

pub parse_tokens-requires : goal.parse_tokens-requires
parse_tokens-requires c =
    let text = c.in_ok-source.ensures.text in
    omega (
      arith,
      few_tokens c.in_ok-source.source c.in_ok-tokens.tokens c.in_ok-tokens.ensures.tokens,
      few_units_of c.args.form c.args.bytes.now text.0.decoded text.0.short,
      ap length text.1,
      ap length c.items.ensures,
    )

pub returns-in_err-tokens-clause-refused : goal.returns-in_err-tokens-clause-refused
returns-in_err-tokens-clause-refused c =
    let text = c.in_ok-source.ensures.text in
    passed_on c.args.form c.args.bytes.now c.in_err-tokens.field-0.0 c.from_residual-in_err-tokens.result
    c.from_residual-in_err-tokens.ensures.1
    (c.in_err-tokens.ensures.refused c.args.form c.args.bytes.now text.0 text.1)

pub returns-clause-accepted : goal.returns-clause-accepted
returns-clause-accepted c =
    let text = c.in_ok-source.ensures.text in (
      is_read c.args.form c.args.bytes.now c.in_ok-source.source c.in_ok-tokens.tokens c.items.result.now
          (view c.in_ok-program.program) text.0 text.1 c.in_ok-tokens.ensures.tokens c.items.ensures
          c.in_ok-program.ensures.read c.in_ok-check_early_errors.ensures.sound,
      text.1,
    )

pub returns-clause-few : goal.returns-clause-few
returns-clause-few c =
    let text = c.in_ok-source.ensures.text in
    few_ids c.few_ids.ensures c.args.form c.args.bytes.now (view c.in_ok-program.program)
    (is_read c.args.form c.args.bytes.now c.in_ok-source.source c.in_ok-tokens.tokens c.items.result.now
    (view c.in_ok-program.program) text.0 text.1 c.in_ok-tokens.ensures.tokens c.items.ensures
    c.in_ok-program.ensures.read c.in_ok-check_early_errors.ensures.sound)

pub returns-clause-places : goal.returns-clause-places
returns-clause-places c =
    let p = view c.in_ok-program.program in
    let levels = most_levels c.args.form in
    c.rows_lie_in_the_text.ensures.begins c.in_ok-source.source c.in_ok-tokens.tokens levels p
    c.in_ok-tokens.ensures.tokens (subst (λ ts. Reads ts levels p) c.items.ensures c.in_ok-program.ensures.read)

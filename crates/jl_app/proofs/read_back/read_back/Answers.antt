use Rattle.std.proofs.Common.{◌∙◌, ap, arith, length, rules, subst, sym}
use Rattle.jl_ast.specs.View.{view}
use Rattle.jl_grammar.specs.Program.{Reads}
use Rattle.jl_token.proofs.Whole.{few_tokens}
use Rattle.jl_app.proofs.Answering.{both_hold}
use Rattle.jl_app.proofs.read_back.read_back.Goals as goal

pub returns-in_err-tokens-clause-only : goal.returns-in_err-tokens-clause-only
returns-in_err-tokens-clause-only c = λ p read.
    let e = c.in_err-tokens.ensures.only read.tokens read.lexed in search (rules, e)

pub program_of-requires : goal.program_of-requires
program_of-requires c =
    omega (
      arith,
      few_tokens c.args.text.now c.in_ok-tokens.tokens c.in_ok-tokens.ensures.tokens,
      ap length c.items.ensures,
      c.if-text-gt-MOST_WOVEN_BYTES.false,
    )

pub returns-clause-read : goal.returns-clause-read
returns-clause-read c =
    both_hold c.program_of.result _ _ _
    (λ p read sound. record {
      short = c.if-text-gt-MOST_WOVEN_BYTES.false;
      tokens = c.in_ok-tokens.tokens;
      lexed = c.in_ok-tokens.ensures.tokens;
      read = subst (λ ts. Reads ts 1000 (view p)) c.items.ensures read;
      sound = sound;
    })
    c.program_of.ensures.read c.program_of.ensures.sound

pub returns-clause-only : goal.returns-clause-only
returns-clause-only c = λ p read.
    let same = c.in_ok-tokens.ensures.only read.tokens read.lexed in
    c.program_of.ensures.only p (subst (λ ts. Reads ts 1000 p) (sym (c.items.ensures ∙ same)) read.read) read.sound

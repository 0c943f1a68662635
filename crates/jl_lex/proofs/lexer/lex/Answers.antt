use Rattle.jl_lex.proofs.Reading.{only_these_tokens, only_there_tokens}
use Rattle.jl_lex.proofs.lexer.lex.Goals as goal

pub returns-clause-only_these : goal.returns-clause-only_these
returns-clause-only_these c =
    only_these_tokens c.args.units.now c.tokens_of.result c.tokens_of.ensures.tokens c.tokens_of.ensures.refused

pub returns-clause-only_there : goal.returns-clause-only_there
returns-clause-only_there c =
    only_there_tokens c.args.units.now c.tokens_of.result c.tokens_of.ensures.tokens c.tokens_of.ensures.refused

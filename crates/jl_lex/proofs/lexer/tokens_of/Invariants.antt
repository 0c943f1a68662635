use Rattle.std.proofs.Common.{◌≤◌, ◌-◌, drop, length, false}
use Rattle.jl_token.specs.Tokens.{tokens_among}
use Rattle.jl_lex.proofs.Reading.{ReadSoFar}
use Rattle.jl_lex.proofs.lexer.tokens_of.Given as goal

abbrev pub invariant-loop-unit : goal.invariant-loop-unit
invariant-loop-unit l = record {
  read : ReadSoFar (tokens_among false) (tokens_among l.line) l.tokens (drop l.at l.units) l.units;
  within : l.at ≤ length l.units;
}

abbrev pub decreases-loop-unit : goal.decreases-loop-unit
decreases-loop-unit l = length l.initial.units - l.at

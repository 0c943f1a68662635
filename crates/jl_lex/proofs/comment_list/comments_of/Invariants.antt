use Rattle.std.proofs.Common.{◌≤◌, ◌-◌, drop, length}
use Rattle.jl_token.specs.Tokens.{comments_among}
use Rattle.jl_lex.proofs.Reading.{ReadSoFar}
use Rattle.jl_lex.proofs.comment_list.comments_of.Given as goal

abbrev pub invariant-loop-unit : goal.invariant-loop-unit
invariant-loop-unit l = record {
  read : ReadSoFar comments_among comments_among l.comments.items (drop l.at l.units) l.units;
  within : l.at ≤ length l.units;
}

abbrev pub decreases-loop-unit : goal.decreases-loop-unit
decreases-loop-unit l = length l.initial.units - l.at

use Rattle.std.proofs.Common.{◌≡◌, ◌≤◌, ◌-◌, drop, length}
use Rattle.jl_token.specs.Characters.{is_on_line}
use Rattle.jl_token.specs.inner.Scanner.{many, one_unit}
use Rattle.jl_lex.proofs.comment_ends.line_end.Given as goal

abbrev pub invariant-loop-unit : goal.invariant-loop-unit
invariant-loop-unit l = record {
  rest : (many (one_unit is_on_line) (drop l.end l.units)).1
      ≡ (many (one_unit is_on_line) (drop l.at l.units)).1;
  later : l.at ≤ l.end;
  within : l.end ≤ length l.units;
}

abbrev pub decreases-loop-unit : goal.decreases-loop-unit
decreases-loop-unit l = length l.initial.units - l.end

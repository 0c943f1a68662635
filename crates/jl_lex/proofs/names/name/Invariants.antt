use Rattle.std.proofs.Common.{◌≤◌, ◌<◌, ◌-◌, drop, length}
use Rattle.jl_token.specs.Characters.{is_identifier_start}
use Rattle.jl_token.specs.inner.Scanner.{letter, name_from}
use Rattle.jl_lex.proofs.Loops.{NameSoFar}
use Rattle.jl_lex.proofs.names.name.Given as goal

abbrev pub invariant-loop-next : goal.invariant-loop-next
invariant-loop-next l = record {
  name : NameSoFar l.text.items l.escaped (drop l.end l.units)
      (name_from (letter is_identifier_start (drop l.at l.units)));
  later : l.at < l.end;
  within : l.end ≤ length l.units;
}

abbrev pub decreases-loop-next : goal.decreases-loop-next
decreases-loop-next l = length l.initial.units - l.end

use Rattle.std.proofs.Common.{◌≡◌, ◌≤◌, ◌+◌, drop, length}
use Rattle.jl_token.specs.inner.Scanner.{strip}
use Rattle.jl_lex.proofs.punctuators.stands_at.Given as goal

abbrev pub invariant-loop-character : goal.invariant-loop-character
invariant-loop-character l =
    record {
      rest : strip (drop l.character-index l.text) (drop l.end l.units) ≡ strip l.text (drop l.at l.units);
      place : l.end ≡ l.at + l.character-index;
      within : l.end ≤ length l.units;
    }

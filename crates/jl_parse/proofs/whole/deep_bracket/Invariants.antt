use Rattle.std.proofs.Common.{◌≡◌, ◌≤◌, true}
use Rattle.jl_grammar.specs.Brackets.{open_brackets}
use Rattle.jl_grammar.specs.ReaderLevels.{is_shallow}
use Rattle.jl_parse.proofs.whole.deep_bracket.Given as goal

abbrev pub invariant-loop-at : goal.invariant-loop-at
invariant-loop-at l = record {
  counted : l.opened ≡ open_brackets l.tokens l.at;
  few : l.opened ≤ l.most;
  shallow : is_shallow l.tokens l.most l.at ≡ true;
}

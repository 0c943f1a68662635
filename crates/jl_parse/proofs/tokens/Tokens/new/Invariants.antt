use Rattle.std.proofs.Common.{◌≡◌, ◌≤◌, map, take}
use Rattle.jl_grammar.specs.Brackets.{open_brackets}
use Rattle.jl_grammar.specs.Terminals.{terminal_of}
use Rattle.jl_parse.specs.inner.Steps.{counts}
use Rattle.jl_parse.proofs.tokens.Tokens.new.Given as goal

abbrev pub invariant-loop-token : goal.invariant-loop-token
invariant-loop-token l = record {
  seen : l.terminals.items ≡ map (λ t. terminal_of t.kind) (take l.token-index l.tokens);
  counted : l.brackets.items ≡ counts l.tokens l.token-index;
  now : l.before ≡ open_brackets l.tokens l.token-index;
  few : l.before ≤ l.token-index;
}

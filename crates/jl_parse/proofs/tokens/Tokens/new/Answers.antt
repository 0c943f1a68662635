use Rattle.std.proofs.Common.{◌≡◌, ◌∙◌, ap₂, arith, rules, sym}
use Rattle.std.proofs.lemmas.Grind.{common_steps}
use Rattle.jl_grammar.specs.Brackets.{bracket}
use Rattle.jl_grammar.specs.Terminals.{terminal_of}
use Rattle.jl_grammar.specs.Tokens.{terminal_at}
use Rattle.jl_parse.proofs.Places.{bracket_few, counts_more, kind_in, opened_more, opened_none}
use Rattle.jl_parse.proofs.tokens.Tokens.new.Goals as goal

pub loop-token-init : goal.loop-token-init
loop-token-init c = record {
  seen = search rules;
  counted = search rules;
  now = sym (opened_none c.args.tokens.now);
  few = omega arith;
}

pub loop-token-preserved : goal.loop-token-preserved
loop-token-preserved c =
    let ts = c.args.tokens.now in
    let i = c.loop-token.token-index in
    let k : terminal_of c.token-item.result.kind ≡ terminal_at ts i = search (rules, kind_in) in
    let t : c.terminal_of-terminal.result ≡ terminal_of c.token-item.result.kind = search rules in
    let b : c.bracket-before.result ≡ bracket c.terminal_of-terminal.result c.loop-token.before = search rules in
    record {
      seen = grind (arith, common_steps);
      counted = search (rules, counts_more);
      now = b ∙ ap₂ bracket (t ∙ k) c.loop-token.invariant.now ∙ sym (opened_more ts i);
      few = let f = bracket_few c.terminal_of-terminal.result c.loop-token.before i c.loop-token.invariant.few in
          omega arith;
    }

use Rattle.std.proofs.Common.{◌≡◌, ℕ, drop, length, ◌+◌, sym, ap, ◌∙◌, Some, arith}
use Rattle.jl_lex.proofs.Loops.{stands_not, stands_more, stands_all, first_within}
use Rattle.jl_lex.proofs.punctuators.stands_at.Goals as goal

pub returns-then-not-is_at-clause-text : goal.returns-then-not-is_at-clause-text
returns-then-not-is_at-clause-text c =
    sym c.loop-character.invariant.rest ∙ stands_not c.args.text.now c.args.units.now c.loop-character.character-index
    c.loop-character.end c.from.result c.loop-character-test.true c.from.ensures c.if-not-is_at.ensures

pub loop-character-preserved : goal.loop-character-preserved
loop-character-preserved c = record {
  rest = stands_more c.args.text.now c.args.units.now c.loop-character.character-index c.loop-character.end
      c.from.result c.loop-character-test.true c.from.ensures c.if-not-is_at.ensures ∙ c.loop-character.invariant.rest;
  place = omega arith;
  within = first_within _ c.args.units.now c.loop-character.end c.if-not-is_at.ensures;
}

pub returns-clause-text : goal.returns-clause-text
returns-clause-text c =
    let e : c.loop-character.end ≡ c.args.at + length c.args.text.now = omega arith in
    sym c.loop-character.invariant.rest
    ∙ (stands_all c.args.text.now c.args.units.now c.loop-character.character-index c.loop-character.end
    c.loop-character-test.false ∙ ap (λ (k : ℕ). Some (drop k c.args.units.now)) e)

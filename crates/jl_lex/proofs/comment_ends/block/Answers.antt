use Rattle.std.proofs.Common.{◌≡◌, drop, ◌+◌, ◌||◌, sym, ap, ◌∙◌, subst, arith}
use Rattle.jl_token.specs.Characters.{is_line_terminator}
use Rattle.jl_lex.proofs.Loops.{Inside, inside_more, inside_closed, inside_open}
use Rattle.jl_lex.proofs.comment_ends.block.Goals as goal
use Rattle.jl_lex.proofs.comment_ends.block.Goals.{then-is_line_terminator, else-is_line_terminator}

pub returns-then-closes_at-clause-found : goal.returns-then-closes_at-clause-found
returns-then-closes_at-clause-found c =
    inside_closed c.loop-unit.lines c.args.units.now c.loop-unit.end (drop c.args.at c.args.units.now) c.in-Some.unit
    c.in-Some.ensures.0 (cc) c.loop-unit.invariant.inside

pub loop-unit-preserved : goal.loop-unit-preserved
loop-unit-preserved c =
    let e = c.in-Some.ensures in
    let i = inside_more c.loop-unit.lines c.args.units.now c.loop-unit.end (drop c.args.at c.args.units.now)
    c.in-Some.unit e.0 (cc) c.loop-unit.invariant.inside in
    let q : (is_line_terminator c.in-Some.unit || c.loop-unit.lines) ≡ c.if-is_line_terminator.lines =
    elim c.if-is_line_terminator.branch [
      | then-is_line_terminator w ↦ ap (λ b. b || c.loop-unit.lines) (sym c.is_line_terminator.ensures
          ∙ w.if-is_line_terminator.true) ∙ sym w.lines-is
      | else-is_line_terminator w ↦ ap (λ b. b || c.loop-unit.lines)
          (sym c.is_line_terminator.ensures ∙ w.if-is_line_terminator.false) ∙ sym w.lines-is
    ] in
    record {
      inside = subst (λ b. Inside b (drop (c.loop-unit.end + 1) c.args.units.now)
          (drop c.args.at c.args.units.now)) q i;
      later = omega arith;
      within = omega (arith, e.1);
    }

pub returns-clause-found : goal.returns-clause-found
returns-clause-found c =
    inside_open c.loop-unit.lines (drop c.loop-unit.end c.args.units.now) (drop c.args.at c.args.units.now)
    c.in_default.ensures c.loop-unit.invariant.inside

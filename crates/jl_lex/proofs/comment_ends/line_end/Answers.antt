use Rattle.std.proofs.Common.{drop, ◌+◌, sym, ◌∙◌, arith}
use Rattle.jl_lex.proofs.Loops.{line_more, line_stop, line_last}
use Rattle.jl_lex.proofs.comment_ends.line_end.Goals as goal

pub loop-unit-preserved : goal.loop-unit-preserved
loop-unit-preserved c =
    let e = c.in-Some.ensures in
    record {
      rest = sym (line_more (drop c.loop-unit.end c.args.units.now) (drop (c.loop-unit.end + 1) c.args.units.now)
          c.in-Some.unit e.0 cc) ∙ c.loop-unit.invariant.rest;
      later = omega arith;
      within = omega (arith, e.1);
    }

pub returns-then-is_line_terminator-clause-rest : goal.returns-then-is_line_terminator-clause-rest
returns-then-is_line_terminator-clause-rest c =
    let e = c.in-Some.ensures in
    sym (line_stop (drop c.loop-unit.end c.args.units.now) (drop (c.loop-unit.end + 1) c.args.units.now) c.in-Some.unit
    e.0 cc) ∙ c.loop-unit.invariant.rest

pub returns-in_default-clause-rest : goal.returns-in_default-clause-rest
returns-in_default-clause-rest c = sym (line_last (drop c.loop-unit.end c.args.units.now) c.in_default.ensures)
    ∙ c.loop-unit.invariant.rest

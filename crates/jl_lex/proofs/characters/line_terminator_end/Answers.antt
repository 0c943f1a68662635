use Rattle.std.proofs.Common.{drop}
use Rattle.jl_lex.proofs.StringLoops.{feed_at, no_feed_at, no_return}
use Rattle.jl_lex.proofs.characters.line_terminator_end.Goals as goal

pub returns-then-unit-ne13-clause-rest : goal.returns-then-unit-ne13-clause-rest
returns-then-unit-ne13-clause-rest c = no_return (drop c.args.at c.args.units.now) c.args.unit c.if-unit-ne13.true

pub returns-then-is_at-clause-rest : goal.returns-then-is_at-clause-rest
returns-then-is_at-clause-rest c =
    feed_at c.args.units.now c.args.at c.args.unit c.if-unit-ne13.false c.if-is_at.ensures

pub returns-else-is_at-clause-rest : goal.returns-else-is_at-clause-rest
returns-else-is_at-clause-rest c =
    no_feed_at (drop c.args.at c.args.units.now) c.args.unit c.if-unit-ne13.false c.if-is_at.ensures

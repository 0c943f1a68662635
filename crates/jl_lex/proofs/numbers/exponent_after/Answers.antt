use Rattle.std.proofs.Common.{drop, arith}
use Rattle.jl_token.specs.Characters.{is_digit}
use Rattle.jl_token.specs.inner.Scanner.{many, one_unit, some_digits}
use Rattle.jl_lex.proofs.NumberLoops.{after_none, after_lower, after_raise}
use Rattle.jl_lex.proofs.numbers.exponent_after.Goals as goal

pub returns-in_default-clause-read : goal.returns-in_default-clause-read
returns-in_default-clause-read c =
    after_none c.args.units.now c.args.at c.args.lowers (some_digits is_digit (drop c.args.from c.args.units.now))
    c.in_default.ensures.digits (omega arith)

pub returns-then-lowers-clause-read : goal.returns-then-lowers-clause-read
returns-then-lowers-clause-read c =
    let d = c.in-Some.ensures.digits in let s = c.in-Some.ensures.small in
    after_lower c.args.units.now c.args.at c.in-Some.power.end c.in-Some.power.number c.args.lowers
    (many (one_unit is_digit) (drop c.args.from c.args.units.now)).0
    (some_digits is_digit (drop c.args.from c.args.units.now)) d.0 c.if-lowers.true d.1 (omega (arith, s.1)) s.2

pub returns-clause-read : goal.returns-clause-read
returns-clause-read c =
    let d = c.in-Some.ensures.digits in let s = c.in-Some.ensures.small in
    after_raise c.args.units.now c.args.at c.in-Some.power.end c.in-Some.power.number c.args.lowers
    (many (one_unit is_digit) (drop c.args.from c.args.units.now)).0
    (some_digits is_digit (drop c.args.from c.args.units.now)) d.0 c.if-lowers.false d.1 (omega (arith, s.1)) s.2

use Rattle.std.proofs.Common.{◌+◌, drop, sym, arith}
use Rattle.jl_lex.proofs.AmountLemmas.{digits_more, digits_stop, digits_end}
use Rattle.jl_lex.proofs.numbers.digits.Goals as goal

pub loop-unit-preserved : goal.loop-unit-preserved
loop-unit-preserved c =
    let e = c.in-Some.ensures in
    let r = c.add_digit-read.ensures in
    record {
      digits = digits_more c.loop-unit.read.coefficient c.loop-unit.read.zeros c.add_digit-read.result.coefficient
          c.add_digit-read.result.zeros (drop c.loop-unit.end c.args.units.now)
          (drop (c.loop-unit.end + 1) c.args.units.now) c.in-Some.unit (c.args.amount.coefficient, c.args.amount.zeros)
          (drop c.args.at c.args.units.now) e.0 (sym c.if-not-is_digit.ensures) r.amount c.loop-unit.invariant.digits;
      small = r.small;
      few = omega (arith, r.few, c.loop-unit.invariant.few);
      later = omega arith;
      within = omega (arith, e.1);
    }

pub returns-then-not-is_digit-clause-amount : goal.returns-then-not-is_digit-clause-amount
returns-then-not-is_digit-clause-amount c =
    (digits_stop c.loop-unit.read.coefficient c.loop-unit.read.zeros (drop c.loop-unit.end c.args.units.now)
    (drop (c.loop-unit.end + 1) c.args.units.now) c.in-Some.unit (c.args.amount.coefficient, c.args.amount.zeros)
    (drop c.args.at c.args.units.now) c.in-Some.ensures.0 (sym c.if-not-is_digit.ensures)
    c.loop-unit.invariant.digits).0

pub returns-then-not-is_digit-clause-rest : goal.returns-then-not-is_digit-clause-rest
returns-then-not-is_digit-clause-rest c =
    (digits_stop c.loop-unit.read.coefficient c.loop-unit.read.zeros (drop c.loop-unit.end c.args.units.now)
    (drop (c.loop-unit.end + 1) c.args.units.now) c.in-Some.unit (c.args.amount.coefficient, c.args.amount.zeros)
    (drop c.args.at c.args.units.now) c.in-Some.ensures.0 (sym c.if-not-is_digit.ensures)
    c.loop-unit.invariant.digits).1

pub returns-in_default-clause-amount : goal.returns-in_default-clause-amount
returns-in_default-clause-amount c =
    (digits_end c.loop-unit.read.coefficient c.loop-unit.read.zeros (drop c.loop-unit.end c.args.units.now)
    (c.args.amount.coefficient, c.args.amount.zeros) (drop c.args.at c.args.units.now) c.in_default.ensures
    c.loop-unit.invariant.digits).0

pub returns-in_default-clause-rest : goal.returns-in_default-clause-rest
returns-in_default-clause-rest c =
    (digits_end c.loop-unit.read.coefficient c.loop-unit.read.zeros (drop c.loop-unit.end c.args.units.now)
    (c.args.amount.coefficient, c.args.amount.zeros) (drop c.args.at c.args.units.now) c.in_default.ensures
    c.loop-unit.invariant.digits).1

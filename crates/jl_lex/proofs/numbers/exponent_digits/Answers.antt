use Rattle.std.proofs.Common.{◌+◌, drop, sym, arith}
use Rattle.jl_token.specs.Characters.{is_digit}
use Rattle.jl_lex.proofs.AmountLemmas.{capped_more, capped_stop, capped_end, no_digits}
use Rattle.jl_lex.proofs.numbers.exponent_digits.Goals as goal

pub returns-then-not-is_digit_at-clause-digits : goal.returns-then-not-is_digit_at-clause-digits
returns-then-not-is_digit_at-clause-digits c =
    no_digits is_digit (drop c.args.at c.args.units.now) (sym c.if-not-is_digit_at.ensures)

pub loop-unit-preserved : goal.loop-unit-preserved
loop-unit-preserved c =
    let e = c.in-Some.ensures in
    record {
      digits = capped_more c.loop-unit.number c.add_exponent_digit-number.result (drop c.loop-unit.end c.args.units.now)
          (drop (c.loop-unit.end + 1) c.args.units.now) c.in-Some.unit (drop c.args.at c.args.units.now) e.0
          (sym c.if-not-is_digit.ensures) c.add_exponent_digit-number.ensures.value c.loop-unit.invariant.digits;
      small = c.add_exponent_digit-number.ensures.small;
      later = omega arith;
      within = omega (arith, e.1);
    }

pub returns-then-not-is_digit-clause-digits : goal.returns-then-not-is_digit-clause-digits
returns-then-not-is_digit-clause-digits c =
    let d = capped_stop c.loop-unit.number (drop c.loop-unit.end c.args.units.now)
    (drop (c.loop-unit.end + 1) c.args.units.now) (drop c.args.at c.args.units.now) c.in-Some.unit
    (sym c.if-not-is_digit_at.ensures) c.in-Some.ensures.0 (sym c.if-not-is_digit.ensures)
    c.loop-unit.invariant.digits in
    (d.digits, d.number)

pub returns-in_default-clause-digits : goal.returns-in_default-clause-digits
returns-in_default-clause-digits c =
    let d = capped_end c.loop-unit.number (drop c.loop-unit.end c.args.units.now) (drop c.args.at c.args.units.now)
    (sym c.if-not-is_digit_at.ensures) c.in_default.ensures c.loop-unit.invariant.digits in
    (d.digits, d.number)

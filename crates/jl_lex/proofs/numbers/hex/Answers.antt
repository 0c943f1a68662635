use Rattle.std.proofs.Common.{drop, sym, ◌∙◌, arith}
use Rattle.jl_lex.proofs.NumberLoops.{hex_absent, hex_more, hex_ends}
use Rattle.jl_lex.proofs.numbers.hex.Goals as goal

pub returns-in_default : goal.returns-in_default
returns-in_default c = hex_absent (drop c.args.at c.args.units.now) (sym c.hex_at.ensures.value ∙ c.in_default.is)

pub loop-digit-preserved : goal.loop-digit-preserved
loop-digit-preserved c =
    let s = c.in-Some-hex_at.ensures.small in
    record {
      digits = hex_more c.loop-digit.number c.hex_capped-number.result c.in-Some-hex_at.digit c.args.units.now
          c.loop-digit.end (drop c.args.at c.args.units.now) (sym c.in-Some-hex_at.ensures.value)
          c.hex_capped-number.ensures.value c.loop-digit.invariant.digits;
      small = c.hex_capped-number.ensures.small;
      later = omega arith;
      within = omega (arith, s.1);
    }

pub returns : goal.returns
returns c = λ us. hex_ends c.args.units.now c.args.at c.loop-digit.end c.loop-digit.number c.in-Some._first
    c.if_number.result us (sym c.in-Some.ensures.value) (sym c.hex_at-in-loop-digit.ensures.value
    ∙ c.in_default-hex_at.is) c.if_number.ensures c.loop-digit.invariant.later c.loop-digit.invariant.within
    c.loop-digit.invariant.digits

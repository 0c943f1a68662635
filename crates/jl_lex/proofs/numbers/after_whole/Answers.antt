use Rattle.std.proofs.Common.{◌+◌, drop, arith}
use Rattle.jl_lex.proofs.NumberLoops.{numeral_from, whole_point, whole_plain}
use Rattle.jl_lex.proofs.numbers.after_whole.Goals as goal

pub returns-then-is_at : goal.returns-then-is_at
returns-then-is_at c = record {
  read = λ ds s. numeral_from c.args.units.now c.args.at (c.args.at + 1)
      c.after_point.result _ _ (whole_point ds c.args.units.now c.args.at c.if-is_at.ensures) (omega arith)
      (c.after_point.ensures.read ds s);
}

pub returns-else-is_at : goal.returns-else-is_at
returns-else-is_at c = record {
  read = λ ds s. numeral_from c.args.units.now c.args.at c.args.at c.with_exponent.result
      _ _ (whole_plain ds (drop c.args.at c.args.units.now) c.if-is_at.ensures) (omega arith)
      (c.with_exponent.ensures.read ds s);
}

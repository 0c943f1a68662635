use Rattle.std.proofs.Common.{◌++◌, ◌-◌, drop}
use Rattle.jl_token.specs.Characters.{is_digit}
use Rattle.jl_token.specs.inner.Scanner.{many, one_unit}
use Rattle.jl_lex.proofs.NumberLoops.{point_stands, places_are, point_from}
use Rattle.jl_lex.proofs.numbers.after_point.Goals as goal

pub returns : goal.returns
returns c =
    let us = drop c.args.at c.args.units.now in
    let d = c.digits-end.ensures in
    record {
      read = λ ds s. point_from c.args.units.now c.args.at c.digits-end.result.1 (c.digits-end.result.1 - c.args.at)
          c.with_exponent.result ds (many (one_unit is_digit) us) d.rest
          (places_are c.args.units.now c.args.at c.digits-end.result.1 d.rest d.later d.within) d.later
          (c.with_exponent.ensures.read (ds ++ (many (one_unit is_digit) us).0)
          (point_stands c.args.amount.coefficient c.args.amount.zeros c.digits-end.result.0.coefficient
          c.digits-end.result.0.zeros ds us s d.amount));
    }

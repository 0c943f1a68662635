use Rattle.std.proofs.Common.{drop}
use Rattle.jl_token.specs.inner.Scanner.{exponent}
use Rattle.jl_lex.proofs.NumberLoops.{finish}
use Rattle.jl_lex.proofs.numbers.with_exponent.Goals as goal

pub returns : goal.returns
returns c = record {
  read = λ ds s. finish c.args.units.now c.args.at c.args.amount.coefficient c.args.amount.zeros
      c.args.places c.exponent_at-exponent.result c.value.result ds (exponent (drop c.args.at c.args.units.now)) s
      c.exponent_at-exponent.ensures.read c.value.ensures c.requires.few c.requires.short;
}

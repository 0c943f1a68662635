use Rattle.std.proofs.Common.{ℕ, ◌+◌, ◌≤◌, take}
use Rattle.jl_token.specs.Characters.{decimal_from}
use Rattle.jl_lex.specs.inner.Amounts.{Stands}
use Rattle.jl_conv.proofs.decimal.read.Given as goal

abbrev pub invariant-loop-unit : goal.invariant-loop-unit
invariant-loop-unit l = record {
  few : l.read.zeros ≤ l.fn.amount.zeros + l.unit-index;
  amount : (m : ℕ) → Stands l.fn.amount.coefficient l.fn.amount.zeros m
      → Stands l.read.coefficient l.read.zeros (decimal_from m (take l.unit-index l.fn.digits));
}

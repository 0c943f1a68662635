use Rattle.std.proofs.Common.{◌-◌, arith}
use Rattle.jl_srcmap.proofs.Digits.{more_bound, one_bound, quantity_bound}
use Rattle.jl_srcmap.proofs.quantity.+read_quantity.Goals as goal

pub returns-then-value-lt32-clause-bound : goal.returns-then-value-lt32-clause-bound
returns-then-value-lt32-clause-bound t c =
    one_bound c.in_ok-value.value c.args.most (omega arith) (omega arith)

pub overflow_mul-result : goal.overflow_mul-result
overflow_mul-result t c =
    let small = quantity_bound c.in_ok-more.more (c.args.most - 1) (omega arith) c.in_ok-more.ensures.bound in
    omega arith

pub overflow_add-result : goal.overflow_add-result
overflow_add-result t c =
    let value = c.in_ok-value.ensures.small in
    let small = quantity_bound c.in_ok-more.more (c.args.most - 1) (omega arith) c.in_ok-more.ensures.bound in
    omega arith

pub returns-clause-bound : goal.returns-clause-bound
returns-clause-bound t c =
    more_bound c.in_ok-value.value c.in_ok-more.more c.args.most (omega arith) c.in_ok-value.ensures.small
    c.in_ok-more.ensures.bound

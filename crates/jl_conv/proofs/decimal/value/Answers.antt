use Rattle.std.proofs.Common.{◌∙◌, ◌*◌, ◌^◌, ◌-◌, ◌<◌, min, sym, ap, subst, arith}
use Rattle.jl_lex.specs.inner.Amounts.{Stands}
use Rattle.jl_conv.proofs.Values.{no_digits, many_digits, fraction, large, inside}
use Rattle.jl_conv.proofs.decimal.value.Goals as goal

pub returns-then-amount-eq0 : goal.returns-then-amount-eq0
returns-then-amount-eq0 c = λ m r l s p.
    c.new.ensures.exact ∙ sym
    (no_digits c.args.negative c.args.amount.zeros m r l
    (subst (λ k. Stands k c.args.amount.zeros m) c.if-amount-eq0.true s))

pub returns-then-amount-gt-LARGEST_SIZE : goal.returns-then-amount-gt-LARGEST_SIZE
returns-then-amount-gt-LARGEST_SIZE c =
    λ m r l s p. sym (many_digits c.args.negative _ _ m r l c.if-amount-gt-LARGEST_SIZE.true s)

pub returns-then-total-lower : goal.returns-then-total-lower
returns-then-total-lower c = λ m r l s p.
    let fits : c.args.raise < 2 ^ 64 = omega arith in
    sym (fraction c.args.negative _ _ m _ _ r l c.saturating_add-total.result c.if-amount-eq0.false
    c.if-amount-gt-LARGEST_SIZE.false fits
    c.saturating_add-total.ensures c.if-total-lower.true s p)

pub returns-then-total-lower-gt15 : goal.returns-then-total-lower-gt15
returns-then-total-lower-gt15 c = λ m r l s p.
    let fits : c.args.raise < 2 ^ 64 = omega arith in
    sym (large c.args.negative _ _ m _ _ r l c.saturating_add-total.result c.if-amount-eq0.false
    c.if-amount-gt-LARGEST_SIZE.false fits
    c.saturating_add-total.ensures c.if-total-lower.false c.if-total-lower-gt15.true s p)

pub returns : goal.returns
returns c = λ m r l s p.
    let fits : c.args.raise < 2 ^ 64 = omega arith in
    c.whole.ensures
    ∙ sym (inside c.args.negative _ _ m _ _ r l c.saturating_add-total.result c.saturating_mul.result
    c.if-amount-eq0.false
    c.if-amount-gt-LARGEST_SIZE.false fits c.saturating_add-total.ensures c.if-total-lower.false
    c.if-total-lower-gt15.false
    (c.saturating_mul.ensures ∙ ap (λ k. min (c.args.amount.coefficient * k) (2 ^ 64 - 1)) c.power_of_ten.ensures) s p)

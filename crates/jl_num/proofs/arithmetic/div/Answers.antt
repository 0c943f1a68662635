use Rattle.std.proofs.Common.{◌∙◌, sym, subst}
use Rattle.jl_num.specs.Number.{IsNumber}
use Rattle.jl_num.proofs.Quotient.{whole_quotient, fraction}
use Rattle.jl_num.proofs.arithmetic.div.Goals as goal

pub returns-then-rest-eq0 : goal.returns-then-rest-eq0
returns-then-rest-eq0 c =
    let k = c.in-Some-Some in
    let is_a = subst IsNumber (sym k.ensures.same) k.ensures.inside in
    let is_b = subst IsNumber (sym k.ensures'.same) k.ensures'.inside in
    rw (← k.ensures.same, ← k.ensures'.same)
    (c.new.ensures.exact ∙ whole_quotient k.x k.y is_a is_b c.if-y-eq0.false c.if-rest-eq0.true)

pub returns-else-rest-eq0 : goal.returns-else-rest-eq0
returns-else-rest-eq0 c =
    let k = c.in-Some-Some in
    let is_a = subst IsNumber (sym k.ensures.same) k.ensures.inside in
    let is_b = subst IsNumber (sym k.ensures'.same) k.ensures'.inside in
    rw (← k.ensures.same, ← k.ensures'.same)
    (sym (fraction k.x k.y is_a is_b c.if-y-eq0.false c.if-rest-eq0.false))

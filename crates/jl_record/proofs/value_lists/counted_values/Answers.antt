use Rattle.std.proofs.Common.{◌+◌, length, sym, ap, ◌∙◌, subst, arith}
use Rattle.std.proofs.lemmas.List.{length_push}
use Rattle.jl_record.proofs.ListReads.{SoFar, no_space, no_value, one_more}
use Rattle.jl_record.proofs.value_lists.counted_values.Goals as goal

pub returns-in_default : goal.returns-in_default
returns-in_default c =
    let fewer = c.loop-i-test.true in
    no_space c.args.units.now c.args.count c.loop-i.values c.loop-i.rest.now c.loop-i.invariant.0
    (omega (arith, c.loop-i.invariant.1)) c.in_default.ensures

pub returns-in_default-2 : goal.returns-in_default-2
returns-in_default-2 c =
    let fewer = c.loop-i-test.true in
    no_value c.args.units.now c.args.count c.loop-i.values c.loop-i.rest.now c.loop-i.invariant.0
    (omega (arith, c.loop-i.invariant.1)) c.in-Some.front.now c.in-Some.ensures
    (rw c.in_default-2.is at c.in_ok-value.ensures)

pub loop-i-preserved : goal.loop-i-preserved
loop-i-preserved c =
    let more = one_more c.args.units.now c.args.count c.loop-i.values c.loop-i.rest.now c.loop-i.invariant.0
    c.in-Some.front.now c.in-Some-2.value c.in-Some-2.after.now c.in-Some.ensures
    (rw c.in-Some-2.is at c.in_ok-value.ensures) in
    let pushed = c.in_ok-push.ensures.ok in (
      subst (λ l. SoFar c.args.units.now l c.in-Some-2.after.now) (sym pushed) more,
      ap length pushed ∙ length_push c.loop-i.values c.in-Some-2.value ∙ ap (λ n. n + 1) c.loop-i.invariant.1,
    )

use Rattle.std.proofs.Common.{refl, sym, ◌∙◌, arith}
use Rattle.jl_value.proofs.Numerals.{begun, no_units, no_digit_first, no_more, one_more, at_end, past_end}
use Rattle.jl_value.proofs.index.array_index.Goals as goal

pub returns-in_default : goal.returns-in_default
returns-in_default c = sym (no_units c.args.units.now c.in_default.len_below)

pub returns-in_err-index : goal.returns-in_err-index
returns-in_err-index c =
    c.from_residual.ensures ∙ sym (no_digit_first c.args.units.now c.in-len1-up.len_at_least c.in_err-index.ensures)

pub loop-unit-init : goal.loop-unit-init
loop-unit-init c =
    let d = c.in_ok-index.ensures in begun c.args.units.now c.in_ok-index.index c.in-len1-up.len_at_least d.0 d.1

pub returns-in_err-index-2 : goal.returns-in_err-index-2
returns-in_err-index-2 c =
    c.from_residual-in_err-index-2.ensures
    ∙ sym (no_more c.args.units.now _ c.loop-unit.index _ c.loop-unit.unit-index c.loop-unit.invariant (omega arith)
    refl c.in_err-index-2.ensures)

pub loop-unit-preserved : goal.loop-unit-preserved
loop-unit-preserved c =
    let s = c.in_ok-index-2.ensures in
    one_more c.args.units.now _ c.loop-unit.index _ _ c.loop-unit.unit-index c.loop-unit.invariant (omega arith) refl
    s.0 s.1 s.2 s.3

pub returns-then-index-lt4294967295 : goal.returns-then-index-lt4294967295
returns-then-index-lt4294967295 c =
    sym (at_end c.args.units.now _ c.loop-unit.index c.loop-unit.unit-index c.loop-unit.invariant (omega arith)
    c.if-index-lt4294967295.true)

pub returns-else-index-lt4294967295 : goal.returns-else-index-lt4294967295
returns-else-index-lt4294967295 c =
    sym (past_end c.args.units.now _ c.loop-unit.index c.loop-unit.unit-index c.loop-unit.invariant (omega arith)
    c.if-index-lt4294967295.false)

use Rattle.std.proofs.Common.{None, ◌∙◌, arith}
use Rattle.jl_text.proofs.EndsLemmas.{last_by_none, last_by_units}
use Rattle.jl_text.proofs.SearchLemmas.{last_place-is}
use Rattle.jl_text.proofs.search.last_place.Goals as goal

pub returns-then-part-units-clause-value : goal.returns-then-part-units-clause-value
returns-then-part-units-clause-value c =
    last_place-is c.args.units.now c.args.part.now c.args.from None
    (λ k low stands. omega (arith, stands.0, c.if-part-units.true))

pub returns-in_err-place-clause-value : goal.returns-in_err-place-clause-value
returns-in_err-place-clause-value c =
    c.from_residual.ensures ∙ last_place-is c.args.units.now c.args.part.now c.args.from None
    (last_by_none c.args.units.now c.args.part.now c.args.from _ (omega (arith, c.if-part-units.false))
    (omega (arith, c.min.ensures)) c.in_err-place.ensures)

pub returns-in_err-place-clause-greatest : goal.returns-in_err-place-clause-greatest
returns-in_err-place-clause-greatest c =
    rw c.from_residual.ensures (last_by_none c.args.units.now c.args.part.now c.args.from _
    (omega (arith, c.if-part-units.false)) (omega (arith, c.min.ensures)) c.in_err-place.ensures)

pub returns-clause-value : goal.returns-clause-value
returns-clause-value c =
    last_place-is c.args.units.now c.args.part.now c.args.from _
    (last_by_units c.args.units.now c.args.part.now c.args.from _ (omega (arith, c.if-part-units.false))
    (omega (arith, c.min.ensures)) c.in_ok-place.place c.in_ok-place.ensures)

pub returns-clause-greatest : goal.returns-clause-greatest
returns-clause-greatest c =
    last_by_units c.args.units.now c.args.part.now c.args.from _ (omega (arith, c.if-part-units.false))
    (omega (arith, c.min.ensures)) c.in_ok-place.place c.in_ok-place.ensures

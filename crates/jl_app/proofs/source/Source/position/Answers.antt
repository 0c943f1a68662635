use Rattle.std.proofs.Common.{◌≡◌, ℕ, ◌∙◌, sym, ap, length, min}
use Rattle.jl_text.specs.Places.{position_of}
use Rattle.jl_app.specs.declared.position.Position.{Position}
use Rattle.jl_app.specs.Positions.{position}
use Rattle.jl_app.proofs.PositionLemmas.{position_clamped}
use Rattle.jl_app.proofs.source.Source.position.Goals as goal

pub returns : goal.returns
returns c =
    let units = c.self.inside.units.items in
    let within : c.min-within.result ≡ min c.args.at (length units) = c.min-within.ensures
    ∙ ap (λ us. min c.args.at (length us)) (c.units.ensures.same ∙ sym c.self.view_is) in
    let told : c.line_col-line.result ≡ position_of units c.args.at =
    c.line_col-line.ensures.source units c.self.invariant.1
    ∙ position_clamped units c.args.at c.min-within.result within in
    let tell : ℕ × ℕ → Position = λ p. record { line = p.0; column = p.1 } in
    ap tell told ∙ ap (λ us. position us c.args.at) c.self.view_is

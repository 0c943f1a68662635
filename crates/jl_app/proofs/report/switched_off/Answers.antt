use Rattle.std.proofs.Common.{subst}
use Rattle.jl_lex.specs.Refusals.{IsRefusal}
use Rattle.jl_token.proofs.Whole.{never_both}
use Rattle.jl_app.proofs.report.switched_off.Goals as goal

pub unreachable-requires : goal.unreachable-requires
unreachable-requires c =
    let units = c.args.source.now in
    let bad = subst (λ us. IsRefusal us c.in-Err-BadInput.field-0) c.units.ensures.same
    c.in-Err-BadInput.ensures.refused in
    never_both units c.requires.lexed.0 c.in-Err-BadInput.field-0-0 c.in-Err-BadInput.field-0-1 c.requires.lexed.1
    (subst (λ e. IsRefusal units e) c.in-Err-BadInput.field-0-is bad)

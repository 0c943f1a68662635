use Rattle.std.proofs.Common.{subst}
use Rattle.jl_token.specs.Tokens.{BadAt}
use Rattle.jl_app.proofs.Refusing.{bad_input_at}
use Rattle.jl_app.proofs.accept.lex_source.Goals as goal

pub returns-in-Err-BadInput-clause-refused : goal.returns-in-Err-BadInput-clause-refused
returns-in-Err-BadInput-clause-refused c = λ form bytes text same.
    let bad = rw c.in-Err-BadInput.field-0-is at c.in-Err-BadInput.ensures.refused in
    bad_input_at form bytes c.args.source.now c.in-Err-BadInput.at c.in-Err-BadInput.kind _ text same
    (subst (λ us. BadAt us c.in-Err-BadInput.at c.in-Err-BadInput.kind) c.units.ensures.same bad)
    c.position-at.ensures

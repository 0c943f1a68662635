use Rattle.std.proofs.Common.{subst, sym}
use Rattle.jl_ast.specs.View.{view}
use Rattle.jl_grammar.specs.Program.{Reads}
use Rattle.jl_app.proofs.Refusing.{unreadable_at}
use Rattle.jl_app.proofs.accept.parse_tokens.Goals as goal

pub returns-in-Ok-clause-read : goal.returns-in-Ok-clause-read
returns-in-Ok-clause-read c =
    subst (λ n. Reads c.args.tokens.now n (view c.in-Ok.program)) c.most_levels.ensures c.in-Ok.ensures.found

pub returns-in-Err-Unreadable-clause-refused : goal.returns-in-Err-Unreadable-clause-refused
returns-in-Err-Unreadable-clause-refused c = λ bytes has same.
    let place = rw c.in-Err-Unreadable.field-0-is at c.in-Err-Unreadable.ensures.place in
    let only = rw c.in-Err-Unreadable.field-0-is at c.in-Err-Unreadable.ensures.only in
    unreadable_at c.args.form bytes _ c.args.tokens.now c.in-Err-Unreadable.at _ has same (λ p read. let e =
    only p (subst (λ n. Reads c.args.tokens.now n p) (sym c.most_levels.ensures) read) in cc) place
    c.position-at.ensures

use Rattle.std.proofs.Common.{◌∙◌, ◌++◌, ap, sym}
use Rattle.jl_ast.specs.View.{view_body}
use Rattle.jl_state.specs.Words.{table_of}
use Rattle.jl_realm.specs.inner.Walk.{functions_of}
use Rattle.jl_realm.proofs.Walks.{table_is}
use Rattle.jl_realm.proofs.function_walk.functions.Goals as goal

pub returns : goal.returns
returns c =
    let b = view_body c.args.program.now.body in
    c.in_ok-add_body.ensures
    ∙ ap (λ found. table_of found ++ functions_of c.is_strict-strict.result b) c.new-found.ensures
    ∙ ap (λ strict. functions_of strict b) c.is_strict-strict.ensures
    ∙ sym (table_is c.args.program.now)

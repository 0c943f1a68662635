use Rattle.std.proofs.Common.{refl}
use Rattle.jl_ast.specs.View.{view_statement}
use Rattle.jl_state.specs.Trees.{plain}
use Rattle.jl_state.specs.Turns.{labels_seen}
use Rattle.jl_statement.proofs.Begun.{begins, spent}
use Rattle.jl_statement.proofs.Results.{if_ok}
use Rattle.jl_statement.proofs.beginning.begin_statement.Goals as goal

pub returns-then-not-spend-clause-refines : goal.returns-then-not-spend-clause-refines
returns-then-not-spend-clause-refines c =
    spent _ _ (plain (view_statement c.args.t.now)) (labels_seen c.args.labels) c.args.here
    (c.if-not-spend.ensures.ran_out refl) (c.if-not-spend.ensures.same refl)

pub returns-clause-refines : goal.returns-clause-refines
returns-clause-refines c =
    if_ok _ _ _ c.begin_kind.ensures.refines (λ a refines. begins _ _ (plain (view_statement c.args.t.now))
    (labels_seen c.args.labels) c.args.here _ _ (c.if-not-spend.ensures.took refl) (c.if-not-spend.ensures.left refl)
    refines)

use Rattle.std.proofs.Common.{sym, ◌∙◌}
use Rattle.std.proofs.lemmas.Result.{IfOk-weaker}
use Rattle.jl_ast.specs.View.{view_expression}
use Rattle.jl_meaning.specs.Expressions.{evaluate}
use Rattle.jl_state.specs.Trees.{plain}
use Rattle.jl_state.specs.Words.{context_of, table_of}
use Rattle.jl_member.proofs.Names.{assigns, misuses}
use Rattle.jl_member.proofs.assigned_names.assign_name.Goals as goal

pub returns-then-is_hooks-clause-refines : goal.returns-then-is_hooks-clause-refines
returns-then-is_hooks-clause-refines c =
    misuses c.args.state.now c.args.name.now _ (sym c.is_hooks.ensures ∙ c.if-is_hooks.true)

pub returns-clause-refines : goal.returns-clause-refines
returns-clause-refines c =
    IfOk-weaker _ _ _ (λ a refines. assigns c.args.state.now c.args.here c.args.name
    c.identifier_reference-reference.result (evaluate (table_of c.args.state.now.functions)
    (plain (view_expression c.args.value.now)) (context_of c.args.state.now.calls c.args.here)) _ _
    (sym c.is_hooks.ensures ∙ c.if-is_hooks.false) c.identifier_reference-reference.ensures refines)
    c.write_value.ensures.refines

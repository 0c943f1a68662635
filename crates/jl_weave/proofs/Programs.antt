-- The program that is made of woven parts.
use Rattle.std.proofs.Common.{◌≡◌, ◌∙◌, ap, ap₂, rules, sym, ◌+◌, Bool, List, ℕ}
use Rattle.jl_text.specs.declared.span.Span.{Span}
use Rattle.jl_ast.specs.Spans.{tree_without_spans, without_spans}
use Rattle.jl_ast.specs.Tree as tree
use Rattle.jl_ast.specs.View.{view, view_body, view_functions, view_statements}
use Rattle.jl_ast.specs.declared.tree.Body.{out-Body, roll-Body}
use Rattle.jl_ast.specs.declared.tree.Entry.TheViews.{out-roll-Body}
use Rattle.jl_ast.specs.declared.tree.Function.{Function}
use Rattle.jl_ast.specs.declared.tree.Program.{Program}
use Rattle.jl_ast.specs.declared.tree.Stmt.{Stmt}
use Rattle.jl_ast.proofs.Views.{body_is}
use Rattle.jl_op.specs.Chosen.{Kinds}
use Rattle.jl_op.specs.Ids.{forest_id_count, id_count, with_ids}
use Rattle.jl_simulation.specs.HookCalls.{Stmts}
use Rattle.jl_simulation.specs.Weaving.{woven_code, woven_program}
use Rattle.jl_weave.specs.inner.Bare.{bare_functions, bare_statements}
use Rattle.jl_weave.specs.inner.Forms.{beginning_form, ended_form}
use Rattle.jl_weave.proofs.Weaves.{WeavesAfter, WeavesAll}
use Rattle.jl_weave.proofs.Bodies.{program_woven}
use Rattle.jl_weave.proofs.ListViews.{functions_bare, statements_bare}

-- a body of the code as a tree
body_seen : (strict : Bool) (fs : List Function) (l : List Stmt)
    → view_body (roll-Body (record { strict = strict; functions = fs; statements = l }))
    ≡ tree.body strict (view_functions fs) (view_statements l)
body_seen strict fs l = search (rules, body_is, out-roll-Body)

body_bare : (strict : Bool) (fs : List Function) (l : List Stmt)
    → tree_without_spans (view_body (roll-Body (record { strict = strict; functions = fs; statements = l })))
    ≡ tree.body strict (bare_functions fs) (bare_statements l)
body_bare strict fs l =
    ap tree_without_spans (body_seen strict fs l)
    ∙ ap₂ (λ fs l. tree.body strict fs l) (functions_bare fs) (statements_bare l)

-- how many ids the parts of a program have
pub count_of_parts : (p : Program) → id_count (view p).body
    ≡ forest_id_count (view_functions (out-Body p.body).functions)
    + forest_id_count (view_statements (out-Body p.body).statements)
count_of_parts p = ap id_count (body_is p.body)

pub whole_woven : (chosen : Kinds) (p : Program) (fs : List Function) (l : List Stmt) (s : Span)
    {first l' : Stmts} {m next : ℕ}
    → WeavesAll chosen (view_functions (out-Body p.body).functions) 3 (bare_functions fs) m
    → first ≡ beginning_form chosen 1
    → WeavesAfter chosen first (view_statements (out-Body p.body).statements) m l' next
    → bare_statements l ≡ ended_form chosen 1 l'
    → without_spans (view (record {
      body = roll-Body (record { strict = (out-Body p.body).strict; functions = fs; statements = l });
      span = s;
    }))
    ≡ woven_program chosen (view p)
unfolding woven_program
whole_woven chosen p fs l s w f u g =
    let b = out-Body p.body in
    ap (λ b. record { body = b; at = tt })
    (body_bare b.strict fs l
    ∙ program_woven chosen b.strict (view_functions b.functions) (view_statements b.statements) w f u g
    ∙ ap (λ t. woven_code chosen 1 (with_ids 3 t)) (sym (body_is p.body)))

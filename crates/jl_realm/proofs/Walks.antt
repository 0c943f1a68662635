-- How the functions of a node's parts make those of the node.
use Rattle.std.proofs.Common.{◌≡◌, List, [], ◌++◌, Bool, Option, Some, None, append-nil, ap, refl, sym}
use Rattle.std.proofs.Common.{◌∙◌, false}
use Rattle.jl_text.specs.declared.span.Span.{Span}
use Rattle.jl_ast.specs.declared.tree.Ident.{Ident}
use Rattle.jl_ast.specs.declared.tree.Program.{Program}
use Rattle.jl_ast.specs.declared.tree.Stmt.{Stmt}
use Rattle.jl_ast.specs.Tree.{body, code, Tree}
use Rattle.jl_ast.specs.Spans.{map_spans}
use Rattle.jl_ast.specs.View.{view, view_body, view_catch, view_statements}
use Rattle.jl_scope.specs.Hoisting.{strict_in}
use Rattle.jl_meaning.specs.FunctionTable.{function_table}
use Rattle.jl_state.specs.Trees.{plain}
use Rattle.jl_state.specs.Words.{table_of}
use Rattle.jl_state.specs.declared.script_function.ScriptFunction as held
use Rattle.jl_realm.specs.inner.Walk.{functions_of, functions_of_list, functions_of_optional}

pub caught_there : (strict : Bool) (o : Option (Ident × List Stmt)) (x : Ident × List Stmt) (l : List Stmt)
    (mid new now : List held.ScriptFunction) → o ≡ Some x → l ≡ x.1 → new ≡ now
    → table_of now ≡ table_of mid ++ functions_of_list strict (view_statements l)
    → table_of new ≡ table_of mid ++ functions_of_optional strict (view_catch o)
caught_there strict o x l mid new now e i n m =
    let c : functions_of_optional strict (view_catch o) ≡ functions_of_list strict (view_statements x.1) =
    ap (λ o. functions_of_optional strict (view_catch o)) e in
    let d : functions_of_list strict (view_statements l) ≡ functions_of_list strict (view_statements x.1) =
    ap (λ l. functions_of_list strict (view_statements l)) i in
    ap table_of n ∙ m ∙ ap (λ r. table_of mid ++ r) (d ∙ sym c)

pub caught_absent : (strict : Bool) (o : Option (Ident × List Stmt)) (mid new : List held.ScriptFunction) → o ≡ None
    → new ≡ mid → table_of new ≡ table_of mid ++ functions_of_optional strict (view_catch o)
caught_absent strict o mid new e n =
    let c : functions_of_optional strict (view_catch o) ≡ [] =
    ap (λ o. functions_of_optional strict (view_catch o)) e in
    ap table_of n ∙ sym (ap (λ l. table_of mid ++ l) c ∙ append-nil (table_of mid))

-- code without places is as strict
strict_plain : (strict : Bool) (b : Tree Span code) → strict_in strict (plain b) ≡ strict_in strict b
strict_plain strict (body is_strict fs l) = refl

-- the functions of a program with no ids are those of its body
pub table_is : (p : Program) → function_table (map_spans (λ s. 0) (view p))
    ≡ functions_of (strict_in false (view_body p.body)) (view_body p.body)
unfolding function_table
table_is p = ap (λ strict. functions_of strict (view_body p.body)) (strict_plain false (view_body p.body))

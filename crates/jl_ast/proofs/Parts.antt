-- How the functions of a node's parts make those of the node.
use Rattle.std.proofs.Common.{◌≡◌, List, [], ◌++◌, Option, Some, None, append-nil, ◌+◌, ◌*◌, ◌<◌, map, rules}
use Rattle.std.proofs.Common.{Result, OnOk, append_assoc, ap, sym, ◌∙◌}
use Rattle.std.proofs.lemmas.Result.{on_ok_weaker}
use denote.Param.Weighed.{most}
use Rattle.jl_ast.specs.declared.tree.Ident.{Ident}
use Rattle.jl_ast.specs.declared.tree.Function.{Function}
use Rattle.jl_ast.specs.declared.tree.Stmt.{Stmt, size-Stmt}
use Rattle.jl_ast.specs.declared.tree.Expr.{Expr}
use Rattle.jl_ast.specs.declared.tree.ForInit.{ForInit}
use Rattle.jl_ast.specs.declared.tree.StmtKind as statement
use Rattle.jl_ast.specs.declared.tree.ExprKind.{the_lemmas}
use Rattle.jl_ast.specs.Tree.{present, branch_of}
use Rattle.jl_ast.specs.Table.{functions_of_optional, functions_of_forest}
use Rattle.jl_ast.specs.View.{view_branch, view_catch, view_function, view_statements}

pub then_part : {A : Type 0} (old mid new a b : List A) → mid ≡ old ++ a → new ≡ mid ++ b → new ≡ old ++ (a ++ b)
then_part old mid new a b m n = n ∙ ap (λ l. l ++ b) m ∙ append_assoc old a b

pub last_part : {A T E : Type 0} (r : Result T E) (old mid new all a b : List A) → all ≡ a ++ b →
    mid ≡ old ++ a → OnOk r (new ≡ mid ++ b) → OnOk r (new ≡ old ++ all)
last_part r old mid new all a b e m =
    on_ok_weaker r (λ n. then_part old mid new a b m n ∙ ap (λ l. old ++ l) (sym e))

pub no_last_part : {A : Type 0} (old new all a : List A) → all ≡ a ++ [] → new ≡ old ++ a → new ≡ old ++ all
no_last_part old new all a e n = n ∙ ap (λ l. old ++ l) (sym (e ∙ append-nil a))

pub branch_there : (o : Option (List Stmt)) {l m : List Stmt} → o ≡ Some l → m ≡ l →
    view_branch o ≡ present (branch_of (view_statements m))
branch_there o e i = ap view_branch e ∙ ap (λ l. present (branch_of (view_statements l))) (sym i)

pub caught_there : (o : Option (Ident × List Stmt)) (x : Ident × List Stmt) (l : List Stmt)
    (mid new now : List Function) → o ≡ Some x → l ≡ x.1 → new ≡ now →
    map view_function now ≡ map view_function mid ++ functions_of_forest (view_statements l) →
    map view_function new ≡ map view_function mid ++ functions_of_optional (view_catch o)
caught_there o x l mid new now e i n m =
    let c : functions_of_optional (view_catch o) ≡ functions_of_forest (view_statements x.1) =
    ap (λ o. functions_of_optional (view_catch o)) e in
    let d : functions_of_forest (view_statements l) ≡ functions_of_forest (view_statements x.1) =
    ap (λ l. functions_of_forest (view_statements l)) i in
    ap (map view_function) n ∙ m ∙ ap (λ r. map view_function mid ++ r) (d ∙ sym c)

pub caught_absent : (o : Option (Ident × List Stmt)) (mid new : List Function) → o ≡ None → new ≡ mid →
    map view_function new ≡ map view_function mid ++ functions_of_optional (view_catch o)
caught_absent o mid new e n =
    let c : functions_of_optional (view_catch o) ≡ [] = ap (λ o. functions_of_optional (view_catch o)) e in
    ap (map view_function) n ∙ sym (ap (λ l. map view_function mid ++ l) c ∙ append-nil (map view_function mid))

-- the statements of a `for` are not as deep as it
pub below_for : (s : Stmt) (i : ForInit) (c u : Option Expr) (l : List Stmt) → s.kind ≡ statement.For i c u l →
    2 * most size-Stmt l + 1 < 2 * size-Stmt s + 0
below_for s i c u l e = search (rules, the_lemmas)

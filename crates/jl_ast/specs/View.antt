-- The plain tree that a tree of the code is. A list is a forest, a box is what it holds, a span is a place; a kind
-- becomes a tree once it has its span.
use Rattle.std.specs.Prelude.{List, map, Option, None, Some, option_map}
use Rattle.jl_text.specs.declared.span.Span.{Span}
use Rattle.jl_ast.specs.declared.tree.Entry.TheOpen.{Entry-F, ExprKind-F, ForInit-F, StmtKind-F, Target-F}
use Rattle.jl_ast.specs.declared.tree.Entry.TheOpen.{Body-F, Case-F, Expr-F, Function-F, Stmt-F}
use Rattle.jl_ast.specs.declared.tree.Ident.{Ident}
use Rattle.jl_ast.specs.declared.tree.Program.{Program}
use Rattle.jl_ast.specs.declared.tree.Entry.{Entry, fold-Entry}
use Rattle.jl_ast.specs.declared.tree.ExprKind.{ExprKind, fold-ExprKind}
use Rattle.jl_ast.specs.declared.tree.ForInit.{ForInit, fold-ForInit}
use Rattle.jl_ast.specs.declared.tree.StmtKind.{StmtKind, fold-StmtKind}
use Rattle.jl_ast.specs.declared.tree.Target.{Target, fold-Target}
use Rattle.jl_ast.specs.declared.tree.Body.{Body, fold-Body}
use Rattle.jl_ast.specs.declared.tree.Case.{Case, fold-Case}
use Rattle.jl_ast.specs.declared.tree.Expr.{Expr, fold-Expr}
use Rattle.jl_ast.specs.declared.tree.Function.{Function, fold-Function}
use Rattle.jl_ast.specs.declared.tree.Stmt.{Stmt, fold-Stmt}
use Rattle.jl_ast.specs.Tree as tree
use Rattle.jl_ast.specs.Tree.{Tree, Forest, OptionalTree, forest, absent, present, hole, filled}

abbrev pub view_ident : Ident → tree.Ident Span
view_ident x = record { text = x.text; at = x.span }

-- what is there or not
module _ {S : Type 0} where
  abbrev pub optional : {x : tree.Sort} → Option (Tree S x) → OptionalTree S x
  optional None = absent
  optional (Some t) = present t

  abbrev pub item : Option (Tree S tree.expr) → Tree S tree.item
  item None = hole
  item (Some e) = filled e

  abbrev pub branch : Option (List (Tree S tree.stmt)) → OptionalTree S tree.branch
  branch None = absent
  branch (Some l) = present (tree.branch_of (forest l))

abbrev pub catch : Option (Ident × List (Tree Span tree.stmt)) → OptionalTree Span tree.handler
catch None = absent
catch (Some c) = present (tree.catch (view_ident c.0) (forest c.1))

abbrev pub declarator : Ident × Option (Tree Span tree.expr) → Tree Span tree.decl
declarator d = tree.declarator (view_ident d.0) (optional d.1)

-- a node of the code's tree whose parts are plain trees already
abbrev Layer : (Type 0 → Type 0 → Type 0 → Type 0 → Type 0 → Type 0 → Type 0 → Type 0 → Type 0 → Type 0 →
    Type 0) → Type 0
Layer F = F (Tree Span tree.entry) (Span → Tree Span tree.expr) (Tree Span tree.init)
    (Span → Tree Span tree.stmt) (Tree Span tree.target) (Tree Span tree.code) (Tree Span tree.clause)
    (Tree Span tree.expr) (Tree Span tree.func) (Tree Span tree.stmt)

abbrev pub entry_of : Layer Entry-F → Tree Span tree.entry
entry_of (Entry-F.Value k e) = tree.value (view_ident k) e
entry_of (Entry-F.Get k f) = tree.getter (view_ident k) f
entry_of (Entry-F.Set k f) = tree.setter (view_ident k) f

abbrev pub expression_of : Layer ExprKind-F → Span → Tree Span tree.expr
expression_of ExprKind-F.This s = tree.this s
expression_of (ExprKind-F.ExprKind::Name x) s = tree.name x s
expression_of (ExprKind-F.Num n) s = tree.number n s
expression_of (ExprKind-F.Str t) s = tree.string t s
expression_of (ExprKind-F.Bool b) s = tree.boolean b s
expression_of ExprKind-F.Null s = tree.null s
expression_of (ExprKind-F.Array l) s = tree.array (forest (map item l)) s
expression_of (ExprKind-F.Object l) s = tree.object (forest l) s
expression_of (ExprKind-F.Function f) s = tree.function_expression f.value s
expression_of (ExprKind-F.ExprKind::Dot o k) s = tree.dot o.value k s
expression_of (ExprKind-F.ExprKind::Index o k) s = tree.index o.value k.value s
expression_of (ExprKind-F.Call f l) s = tree.call f.value (forest l) s
expression_of (ExprKind-F.New f l) s = tree.new f.value (forest l) s
expression_of (ExprKind-F.Unary o e) s = tree.unary o e.value s
expression_of (ExprKind-F.Update up prefix t) s = tree.update up prefix t.value s
expression_of (ExprKind-F.Binary o a b) s = tree.binary o a.value b.value s
expression_of (ExprKind-F.And a b) s = tree.and a.value b.value s
expression_of (ExprKind-F.Or a b) s = tree.or a.value b.value s
expression_of (ExprKind-F.Cond a b c) s = tree.conditional a.value b.value c.value s
expression_of (ExprKind-F.Assign o t e) s = tree.assign o t.value e.value s
expression_of (ExprKind-F.Comma a b) s = tree.comma a.value b.value s

abbrev pub init_of : Layer ForInit-F → Tree Span tree.init
init_of ForInit-F.Nothing = tree.nothing
init_of (ForInit-F.ForInit::Expr e) = tree.init_expression e
init_of (ForInit-F.ForInit::Var l) = tree.init_var (forest (map declarator l))

abbrev pub statement_of : Layer StmtKind-F → Span → Tree Span tree.stmt
statement_of (StmtKind-F.StmtKind::Var l) s = tree.var (forest (map declarator l)) s
statement_of StmtKind-F.Empty s = tree.empty s
statement_of (StmtKind-F.StmtKind::Expr e) s = tree.expression e s
statement_of (StmtKind-F.Block l) s = tree.block (forest l) s
statement_of (StmtKind-F.If c a b) s = tree.if_else c (forest a) (branch b) s
statement_of (StmtKind-F.DoWhile l c) s = tree.do_while (forest l) c s
statement_of (StmtKind-F.While c l) s = tree.while c (forest l) s
statement_of (StmtKind-F.For i c u l) s = tree.for i (optional c) (optional u) (forest l) s
statement_of (StmtKind-F.ForIn is_var x o l) s = tree.for_in is_var (view_ident x) o (forest l) s
statement_of (StmtKind-F.Continue x) s = tree.continue (option_map view_ident x) s
statement_of (StmtKind-F.Break x) s = tree.break (option_map view_ident x) s
statement_of (StmtKind-F.Return e) s = tree.return (optional e) s
statement_of (StmtKind-F.Labelled x t) s = tree.labelled (view_ident x) t.value s
statement_of (StmtKind-F.Switch e l) s = tree.switch e (forest l) s
statement_of (StmtKind-F.Throw e) s = tree.throw e s
statement_of (StmtKind-F.Try l h f) s = tree.try (forest l) (catch h) (branch f) s
statement_of StmtKind-F.Debugger s = tree.debugger s

abbrev pub target_of : Layer Target-F → Tree Span tree.target
target_of (Target-F.Target::Name x) = tree.to_name (view_ident x)
target_of (Target-F.Target::Dot o k s) = tree.to_dot o k s
target_of (Target-F.Target::Index o k s) = tree.to_index o k s

abbrev pub body_of : Layer Body-F → Tree Span tree.code
body_of b = tree.body b.strict (forest b.functions) (forest b.statements)

abbrev pub case_of : Layer Case-F → Tree Span tree.clause
case_of c = tree.case (optional c.test) (forest c.body)

abbrev pub placed_expression : Layer Expr-F → Tree Span tree.expr
placed_expression e = e.kind e.span

abbrev pub function_of : Layer Function-F → Tree Span tree.func
function_of f = tree.function f.number (option_map view_ident f.name) (map view_ident f.params) f.body f.span

abbrev pub placed_statement : Layer Stmt-F → Tree Span tree.stmt
placed_statement s = s.kind s.span

abbrev pub view_expression_kind : ExprKind → Span → Tree Span tree.expr
view_expression_kind =
    fold-ExprKind _ _ _ _ _ _ _ _ _ _ entry_of expression_of init_of statement_of target_of body_of
    case_of placed_expression function_of placed_statement

abbrev pub view_expression : Expr → Tree Span tree.expr
view_expression =
    fold-Expr _ _ _ _ _ _ _ _ _ _ entry_of expression_of init_of statement_of target_of body_of
    case_of placed_expression function_of placed_statement

abbrev pub view_target : Target → Tree Span tree.target
view_target =
    fold-Target _ _ _ _ _ _ _ _ _ _ entry_of expression_of init_of statement_of target_of body_of
    case_of placed_expression function_of placed_statement

abbrev pub view_entry : Entry → Tree Span tree.entry
view_entry =
    fold-Entry _ _ _ _ _ _ _ _ _ _ entry_of expression_of init_of statement_of target_of body_of
    case_of placed_expression function_of placed_statement

abbrev pub view_function : Function → Tree Span tree.func
view_function =
    fold-Function _ _ _ _ _ _ _ _ _ _ entry_of expression_of init_of statement_of target_of body_of
    case_of placed_expression function_of placed_statement

abbrev pub view_body : Body → Tree Span tree.code
view_body =
    fold-Body _ _ _ _ _ _ _ _ _ _ entry_of expression_of init_of statement_of target_of body_of
    case_of placed_expression function_of placed_statement

abbrev pub view_statement_kind : StmtKind → Span → Tree Span tree.stmt
view_statement_kind =
    fold-StmtKind _ _ _ _ _ _ _ _ _ _ entry_of expression_of init_of statement_of target_of body_of
    case_of placed_expression function_of placed_statement

abbrev pub view_statement : Stmt → Tree Span tree.stmt
view_statement =
    fold-Stmt _ _ _ _ _ _ _ _ _ _ entry_of expression_of init_of statement_of target_of body_of
    case_of placed_expression function_of placed_statement

abbrev pub view_init : ForInit → Tree Span tree.init
view_init =
    fold-ForInit _ _ _ _ _ _ _ _ _ _ entry_of expression_of init_of statement_of target_of body_of
    case_of placed_expression function_of placed_statement

abbrev pub view_case : Case → Tree Span tree.clause
view_case =
    fold-Case _ _ _ _ _ _ _ _ _ _ entry_of expression_of init_of statement_of target_of body_of
    case_of placed_expression function_of placed_statement

abbrev pub view_declarator : Ident × Option Expr → Tree Span tree.decl
view_declarator d = declarator (d.0, option_map view_expression d.1)

abbrev pub view_expressions : List Expr → Forest Span tree.expr
view_expressions l = forest (map view_expression l)

abbrev pub view_optional : Option Expr → OptionalTree Span tree.expr
view_optional e = optional (option_map view_expression e)

abbrev pub view_items : List (Option Expr) → Forest Span tree.item
view_items l = forest (map item (map (option_map view_expression) l))

abbrev pub view_entries : List Entry → Forest Span tree.entry
view_entries l = forest (map view_entry l)

abbrev pub view_functions : List Function → Forest Span tree.func
view_functions l = forest (map view_function l)

abbrev pub view_statements : List Stmt → Forest Span tree.stmt
view_statements l = forest (map view_statement l)

abbrev pub view_branch : Option (List Stmt) → OptionalTree Span tree.branch
view_branch l = branch (option_map (map view_statement) l)

abbrev pub view_catch : Option (Ident × List Stmt) → OptionalTree Span tree.handler
view_catch c = catch (option_map (λ h. (h.0, map view_statement h.1)) c)

abbrev pub view_declarators : List (Ident × Option Expr) → Forest Span tree.decl
view_declarators l = forest (map declarator (map (λ d. (d.0, option_map view_expression d.1)) l))

abbrev pub view_cases : List Case → Forest Span tree.clause
view_cases l = forest (map view_case l)

-- what a program is
abbrev pub view : Program → tree.Program Span
view p = record { body = view_body p.body; at = p.span }

-- What each node of the code's tree is: a kind once it has its span, and the others by themselves.
use Rattle.std.proofs.Common.{◌≡◌, List, Option, option_map, map, Bool, rules}
use Rattle.std.specs.Global.{Global}
use Rattle.std.specs.declared.boxed.Box.{Box}
use Rattle.jl_num.specs.Number.{Number}
use Rattle.jl_text.specs.declared.span.Span.{Span}
use Rattle.jl_ast.specs.declared.ops.UnOp.{UnOp}
use Rattle.jl_ast.specs.declared.ops.BinOp.{BinOp}
use Rattle.jl_ast.specs.declared.tree.Ident.{Ident}
use Rattle.jl_ast.specs.declared.tree.Expr.{Expr}
use Rattle.jl_ast.specs.declared.tree.Stmt.{Stmt}
use Rattle.jl_ast.specs.declared.tree.Function.{Function, out-Function}
use Rattle.jl_ast.specs.declared.tree.Body.{Body, out-Body}
use Rattle.jl_ast.specs.declared.tree.Entry.{Entry}
use Rattle.jl_ast.specs.declared.tree.Case.{Case, out-Case}
use Rattle.jl_ast.specs.declared.tree.Target.{Target}
use Rattle.jl_ast.specs.declared.tree.ForInit.{ForInit}
use Rattle.jl_ast.specs.declared.tree.ExprKind as expression
use Rattle.jl_ast.specs.declared.tree.StmtKind as statement
use Rattle.jl_ast.specs.declared.tree.ForInit as init
use Rattle.jl_ast.specs.declared.tree.Target as target
use Rattle.jl_ast.specs.declared.tree.Entry as entry
use Rattle.jl_ast.specs.declared.tree.ExprKind.{the_lemmas}
use Rattle.jl_ast.specs.Tree as tree
use Rattle.jl_ast.specs.Tree.{Text}
use Rattle.jl_ast.specs.View.{view_ident, view_expression, view_expression_kind, view_statement_kind}
use Rattle.jl_ast.specs.View.{view_expressions, view_optional, view_items, view_target, view_entry, view_entries}
use Rattle.jl_ast.specs.View.{view_function, view_functions, view_body, view_statement, view_statements}
use Rattle.jl_ast.specs.View.{view_branch, view_catch, view_init, view_declarators, view_case, view_cases}

-- expressions

pub expression_This : (s : Span) → view_expression_kind expression.This s ≡ tree.this s
expression_This s = search (rules, the_lemmas)

pub expression_Name : (x : Text) (s : Span) → view_expression_kind (expression.Name x) s ≡ tree.name x s
expression_Name x s = search (rules, the_lemmas)

pub expression_Num : (n : Number) (s : Span) → view_expression_kind (expression.Num n) s ≡ tree.number n s
expression_Num n s = search (rules, the_lemmas)

pub expression_Str : (t : Text) (s : Span) → view_expression_kind (expression.Str t) s ≡ tree.string t s
expression_Str t s = search (rules, the_lemmas)

pub expression_Bool : (b : Bool) (s : Span) → view_expression_kind (expression.Bool b) s ≡ tree.boolean b s
expression_Bool b s = search (rules, the_lemmas)

pub expression_Null : (s : Span) → view_expression_kind expression.Null s ≡ tree.null s
expression_Null s = search (rules, the_lemmas)

pub expression_Array : (l : List (Option Expr)) (s : Span) →
    view_expression_kind (expression.Array l) s ≡ tree.array (view_items l) s
expression_Array l s = search (rules, the_lemmas)

pub expression_Object : (l : List Entry) (s : Span) →
    view_expression_kind (expression.Object l) s ≡ tree.object (view_entries l) s
expression_Object l s = search (rules, the_lemmas)

pub expression_Function : (f : Box Function Global) (s : Span) →
    view_expression_kind (expression.Function f) s ≡ tree.function_expression (view_function f.value) s
expression_Function f s = search (rules, the_lemmas)

pub expression_Dot : (o : Box Expr Global) (k : Text) (s : Span) →
    view_expression_kind (expression.Dot o k) s ≡ tree.dot (view_expression o.value) k s
expression_Dot o k s = search (rules, the_lemmas)

pub expression_Index : (o k : Box Expr Global) (s : Span) →
    view_expression_kind (expression.Index o k) s ≡ tree.index (view_expression o.value)
    (view_expression k.value) s
expression_Index o k s = search (rules, the_lemmas)

pub expression_Call : (f : Box Expr Global) (l : List Expr) (s : Span) →
    view_expression_kind (expression.Call f l) s ≡ tree.call (view_expression f.value) (view_expressions l) s
expression_Call f l s = search (rules, the_lemmas)

pub expression_New : (f : Box Expr Global) (l : List Expr) (s : Span) →
    view_expression_kind (expression.New f l) s ≡ tree.new (view_expression f.value) (view_expressions l) s
expression_New f l s = search (rules, the_lemmas)

pub expression_Unary : (o : UnOp) (e : Box Expr Global) (s : Span) →
    view_expression_kind (expression.Unary o e) s ≡ tree.unary o (view_expression e.value) s
expression_Unary o e s = search (rules, the_lemmas)

pub expression_Update : (up prefix : Bool) (t : Box Target Global) (s : Span) →
    view_expression_kind (expression.Update up prefix t) s ≡ tree.update up prefix (view_target t.value) s
expression_Update up prefix t s = search (rules, the_lemmas)

pub expression_Binary : (o : BinOp) (a b : Box Expr Global) (s : Span) →
    view_expression_kind (expression.Binary o a b) s
    ≡ tree.binary o (view_expression a.value) (view_expression b.value) s
expression_Binary o a b s = search (rules, the_lemmas)

pub expression_And : (a b : Box Expr Global) (s : Span) →
    view_expression_kind (expression.And a b) s ≡ tree.and (view_expression a.value) (view_expression b.value) s
expression_And a b s = search (rules, the_lemmas)

pub expression_Or : (a b : Box Expr Global) (s : Span) →
    view_expression_kind (expression.Or a b) s ≡ tree.or (view_expression a.value) (view_expression b.value) s
expression_Or a b s = search (rules, the_lemmas)

pub expression_Cond : (a b c : Box Expr Global) (s : Span) →
    view_expression_kind (expression.Cond a b c) s
    ≡ tree.conditional (view_expression a.value) (view_expression b.value) (view_expression c.value) s
expression_Cond a b c s = search (rules, the_lemmas)

pub expression_Assign : (o : Option BinOp) (t : Box Target Global) (e : Box Expr Global) (s : Span) →
    view_expression_kind (expression.Assign o t e) s
    ≡ tree.assign o (view_target t.value) (view_expression e.value) s
expression_Assign o t e s = search (rules, the_lemmas)

pub expression_Comma : (a b : Box Expr Global) (s : Span) →
    view_expression_kind (expression.Comma a b) s ≡ tree.comma (view_expression a.value)
    (view_expression b.value) s
expression_Comma a b s = search (rules, the_lemmas)

pub expression_placed : (e : Expr) → view_expression e ≡ view_expression_kind e.kind e.span
expression_placed e = search (rules, the_lemmas)

-- what is assigned to

pub target_Name : (x : Ident) → view_target (target.Name x) ≡ tree.to_name (view_ident x)
target_Name x = search (rules, the_lemmas)

pub target_Dot : (e : Expr) (t : Text) (s : Span) →
    view_target (target.Dot e t s) ≡ tree.to_dot (view_expression e) t s
target_Dot e t s = search (rules, the_lemmas)

pub target_Index : (e k : Expr) (s : Span) → view_target (target.Index e k s)
    ≡ tree.to_index (view_expression e) (view_expression k) s
target_Index e k s = search (rules, the_lemmas)

-- the properties of an object literal

pub entry_Value : (x : Ident) (e : Expr) → view_entry (entry.Value x e)
    ≡ tree.value (view_ident x) (view_expression e)
entry_Value x e = search (rules, the_lemmas)

pub entry_Get : (x : Ident) (f : Function) → view_entry (entry.Get x f)
    ≡ tree.getter (view_ident x) (view_function f)
entry_Get x f = search (rules, the_lemmas)

pub entry_Set : (x : Ident) (f : Function) → view_entry (entry.Set x f)
    ≡ tree.setter (view_ident x) (view_function f)
entry_Set x f = search (rules, the_lemmas)

-- statements and their parts

pub statement_Var : (l : List (Ident × Option Expr)) (s : Span) →
    view_statement_kind (statement.Var l) s ≡ tree.var (view_declarators l) s
statement_Var l s = search (rules, the_lemmas)

pub statement_Empty : (s : Span) → view_statement_kind statement.Empty s ≡ tree.empty s
statement_Empty s = search (rules, the_lemmas)

pub statement_Expr : (e : Expr) (s : Span) → view_statement_kind (statement.Expr e) s
    ≡ tree.expression (view_expression e) s
statement_Expr e s = search (rules, the_lemmas)

pub statement_Block : (l : List Stmt) (s : Span) →
    view_statement_kind (statement.Block l) s ≡ tree.block (view_statements l) s
statement_Block l s = search (rules, the_lemmas)

pub statement_If : (c : Expr) (a : List Stmt) (b : Option (List Stmt)) (s : Span) →
    view_statement_kind (statement.If c a b) s ≡ tree.if_else (view_expression c) (view_statements a)
    (view_branch b) s
statement_If c a b s = search (rules, the_lemmas)

pub statement_DoWhile : (l : List Stmt) (c : Expr) (s : Span) →
    view_statement_kind (statement.DoWhile l c) s ≡ tree.do_while (view_statements l) (view_expression c) s
statement_DoWhile l c s = search (rules, the_lemmas)

pub statement_While : (c : Expr) (l : List Stmt) (s : Span) →
    view_statement_kind (statement.While c l) s ≡ tree.while (view_expression c) (view_statements l) s
statement_While c l s = search (rules, the_lemmas)

pub statement_For : (i : ForInit) (c u : Option Expr) (l : List Stmt) (s : Span) →
    view_statement_kind (statement.For i c u l) s ≡ tree.for (view_init i) (view_optional c) (view_optional u)
    (view_statements l) s
statement_For i c u l s = search (rules, the_lemmas)

pub statement_ForIn : (is_var : Bool) (x : Ident) (o : Expr) (l : List Stmt) (s : Span) →
    view_statement_kind (statement.ForIn is_var x o l) s
    ≡ tree.for_in is_var (view_ident x) (view_expression o) (view_statements l) s
statement_ForIn is_var x o l s = search (rules, the_lemmas)

pub statement_Continue : (x : Option Ident) (s : Span) →
    view_statement_kind (statement.Continue x) s ≡ tree.continue (option_map view_ident x) s
statement_Continue x s = search (rules, the_lemmas)

pub statement_Break : (x : Option Ident) (s : Span) →
    view_statement_kind (statement.Break x) s ≡ tree.break (option_map view_ident x) s
statement_Break x s = search (rules, the_lemmas)

pub statement_Return : (e : Option Expr) (s : Span) →
    view_statement_kind (statement.Return e) s ≡ tree.return (view_optional e) s
statement_Return e s = search (rules, the_lemmas)

pub statement_Labelled : (x : Ident) (t : Box Stmt Global) (s : Span) →
    view_statement_kind (statement.Labelled x t) s ≡ tree.labelled (view_ident x) (view_statement t.value) s
statement_Labelled x t s = search (rules, the_lemmas)

pub statement_Switch : (e : Expr) (l : List Case) (s : Span) →
    view_statement_kind (statement.Switch e l) s ≡ tree.switch (view_expression e) (view_cases l) s
statement_Switch e l s = search (rules, the_lemmas)

pub statement_Throw : (e : Expr) (s : Span) → view_statement_kind (statement.Throw e) s
    ≡ tree.throw (view_expression e) s
statement_Throw e s = search (rules, the_lemmas)

pub statement_Try : (l : List Stmt) (h : Option (Ident × List Stmt)) (f : Option (List Stmt)) (s : Span) →
    view_statement_kind (statement.Try l h f) s ≡ tree.try (view_statements l) (view_catch h) (view_branch f) s
statement_Try l h f s = search (rules, the_lemmas)

pub statement_Debugger : (s : Span) → view_statement_kind statement.Debugger s ≡ tree.debugger s
statement_Debugger s = search (rules, the_lemmas)

pub statement_placed : (s : Stmt) → view_statement s ≡ view_statement_kind s.kind s.span
statement_placed s = search (rules, the_lemmas)

pub init_Nothing : view_init init.Nothing ≡ tree.nothing
init_Nothing = search (rules, the_lemmas)

pub init_Expr : (e : Expr) → view_init (init.Expr e) ≡ tree.init_expression (view_expression e)
init_Expr e = search (rules, the_lemmas)

pub init_Var : (l : List (Ident × Option Expr)) → view_init (init.Var l) ≡ tree.init_var (view_declarators l)
init_Var l = search (rules, the_lemmas)

pub case_is : (x : Case) → view_case x ≡ tree.case (view_optional (out-Case x).test)
    (view_statements (out-Case x).body)
case_is x = search (rules, the_lemmas)

pub function_is : (x : Function) → view_function x
    ≡ tree.function (out-Function x).number (option_map view_ident (out-Function x).name)
    (map view_ident (out-Function x).params) (view_body (out-Function x).body) (out-Function x).span
function_is x = search (rules, the_lemmas)

pub body_is : (x : Body) → view_body x ≡ tree.body (out-Body x).strict (view_functions (out-Body x).functions)
    (view_statements (out-Body x).statements)
body_is x = search (rules, the_lemmas)

pub ruleset nodes = (
  expression_This,
  expression_Name,
  expression_Num,
  expression_Str,
  expression_Bool,
  expression_Null,
  expression_Array,
  expression_Object,
  expression_Function,
  expression_Dot,
  expression_Index,
  expression_Call,
  expression_New,
  expression_Unary,
  expression_Update,
  expression_Binary,
  expression_And,
  expression_Or,
  expression_Cond,
  expression_Assign,
  expression_Comma,
  expression_placed,
  target_Name,
  target_Dot,
  target_Index,
  entry_Value,
  entry_Get,
  entry_Set,
  statement_Var,
  statement_Empty,
  statement_Expr,
  statement_Block,
  statement_If,
  statement_DoWhile,
  statement_While,
  statement_For,
  statement_ForIn,
  statement_Continue,
  statement_Break,
  statement_Return,
  statement_Labelled,
  statement_Switch,
  statement_Throw,
  statement_Try,
  statement_Debugger,
  statement_placed,
  init_Nothing,
  init_Expr,
  init_Var,
  case_is,
  function_is,
  body_is,
)

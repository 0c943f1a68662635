-- Declarators of variables, by the first that has an initialiser (12.2).
use Rattle.std.specs.Borrow.{Bor}
use Rattle.std.specs.Prelude.{◌≡◌, List, None, Option, Some, ℕ}
use Rattle.jl_ast.specs.View.{view_declarators, view_expression}
use Rattle.jl_ast.specs.declared.tree.Expr.{Expr}
use Rattle.jl_ast.specs.declared.tree.Ident.{Ident}
use Rattle.jl_meaning.specs.Expressions.{evaluate}
use Rattle.jl_meaning.specs.FunctionObjects.{FunctionTable}
use Rattle.jl_meaning.specs.Parts.{give, ◌>>=◌, Answer, Context, Part}
use Rattle.jl_meaning.specs.forms.Names.{assign_name}
use Rattle.jl_meaning.specs.forms.Simple.{declare_all}
use Rattle.jl_state.specs.Trees.{items_left, plain, plain_forest}
use Rattle.jl_state.specs.declared.remaining.Remaining.{Remaining}

abbrev pub Declarator : Type 0
Declarator = Ident × Option Expr

-- a name, its initialiser, and the declarators after it
abbrev pub Initialised : Type 0
Initialised = Bor (List ℕ) × Bor Expr × Remaining Declarator

abbrev pub declare : FunctionTable → Context → List Declarator → Part (Answer (Unit {0}))
declare table c l = declare_all table (plain_forest (view_declarators l)) c

abbrev pub declare_from : FunctionTable → Context → Option Initialised → Part (Answer (Unit {0}))
declare_from table c None = give (tt {0})
declare_from table c (Some (x, e, rest)) = do
  _ ← (do
    _ ← assign_name 0 c x.now (evaluate table (plain (view_expression e.now)) c)
    give (tt {0}))
  declare table c (items_left rest)

-- the first of the declarators that has an initialiser is this one
pub record IsFirst (l : List Declarator) (first : Option Initialised) : Type 0 where
  pub same : (table : FunctionTable) (c : Context) → declare table c l ≡ declare_from table c first

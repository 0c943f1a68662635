-- Declarators of variables, and what stands first in the head of a `for` (12.2, 12.6.3).
use Rattle.std.specs.Prelude.{ℕ}
use Rattle.jl_ast.specs.Tree.{Forest, Tree}
use Rattle.jl_ast.specs.Tree as tree
use Rattle.jl_meaning.specs.Expressions.{evaluate}
use Rattle.jl_meaning.specs.FunctionObjects.{FunctionTable}
use Rattle.jl_meaning.specs.Parts.{give, ◌>>=◌, Answer, Context, Part}
use Rattle.jl_meaning.specs.forms.Names.{assign_name}

module _ (table : FunctionTable) where
  -- a declarator without an initialiser does nothing
  abbrev pub declare : Tree ℕ tree.decl → Context → Part (Answer (Unit {0}))
  declare (tree.declarator x tree.absent) c = give tt
  declare (tree.declarator x (tree.present e)) c = do
    _ ← assign_name x.at c x.text (evaluate table e c)
    give tt

  abbrev pub declare_all : Forest ℕ tree.decl → Context → Part (Answer (Unit {0}))
  declare_all tree.end c = give tt
  declare_all (tree.more d l) c = do
    _ ← declare d c
    declare_all l c

  abbrev pub begin_for : Tree ℕ tree.init → Context → Part (Answer (Unit {0}))
  begin_for tree.nothing c = give tt
  begin_for (tree.init_expression e) c = do
    _ ← evaluate table e c
    give tt
  begin_for (tree.init_var l) c = declare_all l c

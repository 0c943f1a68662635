-- Calls of hooks as trees: `J$.NAME(id, ..)`. Woven nodes have no places.
use Rattle.std.specs.Prelude.{codes, false, pos, true, ◌+◌, Bool, None, Option, Some, ℕ}
use Rattle.jl_ast.specs.Tree.{Forest, Ident, Sort, Text, Tree}
use Rattle.jl_ast.specs.Tree as tree
use Rattle.jl_ast.specs.declared.ops.BinOp.{BinOp}
use Rattle.jl_ast.specs.declared.ops.BinOp.TheVariants as binary
use Rattle.jl_scope.specs.Names.{hooks_name}
use Rattle.jl_op.specs.Trace.{binary_sign, unary_sign}
use Rattle.jl_op.specs.declared.sign.UnKind.{UnKind}
use Rattle.jl_op.specs.UnaryKinds.{update_kind}

abbrev pub Woven : Sort → Type 0
Woven x = Tree (Unit {0}) x

abbrev pub Expr : Type 0
Expr = Woven tree.expr

abbrev pub Exprs : Type 0
Exprs = Forest (Unit {0}) tree.expr

abbrev pub Stmt : Type 0
Stmt = Woven tree.stmt

abbrev pub Stmts : Type 0
Stmts = Forest (Unit {0}) tree.stmt

abbrev pub without_id : Ident ℕ → Ident (Unit {0})
without_id x = record { text = x.text; at = tt }

abbrev pub no_exprs : Exprs
no_exprs = tree.end

-- a call of a hook with its id, and what follows it
abbrev pub hook : (h : Text) → (id : ℕ) → Exprs → Expr
hook h id l = tree.call (tree.dot (tree.name hooks_name tt) h tt) (tree.more (tree.number (Some (pos id)) tt) l) tt

abbrev pub hook_1 : (h : Text) → (id : ℕ) → Expr → Expr
hook_1 h id e = hook h id (tree.more e no_exprs)

abbrev pub hook_2 : (h : Text) → (id : ℕ) → Expr → Expr → Expr
hook_2 h id a b = hook h id (tree.more a (tree.more b no_exprs))

abbrev pub string_of : Text → Expr
string_of t = tree.string t tt

-- those that follow their id with a name or an operator
abbrev pub hook_of_1 : (h : Text) → (id : ℕ) → (word : Text) → Expr → Expr
hook_of_1 h id word e = hook_2 h id (string_of word) e

abbrev pub hook_of_2 : (h : Text) → (id : ℕ) → (word : Text) → Expr → Expr → Expr
hook_of_2 h id word a b = hook h id (tree.more (string_of word) (tree.more a (tree.more b no_exprs)))

-- a statement that calls a hook
abbrev pub hook_statement : Expr → Stmt
hook_statement e = tree.expression e tt

abbrev pub name_of : Text → Expr
name_of x = tree.name x tt

-- J$.T(id, e)
abbrev pub literal : (id : ℕ) → Expr → Expr
literal id e = hook_1 (codes "T") id e

-- J$.R(id, "x", x)
abbrev pub read : (id : ℕ) → Text → Expr
read id x = hook_of_1 (codes "R") id x (name_of x)

-- J$.W(id, "x", e)
abbrev pub write : (id : ℕ) → Text → Expr → Expr
write id x e = hook_of_1 (codes "W") id x e

-- x = J$.W(id, "x", e)
abbrev pub assign : Ident ℕ → (id : ℕ) → Expr → Expr
assign x id e = tree.assign None (tree.to_name (without_id x)) (write id x.text e) tt

-- J$.C(id, e)
abbrev pub test : (id : ℕ) → Expr → Expr
test id e = hook_1 (codes "C") id e

-- J$.U(id, "op", e)
abbrev pub unary_hook : (id : ℕ) → UnKind → Expr → Expr
unary_hook id o e = hook_of_1 (codes "U") id (unary_sign o) e

-- J$.B(id, "op", a, b)
abbrev pub binary_hook : (id : ℕ) → BinOp → Expr → Expr → Expr
binary_hook id o a b = hook_of_2 (codes "B") id (binary_sign o) a b

-- J$.I(id, "op", o, k)
abbrev pub update_hook : (id : ℕ) → (up : Bool) → (base key : Expr) → Expr
update_hook id up base key = hook_of_2 (codes "I") id (unary_sign (update_kind up)) base key

-- J$.P(id, o, k)(e), and J$.A(id, "op", o, k)(e)
abbrev pub assign_hook : (id : ℕ) → Option BinOp → (base key e : Expr) → Expr
assign_hook id None base key e = tree.call (hook_2 (codes "P") id base key) (tree.more e no_exprs) tt
assign_hook id (Some o) base key e =
    tree.call (hook_of_2 (codes "A") id (binary_sign o) base key) (tree.more e no_exprs) tt

-- the number before an update, by the one after it
abbrev pub before_update : (up prefix : Bool) → Expr → Expr
before_update up true e = e
before_update true false e = tree.binary binary.Sub e (tree.number (Some (pos 1)) tt) tt
before_update false false e = tree.binary binary.Add e (tree.number (Some (pos 1)) tt) tt

-- statements and one more
abbrev pub and_last : Stmts → Stmt → Stmts
and_last tree.end t = tree.more t tree.end
and_last (tree.more u l) t = tree.more u (and_last l t)

-- try { J$.E(id); statements } finally { J$.L(id + 1); }
abbrev pub enter_and_leave : (id : ℕ) → Stmts → Stmts
enter_and_leave id l =
    tree.more (tree.try (tree.more (hook_statement (hook (codes "E") id no_exprs)) l) tree.absent
    (tree.present (tree.branch_of (tree.more (hook_statement (hook (codes "L") (id + 1) no_exprs)) tree.end))) tt)
    tree.end

-- J$.S(id); statements J$.X(id + 1);
abbrev pub begin_and_end : (id : ℕ) → Stmts → Stmts
begin_and_end id l =
    tree.more (hook_statement (hook (codes "S") id no_exprs))
    (and_last l (hook_statement (hook (codes "X") (id + 1) no_exprs)))

-- J$.H(id, "e", e); statements
abbrev pub catch_and_go_on : (id : ℕ) → Text → Stmts → Stmts
catch_and_go_on id x l = tree.more (hook_statement (hook_of_1 (codes "H") id x (name_of x))) l

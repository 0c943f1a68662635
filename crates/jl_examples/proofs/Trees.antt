-- Words for writing scripts as trees. Nodes have no places.
use Rattle.std.specs.Prelude.{ℕ, List, Bool, pos, Option, Some, None, map, option_map}
use Rattle.jl_ast.specs.declared.ops.BinOp.{BinOp}
use Rattle.jl_ast.specs.declared.ops.UnOp.{UnOp}
use Rattle.jl_ast.specs.Tree as tree
use Rattle.jl_ast.specs.Tree.{Text, Ident, Program, Sort, Tree, Forest, OptionalTree, forest}

abbrev pub Node : Sort → Type 0
Node x = Tree (Unit {0}) x

abbrev pub Expr : Type 0
Expr = Node tree.expr

abbrev pub Stmt : Type 0
Stmt = Node tree.stmt

abbrev pub ident : Text → Ident (Unit {0})
ident x = record { text = x; at = tt }

abbrev pub optional : {x : Sort} → Option (Node x) → OptionalTree (Unit {0}) x
optional None = tree.absent
optional (Some t) = tree.present t

-- programs and functions
abbrev pub code : Bool → List (Node tree.func) → List Stmt → Node tree.code
code strict fs l = tree.body strict (forest fs) (forest l)

abbrev pub script : Bool → List (Node tree.func) → List Stmt → Program (Unit {0})
script strict fs l = record { body = code strict fs l; at = tt }

abbrev pub function_of : ℕ → Option Text → List Text → Bool → List (Node tree.func) → List Stmt → Node tree.func
function_of number name params strict fs l =
    tree.function number (option_map ident name) (map ident params) (code strict fs l) tt

-- expressions
abbrev pub this : Expr
this = tree.this tt

abbrev pub name : Text → Expr
name x = tree.name x tt

abbrev pub number : ℕ → Expr
number n = tree.number (Some (pos n)) tt

abbrev pub string : Text → Expr
string t = tree.string t tt

abbrev pub boolean : Bool → Expr
boolean b = tree.boolean b tt

abbrev pub null : Expr
null = tree.null tt

abbrev pub array : List (Node tree.item) → Expr
array l = tree.array (forest l) tt

abbrev pub hole : Node tree.item
hole = tree.hole

abbrev pub filled : Expr → Node tree.item
filled e = tree.filled e

abbrev pub object : List (Node tree.entry) → Expr
object l = tree.object (forest l) tt

abbrev pub value : Text → Expr → Node tree.entry
value k e = tree.value (ident k) e

abbrev pub getter : Text → Node tree.func → Node tree.entry
getter k f = tree.getter (ident k) f

abbrev pub setter : Text → Node tree.func → Node tree.entry
setter k f = tree.setter (ident k) f

abbrev pub function_expression : Node tree.func → Expr
function_expression f = tree.function_expression f tt

abbrev pub dot : Expr → Text → Expr
dot o k = tree.dot o k tt

abbrev pub index : Expr → Expr → Expr
index o k = tree.index o k tt

abbrev pub call : Expr → List Expr → Expr
call f l = tree.call f (forest l) tt

abbrev pub new : Expr → List Expr → Expr
new f l = tree.new f (forest l) tt

abbrev pub unary : UnOp → Expr → Expr
unary o e = tree.unary o e tt

abbrev pub update : (up prefix : Bool) → Node tree.target → Expr
update up prefix t = tree.update up prefix t tt

abbrev pub operator : BinOp → Expr → Expr → Expr
operator o a b = tree.binary o a b tt

abbrev pub and : Expr → Expr → Expr
and a b = tree.and a b tt

abbrev pub or : Expr → Expr → Expr
or a b = tree.or a b tt

abbrev pub conditional : Expr → Expr → Expr → Expr
conditional a b c = tree.conditional a b c tt

abbrev pub assign : Node tree.target → Expr → Expr
assign t e = tree.assign None t e tt

abbrev pub compute : BinOp → Node tree.target → Expr → Expr
compute o t e = tree.assign (Some o) t e tt

abbrev pub comma : Expr → Expr → Expr
comma a b = tree.comma a b tt

abbrev pub to_name : Text → Node tree.target
to_name x = tree.to_name (ident x)

abbrev pub to_dot : Expr → Text → Node tree.target
to_dot o k = tree.to_dot o k tt

abbrev pub to_index : Expr → Expr → Node tree.target
to_index o k = tree.to_index o k tt

-- statements
abbrev pub declarator : Text → Option Expr → Node tree.decl
declarator x e = tree.declarator (ident x) (optional e)

abbrev pub var : List (Node tree.decl) → Stmt
var l = tree.var (forest l) tt

abbrev pub empty : Stmt
empty = tree.empty tt

abbrev pub expression : Expr → Stmt
expression e = tree.expression e tt

abbrev pub block : List Stmt → Stmt
block l = tree.block (forest l) tt

abbrev pub debugger : Stmt
debugger = tree.debugger tt

abbrev pub branch : Option (List Stmt) → OptionalTree (Unit {0}) tree.branch
branch None = tree.absent
branch (Some l) = tree.present (tree.branch_of (forest l))

abbrev pub if_else : Expr → List Stmt → Option (List Stmt) → Stmt
if_else e a b = tree.if_else e (forest a) (branch b) tt

abbrev pub do_while : List Stmt → Expr → Stmt
do_while l e = tree.do_while (forest l) e tt

abbrev pub while : Expr → List Stmt → Stmt
while e l = tree.while e (forest l) tt

abbrev pub nothing : Node tree.init
nothing = tree.nothing

abbrev pub init_var : List (Node tree.decl) → Node tree.init
init_var l = tree.init_var (forest l)

abbrev pub init_expression : Expr → Node tree.init
init_expression e = tree.init_expression e

abbrev pub for : Node tree.init → (test update : Option Expr) → List Stmt → Stmt
for i e u l = tree.for i (optional e) (optional u) (forest l) tt

abbrev pub for_in : (is_var : Bool) → Text → Expr → List Stmt → Stmt
for_in is_var x o l = tree.for_in is_var (ident x) o (forest l) tt

abbrev pub continue : Option Text → Stmt
continue x = tree.continue (option_map ident x) tt

abbrev pub break : Option Text → Stmt
break x = tree.break (option_map ident x) tt

abbrev pub return : Option Expr → Stmt
return e = tree.return (optional e) tt

abbrev pub throw : Expr → Stmt
throw e = tree.throw e tt

abbrev pub labelled : Text → Stmt → Stmt
labelled x t = tree.labelled (ident x) t tt

abbrev pub case : Option Expr → List Stmt → Node tree.clause
case e l = tree.case (optional e) (forest l)

abbrev pub switch : Expr → List (Node tree.clause) → Stmt
switch e l = tree.switch e (forest l) tt

abbrev pub catch : Text → List Stmt → OptionalTree (Unit {0}) tree.handler
catch x l = tree.present (tree.catch (ident x) (forest l))

abbrev pub no_catch : OptionalTree (Unit {0}) tree.handler
no_catch = tree.absent

abbrev pub try : List Stmt → OptionalTree (Unit {0}) tree.handler → Option (List Stmt) → Stmt
try l h f = tree.try (forest l) h (branch f) tt

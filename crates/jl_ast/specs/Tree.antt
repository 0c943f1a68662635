-- The syntax tree of a script (clauses 11 to 14), with no memory in it. S is what says where a node stands: a span,
-- or nothing. Brackets round an expression leave no node. Parts stand in the order of the text, and last a node's
-- place.
use Rattle.std.specs.Prelude.{ℕ, Bool, true, false, List, [], ◌∷◌, Option}
use Rattle.jl_ast.specs.declared.ops.BinOp.{BinOp}
use Rattle.jl_ast.specs.declared.ops.UnOp.{UnOp}
use Rattle.jl_num.specs.Number.{Number}

-- the UTF-16 units of a name, a key or a string
abbrev pub Text : Type 0
Text = List ℕ

-- a name with its place
pub record Ident (S : Type 0) : Type 0 where
  pub text : Text
  pub at : S

-- what a part of a tree is
pub data Sort : Type 0 where
  expr : Sort
  -- what stands at one place of an array literal
  item : Sort
  -- what is assigned to
  target : Sort
  -- a property of an object literal
  entry : Sort
  func : Sort
  -- what a program or a function holds
  code : Sort
  stmt : Sort
  -- the statements after `else` or `finally`
  branch : Sort
  -- a `catch` with its name and statements
  handler : Sort
  -- what stands first in the head of a `for`
  init : Sort
  -- a variable with its initialiser
  decl : Sort
  -- a `case` or `default` of a `switch`
  clause : Sort

mutual
  pub data Tree (S : Type 0) : Sort → Type 0 where
    -- primary expressions (11.1)
    this : S → Tree S expr
    name : Text → S → Tree S expr
    number : Number → S → Tree S expr
    string : Text → S → Tree S expr
    boolean : Bool → S → Tree S expr
    null : S → Tree S expr
    array : Forest S item → S → Tree S expr
    object : Forest S entry → S → Tree S expr
    function_expression : Tree S func → S → Tree S expr
    -- members, calls and `new` (11.2)
    dot : Tree S expr → Text → S → Tree S expr
    index : Tree S expr → Tree S expr → S → Tree S expr
    call : Tree S expr → Forest S expr → S → Tree S expr
    new : Tree S expr → Forest S expr → S → Tree S expr
    -- operators with one operand, and `++` and `--` before or after it (11.3, 11.4)
    unary : UnOp → Tree S expr → S → Tree S expr
    update : (up prefix : Bool) → Tree S target → S → Tree S expr
    -- operators with more operands (11.5 to 11.14); an assignment with no operator is a plain one
    binary : BinOp → Tree S expr → Tree S expr → S → Tree S expr
    and : Tree S expr → Tree S expr → S → Tree S expr
    or : Tree S expr → Tree S expr → S → Tree S expr
    conditional : Tree S expr → Tree S expr → Tree S expr → S → Tree S expr
    assign : Option BinOp → Tree S target → Tree S expr → S → Tree S expr
    comma : Tree S expr → Tree S expr → S → Tree S expr
    -- what is assigned to (11.13)
    to_name : Ident S → Tree S target
    to_dot : Tree S expr → Text → S → Tree S target
    to_index : Tree S expr → Tree S expr → S → Tree S target
    -- the parts of an array literal (11.1.4)
    hole : Tree S item
    filled : Tree S expr → Tree S item
    -- the properties of an object literal (11.1.5); a key that is a number is the text of its value
    value : Ident S → Tree S expr → Tree S entry
    getter : Ident S → Tree S func → Tree S entry
    setter : Ident S → Tree S func → Tree S entry
    -- functions (clause 13), and what a function or a program holds: whether a directive makes it strict (14.1), its
    -- function declarations in the order of the text, and its statements
    function : (number : ℕ) → Option (Ident S) → (params : List (Ident S)) → Tree S code → S → Tree S func
    body : (strict : Bool) → Forest S func → Forest S stmt → Tree S code
    -- statements (clause 12); a statement under another is a forest: that of a block, or the one statement
    var : Forest S decl → S → Tree S stmt
    empty : S → Tree S stmt
    expression : Tree S expr → S → Tree S stmt
    block : Forest S stmt → S → Tree S stmt
    if_else : Tree S expr → Forest S stmt → OptionalTree S branch → S → Tree S stmt
    do_while : Forest S stmt → Tree S expr → S → Tree S stmt
    while : Tree S expr → Forest S stmt → S → Tree S stmt
    for : Tree S init → OptionalTree S expr → OptionalTree S expr → Forest S stmt → S → Tree S stmt
    for_in : (is_var : Bool) → Ident S → Tree S expr → Forest S stmt → S → Tree S stmt
    continue : Option (Ident S) → S → Tree S stmt
    break : Option (Ident S) → S → Tree S stmt
    return : OptionalTree S expr → S → Tree S stmt
    labelled : Ident S → Tree S stmt → S → Tree S stmt
    switch : Tree S expr → Forest S clause → S → Tree S stmt
    throw : Tree S expr → S → Tree S stmt
    try : Forest S stmt → OptionalTree S handler → OptionalTree S branch → S → Tree S stmt
    debugger : S → Tree S stmt
    -- the parts of statements
    nothing : Tree S init
    init_expression : Tree S expr → Tree S init
    init_var : Forest S decl → Tree S init
    declarator : Ident S → OptionalTree S expr → Tree S decl
    case : OptionalTree S expr → Forest S stmt → Tree S clause
    branch_of : Forest S stmt → Tree S branch
    catch : Ident S → Forest S stmt → Tree S handler

  -- several of one sort
  pub data Forest (S : Type 0) : Sort → Type 0 where
    end : {x : Sort} → Forest S x
    more : {x : Sort} → Tree S x → Forest S x → Forest S x

  -- one or none
  pub data OptionalTree (S : Type 0) : Sort → Type 0 where
    absent : {x : Sort} → OptionalTree S x
    present : {x : Sort} → Tree S x → OptionalTree S x

pub record Program (S : Type 0) : Type 0 where
  pub body : Tree S code
  pub at : S

-- a list as a forest
abbrev pub forest : {S : Type 0} {x : Sort} → List (Tree S x) → Forest S x
forest [] = end
forest (t ∷ l) = more t (forest l)

-- whether an expression is a name
abbrev pub is_name : {S : Type 0} → Tree S expr → Bool
is_name (name t s) = true
is_name _ = false

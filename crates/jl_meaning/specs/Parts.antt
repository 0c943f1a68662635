-- What parts of a script do, as trees of effects: the jobs of a script, what an expression comes to, the algorithms
-- of the standard, and how parts follow one another. This is the one page that says which calculus of effects the
-- language uses.
use Rattle.std.specs.Prelude.{false, Bool, List, None, Option, Some, ℕ}
use Rattle.jl_ast.specs.Tree.{Text, Tree}
use Rattle.jl_ast.specs.Tree as tree
use Rattle.jl_value.specs.declared.builtin.Builtin.{Builtin}
use Rattle.jl_value.specs.declared.ending.Completion.{Completion}
use Rattle.jl_value.specs.declared.ending.Completion.TheVariants as completion
use Rattle.jl_value.specs.declared.ending.Fault.{Fault}
use Rattle.jl_value.specs.declared.ending.Fault.TheVariants as fault
use Rattle.jl_value.specs.declared.object.Class.{Class}
use Rattle.jl_value.specs.declared.object.ObjId.{ObjId}
use Rattle.jl_value.specs.declared.value.Value.{Value}
use Rattle.jl_value.specs.declared.value.Value.TheVariants as value
use Rattle.jl_heap.specs.Objects.{Name}
use Rattle.jl_heap.specs.declared.inner.Inner.{Inner}
use Rattle.jl_heap.specs.declared.property.Prop.{Prop}
use Rattle.jl_op.specs.Operations.{Operation}
use Rattle.jl_effects.specs.Effects.{and_then, Begin, End, Fail, Look}
use Rattle.jl_effects.specs.Effects as effects
use Rattle.jl_meaning.specs.Changes.{NewObject, NewProperty, StoreChange}
use Rattle.jl_meaning.specs.Store.{next_object, Store}

-- Trees in which the place of a node is the first id of its operations.
abbrev pub Expr : Type 0
Expr = Tree ℕ tree.expr

abbrev pub Exprs : Type 0
Exprs = tree.Forest ℕ tree.expr

abbrev pub Stmt : Type 0
Stmt = Tree ℕ tree.stmt

abbrev pub Stmts : Type 0
Stmts = tree.Forest ℕ tree.stmt

abbrev pub Func : Type 0
Func = Tree ℕ tree.func

abbrev pub Code : Type 0
Code = Tree ℕ tree.code

-- the call of a function that is running: the function's number, its `this`, the number of arguments, and whether
-- `new` made the call
pub record Running : Type 0 where
  pub function : ℕ
  pub this : Value
  pub args : ℕ
  pub by_new : Bool

-- where code runs (10.3): the environment of its names, whether it is strict (10.1.1), and the call that it belongs
-- to, which is none for global code
pub record Context : Type 0 where
  pub env : ℕ
  pub strict : Bool
  pub call : Option Running

-- a call of an object ([[Call]]), or with `new` a construction by it ([[Construct]])
pub record Call : Type 0 where
  pub callee : ObjId
  pub this : Value
  pub args : List Value
  pub by_new : Bool

-- a property that a `for-in` may visit: the object that has it, its name, and its serial, which is none for a unit of
-- a String object
pub record Visit : Type 0 where
  pub holder : ℕ
  pub name : Name
  pub serial : Option ℕ

-- a loop, as it stands when one of its turns begins (12.6)
pub data Loop : Type 0 where
  do_loop : Stmts → Expr → Loop
  while_loop : Expr → Stmts → Loop
  for_loop : (test update : tree.OptionalTree ℕ tree.expr) → Stmts → Loop
  -- with the name that is put at this turn, and what may be visited afterwards
  for_in_loop : (x : Text) → Name → List Visit → Stmts → Loop

-- a turn of a loop: where it runs, the labels of the loop (12.12), and the id of its test
pub record Turn : Type 0 where
  pub loop : Loop
  pub context : Context
  pub labels : List Text
  pub id : ℕ

-- what takes a step when it begins, and isn't a part of the tree around it
pub data Job : Type 0 where
  CallOf : Call → Job
  TurnOf : Turn → Job

-- what a part of a script does; each job ends with a completion (8.9)
abbrev pub Part : Type 0 → Type 0
Part A = effects.Part Store StoreChange Fault Job Completion Operation A

-- how an algorithm of the standard, or a builtin, may end a run
pub data AlgorithmFault : Type 0 where
  -- a number that no script of this language has
  NumberOutside : AlgorithmFault
  StringTooLong : AlgorithmFault
  -- a builtin that is there, and is left out
  Unsupported : Builtin → AlgorithmFault
  -- `Function` would make code of a string
  CodeFromText : AlgorithmFault

abbrev pub fault_of : AlgorithmFault → Fault
fault_of NumberOutside = fault.NumberOutside
fault_of StringTooLong = fault.StringTooLong
fault_of (Unsupported b) = fault.Unsupported b
fault_of CodeFromText = fault.CodeFromText

-- what an expression comes to, or an algorithm that may throw: it gives this, or throws a value
pub data Answer (A : Type 0) : Type 0 where
  gives : A → Answer A
  throws : Value → Answer A

-- what an algorithm of the standard does: its jobs are calls, and it performs no operation of the script
abbrev pub Algorithm : Type 0 → Type 0
Algorithm A = effects.Row Store StoreChange AlgorithmFault Call Completion (Answer A)

-- what is given is gone on with, and what is thrown is thrown on
abbrev pub continue_with : {S C F J R O A B : Type 0} → (A → effects.Part S C F J R O (Answer B)) → Answer A
    → effects.Part S C F J R O (Answer B)
continue_with k (gives a) = k a
continue_with k (throws v) = End (throws v)

infixl 1 ◌>>=◌
abbrev pub ◌>>=◌ : {S C F J R O A B : Type 0} → effects.Part S C F J R O (Answer A)
    → (A → effects.Part S C F J R O (Answer B)) → effects.Part S C F J R O (Answer B)
p >>= k = and_then p (continue_with k)

abbrev pub give : {S C F J R O A : Type 0} → A → effects.Part S C F J R O (Answer A)
give a = End (gives a)

abbrev pub throw : {S C F J R O A : Type 0} → Value → effects.Part S C F J R O (Answer A)
throw v = End (throws v)

-- the store, as it is
abbrev pub look : {S C F J R O : Type 0} → effects.Part S C F J R O (Answer S)
look = Look (λ store. give store)

-- the store is changed
abbrev pub change_store : {S C F J R O : Type 0} → C → effects.Part S C F J R O (Answer (Unit {0}))
change_store c = effects.Change c (give tt)

-- a fault, where there is nothing to give
abbrev pub or_fault : {S C F J R O A : Type 0} → F → Option A → effects.Part S C F J R O (Answer A)
or_fault f None = Fail f
or_fault f (Some a) = give a

-- an algorithm, as a part of a script
abbrev pub lift : {A : Type 0} → Algorithm A → Part (Answer A)
lift p = effects.row CallOf fault_of p

-- what a call has ended with; it ends with Return or Throw
abbrev pub answer_of : Completion → Answer Value
answer_of (completion.Return v) = gives v
answer_of (completion.Throw v) = throws v
answer_of _ = gives value.Undefined

-- the same the other way round
abbrev pub completion_of : Answer Value → Completion
completion_of (gives v) = completion.Return v
completion_of (throws v) = completion.Throw v

-- a call from anywhere, where it is this job
abbrev pub begin_call : {S C F O J : Type 0} → (Call → J) → Call → effects.Part S C F J Completion O (Answer Value)
begin_call job c = Begin (job c) (λ end. End (answer_of end))

-- [[Call]], as an algorithm makes it
abbrev pub call : ObjId → (this : Value) → List Value → Algorithm Value
call f this args = begin_call (λ c. c) (record { callee = f; this = this; args = args; by_new = false })

-- a new object, with no properties but the `length` of an array
abbrev pub new_object : Class → (proto : Option ObjId) → Inner → Algorithm ObjId
new_object kind proto i = do
  store ← look
  _ ← change_store (NewObject kind proto i)
  give (next_object store)

-- a property of an object that has none of this name
abbrev pub add_property : ObjId → Name → Prop → Algorithm (Unit {0})
add_property id x p = change_store (NewProperty id x p)

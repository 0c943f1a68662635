-- What statements do (clause 12), as parts that end with a completion. Each takes a step when it begins. A statement
-- is handed the labels that stand before it and the context in which it runs; the place of a node is the id of its
-- operation.
use Rattle.std.specs.Option.{option_or}
use Rattle.std.specs.Prelude.{[], false, if◌then◌else◌, suc, true, zero, ◌+◌, ◌∷◌, Bool, List, None, Option, Some, ℕ}
use Rattle.jl_ast.specs.Tree.{Forest, OptionalTree, Text, Tree}
use Rattle.jl_ast.specs.Tree as tree
use Rattle.jl_value.specs.declared.ending.Completion.{Completion}
use Rattle.jl_value.specs.declared.ending.Completion.TheVariants as completion
use Rattle.jl_value.specs.declared.value.Value.{Value}
use Rattle.jl_value.specs.declared.value.Value.TheVariants as value
use Rattle.jl_op.specs.declared.op.Op.TheVariants as op
use Rattle.jl_effects.specs.Effects.{and_then, End, Step}
use Rattle.jl_meaning.specs.Completions.{ends_as, normal, then_do, ◌>>=◌}
use Rattle.jl_meaning.specs.Expressions.{evaluate}
use Rattle.jl_meaning.specs.FunctionObjects.{FunctionTable}
use Rattle.jl_meaning.specs.Noting.{note_value, performs}
use Rattle.jl_meaning.specs.Parts.{do_loop, for_in_loop, for_loop, give, lift, while_loop, Answer, Context, Loop}
use Rattle.jl_meaning.specs.Parts.{Part, Stmt, Stmts, Turn}
use Rattle.jl_meaning.specs.References.{put_name}
use Rattle.jl_meaning.specs.forms.Jumps.{after_labelled, label_of, return_value, throw_value}
use Rattle.jl_meaning.specs.forms.Loops.{after_body, begin_loop, begin_turn, visit_all, visit_next}
use Rattle.jl_meaning.specs.forms.Names.{unless_hooks}
use Rattle.jl_meaning.specs.forms.Operators.{decide, decide_by}
use Rattle.jl_meaning.specs.forms.Simple.{begin_for, declare_all}
use Rattle.jl_meaning.specs.forms.Switch.{after_switch, default_of, gives_value, select_first}
use Rattle.jl_meaning.specs.forms.Try.{begin_catch, unless_abrupt}

module _ (table : FunctionTable) where
  abbrev mutual
    -- what a statement does
    pub execute : Stmt → (labels : List Text) → Context → Part Completion
    -- simple statements (12.1 to 12.4, 12.15)
    execute (tree.var l id) labels c = Step do
      _ ← declare_all table l c
      normal
    execute (tree.empty s) labels c = Step normal
    execute (tree.expression e id) labels c = Step do
      _ ← evaluate table e c
      normal
    execute (tree.block l id) labels c = Step (execute_all l c)
    execute (tree.debugger s) labels c = Step normal
    -- if (12.5)
    execute (tree.if_else e a b id) labels c = Step do
      v ← evaluate table e c
      truth ← decide id v
      if truth then execute_all a c else execute_branch b c
    -- loops (12.6)
    execute (tree.do_while l e id) labels c = Step (begin_loop (do_loop l e) c labels id)
    execute (tree.while e l id) labels c = Step (begin_loop (while_loop e l) c labels id)
    execute (tree.for i e u l id) labels c = Step do
      _ ← begin_for table i c
      begin_loop (for_loop e u l) c labels id
    execute (tree.for_in is_var x o l id) labels c = Step do
      v ← evaluate table o c
      _ ← note_value performs id op.ForIn v
      visit_all x.text l c labels id v
    -- jumps (12.7 to 12.9, 12.12, 12.13)
    execute (tree.continue x id) labels c = Step (End (completion.Continue (label_of x)))
    execute (tree.break x id) labels c = Step (End (completion.Break (label_of x)))
    execute (tree.return tree.absent id) labels c = Step (End (completion.Return value.Undefined))
    execute (tree.return (tree.present e) id) labels c = Step do
      v ← evaluate table e c
      return_value id v
    execute (tree.throw e id) labels c = Step do
      v ← evaluate table e c
      throw_value id v
    execute (tree.labelled x t id) labels c =
        Step (ends_as (after_labelled x.text) (execute t (x.text ∷ labels) c))
    -- switch (12.11)
    execute (tree.switch e l id) labels c = Step do
      v ← evaluate table e c
      selected ← select 0 l v c
      ends_as after_switch (execute_from (option_or selected (default_of l)) l c)
    -- try (12.14)
    execute (tree.try l h f id) labels c =
        Step (and_then (execute_all l c) (λ tried.
        and_then (handle h tried c) (λ handled.
        ends_as (unless_abrupt handled) (execute_branch f c))))

    -- statements one after another (12.1)
    pub execute_all : Stmts → Context → Part Completion
    execute_all tree.end c = normal
    execute_all (tree.more t l) c = then_do (execute t [] c) (execute_all l c)

    -- those after `else` or `finally`, if there are any
    pub execute_branch : OptionalTree ℕ tree.branch → Context → Part Completion
    execute_branch tree.absent c = normal
    execute_branch (tree.present (tree.branch_of l)) c = execute_all l c

    -- a `catch` handles what was thrown in the block
    pub handle : OptionalTree ℕ tree.handler → (tried : Completion) → Context → Part Completion
    handle (tree.present (tree.catch x l)) (completion.Throw v) c = do
      inside ← begin_catch x.at c.env x.text v
      execute_all l (record c { env = inside })
    handle h how c = End how

    -- which case of a `switch` has the value, if any, counted from k: they are tested in the order of the text
    pub select : (k : ℕ) → Forest ℕ tree.clause → Value → Context → Part (Answer (Option ℕ))
    select k tree.end v c = give None
    select k (tree.more t l) v c = select_first (has_value t v c) k (select (k + 1) l v c)

    pub has_value : Tree ℕ tree.clause → Value → Context → Part (Answer Bool)
    has_value (tree.case tree.absent l) v c = give false
    has_value (tree.case (tree.present e) l) v c = gives_value v (evaluate table e c)

    -- the statements of the cases from this one on, or none
    pub execute_from : Option ℕ → Forest ℕ tree.clause → Context → Part Completion
    execute_from None l c = normal
    execute_from (Some k) tree.end c = normal
    execute_from (Some zero) (tree.more t l) c = then_do (execute_clause t c) (execute_from (Some 0) l c)
    execute_from (Some (suc k)) (tree.more t l) c = execute_from (Some k) l c

    pub execute_clause : Tree ℕ tree.clause → Context → Part Completion
    execute_clause (tree.case e l) c = execute_all l c

  -- the test of a loop, or true where there is none
  abbrev pub test_loop : OptionalTree ℕ tree.expr → (id : ℕ) → Context → Part (Answer Bool)
  test_loop tree.absent id c = give true
  test_loop (tree.present e) id c = decide_by id (evaluate table e c)

  -- the update of a `for`
  abbrev pub update_loop : OptionalTree ℕ tree.expr → Context → Part Completion
  update_loop tree.absent c = normal
  update_loop (tree.present e) c = do
    _ ← evaluate table e c
    normal

  -- a turn of a loop (12.6.1 to 12.6.4): what it does, with the parts of the loop and with the turn that may follow
  abbrev pub turn_of : Loop → Turn → Part Completion
  turn_of (do_loop l e) t =
      and_then (execute_all l t.context) (after_body t.labels (do
        truth ← test_loop (tree.present e) t.id t.context
        if truth then begin_turn t else normal))
  turn_of (while_loop e l) t = do
    truth ← test_loop (tree.present e) t.id t.context
    if truth then and_then (execute_all l t.context) (after_body t.labels (begin_turn t)) else normal
  turn_of (for_loop e u l) t = do
    truth ← test_loop e t.id t.context
    if truth
        then and_then (execute_all l t.context)
        (after_body t.labels (then_do (update_loop u t.context) (begin_turn t)))
        else normal
  turn_of (for_in_loop x name rest l) t = do
    _ ← unless_hooks x (lift (put_name t.context.strict t.context.env x (value.Text name)))
    and_then (execute_all l t.context)
        (after_body t.labels (visit_next x l t.context t.labels t.id rest))

  abbrev pub turn : Turn → Part Completion
  turn t = turn_of t.loop t

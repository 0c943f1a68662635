-- The choice of a case (12.11).
use Rattle.std.specs.Prelude.{if◌then◌else◌, option_map, suc, Bool, None, Option, Some, ℕ}
use Rattle.jl_ast.specs.Tree.{Forest}
use Rattle.jl_ast.specs.Tree as tree
use Rattle.jl_value.specs.declared.ending.Completion.{Completion}
use Rattle.jl_value.specs.declared.ending.Completion.TheVariants as completion
use Rattle.jl_value.specs.declared.value.Value.{Value}
use Rattle.jl_conv.specs.Comparisons.{strictly_equal}
use Rattle.jl_meaning.specs.Parts.{give, ◌>>=◌, Answer, Part}

-- whether e gives this value
abbrev pub gives_value : Value → (e : Part (Answer Value)) → Part (Answer Bool)
gives_value v e = do
  w ← e
  give (strictly_equal v w)

-- the index of the first case for which this holds, or else of the next that is selected
abbrev pub select_first : (holds : Part (Answer Bool)) → (k : ℕ) → (next : Part (Answer (Option ℕ)))
    → Part (Answer (Option ℕ))
select_first holds k next = do
  selected ← holds
  if selected then give (Some k) else next

-- where a `switch` begins that selects no case: at its `default`, if it has one
abbrev pub default_of : Forest ℕ tree.clause → Option ℕ
default_of tree.end = None
default_of (tree.more (tree.case tree.absent l) clauses) = Some 0
default_of (tree.more (tree.case (tree.present e) l) clauses) = option_map suc (default_of clauses)

-- a `switch` ends normally with a Break that has no label
abbrev pub after_switch : Completion → Completion
after_switch (completion.Break None) = completion.Normal
after_switch how = how

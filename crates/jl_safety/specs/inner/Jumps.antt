-- Where statements may jump to: what stands round a statement, how it may complete there (8.9), and that each jump in
-- it has where to go.
use Rattle.std.specs.Prelude.{[], false, true, ◌++◌, ◌∷◌, ◌≡◌, Bool, List, None, Some, ℕ}
use Rattle.jl_ast.specs.Tree.{Forest, OptionalTree, Text}
use Rattle.jl_ast.specs.Tree as tree
use Rattle.jl_scope.specs.Names.{among}
use Rattle.jl_value.specs.declared.ending.Completion.{Completion}
use Rattle.jl_value.specs.declared.ending.Completion.TheVariants as completion
use Rattle.jl_meaning.specs.Parts.{Code, Stmt, Stmts}

-- what stands round a statement, within its function or program
pub record Around : Type 0 where
  pub in_function : Bool
  -- within a loop
  pub in_loop : Bool
  -- within a loop or a `switch`
  pub can_break : Bool
  -- the labels that stand round it
  pub labels : List Text
  -- those of the loops round it
  pub loop_labels : List Text

-- how a statement may complete there: a jump that leaves it has where to go (12.7 to 12.9)
abbrev pub MayComplete : Around → Completion → Type 0
MayComplete a completion.Normal = Unit {0}
MayComplete a (completion.Throw v) = Unit {0}
MayComplete a (completion.Return v) = a.in_function ≡ true
MayComplete a (completion.Break None) = a.can_break ≡ true
MayComplete a (completion.Break (Some x)) = among x a.labels ≡ true
MayComplete a (completion.Continue None) = a.in_loop ≡ true
MayComplete a (completion.Continue (Some x)) = among x a.loop_labels ≡ true

-- round the statements of a function or of a program nothing stands
abbrev pub nothing_around : (in_function : Bool) → Around
nothing_around in_function = record {
  in_function = in_function;
  in_loop = false;
  can_break = false;
  labels = [];
  loop_labels = [];
}

-- round the statements of a loop that has these labels (12.6, 12.12)
abbrev pub in_a_loop : (own : List Text) → Around → Around
in_a_loop own a = record a { in_loop = true; can_break = true; loop_labels = own ++ a.loop_labels }

abbrev pub in_a_switch : Around → Around
in_a_switch a = record a { can_break = true }

abbrev pub under_label : Text → Around → Around
under_label x a = record a { labels = x ∷ a.labels }

abbrev mutual
  -- each jump in the statement has where to go; `own` are the labels right before it
  pub JumpsFit : Around → (own : List Text) → Stmt → Type 0
  -- jumps (12.7 to 12.9)
  JumpsFit a own (tree.continue None id) = a.in_loop ≡ true
  JumpsFit a own (tree.continue (Some x) id) = among x.text a.loop_labels ≡ true
  JumpsFit a own (tree.break None id) = a.can_break ≡ true
  JumpsFit a own (tree.break (Some x) id) = among x.text a.labels ≡ true
  JumpsFit a own (tree.return e id) = a.in_function ≡ true
  -- loops, `switch` and labels (12.6, 12.11, 12.12)
  JumpsFit a own (tree.do_while l e id) = AllJumpsFit (in_a_loop own a) l
  JumpsFit a own (tree.while e l id) = AllJumpsFit (in_a_loop own a) l
  JumpsFit a own (tree.for i e u l id) = AllJumpsFit (in_a_loop own a) l
  JumpsFit a own (tree.for_in is_var x o l id) = AllJumpsFit (in_a_loop own a) l
  JumpsFit a own (tree.switch e l id) = ClausesFit (in_a_switch a) l
  JumpsFit a own (tree.labelled x t id) = JumpsFit (under_label x.text a) (x.text ∷ own) t
  -- the others
  JumpsFit a own (tree.block l id) = AllJumpsFit a l
  JumpsFit a own (tree.if_else e l b id) = AllJumpsFit a l × BranchFits a b
  JumpsFit a own (tree.try l h f id) = AllJumpsFit a l × HandlerFits a h × BranchFits a f
  JumpsFit a own t = Unit {0}

  pub AllJumpsFit : Around → Stmts → Type 0
  AllJumpsFit a tree.end = Unit {0}
  AllJumpsFit a (tree.more t l) = JumpsFit a [] t × AllJumpsFit a l

  pub BranchFits : Around → OptionalTree ℕ tree.branch → Type 0
  BranchFits a tree.absent = Unit {0}
  BranchFits a (tree.present (tree.branch_of l)) = AllJumpsFit a l

  pub HandlerFits : Around → OptionalTree ℕ tree.handler → Type 0
  HandlerFits a tree.absent = Unit {0}
  HandlerFits a (tree.present (tree.catch x l)) = AllJumpsFit a l

  pub ClausesFit : Around → Forest ℕ tree.clause → Type 0
  ClausesFit a tree.end = Unit {0}
  ClausesFit a (tree.more (tree.case e b) l) = AllJumpsFit a b × ClausesFit a l

-- those of the code of a function or of a program
abbrev pub CodeFits : (in_function : Bool) → Code → Type 0
CodeFits in_function (tree.body strict fs l) = AllJumpsFit (nothing_around in_function) l

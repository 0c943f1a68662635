-- In a script without early errors each jump has where to go.
use Rattle.std.proofs.Common.{◌≡◌, ℕ, List, [], ◌∷◌, Bool, true, false, not, ◌&&◌, ◌||◌, Option, Some, None}
use Rattle.std.proofs.Common.{refl, ◌∙◌}
use Rattle.std.proofs.lemmas.List.Folds.{list_any-append}
use Rattle.jl_text.specs.declared.span.Span.{Span}
use Rattle.jl_ast.specs.Tree as tree
use Rattle.jl_ast.specs.Tree.{Forest, Ident, OptionalTree, Text, Tree}
use Rattle.jl_scope.specs.EarlyErrors.{break_early_errors, broken_if, continue_early_errors, early_errors}
use Rattle.jl_scope.specs.EarlyErrors.{forest_early_errors, optional_early_errors, return_early_errors}
use Rattle.jl_scope.specs.Names.{among, same_text}
use Rattle.jl_scope.specs.Scope as around
use Rattle.jl_scope.specs.Scope.{has_label, has_loop_label, in_catch, in_function_of, in_program, is_loop, Scope}
use Rattle.jl_scope.specs.declared.rules.EarlyRule.{EarlyRule}
use Rattle.jl_op.specs.Ids.{forest_with_ids, handler_with_ids, optional_with_ids, with_ids}
use Rattle.jl_meaning.proofs.NoEarlyErrors.{none}
use Rattle.jl_safety.specs.inner.Jumps.{in_a_loop, in_a_switch, nothing_around, under_label, AllJumpsFit, Around}
use Rattle.jl_safety.specs.inner.Jumps.{BranchFits, ClausesFit, CodeFits, HandlerFits, JumpsFit}

-- a rule that asks for this is not broken
is_met : (b : Bool) (rule : EarlyRule) (at : Span) → broken_if (not b) rule at ≡ [] → b ≡ true
is_met true rule at e = refl
is_met false rule at e = cc

-- TRUTH VALUES
no_other : (a b : Bool) → ((a && false) || b) ≡ true → b ≡ true
no_other true b e = e
no_other false b e = e

at_a_loop : (a b : Bool) → ((a && true) || b) ≡ true → (a || b) ≡ true
at_a_loop true b e = e
at_a_loop false b e = e

also : (a b c : Bool) → (b ≡ true → c ≡ true) → (a || b) ≡ true → (a || c) ≡ true
also true b c f e = refl
also false b c f e = f e

labelled_loop : (of_loop same own old outer : Bool) → (old ≡ true → ((own && of_loop) || outer) ≡ true)
    → ((of_loop && same) || old) ≡ true → (((same || own) && of_loop) || outer) ≡ true
labelled_loop true true own old outer f e = refl
labelled_loop true false own old outer f e = f e
labelled_loop false true true old outer f e = f e
labelled_loop false true false old outer f e = f e
labelled_loop false false own old outer f e = f e

-- What stands round a part, as its early errors see it and as its jumps do. The labels right before it are its own, and
-- they are labels of a loop where it is one.
record Agrees (of_loop : Bool) (own : List Text) (s : Scope) (a : Around) : Type 0 where
  returns : s.in_function ≡ true → a.in_function ≡ true
  continues : s.in_loop ≡ true → a.in_loop ≡ true
  breaks : s.can_break ≡ true → a.can_break ≡ true
  labels : (x : Text) → has_label x s.labels ≡ true → among x a.labels ≡ true
  loops : (x : Text) → has_loop_label x s.labels ≡ true → ((among x own && of_loop) || among x a.loop_labels) ≡ true

-- the parts of what is no loop, where no label stands right before them
inside : {own : List Text} {s : Scope} {a : Around} → Agrees false own s a → Agrees false [] s a
inside {own = own} {a = a} g = record {
  returns = g.returns;
  continues = g.continues;
  breaks = g.breaks;
  labels = g.labels;
  loops = λ x e. no_other (among x own) (among x a.loop_labels) (g.loops x e);
}

unlabelled : {s : Scope} {a : Around} → (of_loop : Bool) → Agrees false [] s a → Agrees of_loop [] s a
unlabelled of_loop g = record {
  returns = g.returns;
  continues = g.continues;
  breaks = g.breaks;
  labels = g.labels;
  loops = g.loops;
}

in_loop : {own : List Text} {s : Scope} {a : Around} → Agrees true own s a
    → Agrees false [] (around.in_a_loop s) (in_a_loop own a)
in_loop {own = own} {a = a} g = record {
  returns = g.returns;
  continues = λ e. refl;
  breaks = λ e. refl;
  labels = g.labels;
  loops = λ x e.
      list_any-append (λ y. same_text x y) own a.loop_labels
      ∙ at_a_loop (among x own) (among x a.loop_labels) (g.loops x e);
}

in_switch : {own : List Text} {s : Scope} {a : Around} → Agrees false own s a
    → Agrees false [] (around.in_a_switch s) (in_a_switch a)
in_switch {own = own} {a = a} g = record {
  returns = g.returns;
  continues = g.continues;
  breaks = λ e. refl;
  labels = g.labels;
  loops = λ x e. no_other (among x own) (among x a.loop_labels) (g.loops x e);
}

caught : {s : Scope} {a : Around} → (x : Text) → Agrees false [] s a → Agrees false [] (in_catch s x) a
caught x g = record {
  returns = g.returns;
  continues = g.continues;
  breaks = g.breaks;
  labels = g.labels;
  loops = g.loops;
}

labelled : {of_loop : Bool} {own : List Text} {s : Scope} {a : Around} → (x : Text) → Agrees of_loop own s a
    → Agrees of_loop (x ∷ own) (around.under_label s x of_loop) (under_label x a)
labelled {of_loop = of_loop} {own = own} {s = s} {a = a} x g = record {
  returns = g.returns;
  continues = g.continues;
  breaks = g.breaks;
  labels = λ y e. also (same_text y x) (has_label y s.labels) (among y a.labels) (g.labels y) e;
  loops = λ y e.
      labelled_loop of_loop (same_text y x) (among y own) (has_loop_label y s.labels) (among y a.loop_labels)
      (g.loops y) e;
}

in_function : (s : Scope) (x : Option (Ident Span)) (params : List (Ident Span)) (b : Tree Span tree.code)
    → Agrees false [] (in_function_of s x params b) (nothing_around true)
in_function s x params b = record {
  returns = λ e. refl;
  continues = λ e. e;
  breaks = λ e. e;
  labels = λ y e. e;
  loops = λ y e. e;
}

in_global_code : (b : Tree Span tree.code) → Agrees false [] (in_program b) (nothing_around false)
in_global_code b = record {
  returns = λ e. e;
  continues = λ e. e;
  breaks = λ e. e;
  labels = λ y e. e;
  loops = λ y e. e;
}

-- JUMPS
continue_fits : (s : Scope) (a : Around) (own : List Text) → Agrees false own s a → (x : Option (Ident Span))
    (at : Span) → continue_early_errors s x at ≡ [] → (n : ℕ) → JumpsFit a own (with_ids n (tree.continue x at))
unfolding continue_early_errors
continue_fits s a own g None at e n = g.continues (is_met s.in_loop _ at e)
continue_fits s a own g (Some x) at e n =
    no_other (among x.text own) (among x.text a.loop_labels)
    (g.loops x.text (is_met (has_loop_label x.text s.labels) _ at (none _ _ e).0))

break_fits : {of_loop : Bool} (s : Scope) (a : Around) (own : List Text) → Agrees of_loop own s a
    → (x : Option (Ident Span)) (at : Span) → break_early_errors s x at ≡ [] → (n : ℕ)
    → JumpsFit a own (with_ids n (tree.break x at))
unfolding break_early_errors
break_fits s a own g None at e n = g.breaks (is_met s.can_break _ at e)
break_fits s a own g (Some x) at e n = g.labels x.text (is_met (has_label x.text s.labels) _ at (none _ _ e).0)

return_fits : {of_loop : Bool} {own : List Text} (s : Scope) (a : Around) → Agrees of_loop own s a → (at : Span)
    → return_early_errors s at ≡ [] → a.in_function ≡ true
unfolding return_early_errors
return_fits s a g at e = g.returns (is_met s.in_function _ at e)

mutual
  jumps_fit : (s : Scope) (a : Around) (own : List Text) (t : Tree Span tree.stmt) → Agrees (is_loop t) own s a
      → early_errors s t ≡ [] → (n : ℕ) → JumpsFit a own (with_ids n t)
  jumps_fit s a own (tree.continue x at) g e n = continue_fits s a own g x at e n
  jumps_fit s a own (tree.break x at) g e n = break_fits s a own g x at e n
  jumps_fit s a own (tree.return b at) g e n = return_fits s a g at (none _ _ e).0
  jumps_fit s a own (tree.do_while l c at) g e n = all_fit _ _ l (in_loop g) (none _ _ e).0 _
  jumps_fit s a own (tree.while c l at) g e n = all_fit _ _ l (in_loop g) (none _ _ e).1 _
  jumps_fit s a own (tree.for i c u l at) g e n = all_fit _ _ l (in_loop g) (none _ _ e).1 _
  jumps_fit s a own (tree.for_in is_var x o l at) g e n = all_fit _ _ l (in_loop g) (none _ _ e).1 _
  jumps_fit s a own (tree.switch b l at) g e n = clauses_fit _ _ l (in_switch g) (none _ _ e).1 _
  jumps_fit s a own (tree.labelled x t at) g e n = jumps_fit _ _ _ t (labelled x.text g) (none _ _ e).1 n
  jumps_fit s a own (tree.block l at) g e n = all_fit s a l (inside g) e n
  jumps_fit s a own (tree.if_else c l b at) g e n =
      (all_fit s a l (inside g) (none _ _ (none _ _ e).0).1 _, branch_fits s a b (inside g) (none _ _ e).1 _)
  jumps_fit s a own (tree.try l h f at) g e n = (
    all_fit s a l (inside g) (none _ _ (none _ _ e).0).0 _,
    handler_fits s a h (inside g) (none _ _ (none _ _ e).0).1 _ _,
    branch_fits s a f (inside g) (none _ _ e).1 _,
  )
  jumps_fit s a own t g e n = tt

  all_fit : (s : Scope) (a : Around) (l : Forest Span tree.stmt) → Agrees false [] s a → forest_early_errors s l ≡ []
      → (n : ℕ) → AllJumpsFit a (forest_with_ids n l)
  all_fit s a tree.end g e n = tt
  all_fit s a (tree.more t l) g e n =
      (jumps_fit s a [] t (unlabelled (is_loop t) g) (none _ _ e).0 n, all_fit s a l g (none _ _ e).1 _)

  branch_fits : (s : Scope) (a : Around) (b : OptionalTree Span tree.branch) → Agrees false [] s a
      → optional_early_errors s b ≡ [] → (n : ℕ) → BranchFits a (optional_with_ids n b)
  branch_fits s a tree.absent g e n = tt
  branch_fits s a (tree.present (tree.branch_of l)) g e n = all_fit s a l g e n

  handler_fits : (s : Scope) (a : Around) (h : OptionalTree Span tree.handler) → Agrees false [] s a
      → optional_early_errors s h ≡ [] → (id n : ℕ) → HandlerFits a (handler_with_ids id n h)
  handler_fits s a tree.absent g e id n = tt
  handler_fits s a (tree.present (tree.catch x l)) g e id n = all_fit _ a l (caught x.text g) (none _ _ e).1 n

  clauses_fit : (s : Scope) (a : Around) (l : Forest Span tree.clause) → Agrees false [] s a
      → forest_early_errors s l ≡ [] → (n : ℕ) → ClausesFit a (forest_with_ids n l)
  clauses_fit s a tree.end g e n = tt
  clauses_fit s a (tree.more (tree.case c b) l) g e n =
      (all_fit s a b g (none _ _ (none _ _ e).0).1 _, clauses_fit s a l g (none _ _ e).1 _)

code_fits : (s : Scope) (in_function : Bool) (b : Tree Span tree.code) → Agrees false [] s (nothing_around in_function)
    → early_errors s b ≡ [] → (n : ℕ) → CodeFits in_function (with_ids n b)
code_fits s in_function (tree.body strict fs l) g e n = all_fit s (nothing_around in_function) l g (none _ _ e).1 _

pub function_fits : (s : Scope) (x : Option (Ident Span)) (params : List (Ident Span)) (b : Tree Span tree.code)
    → early_errors (in_function_of s x params b) b ≡ [] → (n : ℕ) → CodeFits true (with_ids n b)
function_fits s x params b e n = code_fits _ true b (in_function s x params b) e n

pub program_fits : (b : Tree Span tree.code) → early_errors (in_program b) b ≡ [] → (n : ℕ)
    → CodeFits false (with_ids n b)
program_fits b e n = code_fits _ false b (in_global_code b) e n

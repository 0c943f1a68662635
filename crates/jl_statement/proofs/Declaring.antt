-- Declarators of variables (12.2).
use Rattle.std.proofs.Common.{◌≡◌, ◌+◌, ◌<◌, ◌≤◌, ◌∷◌, List, None, Option, Some, ℕ, ap, arith, drop}
use Rattle.std.proofs.Common.{length, length-drop, refl, sym}
use Rattle.std.proofs.Common.{◌∙◌, option_map, subst}
use mathlib.Core.Path.{fun_ext}
use Rattle.std.proofs.lemmas.Option.{slice_get_within}
use Rattle.std.specs.List.{slice_get}
use Rattle.std.specs.Borrow.{Bor}
use Rattle.jl_ast.specs.Tree as tree
use Rattle.jl_ast.specs.View.{optional, view_declarators, view_expression, view_ident}
use Rattle.jl_ast.specs.declared.tree.Expr.{Expr}
use Rattle.jl_value.specs.declared.ending.Completion.{Completion}
use Rattle.jl_value.specs.declared.value.Value.{Value}
use Rattle.jl_effects.specs.Effects.{and_then}
use Rattle.jl_meaning.specs.Completions.{on_given}
use Rattle.jl_meaning.specs.Expressions.{evaluate}
use Rattle.jl_meaning.specs.Parts.{give, ◌>>=◌, Context, Part}
use Rattle.jl_meaning.specs.FunctionObjects.{FunctionTable}
use Rattle.jl_meaning.specs.forms.Names.{assign_name}
use Rattle.jl_meaning.specs.forms.Simple.{declare_all}
use Rattle.jl_state.specs.Rest.{RefinesStatement, RefinesExpression}
use Rattle.jl_state.specs.StatementFrames.{statement_after}
use Rattle.jl_state.specs.Trees.{items_left, plain, plain_forest}
use Rattle.jl_state.specs.Words.{context_of, table_of}
use Rattle.jl_state.specs.declared.act.Act.{Act}
use Rattle.jl_state.specs.declared.frame.Frame.TheVariants as frame
use Rattle.jl_state.specs.declared.frame.Here.{Here}
use Rattle.jl_state.specs.declared.remaining.Remaining.{Remaining}
use Rattle.jl_state.specs.declared.state.State.{State}
use Rattle.jl_state.specs.declared.statement_frame.StatementFrame.{StatementFrame}
use Rattle.jl_state.proofs.Steps.{statement_waits}
use Rattle.jl_statement.specs.inner.Declarators.{declare, declare_from, Declarator, Initialised, IsFirst}
use Rattle.jl_statement.proofs.Dropped.{dropped_next, dropped_none}
use Rattle.jl_statement.proofs.Followed.{together}

-- from this index on the same is declared as from that one
pub record DeclaresSame (l : List Declarator) (from at : ℕ) : Type 0 where
  pub same : (table : FunctionTable) (c : Context) → declare table c (drop from l) ≡ declare table c (drop at l)
  pub ordered : from ≤ at

pub declares_itself : (l : List Declarator) (from : ℕ) → DeclaresSame l from from
declares_itself l from = record { same = λ table c. refl; ordered = omega arith }

declared_at : (table : FunctionTable) (c : Context) (l : List Declarator) (k : ℕ) (d : Declarator)
    (value : Option Expr) → slice_get l k ≡ Some d → d.1 ≡ value
    → declare table c (drop k l)
    ≡ declare_all table (tree.more (plain (tree.declarator (view_ident d.0)
    (optional (option_map view_expression value)))) (plain_forest (view_declarators (drop (k + 1) l)))) c
declared_at table c l k d value is values =
    ap (λ m. declare table c m) (dropped_next l k d is)
    ∙ ap (λ o. declare_all table (tree.more (plain (tree.declarator (view_ident d.0)
    (optional (option_map view_expression o)))) (plain_forest (view_declarators (drop (k + 1) l)))) c) values

pub declares_next : (l : List Declarator) (from at : ℕ) (d : Declarator) → DeclaresSame l from at
    → slice_get l at ≡ Some d → d.1 ≡ None → DeclaresSame l from (at + 1)
declares_next l from at d before is none = record {
  same = λ table c. before.same table c ∙ declared_at table c l at d None is none;
  ordered = omega (arith, before.ordered);
}

pub first_found : (l : List Declarator) (from at : ℕ) (d : Declarator) (x : Bor (List ℕ)) (e : Bor Expr)
    (rest : Remaining Declarator) → DeclaresSame l from at → slice_get l at ≡ Some d → d.1 ≡ Some e.now
    → d.0.text ≡ x.now → items_left rest ≡ drop (at + 1) l → IsFirst (drop from l) (Some (x, e, rest))
first_found l from at d x e rest before is value name others = record {
  same = λ table c.
      before.same table c
      ∙ declared_at table c l at d (Some e.now) is value
      ∙ ap (λ n. ((assign_name 0 c n (evaluate table (plain (view_expression e.now)) c) >>= λ _. give (tt {0}))
      >>= λ _. declare table c (drop (at + 1) l))) name
      ∙ ap (λ m. ((assign_name 0 c x.now (evaluate table (plain (view_expression e.now)) c) >>= λ _. give (tt {0}))
      >>= λ _. declare table c m)) (sym others);
}

pub first_missing : (l : List Declarator) (from at : ℕ) → DeclaresSame l from at → slice_get l at ≡ None
    → IsFirst (drop from l) None
first_missing l from at before is = record {
  same = λ table c. before.same table c ∙ ap (λ m. declare table c m) (dropped_none l at is);
}

-- fewer are left after it
pub fewer : (l : List Declarator) (from at : ℕ) (d : Declarator) (others : List Declarator) → DeclaresSame l from at
    → slice_get l at ≡ Some d → others ≡ drop (at + 1) l → length others < length (drop from l)
fewer l from at d others before is same =
    let within : at < length l = slice_get_within l at d is in
    let ordered : from ≤ at = before.ordered in
    let short : length (drop (at + 1) l) < length (drop from l) = simp length-drop (omega (arith, within, ordered)) in
    subst (λ (m : List Declarator). length m < length (drop from l)) (sym same) short

-- the name of the first one that has an initialiser is assigned, over a frame that the others follow
pub declares : (s t : State) (f : StatementFrame) (here : Here) (l : List Declarator) (first : Option Initialised)
    (x : Bor (List ℕ)) (e : Bor Expr) (rest : Remaining Declarator) (q : Part Completion) (u : State) (a : Act)
    → IsFirst l first → first ≡ Some (x, e, rest) → t ≡ record s { stack = frame.Statement f ∷ s.stack }
    → ((v : Value) → statement_after (table_of s.functions) s.calls f v
    ≡ and_then (declare (table_of s.functions) (context_of s.calls here) (items_left rest)) (on_given (λ _. q)))
    → RefinesExpression t (assign_name 0 (context_of t.calls here) x.now (evaluate (table_of t.functions)
    (plain (view_expression e.now)) (context_of t.calls here))) u a
    → RefinesStatement s (and_then (declare (table_of s.functions) (context_of s.calls here) l) (on_given (λ _. q))) u a
declares s t f here l first x e rest q u a same found is after refines =
    let table = table_of s.functions in
    let c = context_of s.calls here in
    let assigned = assign_name 0 c x.now (evaluate table (plain (view_expression e.now)) c) in
    let others = declare table c (items_left rest) in
    let given = (statement_waits s t f is).gives assigned u a
    (subst (λ d. RefinesExpression t (assign_name 0 (context_of d here) x.now
    (evaluate table (plain (view_expression e.now))
    (context_of d here))) u a) (ap (λ (v : State). v.calls) is)
    (subst (λ g. RefinesExpression t (assign_name 0 (context_of t.calls here) x.now (evaluate (table_of g)
    (plain (view_expression e.now)) (context_of t.calls here))) u a) (ap (λ (v : State). v.functions) is) refines)) in
    subst (λ p. RefinesStatement s (and_then p (on_given (λ _. q))) u a)
    (sym (same.same table c ∙ ap (declare_from table c) found))
    (together s (assigned >>= λ _. give (tt {0})) (λ _. others) (λ _. q) u a
    (together s assigned (λ _. give (tt {0})) (λ _. and_then others (on_given (λ _. q))) u a
    (subst (λ (k : Value → Part Completion). RefinesStatement s (and_then assigned (on_given k)) u a)
    (fun_ext after) given)))

-- none has one
pub declares_none : (s : State) (here : Here) (l : List Declarator) (first : Option Initialised) (q : Part Completion)
    (t : State) (a : Act) → IsFirst l first → first ≡ None → RefinesStatement s q t a
    → RefinesStatement s (and_then (declare (table_of s.functions) (context_of s.calls here) l) (on_given (λ _. q))) t a
declares_none s here l first q t a is found refines =
    let table = table_of s.functions in
    let c = context_of s.calls here in
    subst (λ p. RefinesStatement s (and_then p (on_given (λ _. q))) t a)
    (sym (is.same table c ∙ ap (declare_from table c) found)) refines

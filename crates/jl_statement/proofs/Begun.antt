-- Statements that take a step when they begin.
use Rattle.std.proofs.Common.{◌≡◌, ◌-◌, List, ℕ, ap, refl, sym, subst}
use Rattle.jl_ast.specs.Tree as tree
use Rattle.jl_ast.specs.Tree.{Text, Tree}
use Rattle.jl_effects.specs.Effects.{Step}
use Rattle.jl_meaning.specs.FunctionObjects.{FunctionTable}
use Rattle.jl_meaning.specs.Parts.{Context}
use Rattle.jl_meaning.specs.Statements.{execute}
use Rattle.jl_state.specs.Rest.{RefinesStatement}
use Rattle.jl_state.specs.Steps.{RanOut, Took}
use Rattle.jl_state.specs.Words.{context_of, table_of}
use Rattle.jl_state.specs.declared.act.Act.{Act}
use Rattle.jl_state.specs.declared.act.Act.TheVariants as act
use Rattle.jl_state.specs.declared.frame.Here.{Here}
use Rattle.jl_state.specs.declared.state.State.{State}
use Rattle.jl_statement.specs.inner.Beginnings.{after_step, begin}

step_first : (table : FunctionTable) (t : Tree ℕ tree.stmt) (labels : List Text) (c : Context)
    → execute table t labels c ≡ Step (after_step (execute table t labels c))
step_first table (tree.var l id) labels c = refl
step_first table (tree.empty s) labels c = refl
step_first table (tree.expression e id) labels c = refl
step_first table (tree.block l id) labels c = refl
step_first table (tree.debugger s) labels c = refl
step_first table (tree.if_else e a b id) labels c = refl
step_first table (tree.do_while l e id) labels c = refl
step_first table (tree.while e l id) labels c = refl
step_first table (tree.for i e u l id) labels c = refl
step_first table (tree.for_in is_var x o l id) labels c = refl
step_first table (tree.continue x id) labels c = refl
step_first table (tree.break x id) labels c = refl
step_first table (tree.return tree.absent id) labels c = refl
step_first table (tree.return (tree.present e) id) labels c = refl
step_first table (tree.throw e id) labels c = refl
step_first table (tree.labelled x t id) labels c = refl
step_first table (tree.switch e l id) labels c = refl
step_first table (tree.try l h f id) labels c = refl

pub begins : (s t : State) (x : Tree ℕ tree.stmt) (labels : List Text) (here : Here) (u : State) (a : Act)
    → Took s t → t ≡ record s { left = s.left - 1 }
    → RefinesStatement t (begin (table_of t.functions) t.calls x labels here) u a
    → RefinesStatement s (execute (table_of s.functions) x labels (context_of s.calls here)) u a
begins s t x labels here u a took is refines =
    let table = table_of s.functions in
    subst (λ q. RefinesStatement s q u a) (sym (step_first table x labels (context_of s.calls here)))
    (took.completes (begin table s.calls x labels here) u a
    (subst (λ c. RefinesStatement t (begin table c x labels here) u a) (ap (λ (v : State). v.calls) is)
    (subst (λ f. RefinesStatement t (begin (table_of f) t.calls x labels here) u a) (ap (λ (v : State). v.functions) is)
    refines)))

pub spent : (s t : State) (x : Tree ℕ tree.stmt) (labels : List Text) (here : Here) → RanOut s → t ≡ s
    → RefinesStatement s (execute (table_of s.functions) x labels (context_of s.calls here)) t act.Spent
spent s t x labels here none is =
    let table = table_of s.functions in
    subst (λ u. RefinesStatement s (execute table x labels (context_of s.calls here)) u act.Spent) (sym is)
    (subst (λ q. RefinesStatement s q s act.Spent) (sym (step_first table x labels (context_of s.calls here)))
    (none.completes (begin table s.calls x labels here)))

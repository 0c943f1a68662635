-- What is caught (12.14).
use Rattle.std.proofs.Common.{◌≡◌, List, Some, ap, subst}
use Rattle.jl_ast.specs.View.{view_catch, view_statements}
use Rattle.jl_ast.specs.declared.tree.Ident.{Ident}
use Rattle.jl_ast.specs.declared.tree.Stmt.{Stmt}
use Rattle.jl_value.specs.declared.ending.Completion.TheVariants as completion
use Rattle.jl_value.specs.declared.value.Value.{Value}
use Rattle.jl_heap.specs.Describe.{seen_of}
use Rattle.jl_op.specs.declared.op.Op.TheVariants as op
use Rattle.jl_effects.specs.Effects.{Look, Perform}
use Rattle.jl_effects.specs.Running.{Ends}
use Rattle.jl_meaning.specs.Parts.{gives}
use Rattle.jl_meaning.specs.Statements.{execute_all, handle}
use Rattle.jl_meaning.specs.forms.Try.{begin_catch}
use Rattle.jl_store.specs.Bindings.{catch_environment}
use Rattle.jl_store.specs.BigStep.{BigStep}
use Rattle.jl_state.specs.Rest.{RefinesStatement}
use Rattle.jl_state.specs.Trees.{plain_forest, plain_optional}
use Rattle.jl_state.specs.Words.{context_of, table_of}
use Rattle.jl_state.specs.declared.act.Act.{Act}
use Rattle.jl_state.specs.declared.frame.Here.{Here}
use Rattle.jl_state.specs.declared.state.State.{State}
use Rattle.jl_state.proofs.Stores.{completes_comes, IsStored}

-- the statements of a `catch`, in the environment that was made for it
pub catches : (s t : State) (x : Ident) (l : List Stmt) (v : Value) (here inside : Here) (u : State) (a : Act)
    → IsStored s t → BigStep (catch_environment here.env x.text v) s.store t.store (Ends (gives inside.env))
    → inside.strict ≡ here.strict
    → RefinesStatement t (execute_all (table_of t.functions) (plain_forest (view_statements l))
    (context_of t.calls inside)) u a
    → RefinesStatement s (handle (table_of s.functions) (plain_optional (view_catch (Some (x, l)))) (completion.Throw v)
    (context_of s.calls here)) u a
unfolding begin_catch
catches s t x l v here inside u a is comes strict refines =
    let table = table_of s.functions in
    let statements = plain_forest (view_statements l) in
    let c = context_of s.calls here in
    let same =
    subst (λ b. RefinesStatement t (execute_all table statements
    (context_of s.calls (record { env = inside.env; strict = b }))) u a) strict
    (subst (λ d. RefinesStatement t (execute_all table statements (context_of d inside)) u a)
    (ap (λ (w : State). w.calls) is)
    (subst (λ f. RefinesStatement t (execute_all (table_of f) statements (context_of t.calls inside)) u a)
    (ap (λ (w : State). w.functions) is) refines)) in
    record {
      is = (completes_comes s t is (catch_environment here.env x.text v) inside.env
          (λ env. Look (λ store. Perform (record { 0 = 0 }, op.Catch x.text (seen_of store.heap v))
          (execute_all table statements (record c { env = env })))) u a comes (record { is = same.is })).is;
    }

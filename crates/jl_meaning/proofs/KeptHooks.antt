-- Of a run for chosen kinds the hooks are the chosen ones of all.
use mathlib.Core.Path.{fun_ext}
use Rattle.std.proofs.Common.{◌≡◌, ◌∙◌, ℕ, true, refl, ap, sym}
use Rattle.jl_ast.specs.Tree.{Program}
use Rattle.jl_effects.specs.Running.{any, keeping, nothing_done, run}
use Rattle.jl_effects.specs.Traces.{keep_hooks, with_state}
use Rattle.jl_effects.proofs.Traces.{run_keeping}
use Rattle.jl_op.specs.Chosen as chosen
use Rattle.jl_op.specs.Chosen.{every_kind, is_kept, Kinds}
use Rattle.jl_op.specs.Operations.{Operation}
use Rattle.jl_meaning.specs.FunctionTable.{function_table}
use Rattle.jl_meaning.specs.Jobs.{job}
use Rattle.jl_meaning.specs.Mean.{language, run_of, script}
use Rattle.jl_meaning.specs.Realm.{realm}

every_one : (o : Operation) → is_kept every_kind o ≡ true
unfolding chosen.is_kept
every_one o = refl

all_kept : is_kept every_kind ≡ any {O = Operation}
all_kept = fun_ext every_one

pub kept_of_run : (kinds : Kinds) (p : Program ℕ) (n : ℕ) →
    run_of kinds p n ≡ with_state (keep_hooks (is_kept kinds)) (run_of every_kind p n)
kept_of_run kinds p n =
    run_keeping language (is_kept kinds) (job (function_table p)) n (script p) (nothing_done realm)
    ∙ ap (λ k. with_state (keep_hooks (is_kept kinds)) (run language (keeping k) (job (function_table p)) n (script p)
    (nothing_done realm))) (sym all_kept)

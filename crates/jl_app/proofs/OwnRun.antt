-- What the laws of the lower crates come to for a script and its woven one.
use Rattle.std.proofs.Common.{◌≡◌, ◌∙◌, ◌+◌, ap, sym, ℕ}
use Rattle.jl_ast.specs.Spans.{without_spans}
use Rattle.jl_ast.specs.Tree.{Program}
use Rattle.jl_effects.specs.Growing.{IsLonger}
use Rattle.jl_effects.specs.Matching.{Simulates}
use Rattle.jl_effects.specs.Traces.{keep_hooks, with_state}
use Rattle.jl_meaning.specs.Mean.{mean, run_of}
use Rattle.jl_op.proofs.WithoutPlaces.{same_program}
use Rattle.jl_op.specs.Chosen.{every_kind, is_kept, Kinds}
use Rattle.jl_op.specs.Ids.{program_with_ids}
use Rattle.jl_simulation.specs.Simulation.{WovenSimulates}
use Rattle.jl_simulation.specs.Weaving.{woven_program}
use Rattle.jl_text.specs.declared.span.Span.{Span}
use Rattle.jl_app.specs.WovenRuns.{hooked_run, woven_run}
use Rattle.jl_app.specs.OwnRuns.{own_run}
use Rattle.jl_app.proofs.KeptHooks.{of_all_hooks}

-- the woven script simulates the script's own run, of which only the hooks depend on kinds
pub own_simulates : ((kinds : Kinds) (p : Program Span) (n : ℕ)
    → mean kinds p n ≡ with_state (keep_hooks (is_kept kinds)) (mean every_kind p n))
    → (kinds : Kinds) (p : Program Span) → WovenSimulates kinds p
    → Simulates (is_kept kinds) (own_run p) (woven_run kinds p)
unfolding own_run woven_run
own_simulates kept kinds p simulates =
    of_all_hooks (is_kept kinds) (λ n. mean kinds p n) (λ n. mean every_kind p n)
    (λ n. mean kinds (woven_program kinds p) n) (λ n. kept kinds p n) simulates

pub own_longer : ((chosen : Kinds) (p : Program Span) (n d : ℕ)
    → IsLonger d (mean chosen p n) (mean chosen p (n + d)))
    → (p : Program Span) (n d : ℕ) → IsLonger d (own_run p n) (own_run p (n + d))
unfolding own_run
own_longer law p n d = law every_kind p n d

-- programs that are the same but for their places mean the same
same_meaning : (kinds : Kinds) (q : Program Span) (w : Program (Unit {0})) (n : ℕ) → without_spans q ≡ w
    → mean kinds q n ≡ mean kinds w n
same_meaning kinds q w n is =
    ap (λ (r : Program ℕ). run_of kinds r n)
    (sym (same_program q) ∙ ap (λ (r : Program (Unit {0})). program_with_ids r) is)

-- a program that is the woven one but for places runs as that one does
pub same_run : (kinds : Kinds) (p q : Program Span) (n : ℕ) → without_spans q ≡ woven_program kinds p
    → hooked_run kinds q n ≡ woven_run kinds p n
unfolding woven_run hooked_run
same_run kinds p q n is = same_meaning kinds q (woven_program kinds p) n is

-- and so for all kinds, as it stands
pub same_own_run : (p q : Program Span) (n : ℕ) → without_spans q ≡ woven_program every_kind p
    → own_run q n ≡ woven_run every_kind p n
unfolding woven_run own_run
same_own_run p q n is = same_meaning every_kind q (woven_program every_kind p) n is

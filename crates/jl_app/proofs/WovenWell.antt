-- What the laws of the lower crates say of an accepted script and its woven one, put together.
use Rattle.std.proofs.Common.{◌≡◌, ◌<◌, ◌+◌, [], length, ℕ, List}
use Rattle.jl_ast.specs.Tree.{Program}
use Rattle.jl_effects.specs.Growing.{IsLonger}
use Rattle.jl_effects.specs.Traces.{keep_hooks, with_state}
use Rattle.jl_grammar.specs.Laws.{OneReading}
use Rattle.jl_grammar.specs.Program.{Reads}
use Rattle.jl_meaning.specs.Mean.{mean}
use Rattle.jl_op.specs.Chosen.{every_kind, is_kept, Kinds}
use Rattle.jl_read_back.specs.EarlyErrors.{FirstIsReservedName}
use Rattle.jl_read_back.specs.Laws.{WovenReadsBack, WovenScriptIsBounded, WovenScriptIsSmall, WovenTextIsBounded}
use Rattle.jl_scope.specs.EarlyErrors.{early_errors_of}
use Rattle.jl_simulation.specs.Simulation.{WovenSimulates}
use Rattle.jl_text.specs.declared.span.Span.{Span}
use Rattle.jl_token.specs.declared.token.Token.{Token}
use Rattle.jl_app.specs.Accepting.{IsAccepted}
use Rattle.jl_app.specs.inner.Woven.{IsWovenWell}
use Rattle.jl_app.proofs.BackToWoven.{back_to_woven}
use Rattle.jl_app.proofs.Legal.{nothing_wrong}
use Rattle.jl_app.proofs.OwnRun.{own_longer, own_simulates}
use Rattle.jl_app.proofs.Sizes.{few_accepted_tokens}

pub woven_well : ((chosen : Kinds) (ts : List Token) (limit : ℕ) (p : Program Span) → Reads ts limit p
    → early_errors_of p ≡ [] → length ts < 1073741823 → WovenSimulates chosen p)
    → WovenReadsBack → WovenTextIsBounded → WovenScriptIsBounded → WovenScriptIsSmall → FirstIsReservedName
    → OneReading
    → ((chosen : Kinds) (p : Program Span) (n d : ℕ) → IsLonger d (mean chosen p n) (mean chosen p (n + d)))
    → ((kinds : Kinds) (p : Program Span) (n : ℕ)
    → mean kinds p n ≡ with_state (keep_hooks (is_kept kinds)) (mean every_kind p n))
    → (kinds : Kinds) (bytes : List ℕ) (p : Program Span) → IsAccepted bytes p → IsWovenWell kinds p
woven_well simulates reads bounded bytes_bounded units_small keeps one longer kept kinds bytes p is =
    record {
      simulates = own_simulates kept kinds p
          (simulates kinds is.tokens 200 p is.read (nothing_wrong bytes p is) (few_accepted_tokens bytes p is));
      back = back_to_woven reads bounded bytes_bounded units_small keeps one kinds bytes p is;
      longer = own_longer longer p;
    }

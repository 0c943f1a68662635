-- A script that is read, and has no early errors, is simulated by its woven script.
use Rattle.std.proofs.Common.{◌≡◌, ℕ, ◌<◌, List, [], length, arith}
use Rattle.jl_text.specs.declared.span.Span.{Span}
use Rattle.jl_token.specs.declared.token.Token.{Token}
use Rattle.jl_ast.specs.Tree.{Program}
use Rattle.jl_scope.specs.EarlyErrors.{early_errors_of}
use Rattle.jl_scope.specs.Scope.{in_program}
use Rattle.jl_grammar.specs.Program.{Reads}
use Rattle.jl_op.proofs.Entries.{map_length}
use Rattle.jl_op.specs.Chosen.{Kinds}
use Rattle.jl_simulation.specs.Plain.{HasFewIds, IsPlain}
use Rattle.jl_simulation.specs.Simulation.{WovenSimulates}
use Rattle.jl_simulation.proofs.Accepted.{plain}
use Rattle.jl_simulation.proofs.FewIds.{few_entries}
use Rattle.jl_simulation.proofs.Programs.{woven_simulates}
use Rattle.jl_simulation.proofs.ReadOperators.{read_assigns}

pub read_plain : (ts : List Token) (limit : ℕ) (p : Program Span) → Reads ts limit p → early_errors_of p ≡ []
    → IsPlain p.body
read_plain ts limit p read none = plain (in_program p.body) p.body none (read_assigns ts limit p read)

read_few : (ts : List Token) (limit : ℕ) (p : Program Span) → Reads ts limit p → length ts < 1073741823 → HasFewIds p
read_few ts limit p read few = let map = map_length p in let entries = few_entries ts limit p read in omega arith

pub accepted_simulates : (chosen : Kinds) (ts : List Token) (limit : ℕ) (p : Program Span) → Reads ts limit p
    → early_errors_of p ≡ [] → length ts < 1073741823 → WovenSimulates chosen p
accepted_simulates chosen ts limit p read none few =
    woven_simulates chosen p (read_plain ts limit p read none) (read_few ts limit p read few)

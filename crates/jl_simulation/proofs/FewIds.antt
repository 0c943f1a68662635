-- A program that is read has a map with at most four entries for each token, and two.
use Rattle.std.proofs.Common.{ℕ, ◌+◌, ◌*◌, ◌≤◌, List, length, arith}
use Rattle.jl_text.specs.declared.span.Span.{Span}
use Rattle.jl_token.specs.declared.token.Token.{Token}
use Rattle.jl_ast.specs.Tree.{Program}
use Rattle.jl_grammar.specs.Program.{Reads}
use Rattle.jl_grammar.proofs.FewNodes.{few_nodes}
use Rattle.jl_op.proofs.Entries.{map_length}
use Rattle.jl_op.specs.IdMap.{id_map}
use Rattle.jl_simulation.proofs.FewNodes.{few}

pub few_entries : (ts : List Token) (limit : ℕ) (p : Program Span) → Reads ts limit p →
    length (id_map p) ≤ 4 * length ts + 2
few_entries ts limit p read =
    let entries = map_length p in let ids = few p.body in let nodes = few_nodes ts limit p read in omega arith

use Rattle.std.proofs.Common.{◌≡◌, rules}
use Rattle.std.specs.Prelude.{None, Some}
use Rattle.jl_ast.specs.Numbering.{with_numbers}
use Rattle.jl_ast.specs.View.{view}
use Rattle.jl_grammar.specs.ReaderLevels.{program_at}
use Rattle.jl_parse.proofs.Limits.{none_read, read_by, the_one}
use Rattle.jl_parse.proofs.whole.parse.Goals as goal

pub returns-in-Ok-clause-found : goal.returns-in-Ok-clause-found
returns-in-Ok-clause-found c =
    let ts = c.args.tokens.now in
    let q = with_numbers (view c.in-Ok.program) in
    let e : program_at ts c.args.limit ≡ Some q = search rules in
    read_by ts c.args.limit (view c.number.new.program) q e c.number.ensures

pub returns-in-Ok-clause-only : goal.returns-in-Ok-clause-only
returns-in-Ok-clause-only c =
    let ts = c.args.tokens.now in
    let q = with_numbers (view c.in-Ok.program) in
    let e : program_at ts c.args.limit ≡ Some q = search rules in
    λ p w. the_one ts c.args.limit p q (view c.number.new.program) e c.number.ensures w

pub returns-in-Err-At-clause-only : goal.returns-in-Err-At-clause-only
returns-in-Err-At-clause-only c =
    let ts = c.args.tokens.now in
    let e : program_at ts c.args.limit ≡ None = search rules in
    λ p w. absurd (none_read ts c.args.limit p e w)

use Rattle.std.proofs.Common.{◌≡◌, arith, ap, ◌∙◌, length}
use Rattle.std.proofs.lemmas.Grind.{common_steps}
use Rattle.jl_text.specs.Places.{line_col}
use Rattle.jl_text.proofs.PlacesLemmas.{line_col-line_table}
use Rattle.jl_text.proofs.lines.Lines.line_col.Goals as goal

pub returns-clause-value : goal.returns-clause-value
returns-clause-value c = grind (arith, common_steps)

pub returns-clause-source : goal.returns-clause-source
returns-clause-source c = λ units made.
    let end : c.args.self.now.end ≡ length units = ap (λ t. t.end) made in
    returns-clause-value c ∙ ap (λ t. line_col t c.args.at) made ∙ line_col-line_table units c.args.at (omega arith)

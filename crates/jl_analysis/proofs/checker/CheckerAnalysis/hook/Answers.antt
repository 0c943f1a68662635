use Rattle.std.proofs.Common.{ap, ◌∙◌}
use Rattle.jl_analysis.specs.Summary.{plain_operations}
use Rattle.jl_analysis.proofs.Counting.{hears_hit, hears_other}
use Rattle.jl_analysis.proofs.checker.CheckerAnalysis.hook.Goals as goal
use Rattle.jl_analysis.proofs.checker.CheckerAnalysis.hook.Goals.{then-branch+in_ok-hit, else-branch}

pub returns-clause-summed : goal.returns-clause-summed
returns-clause-summed g c = λ told is.
    let counts = ap (λ k. k.counts) is in
    let heard = c.in_ok-hears.ensures.heard (plain_operations told) (ap (λ k. k.memory) is) in
    elim c.if-branch.branch [
      | then-branch+in_ok-hit w ↦
          hears_hit g.R.Rule.NUMBER told c.args.id c.args.op.now _ _ _ _ w.if-branch.true counts heard.0
          (ap (λ s. s.tally) w.self-is ∙ w.in_ok-hit.ensures.ok) (ap (λ s. g.R.Rule.memory s.rule) w.self-is ∙ heard.1)
      | else-branch w ↦
          hears_other g.R.Rule.NUMBER told c.args.id c.args.op.now _ _ _ _ w.if-branch.false counts heard.0
          (ap (λ s. s.tally) w.self-is) (ap (λ s. g.R.Rule.memory s.rule) w.self-is ∙ heard.1)
    ]

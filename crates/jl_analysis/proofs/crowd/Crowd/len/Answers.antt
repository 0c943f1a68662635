use Rattle.jl_analysis.proofs.Boxes.{map_map, all_summed}
use Rattle.jl_analysis.proofs.crowd.Crowd.len.Goals as goal

pub returns-clause-same_rules : goal.returns-clause-same_rules
returns-clause-same_rules g c = map_map _ _ c.args.self.now.boxes.items

pub returns-clause-summed : goal.returns-clause-summed
returns-clause-summed g c =
    all_summed _ (λ b. (goal.Analysis-dyn g (b.vtable, b.value)).kept b.value) c.args.self.now.boxes.items

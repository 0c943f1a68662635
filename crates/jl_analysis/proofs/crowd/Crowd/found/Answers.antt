use Rattle.std.proofs.Common.{◌<◌, length, ap, sym, ◌∙◌}
use Rattle.std.specs.Prelude.{Some, option_map}
use Rattle.std.proofs.lemmas.List.{length-map}
use Rattle.jl_analysis.proofs.Boxes.{map_at, summed_at}
use Rattle.jl_analysis.proofs.crowd.Crowd.found.Goals as goal

pub returns-clause-there : goal.returns-clause-there
returns-clause-there g c =
    let within : c.args.place < length c.args.self.now.boxes.items = simp length-map at c.requires in
    ap (option_map (λ x. x.1)) (map_at _ _ _ c.index.result.now within c.index.ensures)
    ∙ ap Some (sym c.found_by_one.ensures.found)

pub returns-clause-summed : goal.returns-clause-summed
returns-clause-summed g c = λ told.
    let within : c.args.place < length c.args.self.now.boxes.items = simp length-map at c.requires in
    summed_at _ (λ b. (goal.Analysis-dyn g (b.vtable, b.value)).kept b.value) _ _ c.index.result.now within
    c.index.ensures _
    c.found_by_one.ensures.found told

use Rattle.std.proofs.Common.{◌<◌, length, ap, sym, ◌∙◌}
use Rattle.std.specs.Prelude.{Some, option_map}
use Rattle.std.proofs.lemmas.List.{length-map}
use Rattle.jl_analysis.proofs.Boxes.{map_at}
use Rattle.jl_analysis.proofs.crowd.Crowd.rule_at.Goals as goal

pub returns-clause-there : goal.returns-clause-there
returns-clause-there g c =
    let within : c.args.place < length c.args.self.now.boxes.items = simp length-map at c.requires in
    map_at _ _ _ c.index.result.now within c.index.ensures ∙ ap Some (sym c.rule_of_one.ensures.same)

pub returns-clause-found : goal.returns-clause-found
returns-clause-found g c =
    let within : c.args.place < length c.args.self.now.boxes.items = simp length-map at c.requires in
    ap (option_map (λ x. x.0)) (map_at _ _ _ c.index.result.now within c.index.ensures)
    ∙ ap Some (sym c.rule_of_one.ensures.same)

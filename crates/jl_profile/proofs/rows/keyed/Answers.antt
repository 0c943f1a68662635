use Rattle.std.proofs.Common.{◌∙◌, ◌∷◌, [], ap, map, sym}
use Rattle.std.proofs.lemmas.List.{map-append}
use Rattle.std.specs.Map.Iter.{deref_pair}
use Rattle.jl_profile.specs.Births.{keyed_births}
use Rattle.jl_profile.proofs.Keyed.{with_place}
use Rattle.jl_profile.proofs.rows.keyed.Goals as goal

pub loop-object-preserved-in-Continue-1 : goal.loop-object-preserved-in-Continue-1
loop-object-preserved-in-Continue-1 c =
    with_place c.args.lines.now c.args.map.now (map deref_pair c.loop-object.yielded)
    (c.in-Some.object.now, c.in-Some.birth.now) c.in-Some-place.span c.line_col-line.result
    c.loop-object.births.items c.push.new.self.items c.loop-object.invariant (sym c.in-Some-place.is ∙ c.place.ensures)
    c.line_col-line.ensures.value c.in_ok-push.ensures.items
    ∙ ap (keyed_births c.args.lines.now c.args.map.now)
    (sym (map-append deref_pair c.loop-object.yielded ((c.in-Some.object, c.in-Some.birth) ∷ [])))

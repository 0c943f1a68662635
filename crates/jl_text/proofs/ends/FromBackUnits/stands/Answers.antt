use Rattle.std.proofs.Common.{◌-◌, length, sym, ◌∙◌}
use Rattle.std.specs.Prelude.{slice_range}
use Rattle.std.specs.Cmp.Lexicographic.{bytes_decides}
use Rattle.jl_text.proofs.EndsLemmas.{back_of_range, range_of_back}
use Rattle.jl_text.proofs.ends.FromBackUnits.stands.Goals as goal

pub returns : goal.returns
returns c =
    let units = c.args.self.0.now in
    let part = c.args.part.0.now in
    let end = length units - c.args.at in
    let tells = bytes_decides (slice_range units (end - length part) end) part in (
      λ test. back_of_range units part c.args.at c.requires.fits (tells.0 (sym c.eq.ensures ∙ test)),
      λ same. c.eq.ensures ∙ tells.1 (range_of_back units part c.args.at c.requires.fits same),
    )

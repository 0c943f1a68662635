use Rattle.std.proofs.Common.{◌+◌, length, sym, ◌∙◌}
use Rattle.std.specs.Prelude.{slice_range}
use Rattle.std.specs.Cmp.Lexicographic.{bytes_decides}
use Rattle.jl_text.proofs.EndsLemmas.{front_of_range, range_of_front}
use Rattle.jl_text.proofs.ends.FromFrontUnits.stands.Goals as goal

pub returns : goal.returns
returns c =
    let units = c.args.self.0.now in
    let part = c.args.part.0.now in
    let tells = bytes_decides (slice_range units c.args.at (c.args.at + length part)) part in (
      λ test. front_of_range units part c.args.at c.requires.fits (tells.0 (sym c.eq.ensures ∙ test)),
      λ same. c.eq.ensures ∙ tells.1 (range_of_front units part c.args.at c.requires.fits same),
    )

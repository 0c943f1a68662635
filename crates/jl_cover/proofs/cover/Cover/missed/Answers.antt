use Rattle.std.proofs.Common.{ap, ◌∙◌, map}
use Rattle.std.proofs.lemmas.Result.{IfOk-weaker}
use Rattle.jl_cover.specs.Coverage.{gaps_of, in_order, missed_at, numbered}
use Rattle.jl_cover.proofs.Observing.{lacks_is}
use Rattle.jl_cover.proofs.cover.Cover.missed.Goals as goal

pub returns : goal.returns
returns c =
    IfOk-weaker c.list.result _ _
    (λ missed listed observed is.
    listed ∙ ap (map missed_at) (c.in_ok-gaps.ensures
    ∙ ap (λ l. in_order (gaps_of c.args.lines.now l (numbered c.args.map.now))) (lacks_is c.args.self.now observed is)))
    c.list.ensures

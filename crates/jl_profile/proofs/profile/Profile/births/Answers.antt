use Rattle.std.proofs.Common.{◌∙◌, ap, map, nat_eq}
use Rattle.std.proofs.lemmas.Result.{IfOk-weaker}
use Rattle.indexmap.specs.IndexSet.{contains}
use Rattle.jl_profile.specs.Births.{keyed_births, row_of, rows_of}
use Rattle.jl_profile.proofs.Counting.{rows_listed}
use Rattle.jl_profile.proofs.profile.Profile.births.Goals as goal

pub returns-clause-found : goal.returns-clause-found
returns-clause-found c =
    let used = contains nat_eq c.args.self.now.used in
    IfOk-weaker c.list.result _ _
    (λ births is observed stands.
    is ∙ rows_listed used c.deref.result.now c.in_ok-counts.counts.entries c.in_ok-counts.ensures.counted
    ∙ ap (map (row_of used c.deref.result.now)) c.in_ok-counts.ensures.all
    ∙ ap (rows_of used) (c.deref.ensures.value ∙ c.in_ok-keyed.ensures)
    ∙ (λ j. rows_of (λ object. stands.used_ones object j)
    (keyed_births c.args.lines.now c.args.map.now (stands.all j))))
    c.list.ensures

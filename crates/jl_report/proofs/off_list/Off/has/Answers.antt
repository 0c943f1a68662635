use Rattle.std.proofs.Common.{◌∙◌, ap, List, length, subst}
use Rattle.std.specs.List.Sorted.{IsSearchInRange, IsBinarySearchResult}
use Rattle.jl_report.specs.Off.{Pair, by_line, is_off}
use Rattle.jl_report.proofs.Pairs.{searched}
use Rattle.jl_report.proofs.off_list.Off.has.Goals as goal

pub returns : goal.returns
returns c =
    let pairs : List Pair = c.self.inside.pairs.items in
    c.is_ok.ensures.value
    ∙ searched pairs c.args.line c.args.rule c.binary_search.result c.self.invariant
    (subst (λ l. IsSearchInRange c.binary_search.result (length l)) c.deref.ensures.value c.binary_search.ensures.bound)
    (subst (λ l. IsBinarySearchResult (λ y. by_line y (c.args.line, c.args.rule)) l c.binary_search.result)
    c.deref.ensures.value c.binary_search.ensures.position)
    ∙ ap (λ l. is_off l c.args.line c.args.rule) c.self.view_is

use Rattle.std.proofs.Common.{◌∙◌, ℕ, Bool, not, map, refl, ap, sym, ◌∷◌, []}
use Rattle.std.proofs.lemmas.List.{map-append}
use Rattle.std.specs.Map.Iter.{deref_pair}
use Rattle.std.specs.Prelude.{filter}
use Rattle.jl_report.specs.Off.{is_off}
use Rattle.jl_report.specs.Reports.{Key}
use Rattle.jl_report.specs.declared.line.Line.{Line}
use Rattle.jl_report.proofs.Listing.{entry, listed_more}
use Rattle.jl_report.proofs.reports.list_lines.Goals as goal

pub loop-line-preserved : goal.loop-line-preserved
loop-line-preserved c =
    let shown : Key × ℕ → Bool = λ e. not (is_off c.args.off.now e.0.0 e.0.2) in
    let e : Key × ℕ = (c.in-Some.field-0-0.now, c.in-Some.count.now) in
    let next : Line = record {
      line = c.in-Some.field-0-0.now.0;
      column = c.in-Some.field-0-0.now.1;
      rule = c.in-Some.field-0-0.now.2;
      count = c.in-Some.count.now;
    } in
    ap (map entry) c.in_ok-push.ensures.items
    ∙ listed_more shown (map deref_pair c.loop-line.yielded) c.loop-line.lines.items next e c.loop-line.invariant refl
    (ap not (sym c.has.ensures ∙ c.if-has.false))
    ∙ ap (filter shown) (sym (map-append deref_pair c.loop-line.yielded ((c.in-Some.field-0-0, c.in-Some.count) ∷ [])))

use Rattle.std.proofs.Common.{◌≡◌, ◌∙◌, not, map, All, ap, sym, subst, length, arith}
use Rattle.std.specs.Prelude.{filter}
use Rattle.jl_analysis.specs.Chosen.{is_chosen}
use Rattle.jl_analysis.specs.contracts.crowd.CrowdFindings.TheImpl.{ghosts}
use Rattle.jl_analysis.specs.Rules.{IsRule}
use Rattle.jl_report.specs.inner.Collected.{number_in, HasHits, AreOfRules}
use Rattle.jl_report.specs.Off.{is_off}
use Rattle.jl_report.specs.Reports.{key, IsReportOfFindings}
use Rattle.jl_report.proofs.Collecting.{pair_at, some_at, few_here, taken, passed, all_listed, is_done, made}
use Rattle.jl_report.proofs.OfRules.{of_rules_listed}
use Rattle.jl_report.proofs.reports.report_at.Goals as goal
use Rattle.jl_report.proofs.reports.report_at.Goals.{then-has+in_ok-add, else-has}

pub add-requires-clause-few : goal.add-requires-clause-few
add-requires-clause-few g c = λ k.
    few_here (is_chosen c.args.chosen k.2) _ (number_in c.loop-place.hits k) (c.loop-place.invariant.numbers k)

pub loop-place-preserved : goal.loop-place-preserved
loop-place-preserved g c =
    let fs = (ghosts g.dyn-1).findings c.args.crowd.now in
    let rule = c.rule_at-rule.result in
    let places = c.args.places.now in
    elim c.if-has.branch [
      | then-has+in_ok-add w ↦ record {
        some = subst (λ h. HasHits h) (sym w.hits-is) w.in_ok-add.ensures.some;
        rules = subst (λ h. AreOfRules h) (sym w.hits-is) w.in_ok-add.ensures.rules;
        numbers = λ k.
            taken places fs c.loop-place.place rule w.found.result.now (is_chosen c.args.chosen) k
            (number_in c.loop-place.hits k)
            (number_in c.if-has.hits k) (pair_at _ rule w.found.result.now c.rule_at-rule.ensures.found
            w.found.ensures.there)
            (sym c.has.ensures ∙ w.if-has.true) (c.loop-place.invariant.numbers k)
            (ap (λ h. number_in h k) w.hits-is ∙ w.in_ok-add.ensures.numbers k);
      }
      | else-has w ↦
          let there = some_at _ rule c.rule_at-rule.ensures.found in
          record {
            some = subst (λ h. HasHits h) (sym w.hits-is) c.loop-place.invariant.some;
            rules = subst (λ h. AreOfRules h) (sym w.hits-is) c.loop-place.invariant.rules;
            numbers = λ k. ap (λ h. number_in h k) w.hits-is
                ∙ passed places fs c.loop-place.place rule there.0 (is_chosen c.args.chosen) k
                (number_in c.loop-place.hits k)
                there.1 (sym c.has.ensures ∙ w.if-has.false) (c.loop-place.invariant.numbers k);
          }
    ]

pub returns-clause-found : goal.returns-clause-found
returns-clause-found g c =
    let fs = (ghosts g.dyn-1).findings c.args.crowd.now in
    let all : c.loop-place.place ≡ length fs =
    omega (arith, c.loop-place-test.false, c.loop-place.auto.place-end, c.len-place-end.ensures.findings) in
    made c.list_lines.result (λ lines. map (λ x. (key x, x.count)) lines
    ≡ filter (λ e. not (is_off c.args.off.now e.0.0 e.0.2)) c.loop-place.hits.entries)
    (IsReportOfFindings (is_chosen c.args.chosen) c.args.off.now c.args.places.now fs)
    (λ lines listed.
    all_listed (is_chosen c.args.chosen) c.args.off.now c.args.places.now fs c.loop-place.place c.loop-place.hits lines
    all listed c.list_lines.ensures.in_order c.loop-place.invariant.some c.loop-place.invariant.numbers)
    c.list_lines.ensures.listed

pub returns-clause-done : goal.returns-clause-done
returns-clause-done g c =
    let fs = (ghosts g.dyn-1).findings c.args.crowd.now in
    made c.list_lines.result (IsReportOfFindings (is_chosen c.args.chosen) c.args.off.now c.args.places.now fs) _
    (λ lines found told all stands few.
    is_done (is_chosen c.args.chosen) c.args.off.now c.args.places.now fs _ told lines found all
    (c.len-place-end.ensures.summed told stands) few)
    (returns-clause-found g c)

pub returns-clause-rules : goal.returns-clause-rules
returns-clause-rules g c =
    made c.list_lines.result (λ lines. map (λ x. (key x, x.count)) lines
    ≡ filter (λ e. not (is_off c.args.off.now e.0.0 e.0.2)) c.loop-place.hits.entries)
    (λ lines. All (λ x. IsRule x.rule) lines)
    (λ lines listed. of_rules_listed lines c.loop-place.hits (λ k. not (is_off c.args.off.now k.0 k.2)) listed
    c.loop-place.invariant.rules)
    c.list_lines.ensures.listed

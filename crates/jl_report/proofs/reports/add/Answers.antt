use Rattle.std.proofs.Common.{◌≡◌, ◌+◌, ◌&&◌, ◌==◌, ℕ, ◌∙◌, ap, sym, subst, take, get_or, arith}
use Rattle.std.specs.BTreeMap.{get}
use Rattle.std.specs.Option.{unwrap_or}
use Rattle.std.specs.Prelude.{if◌then◌else◌, cond, Some}
use Rattle.jl_report.specs.inner.Collected.{number_in, AreOfRules}
use Rattle.jl_report.specs.Reports.{Key, by_place, saturate_u64, total_at, place_of}
use Rattle.jl_report.proofs.OfRules.{of_rules_after}
use Rattle.jl_report.proofs.Keys.{same_key, same_is, is_same, written, not_zero, grows, starts}
use Rattle.jl_report.proofs.Totals.{here, here-some, here-none, plus_none, total_at-next}
use Rattle.jl_report.proofs.reports.add.Goals as goal
use Rattle.jl_report.proofs.reports.add.Goals.{in-Some+in_ok-insert, in_default}

pub loop-id-init : goal.loop-id-init
loop-id-init c = record {
  some = c.requires.some;
  rules = c.requires.rules;
  numbers = λ k. starts (c.args.rule == k.2) (number_in c.args.hits.now k) (c.requires.few k);
}

pub loop-id-preserved : goal.loop-id-preserved
loop-id-preserved c =
    let places = c.args.places.now in
    let entry = get_or c.args.found.now c.loop-id.id-index (record { 0 = 0 }, 0) in
    let total : Key → ℕ = λ k. total_at places (take c.loop-id.id-index c.args.found.now) (k.0, k.1) in
    let next : (k : Key) → total_at places (take (c.loop-id.id-index + 1) c.args.found.now) (k.0, k.1) ≡ total k +
    here places (k.0, k.1) entry =
    λ k. total_at-next places c.args.found.now c.loop-id.id-index (record { 0 = 0 }, 0) (k.0, k.1)
    c.loop-id-test.true in
    elim c.match-place.branch [
      | in-Some+in_ok-insert w ↦
          let k0 : Key = (w.in-Some.line, w.in-Some.column, c.args.rule) in
          let v = w.saturating_add.result in
          let sum : v ≡ saturate_u64 (w.unwrap_or-before.result + entry.1) = omega arith in
          let got : (k : Key) → get by_place c.match-place.hits k ≡ cond (is_same k0 k) (Some v)
          (get by_place c.loop-id.hits k) =
          λ k. ap (λ h. get by_place h k) w.hits-is ∙ w.in_ok-insert.ensures.updates.0 k
          ∙ ap (λ b. cond b (Some v) (get by_place c.loop-id.hits k)) (same_key k0 k) in
          let before : w.unwrap_or-before.result ≡ number_in c.loop-id.hits k0 =
          w.unwrap_or-before.ensures ∙ ap (λ o. unwrap_or o 0) (w.copied.ensures ∙ w.get.ensures.value) in
          let above : v ≡ 0 → ⊥ = λ e. c.if-count-eq0.false (omega arith) in
          let at : place_of places entry.0 ≡ Some (w.in-Some.line, w.in-Some.column) = sym c.place.ensures
          ∙ w.in-Some.is in
          record {
            rules = subst (λ h. AreOfRules h) (sym w.hits-is) (of_rules_after k0 v c.loop-id.hits w.insert.new.self
                c.requires.rule c.loop-id.invariant.rules w.in_ok-insert.ensures.entries);
            some = λ k e. not_zero (is_same k0 k) v (get by_place c.loop-id.hits k) above
                (c.loop-id.invariant.some k) (sym (got k) ∙ e);
            numbers = λ k.
                grows (w.in-Some.line == k.0 && w.in-Some.column == k.1) (c.args.rule == k.2)
                (number_in c.args.hits.now k)
                (total k) (number_in c.loop-id.hits k) w.unwrap_or-before.result (number_in c.match-place.hits k)
                entry.1
                (ap (λ o. unwrap_or o 0) (got k) ∙ written (is_same k0 k) v (get by_place c.loop-id.hits k)
                ∙ ap (λ n. if is_same k0 k then n else number_in c.loop-id.hits k) sum)
                (λ e. before ∙ ap (number_in c.loop-id.hits) (same_is k0 k e))
                (c.loop-id.invariant.numbers k)
                ∙ ap (λ n. saturate_u64 (number_in c.args.hits.now k + (if c.args.rule == k.2 then total k + n else 0)))
                (sym (here-some places (k.0, k.1) (w.in-Some.line, w.in-Some.column) entry at))
                ∙ ap (λ n. saturate_u64 (number_in c.args.hits.now k + (if c.args.rule == k.2 then n else 0)))
                (sym (next k));
          }
      | in_default w ↦
          record {
            rules = subst (λ h. AreOfRules h) (sym w.hits-is) c.loop-id.invariant.rules;
            some = λ k e. c.loop-id.invariant.some k (ap (λ h. get by_place h k) (sym w.hits-is) ∙ e);
            numbers = λ k.
                ap (λ h. number_in h k) w.hits-is ∙ c.loop-id.invariant.numbers k
                ∙ ap (λ n. saturate_u64 (number_in c.args.hits.now k + (if c.args.rule == k.2 then n else 0)))
                (plus_none (total k) _ (here-none places (k.0, k.1) entry (sym c.place.ensures ∙ w.in_default.is))
                ∙ sym (next k));
          }
    ]

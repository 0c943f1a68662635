use Rattle.std.proofs.Common.{◌≡◌, ◌≤◌, ◌+◌, ◌∙◌, ℕ, Some, not, ap, nat_eq, get_or, refl, subst, arith}
use Rattle.std.proofs.lemmas.List.{take_all}
use Rattle.std.specs.BTreeMap.{IsOrdered, get, insert_entry, values}
use Rattle.std.specs.Ordering.{is_eq}
use Rattle.std.specs.Prelude.{cond, sum_by, unwrap_or}
use Rattle.indexmap.specs.IndexSet.{contains}
use Rattle.jl_profile.specs.Births.{Key, by_place}
use Rattle.jl_profile.specs.declared.births.Way.TheVariants as ways
use Rattle.jl_profile.specs.declared.rows.Count.{Count}
use Rattle.jl_profile.specs.inner.Rows.{count_at, no_births}
use Rattle.jl_profile.proofs.Counting.{all_counted, counts_more, from_bool-one_if, keys_more, one_at_most, one_if}
use Rattle.jl_profile.proofs.Counting.{sum_more}
use Rattle.jl_profile.proofs.Keys.{same_order}
use Rattle.jl_profile.proofs.rows.count_births.Goals as goal

pub loop-key-preserved : goal.loop-key-preserved
loop-key-preserved c =
    let births = c.args.births.now in
    let at = c.loop-key.key-index in
    let d : Key × ℕ = ((0, 0, ways.Array), 0) in
    let birth = get_or births at d in
    let used = contains nat_eq c.args.used.now in
    let old = c.loop-key.counts in
    let before = c.unwrap_or-before.result in
    let before_is : before ≡ unwrap_or (get by_place old birth.0) no_births =
    c.unwrap_or-before.ensures ∙ ap (λ o. unwrap_or o no_births) (c.copied.ensures ∙ c.get.ensures.value
    ∙ ap (λ order. get order old birth.0) same_order) in
    let unused_is : c.from-unused.result ≡ one_if (not (used birth.1)) =
    c.from-unused.ensures ∙ from_bool-one_if (not c.contains.result) ∙ ap (λ b. one_if (not b)) c.contains.ensures in
    let count : Count = record { made = before.made + 1; unused = before.unused + c.from-unused.result } in
    let grown : c.insert.new.self.entries ≡ insert_entry by_place old.entries birth.0 count =
    c.in_ok-insert.ensures.entries ∙ ap (λ order. insert_entry order old.entries birth.0 count) same_order in
    let written : (k : Key) → get by_place c.insert.new.self k
    ≡ cond (is_eq (by_place birth.0 k)) (Some count) (get by_place old k) =
    subst (λ order. (k : Key) → get order c.insert.new.self k
    ≡ cond (is_eq (order birth.0 k)) (Some count) (get order old k)) same_order c.in_ok-insert.ensures.updates.0 in
    let most : c.from-unused.result ≤ 1 = omega (arith, unused_is, one_at_most (not (used birth.1))) in
    record {
      all = keys_more births at d old.entries c.insert.new.self.entries count c.loop-key-test.true
          c.loop-key.invariant.all grown;
      counted = counts_more used births at d (get by_place old) (get by_place c.insert.new.self) c.loop-key-test.true
          c.loop-key.invariant.counted
          (λ k. written k
          ∙ (λ j. cond (is_eq (by_place birth.0 k)) (Some (record {
            made = (before_is j).made + 1;
            unused = (before_is j).unused + unused_is j;
          })) (get by_place old k)));
      ordered = subst (λ order. IsOrdered order c.insert.new.self) same_order c.insert.ensures.ordered;
      made =
          let sum : sum_by (λ x. x.made) (values c.insert.new.self) ≡ sum_by (λ x. x.made) (values old) + 1 =
          sum_more (λ x. x.made) birth.0 count old c.insert.new.self 1 refl c.loop-key.invariant.ordered
          grown (ap (λ (x : Count). x.made + 1) before_is) in
          omega (arith, sum, c.loop-key.invariant.made);
      unused =
          let sum : sum_by (λ x. x.unused) (values c.insert.new.self)
          ≡ sum_by (λ x. x.unused) (values old) + c.from-unused.result =
          sum_more (λ x. x.unused) birth.0 count old c.insert.new.self c.from-unused.result refl
          c.loop-key.invariant.ordered grown
          (ap (λ (x : Count). x.unused + c.from-unused.result) before_is) in
          omega (arith, sum, most, c.loop-key.invariant.unused);
    }

pub returns-clause-counted : goal.returns-clause-counted
returns-clause-counted c =
    let used = contains nat_eq c.args.used.now in
    all_counted used c.args.births.now c.loop-key.counts c.loop-key.invariant.ordered
    (λ k. c.loop-key.invariant.counted k
    ∙ ap (λ l. count_at used l k) (take_all c.loop-key.key-index c.args.births.now c.loop-key-test.false))

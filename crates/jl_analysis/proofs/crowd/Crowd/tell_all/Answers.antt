use Rattle.std.proofs.Common.{◌≤◌, length, ap, sym, ◌∙◌, arith}
use Rattle.jl_analysis.proofs.Crowds.{heard_none, heard_one_more, maps_stay, maps_stay_at, any_passes, none_before}
use Rattle.jl_analysis.proofs.Crowds.{none_after, summed_after, on_err}
use Rattle.jl_analysis.proofs.crowd.Crowd.tell_all.Goals as goal

pub loop-one-init : goal.loop-one-init
loop-one-init g c = heard_none c.deref_mut-one-items.ensures.value

pub loop-one-preserved : goal.loop-one-preserved
loop-one-preserved g c =
    heard_one_more c.loop-one.invariant c.one-item.result c.tell.new.one (omega arith) (record {
      same_rule = c.in_ok-tell.ensures.same_rule;
      ready = c.in_ok-tell.ensures.heard.0;
      still_ready = c.in_ok-tell.ensures.heard.1;
      summed = c.in_ok-tell.ensures.summed;
    })

pub returns-in_err-tell-clause-same_rules : goal.returns-in_err-tell-clause-same_rules
returns-in_err-tell-clause-same_rules g c =
    let whole = sym c.deref_mut-one-items.ensures.len ∙ ap length c.deref_mut-one-items.ensures.value in
    maps_stay_at _ (λ x y t. t.same_rule) c.loop-one.invariant _ whole c.tell.new.one c.one-item.result
    c.tell.ensures.same_rule

pub returns-in_err-tell-clause-refuses : goal.returns-in_err-tell-clause-refuses
returns-in_err-tell-clause-refuses g c =
    let whole = sym c.deref_mut-one-items.ensures.len ∙ ap length c.deref_mut-one-items.ensures.value in
    on_err c.from_residual.result
    (any_passes _ c.loop-one.invariant _ whole c.tell.new.one (omega arith) c.in_err-tell.ensures.refuses)

pub returns-clause-same_rules : goal.returns-clause-same_rules
returns-clause-same_rules g c =
    let whole = sym c.deref_mut-one-items.ensures.len ∙ ap length c.deref_mut-one-items.ensures.value in
    maps_stay _ (λ x y t. t.same_rule) c.loop-one.invariant _ whole

pub returns-clause-heard : goal.returns-clause-heard
returns-clause-heard g c =
    let whole = sym c.deref_mut-one-items.ensures.len ∙ ap length c.deref_mut-one-items.ensures.value in
    let at_end : length c.args.self.now.boxes.items ≤ c.loop-one.one-index =
    omega (arith, ap length c.deref_mut-one-items.ensures.value) in (
      none_before _ (λ x y t. t.ready) c.loop-one.invariant at_end,
      none_after _ (λ x y t. t.still_ready) c.loop-one.invariant at_end _ whole,
    )

pub returns-clause-told : goal.returns-clause-told
returns-clause-told g c = λ told.
    let whole = sym c.deref_mut-one-items.ensures.len ∙ ap length c.deref_mut-one-items.ensures.value in
    let at_end : length c.args.self.now.boxes.items ≤ c.loop-one.one-index =
    omega (arith, ap length c.deref_mut-one-items.ensures.value) in
    summed_after c.loop-one.invariant at_end _ whole told

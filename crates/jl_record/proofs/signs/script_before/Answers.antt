use Rattle.jl_record.proofs.SignReads.{no_params_space, no_params, no_mentions_space, no_mentions, script_taken}
use Rattle.jl_record.proofs.signs.script_before.Goals as goal

pub returns-in_default-after_space : goal.returns-in_default-after_space
returns-in_default-after_space c =
    no_params_space c.args.rest.now c.in-Some.first.now c.in-Some.ensures c.in-Some-small_front.function
    c.in-Some-small_front.second.now c.in-Some-small_front.ensures c.in_default-after_space.ensures

pub returns-in_default-small_front-2 : goal.returns-in_default-small_front-2
returns-in_default-small_front-2 c =
    no_params c.args.rest.now c.in-Some.first.now c.in-Some.ensures c.in-Some-small_front.function
    c.in-Some-small_front.second.now c.in-Some-small_front.ensures c.in-Some-after_space.third.now
    c.in-Some-after_space.ensures c.in_default-small_front-2.ensures

pub returns-in_default-after_space-2 : goal.returns-in_default-after_space-2
returns-in_default-after_space-2 c =
    no_mentions_space c.args.rest.now c.in-Some.first.now c.in-Some.ensures c.in-Some-small_front.function
    c.in-Some-small_front.second.now c.in-Some-small_front.ensures c.in-Some-after_space.third.now
    c.in-Some-after_space.ensures c.in-Some-small_front-2.params c.in-Some-small_front-2.fourth.now
    c.in-Some-small_front-2.ensures c.in_default-after_space-2.ensures

pub returns-in_default-truth_front : goal.returns-in_default-truth_front
returns-in_default-truth_front c =
    no_mentions c.args.rest.now c.in-Some.first.now c.in-Some.ensures c.in-Some-small_front.function
    c.in-Some-small_front.second.now c.in-Some-small_front.ensures c.in-Some-after_space.third.now
    c.in-Some-after_space.ensures c.in-Some-small_front-2.params c.in-Some-small_front-2.fourth.now
    c.in-Some-small_front-2.ensures c.in-Some-after_space-2.fifth.now c.in-Some-after_space-2.ensures
    c.in_default-truth_front.ensures

pub returns : goal.returns
returns c =
    script_taken c.args.rest.now c.in-Some.first.now c.in-Some.ensures c.in-Some-small_front.function
    c.in-Some-small_front.second.now c.in-Some-small_front.ensures c.in-Some-after_space.third.now
    c.in-Some-after_space.ensures c.in-Some-small_front-2.params c.in-Some-small_front-2.fourth.now
    c.in-Some-small_front-2.ensures c.in-Some-after_space-2.fifth.now c.in-Some-after_space-2.ensures
    c.in-Some-truth_front.mentions c.in-Some-truth_front.left.now c.in-Some-truth_front.ensures

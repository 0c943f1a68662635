use Rattle.std.proofs.Common.{◌≡◌, false, refl, true, Bool}
use Rattle.std.proofs.lemmas.Result.{IfOk-weaker}
use mathlib.Core.Bool.{beq}
use Rattle.jl_progress.specs.ArrayCalls.{walk_of}
use Rattle.jl_lib_array.proofs.TaskTurns.{any_ends, any_passed}
use Rattle.jl_lib_array.proofs.tasks.answer_any.Goals as goal

is_same : (b wanted : Bool) → beq b wanted ≡ true → b ≡ wanted
is_same true true tested = refl
is_same true false tested = absurd (let differ = tested in cc)
is_same false true tested = absurd (let differ = tested in cc)
is_same false false tested = refl

differs : (b wanted : Bool) → beq b wanted ≡ false → b ≡ wanted → ⊥
differs true true tested same = let differ = tested in cc
differs true false tested same = let differ = same in cc
differs false true tested same = let differ = same in cc
differs false false tested same = let differ = tested in cc

pub returns-then-truth-wanted-clause-refines : goal.returns-then-truth-wanted-clause-refines
returns-then-truth-wanted-clause-refines c =
    any_ends _ (walk_of c.args.walk) c.args.wanted c.args.index c.args.v.now _ c.to_boolean-truth.ensures
    (is_same c.to_boolean-truth.result c.args.wanted c.if-truth-wanted.true)

pub returns-clause-refines : goal.returns-clause-refines
returns-clause-refines c =
    IfOk-weaker _ _ _ (λ a refines. any_passed _ (walk_of c.args.walk) _ _ c.args.wanted c.args.index _ c.args.v.now _
    c.to_boolean-truth.ensures (differs c.to_boolean-truth.result c.args.wanted c.if-truth-wanted.false)
    c.in_ok-at.ensures refines) c.go_on_walking.ensures.refines

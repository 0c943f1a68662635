use Rattle.std.proofs.Common.{◌∙◌, ap, ap₂, arith, ◌+◌}
use Rattle.jl_ast.specs.View.{view_functions, view_statements}
use Rattle.jl_op.specs.Ids.{forest_id_count}
use Rattle.jl_op.specs.KindSets.{is_member}
use Rattle.jl_weave.specs.inner.Bare.{bare_statements}
use Rattle.jl_weave.specs.inner.Woven.{woven_after_at, woven_all_at}
use Rattle.jl_weave.proofs.Programs.{count_of_parts, whole_woven}
use Rattle.jl_weave.proofs.weave_program.Goals as goal

pub weave_functions-requires : goal.weave_functions-requires
weave_functions-requires c =
    let k = count_of_parts c.args.program.now in
    let f = ap (λ l. forest_id_count (view_functions l)) c.items.ensures in
    let i = c.starting_at-ids.ensures in
    record { few = omega arith }

pub weave_statements-requires : goal.weave_statements-requires
weave_statements-requires c =
    let k = count_of_parts c.args.program.now in
    let f = ap (λ l. forest_id_count (view_functions l)) c.items.ensures in
    let l = ap (λ l. forest_id_count (view_statements l)) c.items-2.ensures in
    let i = c.starting_at-ids.ensures in
    let j = c.in_ok-functions.ensures.counted in
    record { few = omega arith }

pub returns : goal.returns
returns c =
    let p = c.args.program.now in
    let chosen = is_member c.args.kinds in
    whole_woven chosen p c.in_ok-functions.functions c.in_ok-statements-2.statements p.span
    (record {
      is = c.in_ok-functions.ensures.woven
          ∙ ap₂ (λ n l. woven_all_at chosen n (view_functions l)) c.starting_at-ids.ensures c.items.ensures;
      counted = c.in_ok-functions.ensures.counted
          ∙ ap₂ (λ n l. n + forest_id_count (view_functions l)) c.starting_at-ids.ensures c.items.ensures;
    })
    c.in_ok-first.ensures
    (record {
      is = c.in_ok-statements.ensures.woven
          ∙ ap (λ l. woven_after_at chosen (bare_statements c.in_ok-first.first) c.weave_functions.new.ids.next
          (view_statements l)) c.items-2.ensures;
      counted = c.in_ok-statements.ensures.counted
          ∙ ap (λ l. c.weave_functions.new.ids.next + forest_id_count (view_statements l)) c.items-2.ensures;
    })
    c.in_ok-statements-2.ensures

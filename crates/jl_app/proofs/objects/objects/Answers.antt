use Rattle.std.proofs.Common.{◌∙◌, ap, ap₂, refl}
use Rattle.jl_ast.specs.View.{view}
use Rattle.jl_effects.specs.Running.{state_of as world_of, steps_taken}
use Rattle.jl_op.specs.IdMap.{id_map}
use Rattle.jl_profile.specs.Births.{births_in, is_profiled}
use Rattle.jl_text.specs.Places.{line_table}
use Rattle.jl_app.specs.OwnRuns.{ending_status}
use Rattle.jl_app.specs.Profiling.{objects_due}
use Rattle.jl_app.specs.Telling.{told_run}
use Rattle.jl_app.specs.WovenRuns.{woven_budget}
use Rattle.jl_app.proofs.ToldRuns.{objects_bytes_are, of_told_kinds}
use Rattle.jl_app.proofs.objects.objects.Goals as goal

pub returns : goal.returns
returns c =
    let p = view c.args.accepted.now.program in
    let units = c.args.accepted.now.source in
    let budget = c.args.budget in
    let ran = told_run is_profiled p budget in
    let is = of_told_kinds _ _ c.in_ok-run.run' c.profiled_kinds.result is_profiled p budget c.profiled_kinds.ensures
    (c.in_ok-run.ensures.is c.new-profile.ensures.stands) in (
      objects_due units p ran (world_of ran).hooks (steps_taken (woven_budget budget) ran),
      refl,
      record {
        answer = record {
          status = c.ending_status.ensures ∙ ap ending_status is.outcome;
          bytes = objects_bytes_are (woven_budget budget) ran is c.deref.result.now
              (births_in (line_table units) (id_map p) (world_of ran).hooks) c.in_ok-answer_bytes.field-0.items
              (c.deref.ensures.value ∙ c.in_ok-rows.ensures.found (world_of ran).hooks is.told
              ∙ ap₂ (λ l m. births_in l m (world_of ran).hooks) c.lines.ensures c.in_ok-map.ensures.rows)
              c.in_ok-answer_bytes.ensures;
        };
        untold = refl;
      },
    )

use Rattle.jl_app.proofs.RecordedRuns.{recorded_are_stored}
use Rattle.jl_app.proofs.laws.recorded_runs_are_stored.Goals as goal

pub returns : goal.returns
returns c = recorded_are_stored (record {
  rules = c.off_names_rules.ensures;
  places = c.rows_lie_in_the_text.ensures.begins;
  few_rows = c.few_ids.ensures;
  rows = c.hooks_have_rows.ensures;
  values = c.hooks_see_values.ensures;
  few_hooks = c.hooks_take_steps.ensures.meant;
})

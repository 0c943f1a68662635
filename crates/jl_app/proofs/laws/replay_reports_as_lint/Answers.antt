use Rattle.jl_app.proofs.ReplayedRuns.{reports_as_lint}
use Rattle.jl_app.proofs.laws.replay_reports_as_lint.Goals as goal

pub returns : goal.returns
returns c =
    reports_as_lint c.scripts_are_woven_well.ensures c.stored_runs_replay.ensures c.rows_lie_in_the_text.ensures.begins

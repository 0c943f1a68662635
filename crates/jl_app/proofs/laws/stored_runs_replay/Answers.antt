use Rattle.jl_app.proofs.StoredRuns.{replays_as}
use Rattle.jl_app.proofs.laws.stored_runs_replay.Goals as goal

pub returns : goal.returns
returns c = replays_as c.records_come_back.ensures c.one_record.ensures

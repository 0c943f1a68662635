use Rattle.jl_profile.proofs.Observing.{one_more}
use Rattle.jl_profile.proofs.profile.ProfileObserver.see.Goals as goal

pub returns-clause-told : goal.returns-clause-told
returns-clause-told c = λ observed is.
    one_more c.args.self.now.born.entries _ _ _ _ _ observed c.args.id c.args.op.now c.in_ok-note_use.ensures
    c.in_ok-note_birth.ensures c.in_ok-note_new.ensures is

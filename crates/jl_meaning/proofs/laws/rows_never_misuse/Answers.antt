use Rattle.jl_effects.proofs.Faults.{row_fails}
use Rattle.jl_meaning.specs.Mean.{IsNoMisuse, language}
use Rattle.jl_meaning.specs.Parts.{AlgorithmFault, CallOf, CodeFromText, fault_of, NumberOutside, StringTooLong}
use Rattle.jl_meaning.specs.Parts.{Unsupported}
use Rattle.jl_meaning.proofs.laws.rows_never_misuse.Goals as goal

own_faults : (e : AlgorithmFault) → IsNoMisuse (fault_of e)
own_faults NumberOutside is = cc
own_faults StringTooLong is = cc
own_faults (Unsupported b) is = cc
own_faults CodeFromText is = cc

full_output : IsNoMisuse language.full
unfolding language
full_output is = cc

pub returns : goal.returns
returns g c = λ k jobs calls p n w.
    row_fails language k jobs CallOf fault_of IsNoMisuse full_output own_faults calls p n w

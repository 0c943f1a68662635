use Rattle.std.proofs.Common.{◌≡◌, drop}
use Rattle.jl_token.specs.Punctuators.{all_punctuators}
use Rattle.jl_token.specs.inner.Scanner.{first_punctuator}
use Rattle.jl_lex.proofs.punctuators.longest_punctuator.Given as goal

abbrev pub invariant-loop-punct : goal.invariant-loop-punct
invariant-loop-punct l = first_punctuator (drop l.punct-index l.all) (drop l.at l.units)
    ≡ first_punctuator all_punctuators (drop l.at l.units)

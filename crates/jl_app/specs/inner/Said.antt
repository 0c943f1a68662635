-- That an answer is a due one.
use Rattle.std.specs.Prelude.{◌≡◌, None}
use Rattle.jl_app.specs.Due.{Due}
use Rattle.jl_app.specs.declared.answer.Answer.{Answer}

-- the answer has the status and the bytes of what is due
pub record IsAnswerOf (given : Answer) (due : Due) : Type 0 where
  pub status : given.status ≡ due.status
  pub bytes : given.bytes.items ≡ due.bytes

-- and the crowd is to stay as it was
pub record IsSaid (given : Answer) (due : Due) : Type 0 where
  pub answer : IsAnswerOf given due
  pub untold : due.told ≡ None

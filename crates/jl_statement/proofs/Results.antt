-- What follows from what holds of a call's result.
use Rattle.std.proofs.Common.{IfOk, Result}
use Rattle.std.proofs.lemmas.Result.{IfOk-weaker}

-- `IfOk-weaker` with the fact first, which decides what is left open in what follows from it
pub if_ok : {X Y : Type 0} (r : Result X Y) (P Q : X → Type 0) → IfOk r P → ((x : X) → P x → Q x) → IfOk r Q
if_ok r P Q fact follows = IfOk-weaker r P Q follows fact

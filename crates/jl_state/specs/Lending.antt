-- What a `Boxed` is once its value has been lent out.
use Rattle.std.specs.Borrow.{Fml, Lends, MutBor, RattleType}
use Rattle.jl_state.specs.contracts.boxed.Boxed.{the_row}

-- once the borrow r of its value ends, the box b has the value that r shows last
abbrev pub LendsValue : (T : RattleType) → MutBor T.Denot → MutBor T.Denot → Fml
LendsValue T b r = Lends (the_row T) T b r (λ v. v)

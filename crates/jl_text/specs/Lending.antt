-- What a `List` is once its items have been lent out.
use Rattle.std.specs.Prelude.{List, length}
use Rattle.std.specs.Borrow.{Lends, Fml, RattleType, MutBor, Array}
use Rattle.std.specs.List.{refill}
use Rattle.jl_text.specs.contracts.list.List.{the_row}

-- once the borrow r of its items ends, the list l has the items that r shows last, as many as before
abbrev pub LendsItems : (T : RattleType) → MutBor (List T.Denot) → MutBor (List T.Denot) → Fml
LendsItems T l r = Lends (the_row T) (Array T 0) l r (refill (length l.now) l.now)

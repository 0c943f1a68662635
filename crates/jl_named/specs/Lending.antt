-- What a list is once the item that it lent has been written.
use Rattle.std.specs.Prelude.{ℕ, List, Option}
use Rattle.std.specs.Borrow.{LendsIf, Fml, RattleType, MutBor}
use Rattle.jl_named.specs.declared.named_list.Named.{Named}
use Rattle.jl_named.specs.Named.{with_item}
use Rattle.jl_named.specs.contracts.named_list.NamedList.{the_row}

-- once the borrow r ends, a name has the item that was written through r last; at `None` all stays
abbrev pub LendsItem : (T : RattleType) → MutBor (List (Named T.Denot)) → List ℕ → Option (MutBor T.Denot) → Fml
LendsItem T l name r = LendsIf (the_row T) T l r (with_item l.now name) l.now

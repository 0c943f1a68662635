use Rattle.std.proofs.Common.{◌≡◌, ◌≤◌, take, nat_eq}
use Rattle.std.specs.BTreeMap.{IsOrdered, get, keys, values}
use Rattle.std.specs.Prelude.{sum_by, unwrap_or}
use Rattle.indexmap.specs.IndexSet.{contains}
use Rattle.jl_profile.specs.Births.{Key, by_place, sorted_keys}
use Rattle.jl_profile.specs.inner.Rows.{count_at, no_births}
use Rattle.jl_profile.proofs.rows.count_births.Given as goal

abbrev pub invariant-loop-key : goal.invariant-loop-key
invariant-loop-key l = record {
  all : keys l.counts ≡ sorted_keys (take l.key-index l.births);
  counted : (key : Key) → unwrap_or (get by_place l.counts key) no_births
      ≡ count_at (contains nat_eq l.used) (take l.key-index l.births) key;
  ordered : IsOrdered by_place l.counts;
  made : sum_by (λ x. x.made) (values l.counts) ≤ l.key-index;
  unused : sum_by (λ x. x.unused) (values l.counts) ≤ l.key-index;
}

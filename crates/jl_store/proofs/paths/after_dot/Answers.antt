use Rattle.std.proofs.Common.{◌≡◌, arith, false, length, List, None, refl, subst, sym, ℕ}
use Rattle.std.proofs.lemmas.List.Folds.{list_any_none}
use Rattle.std.proofs.lemmas.List.Sums.{fails_before_first}
use Rattle.std.proofs.lemmas.Str.Pattern.{split_once_first}
use Rattle.std.specs.List.{after_first, list_any, position_or_len}
use Rattle.std.specs.Prelude.{if◌then◌else◌}
use Rattle.jl_meaning.specs.Realm.{is_dot}
use Rattle.jl_store.specs.inner.Paths.{after_dot}
use Rattle.jl_store.proofs.paths.after_dot.Goals as goal

-- a path without a dot
no_dot : (path : List ℕ) → position_or_len is_dot path ≡ length path → path ≡ after_dot path
no_dot path is =
    let none : list_any is_dot path ≡ false =
    list_any_none is_dot path (λ k d below. fails_before_first is_dot path k d (omega (arith, is, below))) in
    subst (λ b. path ≡ (if b then after_first is_dot path else path)) (sym none) refl

pub returns-in-None : goal.returns-in-None
returns-in-None c =
    no_dot c.args.path.now (split_once_first 46 c.args.path.now None c.in-None.ensures.cases (omega arith))

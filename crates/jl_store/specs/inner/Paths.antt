-- The paths of builtins.
use Rattle.std.specs.List.{after_first, list_any}
use Rattle.std.specs.Prelude.{if◌then◌else◌, List, ℕ}
use Rattle.jl_meaning.specs.Realm.{is_dot}

-- what comes after the first dot of a path, if it has one
abbrev pub after_dot : List ℕ → List ℕ
after_dot path = if list_any is_dot path then after_first is_dot path else path

-- Forms of callees by name.
use Rattle.std.specs.Prelude.{[], if◌then◌else◌, ◌∷◌, List, ℕ}
use Rattle.std.specs.Str.{bytes_eq}
use Rattle.jl_hook.specs.declared.hook_names.CalleeForm.{CalleeForm}
use Rattle.jl_hook.specs.declared.hook_names.CalleeForm.TheVariants as callee

-- the form with this name in a table
abbrev pub form_in : List (List ℕ × CalleeForm) → List ℕ → CalleeForm
form_in [] x = callee.NoHook
form_in ((y, f) ∷ l) x = if bytes_eq x y then f else form_in l x

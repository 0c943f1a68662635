-- Names of properties, as they are listed.
use Rattle.std.specs.Prelude.{ℕ}
use Rattle.jl_value.specs.declared.value.Value.{Value}
use Rattle.jl_value.specs.declared.value.Value.TheVariants as value
use Rattle.jl_heap.specs.Objects.{Name}

abbrev pub name_of_entry : Name × ℕ → Name
name_of_entry entry = entry.0

abbrev pub text_value : Name → Value
text_value x = value.Text x

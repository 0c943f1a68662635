-- What the code keeps of a builtin's entry.
use Rattle.jl_value.specs.Builtins.{Entry}
use Rattle.jl_value.specs.declared.builtin_table.Entry as kept

abbrev pub view_entry : kept.Entry → Entry
view_entry e = record { path = e.path.now; length = e.length; holder = e.holder; prototype = e.prototype }

-- The words by which a fault is told.
use Rattle.std.specs.Prelude.{ℕ, List, ◌++◌, codes}
use Rattle.jl_value.specs.declared.ending.Fault.{Fault}
use Rattle.jl_value.specs.declared.ending.Fault.TheVariants as faults
use Rattle.jl_value.specs.Builtins.{name_of}

abbrev pub fault_text : Fault → List ℕ
fault_text faults.NumberOutside = codes "NumberOutside"
fault_text faults.StringTooLong = codes "StringTooLong"
fault_text faults.OutputTooLong = codes "OutputTooLong"
fault_text faults.CodeFromText = codes "CodeFromText"
fault_text (faults.Unsupported builtin) = codes "Unsupported " ++ name_of builtin
fault_text faults.Misuse = codes "Misuse"

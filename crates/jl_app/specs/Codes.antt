-- The exit statuses.
use Rattle.std.specs.Prelude.{ℕ}
use Rattle.jl_app.specs.declared.status.Status.{Status}
use Rattle.jl_app.specs.declared.status.Status.TheVariants.{Clean, Reports, BadWords, Refused, Thrown, Fault, Spent}
use Rattle.jl_app.specs.declared.status.Status.TheVariants.{ReadFault, WriteFault, NoMemory}

abbrev pub code_of : Status → ℕ
code_of Clean = 0
code_of Reports = 1
code_of BadWords = 2
code_of Refused = 3
code_of Thrown = 4
code_of Fault = 5
code_of Spent = 6
code_of ReadFault = 7
code_of WriteFault = 8
code_of NoMemory = 9

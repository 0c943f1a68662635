-- How the code tells of bytes that are not read as a sound program.
use Rattle.std.specs.Prelude.{ℕ, List}
use Rattle.jl_app.specs.declared.accept.Unaccepted.{Unaccepted}
use Rattle.jl_app.specs.declared.accept.Unaccepted.TheVariants as unaccepted
use Rattle.jl_app.specs.declared.form.Form.{Form}
use Rattle.jl_app.specs.Refusals.{IsRefused}

-- a refusal has its cause; want of memory says nothing of the bytes
abbrev pub Refuses : Form → List ℕ → Unaccepted → Type 0
Refuses form bytes (unaccepted.Refused cause) = IsRefused form bytes cause
Refuses form bytes unaccepted.NoMemory = Unit {0}

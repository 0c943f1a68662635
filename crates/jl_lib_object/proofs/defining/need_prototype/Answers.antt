use Rattle.jl_lib_object.proofs.Definitions.{no_prototype}
use Rattle.jl_lib_object.proofs.defining.need_prototype.Goals as goal

pub returns-in_ok-throw_type_error-in_default : goal.returns-in_ok-throw_type_error-in_default
returns-in_ok-throw_type_error-in_default c =
    no_prototype _ _ _ _ c.in_default.not-Obj c.in_default.not-Null c.in_ok-throw_type_error-in_default.ensures

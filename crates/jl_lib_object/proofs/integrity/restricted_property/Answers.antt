use Rattle.jl_lib_object.proofs.Restrictions.{restricted_accessor, restricted_plain}
use Rattle.jl_lib_object.proofs.integrity.restricted_property.Goals as goal

pub returns-in-Plain : goal.returns-in-Plain
returns-in-Plain c = restricted_plain _ _ _ _ _ _ _ c.in-Plain.is c.stays_writable.ensures

pub returns-in-Accessor : goal.returns-in-Accessor
returns-in-Accessor c = restricted_accessor _ _ _ _ _ _ c.in-Accessor.is

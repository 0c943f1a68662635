use Rattle.jl_lib_object.specs.inner.Fields.{fields_from}
use Rattle.jl_lib_object.proofs.descriptors.+read_fields.Given as goal

abbrev pub decreases-read_fields : goal.decreases-read_fields
decreases-read_fields l = fields_from l.next

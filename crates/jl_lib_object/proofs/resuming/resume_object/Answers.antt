use Rattle.std.proofs.Common.{arith}
use Rattle.jl_lib_object.proofs.Resumed.{falls_resumed, resumes}
use Rattle.jl_lib_object.proofs.resuming.resume_object.Goals as goal

pub returns-in-DescribedName-clause-refines : goal.returns-in-DescribedName-clause-refines
returns-in-DescribedName-clause-refines c =
    resumes _ _ _ _ _ c.args.v c.in-DescribedName.is c.step_described_name.ensures.refines

pub returns-in-DescribedName-clause-bounded : goal.returns-in-DescribedName-clause-bounded
returns-in-DescribedName-clause-bounded c =
    falls_resumed _ _ _ _ _ _ c.in-DescribedName.is c.step_described_name.ensures.bounded (omega arith)

pub returns-in-DefinedName-clause-refines : goal.returns-in-DefinedName-clause-refines
returns-in-DefinedName-clause-refines c =
    resumes _ _ _ _ _ c.args.v c.in-DefinedName.is c.step_defined_name.ensures.refines

pub returns-in-DefinedName-clause-bounded : goal.returns-in-DefinedName-clause-bounded
returns-in-DefinedName-clause-bounded c =
    falls_resumed _ _ _ _ _ _ c.in-DefinedName.is c.step_defined_name.ensures.bounded (omega arith)

pub returns-in-Field-clause-refines : goal.returns-in-Field-clause-refines
returns-in-Field-clause-refines c =
    resumes _ _ _ _ _ c.args.v c.in-Field.is c.step_field.ensures.refines

pub returns-in-Field-clause-bounded : goal.returns-in-Field-clause-bounded
returns-in-Field-clause-bounded c =
    falls_resumed _ _ _ _ _ _ c.in-Field.is c.step_field.ensures.bounded (omega arith)

pub returns-in-Descriptor-clause-refines : goal.returns-in-Descriptor-clause-refines
returns-in-Descriptor-clause-refines c =
    resumes _ _ _ _ _ c.args.v c.in-Descriptor.is c.step_descriptor.ensures.refines

pub returns-in-Descriptor-clause-bounded : goal.returns-in-Descriptor-clause-bounded
returns-in-Descriptor-clause-bounded c =
    falls_resumed _ _ _ _ _ _ c.in-Descriptor.is c.step_descriptor.ensures.bounded (omega arith)

pub returns-in-Define-clause-refines : goal.returns-in-Define-clause-refines
returns-in-Define-clause-refines c =
    resumes _ _ _ _ _ c.args.v c.in-Define.is c.define_from.ensures.refines

pub returns-in-Define-clause-bounded : goal.returns-in-Define-clause-bounded
returns-in-Define-clause-bounded c =
    falls_resumed _ _ _ _ _ _ c.in-Define.is c.define_from.ensures.bounded (omega arith)

pub returns-in-Restrict-clause-refines : goal.returns-in-Restrict-clause-refines
returns-in-Restrict-clause-refines c =
    resumes _ _ _ _ _ c.args.v c.in-Restrict.is c.restrict_from.ensures.refines

pub returns-in-Restrict-clause-bounded : goal.returns-in-Restrict-clause-bounded
returns-in-Restrict-clause-bounded c =
    falls_resumed _ _ _ _ _ _ c.in-Restrict.is c.restrict_from.ensures.bounded (omega arith)

pub returns-in-Test-clause-refines : goal.returns-in-Test-clause-refines
returns-in-Test-clause-refines c =
    resumes _ _ _ _ _ c.args.v c.in-Test.is c.test_from.ensures.refines

pub returns-in-Test-clause-bounded : goal.returns-in-Test-clause-bounded
returns-in-Test-clause-bounded c =
    falls_resumed _ _ _ _ _ _ c.in-Test.is c.test_from.ensures.bounded (omega arith)

pub returns-clause-refines : goal.returns-clause-refines
returns-clause-refines c =
    resumes _ _ _ _ _ c.args.v c.in-OwnName.is c.step_own_name.ensures.refines

pub returns-clause-bounded : goal.returns-clause-bounded
returns-clause-bounded c =
    falls_resumed _ _ _ _ _ _ c.in-OwnName.is c.step_own_name.ensures.bounded (omega arith)

use Rattle.std.proofs.lemmas.Result.{IfOk-weaker}
use Rattle.jl_meaning.specs.Conversions.{to_string}
use Rattle.jl_meaning.specs.Parts.{◌>>=◌}
use Rattle.jl_meaning.specs.builtins.Arguments.{argument}
use Rattle.jl_progress.specs.declared.object.DescriptorUse.TheVariants as use_of
use Rattle.jl_state.specs.Words.{call_of}
use Rattle.jl_lib_object.specs.inner.Parts.{define_by}
use Rattle.jl_lib_object.proofs.Ends.{goes_on, throws_on, works_of}
use Rattle.jl_lib_object.proofs.defining.object_define_property.Goals as goal

pub returns-in-Throws-clause-refines : goal.returns-in-Throws-clause-refines
returns-in-Throws-clause-refines c = throws_on _ _ _ _ _ c.in_ok-thrown.ensures _ c.in-Throws.is

pub returns-in-Gives-clause-refines : goal.returns-in-Gives-clause-refines
returns-in-Gives-clause-refines c =
    IfOk-weaker _ _ _ (λ a refines. goes_on _ _ _ _ _ c.in_ok-thrown.ensures _ _ _ c.in-Gives.is (works_of _ (λ v.
    to_string v >>= λ x. define_by (use_of.One c.in-Gives.object x) (argument (call_of c.args.call.now) 2)) _ _ _ _
    c.in_ok-name.ensures (works_of _ (λ d. to_string c.in_ok-name.name >>= λ x. define_by
    (use_of.One c.in-Gives.object x) d) _ _ _ _ c.in_ok-descriptor.ensures refines))) c.convert_name.ensures.refines

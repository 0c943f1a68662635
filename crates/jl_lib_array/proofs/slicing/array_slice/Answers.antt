use Rattle.std.proofs.Common.{refl}
use Rattle.std.proofs.lemmas.Result.{IfOk-weaker}
use Rattle.jl_meaning.specs.Conversions.{to_object}
use Rattle.jl_meaning.specs.Parts.{◌>>=◌}
use Rattle.jl_meaning.specs.builtins.Elements.{get_length}
use Rattle.jl_meaning.specs.forms.Literals.{new_array}
use Rattle.jl_progress.specs.ArrayCalls.{with_length}
use Rattle.jl_progress.specs.declared.array_call.LengthFor.TheVariants as length_for
use Rattle.jl_state.specs.Words.{call_of}
use Rattle.jl_state.proofs.Stores.{works_comes}
use Rattle.jl_builtin.proofs.Ends.{answer_given, answer_thrown}
use Rattle.jl_lib_array.proofs.Slices.{slice_begins}
use Rattle.jl_lib_array.proofs.slicing.array_slice.Goals as goal

pub returns-in-Gives-clause-refines : goal.returns-in-Gives-clause-refines
returns-in-Gives-clause-refines c =
    IfOk-weaker _ _ _ (λ a refines. slice_begins _ (call_of c.args.call) _ _ (answer_given c.args.state.now
    (record c.args.state.now { store = c.to_object.new.self }) refl (to_object c.args.call.this) (λ o. new_array >>=
    λ a. get_length o >>= with_length (length_for.Slice a) o c.args.call.args) _ c.in_ok-answer.ensures _ _ _
    c.in-Gives.is (works_comes (record c.args.state.now { store = c.to_object.new.self })
    (record c.args.state.now { store = c.new_array.new.self }) refl new_array c.in_ok-array-in-Gives.array (λ a.
    get_length c.in-Gives.object >>= with_length (length_for.Slice a) c.in-Gives.object c.args.call.args) _ _
    c.in_ok-array-in-Gives.ensures refines))) c.get_length.ensures.refines

pub returns-clause-refines : goal.returns-clause-refines
returns-clause-refines c =
    slice_begins _ (call_of c.args.call) _ _
    (answer_thrown c.args.state.now (record c.args.state.now { store = c.to_object.new.self }) refl
    (to_object c.args.call.this) (λ o. new_array >>= λ a. get_length o >>= with_length (length_for.Slice a) o
    c.args.call.args)
    _ c.in_ok-answer.ensures _ c.in-Throws.is)

use Rattle.std.proofs.Common.{subst, sym}
use Rattle.std.proofs.lemmas.Result.{IfOk-weaker}
use Rattle.jl_meaning.specs.Errors.{string_within}
use Rattle.jl_meaning.specs.Parts.{◌>>=◌}
use Rattle.jl_meaning.specs.builtins.Arguments.{give_string}
use Rattle.jl_state.specs.Rest.{RefinesAlgorithm}
use Rattle.jl_builtin.proofs.FoundItems.{none_from, some_from}
use Rattle.jl_lib_text.specs.inner.Turns.{string_of_codes}
use Rattle.jl_lib_text.proofs.codes.string_of_codes.Goals as goal

pub returns-in-None-clause-refines : goal.returns-in-None-clause-refines
returns-in-None-clause-refines c =
    IfOk-weaker _ _ _ (λ a refines. subst
    (λ l. RefinesAlgorithm c.args.state.now (string_of_codes c.args.units l) c.args.state.now
    a) (sym (none_from c.args.from c.items.result.now c.args.args c.in_ok-value_from.field-0 c.items.ensures
    c.in_ok-value_from.ensures.found c.in-None.is)) (subst (λ x. RefinesAlgorithm c.args.state.now
    (string_within x >>= λ within. give_string within) c.args.state.now a) c.items-in-None.ensures
    (refines c.args.state.now))) c.give_text.ensures.refines

pub returns-clause-refines : goal.returns-clause-refines
returns-clause-refines c =
    IfOk-weaker _ _ _ (λ a refines. subst (λ l. RefinesAlgorithm c.args.state.now (string_of_codes c.args.units l)
    c.convert_code.new.state a) (sym (some_from c.args.from c.in-Some.next c.items.result.now c.args.args c.in-Some.v
    c.in_ok-value_from.field-0 c.items.ensures c.in_ok-value_from.ensures.found c.in-Some.is)) refines)
    c.convert_code.ensures.refines

use Rattle.std.proofs.Common.{refl, subst, sym}
use Rattle.jl_value.specs.declared.builtin_groups.FunctionBuiltin.{FunctionBuiltin}
use Rattle.jl_value.specs.declared.ending.Fault.TheVariants.{CodeFromText}
use Rattle.jl_value.specs.declared.value.Value.TheVariants.{Undefined}
use Rattle.jl_meaning.specs.builtins.Function.{function_algorithm, names_of}
use Rattle.jl_state.specs.Rest.{RefinesAlgorithm}
use Rattle.jl_state.specs.Words.{call_of, table_of}
use Rattle.jl_state.specs.declared.act.Act.TheVariants as act
use Rattle.jl_lib_object.proofs.starting.begin_function.Goals as goal

pub returns-in-Constructor-clause-refines : goal.returns-in-Constructor-clause-refines
returns-in-Constructor-clause-refines c =
    let s = c.args.state.now in
    subst (λ (b : FunctionBuiltin). RefinesAlgorithm s (function_algorithm (names_of (table_of s.functions)) b
    (call_of c.args.call.now)) s (act.Fault CodeFromText)) (sym c.in-Constructor.is) (record { is = λ kept told. refl })

pub returns-in-Prototype-clause-refines : goal.returns-in-Prototype-clause-refines
returns-in-Prototype-clause-refines c =
    let s = c.args.state.now in
    subst (λ (b : FunctionBuiltin). RefinesAlgorithm s (function_algorithm (names_of (table_of s.functions)) b
    (call_of c.args.call.now)) s (act.Give Undefined)) (sym c.in-Prototype.is) (record { is = λ kept told. refl })

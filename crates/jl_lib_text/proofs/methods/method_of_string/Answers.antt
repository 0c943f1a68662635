use Rattle.std.proofs.Common.{refl}
use Rattle.jl_value.specs.declared.builtin_groups.StringMethod.TheVariants as string_method
use Rattle.jl_progress.specs.declared.string.Search.TheVariants as search
use Rattle.jl_lib_text.specs.declared.casing.LetterCase.TheVariants as letter_case
use Rattle.jl_lib_text.specs.inner.Letters.{string_in_case}
use Rattle.jl_lib_text.specs.inner.Methods.{place_in_string}
use Rattle.jl_lib_text.proofs.Called.{in_state, index_of, known_method}
use Rattle.jl_lib_text.proofs.methods.method_of_string.Goals as goal

pub returns-in-IndexOf-clause-refines : goal.returns-in-IndexOf-clause-refines
returns-in-IndexOf-clause-refines c =
    known_method c.args.state.now c.args.method string_method.IndexOf c.args.units c.args.args.now
    (place_in_string search.First c.args.units c.args.args.now) _ _ c.in-IndexOf.is
    (index_of c.args.units c.args.args.now) c.convert_part.ensures.refines

pub returns-in-ToLowerCase-clause-refines : goal.returns-in-ToLowerCase-clause-refines
returns-in-ToLowerCase-clause-refines c =
    known_method c.args.state.now c.args.method string_method.ToLowerCase c.args.units c.args.args.now
    (string_in_case letter_case.Lower c.args.units) _ _ c.in-ToLowerCase.is refl
    (in_state c.args.state.now (string_in_case letter_case.Lower c.args.units) _ c.give_in_case.ensures.refines)

pub returns-in-ToUpperCase-clause-refines : goal.returns-in-ToUpperCase-clause-refines
returns-in-ToUpperCase-clause-refines c =
    known_method c.args.state.now c.args.method string_method.ToUpperCase c.args.units c.args.args.now
    (string_in_case letter_case.Upper c.args.units) _ _ c.in-ToUpperCase.is refl
    (in_state c.args.state.now (string_in_case letter_case.Upper c.args.units) _
    c.give_in_case-in-ToUpperCase.ensures.refines)

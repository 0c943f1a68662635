use Rattle.std.proofs.Common.{ℕ}
use Rattle.std.proofs.lemmas.Result.{IfOk-weaker}
use Rattle.jl_meaning.specs.Conversions.{integer_of}
use Rattle.jl_progress.specs.ArrayCalls.{place_from, search_from}
use Rattle.jl_builtin.proofs.Waits.{number_given}
use Rattle.jl_lib_array.proofs.CallCases.{works_at}
use Rattle.jl_lib_array.proofs.searching.step_search_from.Goals as goal

pub returns-clause-refines : goal.returns-clause-refines
returns-clause-refines c =
    IfOk-weaker _ _ _ (λ a refines. number_given _ c.args.p.now _ _ (λ n. search_from c.args.direction c.args.object
    c.args.length c.args.sought (place_from c.args.direction (integer_of n) c.args.length)) _ _
    c.number_of_primitive.ensures c.in-Some.is (works_at _ _ _ (λ (m : ℕ). search_from c.args.direction c.args.object
    c.args.length c.args.sought m) _ _ c.place_from-at.ensures refines)) c.go_on_searching.ensures.refines

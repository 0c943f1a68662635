use Rattle.std.proofs.Common.{◌≡◌, rules, subst, sym, true}
use Rattle.jl_scope.specs.EarlyError.{first_early_error}
use Rattle.jl_app.specs.ReadBack.{may_run}
use Rattle.jl_app.proofs.read_back.program_of.Goals as goal

pub returns-in_err-check_early_errors-clause-only : goal.returns-in_err-check_early_errors-clause-only
returns-in_err-check_early_errors-clause-only c = λ p read sound.
    let same = c.in_ok-program.ensures.only p read in
    let e = c.in_err-check_early_errors.ensures.only
    (subst (λ q. may_run (first_early_error q) ≡ true) (sym same) sound) in
    search (rules, e)

pub returns-clause-only : goal.returns-clause-only
returns-clause-only c = λ p read sound. c.in_ok-program.ensures.only p read

use Rattle.jl_analysis.proofs.Crowds.{Heard, Told}
use Rattle.jl_analysis.proofs.crowd.Crowd.tell_all.Given as goal

abbrev pub invariant-loop-one : goal.invariant-loop-one
invariant-loop-one g l =
    Heard
    (Told
    (λ b. (goal.Analysis-dyn g (b.vtable, b.value)).rule_of b.value)
    (λ b. (goal.Analysis-dyn g (b.vtable, b.value)).has_refused b.value)
    (λ b. (goal.Analysis-dyn g (b.vtable, b.value)).kept b.value)
    (l.fn.id, l.fn.op))
    l.fn.self.boxes.items l.one-items l.one-index

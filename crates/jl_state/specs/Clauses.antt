-- The contracts of steps, as words over their results: what the act of a step comes to, and how much it may do.
use Rattle.std.specs.Prelude.{IfOk, Result, ℕ}
use Rattle.jl_value.specs.declared.ending.Completion.{Completion}
use Rattle.jl_value.specs.declared.value.Value.{Value}
use Rattle.jl_heap.specs.Objects.{Name}
use Rattle.jl_meaning.specs.Parts.{Algorithm, Answer, Part}
use Rattle.jl_state.specs.AlgorithmFrames.{algorithm_after}
use Rattle.jl_state.specs.Rank.{RankedBelow}
use Rattle.jl_state.specs.Rest.{RefinesStatement, RefinesExpression, RefinesAlgorithm}
use Rattle.jl_state.specs.StatementFrames.{completion_after, statement_after}
use Rattle.jl_state.specs.ValueFrames.{key_after, value_after}
use Rattle.jl_state.specs.Words.{table_of}
use Rattle.jl_state.specs.declared.act.Act.{Act}
use Rattle.jl_state.specs.declared.algorithm_frame.AlgorithmFrame.{AlgorithmFrame}
use Rattle.jl_state.specs.declared.state.State.{State}
use Rattle.jl_state.specs.declared.statement_frame.CompletionFrame.{CompletionFrame}
use Rattle.jl_state.specs.declared.statement_frame.StatementFrame.{StatementFrame}
use Rattle.jl_state.specs.declared.value_frame.MemberUse.{MemberUse}
use Rattle.jl_state.specs.declared.value_frame.ValueFrame.{ValueFrame}

-- from s, the step does what an expression, a statement or an algorithm of the standard does
abbrev pub Evaluates : {E : Type 0} → State → Part (Answer Value) → Result Act E → State → Type 0
Evaluates s p result t = IfOk result (λ act. RefinesExpression s p t act)

abbrev pub Executes : {E : Type 0} → State → Part Completion → Result Act E → State → Type 0
Executes s p result t = IfOk result (λ act. RefinesStatement s p t act)

abbrev pub Computes : {E : Type 0} → State → Algorithm Value → Result Act E → State → Type 0
Computes s p result t = IfOk result (λ act. RefinesAlgorithm s p t act)

-- from s, the step does what a frame does that is handed a value or a completion
abbrev pub Resumes : {E : Type 0} → State → ValueFrame → Value → Result Act E → State → Type 0
Resumes s f v result t = Evaluates s (value_after (table_of s.functions) s.calls f v) result t

abbrev pub ResumesAlgorithm : {E : Type 0} → State → AlgorithmFrame → Value → Result Act E → State → Type 0
ResumesAlgorithm s f v result t = Computes s (algorithm_after f v) result t

abbrev pub ResumesStatement : {E : Type 0} → State → StatementFrame → Value → Result Act E → State → Type 0
ResumesStatement s f v result t = Executes s (statement_after (table_of s.functions) s.calls f v) result t

abbrev pub ResumesCompletion : {E : Type 0} → State → CompletionFrame → Completion → Result Act E → State → Type 0
ResumesCompletion s f how result t = Executes s (completion_after (table_of s.functions) s.calls f how) result t

-- from s, the step does what is to be done with the name of a member
abbrev pub Uses : {E : Type 0} → State → MemberUse → Name → Result Act E → State → Type 0
Uses s use_for name result t = Evaluates s (key_after (table_of s.functions) s.calls use_for name) result t

-- until the next step, what the step leads to does less than n and the frames of s
abbrev pub RankAtMost : {E : Type 0} → State → ℕ → Result Act E → State → Type 0
RankAtMost s n result t = IfOk result (λ act. RankedBelow s n t act)

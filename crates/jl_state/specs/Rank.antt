-- How much frames and acts may still do without a step. Each act that takes none lowers the sum.
use Rattle.std.specs.Prelude.{length, ◌*◌, ◌+◌, ◌<◌, ◌≡◌, ◌≤◌, ◌∷◌, [], Bool, false, true, List, ℕ}
use Rattle.jl_progress.specs.Progress.{rank_progress}
use Rattle.jl_state.specs.Trees.{items_left}
use Rattle.jl_state.specs.declared.act.Act.{Act}
use Rattle.jl_state.specs.declared.act.Act.TheVariants as act
use Rattle.jl_state.specs.declared.algorithm_frame.AlgorithmFrame.{AlgorithmFrame}
use Rattle.jl_state.specs.declared.algorithm_frame.AlgorithmFrame.TheVariants as algorithm
use Rattle.jl_state.specs.declared.statement_frame.CompletionFrame.{CompletionFrame}
use Rattle.jl_state.specs.declared.statement_frame.CompletionFrame.TheVariants as completing
use Rattle.jl_state.specs.declared.frame.Frame.{Frame}
use Rattle.jl_state.specs.declared.frame.Frame.TheVariants as frame
use Rattle.jl_state.specs.declared.value_frame.MemberUse.{MemberUse}
use Rattle.jl_state.specs.declared.value_frame.MemberUse.TheVariants as key_for
use Rattle.jl_state.specs.declared.statement_frame.Loop.{Loop}
use Rattle.jl_state.specs.declared.statement_frame.Loop.TheVariants as loop
use Rattle.jl_state.specs.declared.statement_frame.StatementFrame.{StatementFrame}
use Rattle.jl_state.specs.declared.statement_frame.StatementFrame.TheVariants as statement
use Rattle.jl_state.specs.declared.frame.EmitFrame.{EmitFrame}
use Rattle.jl_state.specs.declared.frame.EmitFrame.TheVariants as told
use Rattle.jl_state.specs.declared.value_frame.ValueFrame.{ValueFrame}
use Rattle.jl_state.specs.declared.value_frame.ValueFrame.TheVariants as waiting
use Rattle.jl_state.specs.declared.state.State.{State}

-- The words below are what a call of that name may do: get, put, to_primitive and so on.
abbrev pub rank_method : (is_second : Bool) → ℕ
rank_method false = 11
rank_method true = 5

abbrev pub rank_method_result : (is_second : Bool) → ℕ
rank_method_result false = 9
rank_method_result true = 3

abbrev pub rank_algorithm : AlgorithmFrame → ℕ
rank_algorithm (algorithm.Method object h is_second) = rank_method is_second
rank_algorithm (algorithm.MethodResult object h is_second) = rank_method_result is_second
rank_algorithm (algorithm.LeftNumber o right) = 22
rank_algorithm (algorithm.RightNumber o left) = 5
rank_algorithm (algorithm.LeftSummand right) = 22
rank_algorithm (algorithm.RightSummand left) = 5
rank_algorithm (algorithm.LeftCompared o right) = 22
rank_algorithm (algorithm.RightCompared o left) = 5
rank_algorithm (algorithm.EqualTo other is_negative) = 5
rank_algorithm (algorithm.InstanceOf v) = 5
rank_algorithm (algorithm.In object) = 5
rank_algorithm (algorithm.NumberOperand o) = 5
rank_algorithm (algorithm.LengthCount array length attributes purpose) = 22
rank_algorithm (algorithm.LengthNumber array count attributes purpose) = 5
rank_algorithm algorithm.TypeOf = 5
rank_algorithm (algorithm.Then v) = 3
rank_algorithm (algorithm.Builtin p) = rank_progress p

abbrev pub rank_emit : EmitFrame → ℕ
rank_emit (told.Put base x v strict given) = 44
rank_emit (told.PutMember id base x v strict given) = 50
rank_emit (told.Invoke id call) = 12

abbrev pub rank_key : MemberUse → ℕ
rank_key (key_for.Get noted base) = 16
rank_key (key_for.Call base args here) = 160
rank_key (key_for.Assign base o e here) = 160
rank_key (key_for.Delete noted base strict) = 8
rank_key (key_for.Update noted base up prefix strict) = 120
rank_key (key_for.Put id base args here) = 160
rank_key (key_for.Compute id o base args here) = 160
rank_key (key_for.Method id base args here) = 160

abbrev pub rank_value : ValueFrame → ℕ
rank_value (waiting.Element array index rest here) = 10
rank_value (waiting.EntryValue object key rest here) = 60 * length (items_left rest) + 110
rank_value (waiting.Entries object rest here) = 60 * length (items_left rest) + 60
rank_value (waiting.DotBase key) = 40
rank_value (waiting.IndexBase k here) = 44
rank_value (waiting.IndexKey base) = 40
rank_value (waiting.Key purpose) = rank_key purpose
rank_value (waiting.Callee this by_new args here) = 136
rank_value (waiting.CalleeDotBase key args here) = 200
rank_value (waiting.CalleeIndexBase k args here) = 204
rank_value (waiting.CalleeIndexKey base args here) = 200
rank_value (waiting.Argument arguments) = 132
rank_value (waiting.Operand o) = 50
rank_value waiting.DeleteValue = 3
rank_value (waiting.DeleteDotBase key strict) = 30
rank_value (waiting.DeleteIndexBase k here) = 34
rank_value (waiting.DeleteIndexKey base strict) = 30
rank_value (waiting.LeftOperand o b here) = 54
rank_value (waiting.RightOperand o x) = 50
rank_value (waiting.And b here) = 3
rank_value (waiting.Or b here) = 3
rank_value (waiting.Conditional a b here) = 3
rank_value (waiting.Comma b here) = 3
rank_value (waiting.WriteName id x reference strict) = 46
rank_value (waiting.ComputeName x reference o e here) = 104
rank_value (waiting.ComputeNameOperand x reference o held strict) = 100
rank_value (waiting.UpdateName x reference up prefix strict) = 70
rank_value (waiting.UpdateNamePrimitive x reference up prefix strict held) = 50
rank_value (waiting.AssignDotBase key o e here) = 190
rank_value (waiting.AssignIndexBase k o e here) = 194
rank_value (waiting.AssignIndexKey base o e here) = 190
rank_value (waiting.PutMember emitting id base x strict) = 60
rank_value (waiting.ComputeMember base x o e here) = 124
rank_value (waiting.ComputePending id o base x args here) = 136
rank_value (waiting.MethodPending id base args here) = 136
rank_value (waiting.ComputeMemberOperand base x o held strict) = 120
rank_value (waiting.UpdateDotBase key up prefix strict) = 150
rank_value (waiting.UpdateIndexBase k up prefix here) = 154
rank_value (waiting.UpdateIndexKey base up prefix strict) = 150
rank_value (waiting.UpdateMember noted base x up prefix strict) = 90
rank_value (waiting.UpdateMemberPrimitive noted base x up prefix strict held) = 64
rank_value (waiting.UpdateOperandPrimitive id up held) = 10
rank_value (waiting.EmitGet id base x found) = 6
rank_value (waiting.EmitBinary id o left right) = 6
rank_value (waiting.EmitUnary id o operand) = 6
rank_value (waiting.EmitInvoke id callee) = 6
rank_value (waiting.InstancePrototype number env call) = 60
rank_value (waiting.Constructed object) = 3

-- a loop when its test has been evaluated, and when the body of a turn has ended
abbrev pub rank_test : Loop → ℕ
rank_test (loop.Do l e) = 4
rank_test k = 60

abbrev pub rank_loop_body : Loop → ℕ
rank_loop_body (loop.Do l e) = 20
rank_loop_body k = 20

abbrev pub rank_statement : StatementFrame → ℕ
rank_statement statement.Expression = 3
rank_statement (statement.Variables rest here) = 60 * length (items_left rest) + 10
rank_statement (statement.ForHead rest t) = 60 * length (items_left rest) + 10
rank_statement (statement.ForExpression t) = 10
rank_statement (statement.If a b here) = 20
rank_statement (statement.ForInObject x l here labels) = 10
rank_statement (statement.ForInBody t) = 60
rank_statement (statement.Test t) = rank_test t.kind
rank_statement (statement.Update t) = 4
rank_statement statement.Return = 3
rank_statement statement.Throw = 3
rank_statement (statement.Switch l here) = 20 * length l.now + 60
rank_statement (statement.CaseTest v index l here) = 20 * length l.now + 50

abbrev pub rank_completion : CompletionFrame → ℕ
rank_completion (completing.Statements rest here) = 10
rank_completion (completing.Clauses rest here) = 14 * length (items_left rest) + 10
rank_completion completing.Switch = 3
rank_completion (completing.Labelled x) = 3
rank_completion (completing.LoopBody t) = rank_loop_body t.kind
rank_completion (completing.TryBlock h f here) = 50
rank_completion (completing.CatchBlock f here) = 24
rank_completion (completing.FinallyBlock before) = 3

abbrev pub rank : Frame → ℕ
rank (frame.Value f) = rank_value f
rank (frame.Algorithm f) = rank_algorithm f
rank (frame.Statement f) = rank_statement f
rank (frame.Completion f) = rank_completion f
rank (frame.Told f) = rank_emit f
rank (frame.Give v) = 3
rank frame.Body = 3

abbrev pub ranks : List Frame → ℕ
ranks [] = 0
ranks (f ∷ frames) = rank f + ranks frames

abbrev pub rank_act : Act → ℕ
rank_act (act.Give v) = 2
rank_act (act.Complete how) = 2
rank_act (act.Fault fault) = 0
rank_act act.Spent = 0
rank_act a = 1

-- no more steps are left in t, and if as many are, the act and the frames may do less than n and the frames of s
pub record RankedBelow (s : State) (n : ℕ) (t : State) (a : Act) : Type 0 where
  pub left : t.left ≤ s.left
  pub lower : t.left ≡ s.left → rank_act a + ranks t.stack < n + ranks s.stack

use Rattle.std.proofs.Common.{arith}
use Rattle.jl_lib_array.proofs.CallCases.{falls_resumed, resumes}
use Rattle.jl_lib_array.proofs.resuming_calls.resume_call.Goals as goal

pub returns-in-Length-clause-refines : goal.returns-in-Length-clause-refines
returns-in-Length-clause-refines c =
    resumes _ _ _ c.args.progress _ c.in-Length.is c.args.v c.step_length.ensures.refines

pub returns-in-Length-clause-bounded : goal.returns-in-Length-clause-bounded
returns-in-Length-clause-bounded c =
    falls_resumed _ _ _ c.args.progress _ c.in-Length.is _ (omega arith) c.step_length.ensures.bounded

pub returns-in-LengthPrimitive-clause-refines : goal.returns-in-LengthPrimitive-clause-refines
returns-in-LengthPrimitive-clause-refines c =
    resumes _ _ _ c.args.progress _ c.in-LengthPrimitive.is c.args.v c.step_length_primitive.ensures.refines

pub returns-in-LengthPrimitive-clause-bounded : goal.returns-in-LengthPrimitive-clause-bounded
returns-in-LengthPrimitive-clause-bounded c =
    falls_resumed _ _ _ c.args.progress _ c.in-LengthPrimitive.is _
    (omega arith) c.step_length_primitive.ensures.bounded

pub returns-in-SliceStart-clause-refines : goal.returns-in-SliceStart-clause-refines
returns-in-SliceStart-clause-refines c =
    resumes _ _ _ c.args.progress _ c.in-SliceStart.is c.args.v c.step_slice_start.ensures.refines

pub returns-in-SliceStart-clause-bounded : goal.returns-in-SliceStart-clause-bounded
returns-in-SliceStart-clause-bounded c =
    falls_resumed _ _ _ c.args.progress _ c.in-SliceStart.is _ (omega arith) c.step_slice_start.ensures.bounded

pub returns-in-SliceEnd-clause-refines : goal.returns-in-SliceEnd-clause-refines
returns-in-SliceEnd-clause-refines c =
    resumes _ _ _ c.args.progress _ c.in-SliceEnd.is c.args.v c.step_slice_end.ensures.refines

pub returns-in-SliceEnd-clause-bounded : goal.returns-in-SliceEnd-clause-bounded
returns-in-SliceEnd-clause-bounded c =
    falls_resumed _ _ _ c.args.progress _ c.in-SliceEnd.is _ (omega arith) c.step_slice_end.ensures.bounded

pub returns-in-CopyTurn-clause-refines : goal.returns-in-CopyTurn-clause-refines
returns-in-CopyTurn-clause-refines c =
    resumes _ _ _ c.args.progress _ c.in-CopyTurn.is c.args.v c.copy_turn.ensures.refines

pub returns-in-CopyTurn-clause-bounded : goal.returns-in-CopyTurn-clause-bounded
returns-in-CopyTurn-clause-bounded c =
    falls_resumed _ _ _ c.args.progress _ c.in-CopyTurn.is _ (omega arith) c.copy_turn.ensures.bounded

pub returns-in-CopyElement-clause-refines : goal.returns-in-CopyElement-clause-refines
returns-in-CopyElement-clause-refines c =
    resumes _ _ _ c.args.progress _ c.in-CopyElement.is c.args.v c.step_copy_element.ensures.refines

pub returns-in-CopyElement-clause-bounded : goal.returns-in-CopyElement-clause-bounded
returns-in-CopyElement-clause-bounded c =
    falls_resumed _ _ _ c.args.progress _ c.in-CopyElement.is _ (omega arith) c.step_copy_element.ensures.bounded

pub returns-in-SearchFrom-clause-refines : goal.returns-in-SearchFrom-clause-refines
returns-in-SearchFrom-clause-refines c =
    resumes _ _ _ c.args.progress _ c.in-SearchFrom.is c.args.v c.step_search_from.ensures.refines

pub returns-in-SearchFrom-clause-bounded : goal.returns-in-SearchFrom-clause-bounded
returns-in-SearchFrom-clause-bounded c =
    falls_resumed _ _ _ c.args.progress _ c.in-SearchFrom.is _ (omega arith) c.step_search_from.ensures.bounded

pub returns-in-SearchTurn-clause-refines : goal.returns-in-SearchTurn-clause-refines
returns-in-SearchTurn-clause-refines c =
    resumes _ _ _ c.args.progress _ c.in-SearchTurn.is c.args.v c.search_turn.ensures.refines

pub returns-in-SearchTurn-clause-bounded : goal.returns-in-SearchTurn-clause-bounded
returns-in-SearchTurn-clause-bounded c =
    falls_resumed _ _ _ c.args.progress _ c.in-SearchTurn.is _ (omega arith) c.search_turn.ensures.bounded

pub returns-in-SearchElement-clause-refines : goal.returns-in-SearchElement-clause-refines
returns-in-SearchElement-clause-refines c =
    resumes _ _ _ c.args.progress _ c.in-SearchElement.is c.args.v c.step_search_element.ensures.refines

pub returns-in-SearchElement-clause-bounded : goal.returns-in-SearchElement-clause-bounded
returns-in-SearchElement-clause-bounded c =
    falls_resumed _ _ _ c.args.progress _ c.in-SearchElement.is _ (omega arith) c.step_search_element.ensures.bounded

pub returns-in-Turn-clause-refines : goal.returns-in-Turn-clause-refines
returns-in-Turn-clause-refines c =
    resumes _ _ _ c.args.progress _ c.in-Turn.is c.args.v c.turn.ensures.refines

pub returns-in-Turn-clause-bounded : goal.returns-in-Turn-clause-bounded
returns-in-Turn-clause-bounded c =
    falls_resumed _ _ _ c.args.progress _ c.in-Turn.is _ (omega arith) c.turn.ensures.bounded

pub returns-in-Element-clause-refines : goal.returns-in-Element-clause-refines
returns-in-Element-clause-refines c =
    resumes _ _ _ c.args.progress _ c.in-Element.is c.args.v c.step_element.ensures.refines

pub returns-in-Element-clause-bounded : goal.returns-in-Element-clause-bounded
returns-in-Element-clause-bounded c =
    falls_resumed _ _ _ c.args.progress _ c.in-Element.is _ (omega arith) c.step_element.ensures.bounded

pub returns-clause-refines : goal.returns-clause-refines
returns-clause-refines c =
    resumes _ _ _ c.args.progress _ c.in-Answer.is c.args.v c.step_answer.ensures.refines

pub returns-clause-bounded : goal.returns-clause-bounded
returns-clause-bounded c =
    falls_resumed _ _ _ c.args.progress _ c.in-Answer.is _ (omega arith) c.step_answer.ensures.bounded

use Rattle.std.proofs.Common.{arith}
use Rattle.jl_lib_array.proofs.Cases.{falls_at, resumes, resumes_count}
use Rattle.jl_lib_array.proofs.resuming.resume.Goals as goal

pub returns-in-Join : goal.returns-in-Join
returns-in-Join c = record {
  refines = resumes _ _ _ c.args.progress _ c.args.v c.in-Join.is c.step_join_property.ensures.refines;
  bounded = falls_at _ _ _ c.args.progress _ 8 c.in-Join.is (omega arith) c.step_join_property.ensures.bounded;
}

pub returns-in-Length : goal.returns-in-Length
returns-in-Length c = record {
  refines = resumes _ _ _ c.args.progress _ c.args.v c.in-Length.is c.step_length.ensures.refines;
  bounded = falls_at _ _ _ c.args.progress _ 162 c.in-Length.is (omega arith) c.step_length.ensures.bounded;
}

pub returns-in-LengthPrimitive : goal.returns-in-LengthPrimitive
returns-in-LengthPrimitive c = record {
  refines = resumes _ _ _ c.args.progress _ c.args.v c.in-LengthPrimitive.is c.step_length_primitive.ensures.refines;
  bounded = falls_at _ _ _ c.args.progress _ 144 c.in-LengthPrimitive.is (omega arith)
      c.step_length_primitive.ensures.bounded;
}

pub returns-in-ConcatItem : goal.returns-in-ConcatItem
returns-in-ConcatItem c = record {
  refines = resumes _ _ _ c.args.progress _ c.args.v c.in-ConcatItem.is c.append_items.ensures.refines;
  bounded = falls_at _ _ _ c.args.progress _ 8 c.in-ConcatItem.is (omega arith) c.append_items.ensures.bounded;
}

pub returns-in-ConcatLength : goal.returns-in-ConcatLength
returns-in-ConcatLength c = record {
  refines = resumes _ _ _ c.args.progress _ c.args.v c.in-ConcatLength.is c.step_concat_length.ensures.refines;
  bounded = falls_at _ _ _ c.args.progress _ 92 c.in-ConcatLength.is (omega arith) c.step_concat_length.ensures.bounded;
}

pub returns-in-CopyTurn : goal.returns-in-CopyTurn
returns-in-CopyTurn c = record {
  refines = resumes _ _ _ c.args.progress _ c.args.v c.in-CopyTurn.is c.copy_turn.ensures.refines;
  bounded = falls_at _ _ _ c.args.progress _ 82 c.in-CopyTurn.is (omega arith) c.copy_turn.ensures.bounded;
}

pub returns-in-CopyElement : goal.returns-in-CopyElement
returns-in-CopyElement c = record {
  refines = resumes _ _ _ c.args.progress _ c.args.v c.in-CopyElement.is c.step_copy_element.ensures.refines;
  bounded = falls_at _ _ _ c.args.progress _ 92 c.in-CopyElement.is (omega arith) c.step_copy_element.ensures.bounded;
}

pub returns-in-JoinSeparator : goal.returns-in-JoinSeparator
returns-in-JoinSeparator c = record {
  refines = resumes _ _ _ c.args.progress _ c.args.v c.in-JoinSeparator.is c.step_join_separator.ensures.refines;
  bounded = falls_at _ _ _ c.args.progress _ 42 c.in-JoinSeparator.is
      (omega arith) c.step_join_separator.ensures.bounded;
}

pub returns-in-JoinFirst : goal.returns-in-JoinFirst
returns-in-JoinFirst c = record {
  refines = resumes _ _ _ c.args.progress _ c.args.v c.in-JoinFirst.is c.step_join_first.ensures.refines;
  bounded = falls_at _ _ _ c.args.progress _ 32 c.in-JoinFirst.is (omega arith) c.step_join_first.ensures.bounded;
}

pub returns-in-JoinFirstPrimitive : goal.returns-in-JoinFirstPrimitive
returns-in-JoinFirstPrimitive c = record {
  refines = resumes _ _ _ c.args.progress _ c.args.v c.in-JoinFirstPrimitive.is
      c.step_join_first_primitive.ensures.refines;
  bounded = falls_at _ _ _ c.args.progress _ 12 c.in-JoinFirstPrimitive.is (omega arith)
      c.step_join_first_primitive.ensures.bounded;
}

pub returns-in-JoinTurn : goal.returns-in-JoinTurn
returns-in-JoinTurn c = record {
  refines = resumes _ _ _ c.args.progress _ c.args.v c.in-JoinTurn.is c.join_turn_begins.ensures.refines;
  bounded = falls_at _ _ _ c.args.progress _ 8 c.in-JoinTurn.is (omega arith) c.join_turn_begins.ensures.bounded;
}

pub returns-in-JoinElement : goal.returns-in-JoinElement
returns-in-JoinElement c = record {
  refines = resumes _ _ _ c.args.progress _ c.args.v c.in-JoinElement.is c.step_join_element.ensures.refines;
  bounded = falls_at _ _ _ c.args.progress _ 32 c.in-JoinElement.is (omega arith) c.step_join_element.ensures.bounded;
}

pub returns-in-JoinElementPrimitive : goal.returns-in-JoinElementPrimitive
returns-in-JoinElementPrimitive c = record {
  refines = resumes _ _ _ c.args.progress _ c.args.v c.in-JoinElementPrimitive.is
      c.step_join_element_primitive.ensures.refines;
  bounded = falls_at _ _ _ c.args.progress _ 12 c.in-JoinElementPrimitive.is (omega arith)
      c.step_join_element_primitive.ensures.bounded;
}

pub returns-in-PopElement : goal.returns-in-PopElement
returns-in-PopElement c = record {
  refines = resumes _ _ _ c.args.progress _ c.args.v c.in-PopElement.is c.without_last.ensures.refines;
  bounded = falls_at _ _ _ c.args.progress _ 42 c.in-PopElement.is (omega arith) c.without_last.ensures.bounded;
}

pub returns-in-PutTurn : goal.returns-in-PutTurn
returns-in-PutTurn c = record {
  refines = resumes _ _ _ c.args.progress _ c.args.v c.in-PutTurn.is c.put_turn.ensures.refines;
  bounded = falls_at _ _ _ c.args.progress _ 52 c.in-PutTurn.is (omega arith) c.put_turn.ensures.bounded;
}

pub returns-in-ReverseTurn : goal.returns-in-ReverseTurn
returns-in-ReverseTurn c = record {
  refines = resumes _ _ _ c.args.progress _ c.args.v c.in-ReverseTurn.is c.reverse_turn.ensures.refines;
  bounded = falls_at _ _ _ c.args.progress _ 8 c.in-ReverseTurn.is (omega arith) c.reverse_turn.ensures.bounded;
}

pub returns-in-ReverseLower : goal.returns-in-ReverseLower
returns-in-ReverseLower c = record {
  refines = resumes _ _ _ c.args.progress _ c.args.v c.in-ReverseLower.is c.step_reverse_lower.ensures.refines;
  bounded = falls_at _ _ _ c.args.progress _ 112 c.in-ReverseLower.is
      (omega arith) c.step_reverse_lower.ensures.bounded;
}

pub returns-in-ReverseUpper : goal.returns-in-ReverseUpper
returns-in-ReverseUpper c = record {
  refines = resumes _ _ _ c.args.progress _ c.args.v c.in-ReverseUpper.is c.step_reverse_upper.ensures.refines;
  bounded = falls_at _ _ _ c.args.progress _ 102 c.in-ReverseUpper.is
      (omega arith) c.step_reverse_upper.ensures.bounded;
}

pub returns-in-ReverseExchange : goal.returns-in-ReverseExchange
returns-in-ReverseExchange c = record {
  refines = resumes _ _ _ c.args.progress _ c.args.v c.in-ReverseExchange.is c.step_reverse_exchange.ensures.refines;
  bounded = falls_at _ _ _ c.args.progress _ 52 c.in-ReverseExchange.is (omega arith)
      c.step_reverse_exchange.ensures.bounded;
}

pub returns-in-ShiftFirst : goal.returns-in-ShiftFirst
returns-in-ShiftFirst c = record {
  refines = resumes _ _ _ c.args.progress _ c.args.v c.in-ShiftFirst.is c.step_shift_first.ensures.refines;
  bounded = falls_at _ _ _ c.args.progress _ 82 c.in-ShiftFirst.is (omega arith) c.step_shift_first.ensures.bounded;
}

pub returns-in-MoveUp : goal.returns-in-MoveUp
returns-in-MoveUp c = record {
  refines = resumes _ _ _ c.args.progress _ c.args.v c.in-MoveUp.is c.move_up_turn.ensures.refines;
  bounded = falls_at _ _ _ c.args.progress _ 72 c.in-MoveUp.is (omega arith) c.move_up_turn.ensures.bounded;
}

pub returns-in-MoveUpElement : goal.returns-in-MoveUpElement
returns-in-MoveUpElement c = record {
  refines = resumes _ _ _ c.args.progress _ c.args.v c.in-MoveUpElement.is c.step_move_up_element.ensures.refines;
  bounded = falls_at _ _ _ c.args.progress _ 122 c.in-MoveUpElement.is
      (omega arith) c.step_move_up_element.ensures.bounded;
}

pub returns-in-MoveDown : goal.returns-in-MoveDown
returns-in-MoveDown c = record {
  refines = resumes _ _ _ c.args.progress _ c.args.v c.in-MoveDown.is c.move_down_turn.ensures.refines;
  bounded = falls_at _ _ _ c.args.progress _ 72 c.in-MoveDown.is (omega arith) c.move_down_turn.ensures.bounded;
}

pub returns-in-MoveDownElement : goal.returns-in-MoveDownElement
returns-in-MoveDownElement c = record {
  refines = resumes _ _ _ c.args.progress _ c.args.v c.in-MoveDownElement.is c.step_move_down_element.ensures.refines;
  bounded = falls_at _ _ _ c.args.progress _ 122 c.in-MoveDownElement.is (omega arith)
      c.step_move_down_element.ensures.bounded;
}

pub returns-in-SortTurn : goal.returns-in-SortTurn
returns-in-SortTurn c = record {
  refines = resumes _ _ _ c.args.progress _ c.args.v c.in-SortTurn.is c.sort_turn.ensures.refines;
  bounded = falls_at _ _ _ c.args.progress _ 62 c.in-SortTurn.is (omega arith) c.sort_turn.ensures.bounded;
}

pub returns-in-SortElement : goal.returns-in-SortElement
returns-in-SortElement c = record {
  refines = resumes _ _ _ c.args.progress _ c.args.v c.in-SortElement.is c.step_sort_element.ensures.refines;
  bounded = falls_at _ _ _ c.args.progress _ 102 c.in-SortElement.is (omega arith) c.step_sort_element.ensures.bounded;
}

pub returns-in-SortPrimitive : goal.returns-in-SortPrimitive
returns-in-SortPrimitive c = record {
  refines = resumes _ _ _ c.args.progress _ c.args.v c.in-SortPrimitive.is c.step_sort_primitive.ensures.refines;
  bounded = falls_at _ _ _ c.args.progress _ 82 c.in-SortPrimitive.is
      (omega arith) c.step_sort_primitive.ensures.bounded;
}

pub returns-in-DeleteUp : goal.returns-in-DeleteUp
returns-in-DeleteUp c = record {
  refines = resumes _ _ _ c.args.progress _ c.args.v c.in-DeleteUp.is c.delete_up_turn.ensures.refines;
  bounded = falls_at _ _ _ c.args.progress _ 8 c.in-DeleteUp.is (omega arith) c.delete_up_turn.ensures.bounded;
}

pub returns-in-SpliceStart : goal.returns-in-SpliceStart
returns-in-SpliceStart c = record {
  refines = resumes _ _ _ c.args.progress _ c.args.v c.in-SpliceStart.is c.step_splice_start.ensures.refines;
  bounded = falls_at _ _ _ c.args.progress _ 122 c.in-SpliceStart.is (omega arith) c.step_splice_start.ensures.bounded;
}

pub returns-in-SpliceCount : goal.returns-in-SpliceCount
returns-in-SpliceCount c = record {
  refines = resumes_count _ _ _ c.args.progress _ _ _ _ _ _ c.args.v c.in-SpliceCount.is c.items.ensures
      c.step_splice_count.ensures.refines;
  bounded = falls_at _ _ _ c.args.progress _ 92 c.in-SpliceCount.is (omega arith) c.step_splice_count.ensures.bounded;
}

pub returns : goal.returns
returns c = record {
  refines = resumes _ _ _ c.args.progress _ c.args.v c.in-DeleteDown.is c.delete_down_turn.ensures.refines;
  bounded = falls_at _ _ _ c.args.progress _ 62 c.in-DeleteDown.is (omega arith) c.delete_down_turn.ensures.bounded;
}

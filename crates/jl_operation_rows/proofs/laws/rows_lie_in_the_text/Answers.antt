use Rattle.std.proofs.Common.{length}
use Rattle.jl_operation_rows.proofs.RowsInText.{rows_begin, rows_lie}
use Rattle.jl_operation_rows.proofs.laws.rows_lie_in_the_text.Goals as goal

pub returns-clause-lies : goal.returns-clause-lies
returns-clause-lies c = λ text ts limit p lexed read.
    rows_lie (length text) ts limit p (c.spans_are_in_order.ensures text ts lexed) read

pub returns-clause-begins : goal.returns-clause-begins
returns-clause-begins c = λ text ts limit p lexed read.
    rows_begin text ts limit p (c.spans_are_in_order.ensures text ts lexed) read

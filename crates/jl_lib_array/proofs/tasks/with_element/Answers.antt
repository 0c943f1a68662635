use Rattle.jl_lib_array.proofs.Answering.{three_more}
use Rattle.jl_lib_array.proofs.tasks.with_element.Goals as goal

pub returns : goal.returns
returns c =
    three_more _ _ _ _ _ _ _ _ c.in_ok-push.ensures.ok c.in_ok-push-2.ensures.ok c.in_ok-push-3.ensures.ok
    c.in_ok-count.ensures

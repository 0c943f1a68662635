use Rattle.jl_srcmap.proofs.quantity.+read_quantity.Given as goal

abbrev pub decreases-read_quantity : goal.decreases-read_quantity
decreases-read_quantity l = l.most

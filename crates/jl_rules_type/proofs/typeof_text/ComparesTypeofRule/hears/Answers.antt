use Rattle.jl_rules_type.proofs.LastTwo.{hits_so, remembers_one_more}
use Rattle.jl_rules_type.proofs.typeof_text.ComparesTypeofRule.hears.Goals as goal

pub returns : goal.returns
returns c = record {
  heard = λ told memory. (
    hits_so told _ _ _ _ memory c.compares-hits.ensures,
    remembers_one_more told _ _ _ _ memory c.side_of-self.ensures,
  );
}

-- What a checker knows of the operations that it was told of.
use Rattle.std.specs.Prelude.{ℕ, List, [], ◌∷◌, ◌++◌, ◌==◌, if◌then◌else◌, fold, map}
use Rattle.jl_op.specs.declared.op.Op.{Op}
use Rattle.jl_op.specs.declared.op.OpId.{OpId}
use Rattle.jl_op.specs.Operations.{Operation}
use Rattle.jl_analysis.specs.Memories.{Memory, one_more}
use Rattle.jl_analysis.specs.Rules.{hit, memory_of}

-- ids with a number of hits each
abbrev pub Counts : Type 0
Counts = List (OpId × ℕ)

-- the counts after one more hit at the id: a new id comes last
abbrev pub add_hit : Counts → OpId → Counts
add_hit [] id = (id, 1) ∷ []
add_hit (x ∷ xs) id = if id.0 == x.0.0 then (x.0, one_more x.1) ∷ xs else x ∷ add_hit xs id

-- what was done, without the ids
abbrev pub plain_operations : List Operation → List Op
plain_operations operations = map (λ x. x.1) operations

-- the ids at which the rule hits among the operations, which come after the ones before
abbrev pub hits_after : (rule : ℕ) → (before : List Op) → List Operation → List OpId
hits_after rule before [] = []
hits_after rule before (x ∷ operations) =
    (if hit rule before x.1 then x.0 ∷ [] else []) ++ hits_after rule (before ++ x.1 ∷ []) operations

-- the ids at which the rule hits, in order, one for each hit
abbrev pub hits : (rule : ℕ) → List Operation → List OpId
hits rule operations = hits_after rule [] operations

-- what a checker keeps: the number of hits at each id at which its rule hit, by first hit, and what the rule remembers
pub record Kept : Type 0 where
  pub counts : Counts
  pub memory : Memory

-- what the checker of the rule keeps of the operations
abbrev pub summary : (rule : ℕ) → List Operation → Kept
summary rule operations = record {
  counts = fold add_hit [] (hits rule operations);
  memory = memory_of rule (plain_operations operations);
}

-- The woven program breaks no rule, wherever its nodes stand.
use Rattle.std.proofs.Common.{◌≡◌, Bool, true, false, List, [], ◌∷◌, Option, Some, None, ap, subst, sym}
use Rattle.std.specs.Prelude.{if◌then◌else◌, nat_lt}
use Rattle.jl_ast.specs.Spans.{map_tree}
use Rattle.jl_ast.specs.Tree as tree
use Rattle.jl_ast.specs.Tree.{Program, Tree}
use Rattle.jl_op.specs.Chosen.{Kinds}
use Rattle.jl_op.specs.Ids.{with_ids}
use Rattle.jl_scope.specs.EarlyErrors.{early_errors, early_errors_of}
use Rattle.jl_scope.specs.Kinds.{early, first_from, left_out, reserved_name, sooner, EarlyError}
use Rattle.jl_scope.specs.Scope.{in_program}
use Rattle.jl_simulation.specs.HookCalls.{Woven}
use Rattle.jl_simulation.specs.Weaving.{woven_code, woven_program}
use Rattle.jl_text.specs.declared.span.Span.{Span}
use Rattle.jl_read_back.specs.EarlyErrors.{one_more, AreReservedNames, FirstIsReservedName, IsReservedName}
use Rattle.jl_read_back.specs.EarlyErrors.{WovenKeepsRules}
use Rattle.jl_read_back.specs.Woven.{IsWoven}
use Rattle.jl_read_back.proofs.EarlyForms.{spanned}
use Rattle.jl_read_back.proofs.EarlyPlaces.{moved_back, program_scope}
use Rattle.jl_read_back.proofs.EarlyWoven.{program_clear}
use Rattle.jl_read_back.proofs.Rules.{nothing_wrong}

-- without its places it is the woven one
body_is : (chosen : Kinds) (p q : Program Span) → IsWoven chosen p q
    → map_tree (λ s. tt) q.body ≡ woven_code chosen 1 (with_ids 3 p.body)
unfolding woven_program
body_is chosen p q e = ap (λ u. u.body) e

gathered_clear : (at : Span) (b : Tree Span tree.code) → AreReservedNames (early_errors
    (in_program (spanned at (map_tree (λ s. tt) b))) (spanned at (map_tree (λ s. tt) b)))
    → AreReservedNames (early_errors (in_program b) b)
gathered_clear at b w =
    moved_back at (in_program b) b
    (subst (λ r. AreReservedNames (early_errors r (spanned at (map_tree (λ s. tt) b)))) (program_scope at b) w)

pub keeps_rules : WovenKeepsRules
keeps_rules chosen p q none e =
    gathered_clear q.at q.body
    (subst (λ (c : Woven tree.code). AreReservedNames (early_errors (in_program (spanned q.at c)) (spanned q.at c)))
    (sym (body_is chosen p q e)) (program_clear q.at chosen p.body (nothing_wrong (early_errors_of p) none)))

-- the sooner of two such names, and the first of several
sooner_reserved : (a : Option EarlyError) (at : Span) → IsReservedName a
    → IsReservedName (sooner a (reserved_name at))
sooner_reserved None at w = tt
sooner_reserved (Some (early r s)) at w = absurd w
sooner_reserved (Some (left_out x s)) at w = absurd w
sooner_reserved (Some (reserved_name s)) at w = by (nat_lt at.from s.from)
  where
    by : (b : Bool) → IsReservedName (if b then Some (reserved_name at) else Some (reserved_name s))
    by true = tt
    by false = tt

first_reserved : (a : Option EarlyError) (l : List EarlyError) → IsReservedName a → AreReservedNames l
    → IsReservedName (first_from a l)
first_reserved a [] v w = v
first_reserved a (early r at ∷ l) v w = elim w [ ]
first_reserved a (left_out x at ∷ l) v w = elim w [ ]
first_reserved a (reserved_name at ∷ l) v (one_more w) =
    first_reserved (sooner a (reserved_name at)) l (sooner_reserved a at v) w

pub first_is_reserved : FirstIsReservedName
first_is_reserved chosen p q none e =
    first_reserved None (early_errors_of q) tt (keeps_rules chosen p q none e)

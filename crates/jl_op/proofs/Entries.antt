-- How many entries the map has, and which ids the operations of a program have.
use Rattle.std.proofs.Common.{◌≡◌, ◌∙◌, ℕ, ◌+◌, ◌∷◌, length, ap, sym, refl, arith}
use Rattle.std.specs.List.{range_with_len}
use Rattle.std.proofs.lemmas.List.{length-map}
use Rattle.std.proofs.lemmas.List.FromFn.{length-range_with_len}
use Rattle.jl_ast.specs.Tree.{Program, Sort, Tree}
use Rattle.jl_op.specs.declared.kind.OpKind.TheVariants as kind
use Rattle.jl_op.specs.Ids.{id_count, with_ids, program_with_ids}
use Rattle.jl_op.specs.IdMap.{entries, id_map, id_of, ids_in, kinds_in, operation_ids, place_of}
use Rattle.jl_op.proofs.IdOrder.{first, ids_from}
use Rattle.jl_op.proofs.SameKinds.{same_kinds}

-- the map has as many entries of a tree as the tree takes ids
pub entry_count : {S : Type 0} {x : Sort} (t : Tree S x) → length (entries place_of t) ≡ id_count t
entry_count t =
    let numbered = entries id_of (with_ids 3 t) in
    sym (length-map (entries place_of t) (λ e. e.0)) ∙ ap length (sym (same_kinds 3 t))
    ∙ length-map numbered (λ e. e.0) ∙ sym (length-map numbered (λ e. e.1))
    ∙ ap length (ids_from 3 t) ∙ length-range_with_len 3 (id_count t)

pub map_length : {S : Type 0} (p : Program S) → length (id_map p) ≡ 2 + id_count p.body
map_length p = let count = entry_count p.body in omega arith

pub program_ids : {S : Type 0} (p : Program S) →
    ids_in (operation_ids (program_with_ids p)) ≡ range_with_len 1 (length (id_map p))
program_ids p =
    let count = id_count p.body in
    first 1 1 2 (1 + count) (2 + count) _ refl refl (omega arith)
    (first 2 2 3 count (1 + count) _ refl refl (omega arith) (ids_from 3 p.body))
    ∙ ap (range_with_len 1) (sym (map_length p))

pub program_kinds : {S : Type 0} (p : Program S) →
    kinds_in (operation_ids (program_with_ids p)) ≡ kinds_in (id_map p)
program_kinds p = ap (λ l. kind.ScriptEnter ∷ (kind.ScriptExit ∷ l)) (same_kinds 3 p.body)

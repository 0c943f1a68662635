use Rattle.std.proofs.Common.{◌≡◌, ◌∙◌, List, None, Option, Some, ap, ℕ}
use Rattle.std.specs.Prelude.{MatchOption, slice_get}
use Rattle.jl_value.specs.BuiltinPlaces.{row_of}
use Rattle.jl_value.specs.Builtins.{builtins, name_of}
use Rattle.jl_value.specs.declared.builtin.Builtin.{Builtin}
use Rattle.jl_value.proofs.Rows.{stands}
use Rattle.jl_record.proofs.named.builtin_named.Goals as goal

in_all : (found : Option Builtin) (name : List ℕ) (table : List Builtin) → table ≡ builtins
    → MatchOption found ((at : ℕ) (b : Builtin) → slice_get table at ≡ Some b → name ≡ name_of b → ⊥)
    (λ b. name ≡ name_of b)
    → MatchOption found ((b : Builtin) → name ≡ name_of b → ⊥) (λ b. name ≡ name_of b)
in_all None name table all none = λ b is. none (row_of b) b (ap (λ bs. slice_get bs (row_of b)) all ∙ stands b) is
in_all (Some b) name table all is = is

pub returns : goal.returns
returns c = in_all c.among.result c.args.name.now c.all.result.now c.all.ensures c.among.ensures

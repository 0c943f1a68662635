-- Statements that end what is around them: return, throw, break, continue, and labels (12.7 to 12.9, 12.12, 12.13).
use Rattle.std.specs.Prelude.{if◌then◌else◌, option_map, Option, Some, ℕ}
use Rattle.std.specs.Str.{bytes_eq}
use Rattle.jl_ast.specs.Tree.{Ident, Text}
use Rattle.jl_value.specs.declared.ending.Completion.{Completion}
use Rattle.jl_value.specs.declared.ending.Completion.TheVariants as completion
use Rattle.jl_value.specs.declared.value.Value.{Value}
use Rattle.jl_op.specs.declared.op.Op.TheVariants as op
use Rattle.jl_effects.specs.Effects.{End}
use Rattle.jl_meaning.specs.Completions.{◌>>=◌}
use Rattle.jl_meaning.specs.Noting.{note_value, performs}
use Rattle.jl_meaning.specs.Parts.{Part}

-- the text of a label, if there is one
abbrev pub label_of : Option (Ident ℕ) → Option Text
label_of l = option_map (λ (x : Ident ℕ). x.text) l

-- return e (12.9)
unfoldable pub return_value : (id : ℕ) → Value → Part Completion
return_value id v = do
  _ ← note_value performs id op.Return v
  End (completion.Return v)

-- throw e (12.13)
unfoldable pub throw_value : (id : ℕ) → Value → Part Completion
throw_value id v = do
  _ ← note_value performs id op.Throw v
  End (completion.Throw v)

-- a labelled statement ends normally with a Break that has its label (12.12)
abbrev pub after_labelled : Text → Completion → Completion
after_labelled x (completion.Break (Some y)) =
    if bytes_eq x y then completion.Normal else completion.Break (Some y)
after_labelled x how = how

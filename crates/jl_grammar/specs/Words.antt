-- The reserved words (7.6.1): keywords, future reserved words, and the literals that are words.
use Rattle.std.specs.Prelude.{Bool, true, false, ◌&&◌, nat_eq, List, [], ◌∷◌, Option, Some, None, codes}
use Rattle.std.specs.Prelude.{if◌then◌else◌}
use Rattle.jl_ast.specs.Tree.{Text}
use Rattle.jl_grammar.specs.declared.word.Word.{Word}
use Rattle.jl_grammar.specs.declared.word.Word.TheVariants as words

abbrev pub reserved_words : List (Text × Word)
reserved_words =
    (codes "break", words.Break) ∷
    (codes "do", words.Do) ∷
    (codes "instanceof", words.InstanceOf) ∷
    (codes "typeof", words.Typeof) ∷
    (codes "case", words.Case) ∷
    (codes "else", words.Else) ∷
    (codes "new", words.New) ∷
    (codes "var", words.Var) ∷
    (codes "catch", words.Catch) ∷
    (codes "finally", words.Finally) ∷
    (codes "return", words.Return) ∷
    (codes "void", words.Void) ∷
    (codes "continue", words.Continue) ∷
    (codes "for", words.For) ∷
    (codes "switch", words.Switch) ∷
    (codes "while", words.While) ∷
    (codes "debugger", words.Debugger) ∷
    (codes "function", words.Function) ∷
    (codes "this", words.This) ∷
    (codes "with", words.With) ∷
    (codes "default", words.Default) ∷
    (codes "if", words.If) ∷
    (codes "throw", words.Throw) ∷
    (codes "delete", words.Delete) ∷
    (codes "in", words.In) ∷
    (codes "try", words.Try) ∷
    (codes "class", words.Class) ∷
    (codes "const", words.Const) ∷
    (codes "enum", words.Enum) ∷
    (codes "export", words.Export) ∷
    (codes "extends", words.Extends) ∷
    (codes "import", words.Import) ∷
    (codes "super", words.Super) ∷
    (codes "null", words.Null) ∷
    (codes "true", words.True) ∷
    (codes "false", words.False) ∷
    []

abbrev pub same_text : Text → Text → Bool
same_text [] [] = true
same_text (x ∷ xs) (y ∷ ys) = nat_eq x y && same_text xs ys
same_text _ _ = false

abbrev pub look_up : List (Text × Word) → Text → Option Word
look_up [] t = None
look_up (w ∷ ws) t = if same_text w.0 t then Some w.1 else look_up ws t

-- the reserved word that a text is, if it is one
abbrev pub word_of : Text → Option Word
word_of t = look_up reserved_words t

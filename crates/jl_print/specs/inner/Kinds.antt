-- The pieces that the printer collects, as the tokens that they are. A step of the proof: only private contracts
-- speak of pieces.
use Rattle.jl_print.specs.Layout.{between}
use Rattle.std.specs.Prelude.{ℕ, Bool, true, false, List, [], ◌∷◌, ◌++◌, codes, Option, Some, None}
use Rattle.jl_token.specs.declared.punct.Punct.TheVariants as puncts
use Rattle.jl_token.specs.declared.token.TokenKind.{TokenKind}
use Rattle.jl_token.specs.declared.token.TokenKind.TheVariants as kinds
use Rattle.jl_print.specs.declared.piece.Piece.{Piece}
use Rattle.jl_print.specs.declared.piece.Piece.TheVariants as pieces
use Rattle.jl_print.specs.Pieces.{name, key, string, punct, assign_punct, within_braces, in_parens_unless}
use Rattle.jl_print.specs.Precedence.{fits}
use Rattle.jl_print.specs.CanonicalTokens.{tokens_of_node, tokens_of_optional, colon, comma, semicolon, parameters}
use Rattle.jl_ast.specs.Tree as tree
use Rattle.jl_ast.specs.Tree.{Tree, OptionalTree}
use Rattle.jl_ast.specs.declared.ops.BinOp.{BinOp}
use Rattle.jl_token.specs.declared.punct.Punct.{Punct}

abbrev pub kind_of : Piece → TokenKind
kind_of (pieces.Word w) = name w.now
kind_of (pieces.Name t) = name t.now
kind_of (pieces.Key t) = key t.now
kind_of (pieces.Punct p) = punct p
kind_of (pieces.Number n) = kinds.Number n.now
kind_of (pieces.Str t) = string t.now
kind_of pieces.Strict = string (codes "use strict")

-- a comma, but before the first
abbrev pub comma_unless : (first : Bool) → List TokenKind
comma_unless true = []
comma_unless false = punct puncts.Comma ∷ []

-- what stands after a token before the others
abbrev pub after : TokenKind → List TokenKind → List ℕ
after k [] = 10 ∷ []
after k (l ∷ ks) = between k l

-- `=`, or a compound assignment operator (11.13)
abbrev pub assigning : Option BinOp → Punct
assigning None = puncts.Assign
assigning (Some op) = assign_punct op

-- `case` and its test, or `default` (12.11)
abbrev pub case_head : {S : Type 0} → OptionalTree S tree.expr → List TokenKind
case_head tree.absent = name (codes "default") ∷ colon ∷ []
case_head (tree.present a) = name (codes "case") ∷ (tokens_of_node a ++ colon ∷ [])

-- what stands after a function's name (clause 13)
abbrev pub after_name : {S : Type 0} → Tree S tree.func → List TokenKind
after_name (tree.function n x ps c s) = parameters ps ++ within_braces (tokens_of_node c)

-- an element of an array literal, with the comma after it (11.1.4)
abbrev pub item_with_comma : {S : Type 0} → Tree S tree.item → (last : Bool) → List TokenKind
item_with_comma tree.hole last = comma ∷ []
item_with_comma (tree.filled a) last = in_parens_unless (fits a 13) (tokens_of_node a) ++ comma_unless last

-- what a variable is declared with (12.2)
abbrev pub initializer : {S : Type 0} → OptionalTree S tree.expr → List TokenKind
initializer tree.absent = []
initializer (tree.present a) = punct puncts.Assign ∷ in_parens_unless (fits a 13) (tokens_of_node a)

-- a semicolon in the head of a `for`, and the expression after it (12.6.3)
abbrev pub for_part : {S : Type 0} → OptionalTree S tree.expr → List TokenKind
for_part e = semicolon ∷ tokens_of_optional e

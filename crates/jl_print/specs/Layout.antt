-- What stands between the tokens of the canonical text.
use Rattle.std.specs.Prelude.{ℕ, Bool, true, false, ◌&&◌, ◌||◌, List, [], ◌∷◌, ◌++◌, if◌then◌else◌}
use Rattle.jl_ast.specs.Tree.{Program}
use Rattle.jl_token.specs.declared.punct.Punct.TheVariants as puncts
use Rattle.jl_token.specs.declared.token.TokenKind.{TokenKind}
use Rattle.jl_token.specs.declared.token.TokenKind.TheVariants.{Punct, Number}
use Rattle.jl_token.specs.Spelling.{spelling_of}
use Rattle.jl_print.specs.CanonicalTokens.{tokens_of}

-- `;`, `{` and `}`
abbrev pub ends_line : TokenKind → Bool
ends_line (Punct puncts.Semicolon) = true
ends_line (Punct puncts.LeftBrace) = true
ends_line (Punct puncts.RightBrace) = true
ends_line _ = false

abbrev pub is_number : TokenKind → Bool
is_number (Number n) = true
is_number _ = false

abbrev pub is_dot : TokenKind → Bool
is_dot (Punct puncts.Dot) = true
is_dot _ = false

-- `(`, `[` and `.`
abbrev pub joins_right : TokenKind → Bool
joins_right (Punct puncts.LeftParen) = true
joins_right (Punct puncts.LeftBracket) = true
joins_right (Punct puncts.Dot) = true
joins_right _ = false

-- `)`, `]`, `,`, `;`, `.`, `(` and `[`
abbrev pub joins_left : TokenKind → Bool
joins_left (Punct puncts.RightParen) = true
joins_left (Punct puncts.RightBracket) = true
joins_left (Punct puncts.Comma) = true
joins_left (Punct puncts.Semicolon) = true
joins_left (Punct puncts.Dot) = true
joins_left (Punct puncts.LeftParen) = true
joins_left (Punct puncts.LeftBracket) = true
joins_left _ = false

-- LF after `;`, `{` and `}`; a space between a number and a dot, which would be read as its own; nothing inside
-- brackets and before a comma; and else a space
abbrev pub between : TokenKind → TokenKind → List ℕ
between left right =
    if ends_line left then 10 ∷ []
    else (if is_number left && is_dot right then 32 ∷ []
    else (if joins_right left || joins_left right then []
    else 32 ∷ []))

-- tokens one after the other; after the last one stands LF
abbrev pub layout_of : List TokenKind → List ℕ
layout_of [] = []
layout_of (k ∷ []) = spelling_of k ++ 10 ∷ []
layout_of (k ∷ l ∷ ks) = spelling_of k ++ (between k l ++ layout_of (l ∷ ks))

-- the canonical text of a program
abbrev pub text_of : {S : Type 0} → Program S → List ℕ
text_of p = layout_of (tokens_of p)

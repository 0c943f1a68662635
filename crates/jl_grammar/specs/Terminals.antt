-- What the grammar sees of a token (clause 7).
use Rattle.std.specs.Prelude.{Bool, true, false, Option, Some, None, codes, if◌then◌else◌}
use Rattle.jl_ast.specs.Tree.{Text}
use Rattle.jl_token.specs.declared.token.TokenKind.{TokenKind}
use Rattle.jl_token.specs.declared.token.TokenKind.TheVariants as kinds
use Rattle.jl_grammar.specs.declared.terminal.Terminal.{Terminal}
use Rattle.jl_grammar.specs.declared.terminal.Terminal.TheVariants as terminals
use Rattle.jl_grammar.specs.declared.word.Word.{Word}
use Rattle.jl_grammar.specs.Words.{same_text, word_of}

abbrev unreserved_terminal : Bool → Text → Terminal
unreserved_terminal true t = terminals.Identifier
unreserved_terminal false t = if same_text (codes "get") t then terminals.Get else if same_text
    (codes "set") t then terminals.Set else terminals.Identifier

abbrev reserved_terminal : Option Word → Bool → Text → Terminal
reserved_terminal (Some w) true t = terminals.EscapedWord
reserved_terminal (Some w) false t = terminals.Word w
reserved_terminal None escaped t = unreserved_terminal escaped t

-- of a name (7.6): a reserved word written with an escape is neither a keyword nor an identifier
abbrev pub name_terminal : Text → Bool → Terminal
name_terminal t escaped = reserved_terminal (word_of t) escaped t

abbrev pub terminal_of : TokenKind → Terminal
terminal_of (kinds.Name t escaped) = name_terminal t escaped
terminal_of (kinds.Punct p) = terminals.Punct p
terminal_of (kinds.Number n) = terminals.Number
terminal_of (kinds.Str t plain) = terminals.Str

-- How many brackets are open.
use Rattle.std.specs.Prelude.{ℕ, zero, suc, ◌-◌, List}
use Rattle.jl_token.specs.declared.punct.Punct.TheVariants as puncts
use Rattle.jl_token.specs.declared.token.Token.{Token}
use Rattle.jl_grammar.specs.declared.terminal.Terminal.{Terminal}
use Rattle.jl_grammar.specs.declared.terminal.Terminal.TheVariants as terminals
use Rattle.jl_grammar.specs.Tokens.{terminal_at}

-- the number of open brackets after a token, from the number before it
abbrev pub bracket : Terminal → ℕ → ℕ
bracket (terminals.Punct puncts.LeftParen) n = suc n
bracket (terminals.Punct puncts.LeftBracket) n = suc n
bracket (terminals.Punct puncts.LeftBrace) n = suc n
bracket (terminals.Punct puncts.RightParen) n = n - 1
bracket (terminals.Punct puncts.RightBracket) n = n - 1
bracket (terminals.Punct puncts.RightBrace) n = n - 1
bracket _ n = n

-- how many brackets are open after the first i tokens
unfoldable pub open_brackets : List Token → ℕ → ℕ
open_brackets ts zero = 0
open_brackets ts (suc i) = bracket (terminal_at ts i) (open_brackets ts i)

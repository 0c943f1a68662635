-- Steps of a proof on what was read, if anything was.
use Rattle.std.proofs.Common.{◌≡◌, Bool, true, false, not, ◌&&◌, refl}
use Rattle.std.specs.Prelude.{Option, Some, None, IfSome, option_and_then, if◌then◌else◌}
use Rattle.jl_token.specs.declared.punct.Punct.TheVariants as puncts
use Rattle.jl_grammar.specs.declared.terminal.Terminal.TheVariants as terminals
use Rattle.jl_grammar.specs.declared.word.Word.TheVariants as words
use Rattle.jl_grammar.specs.declared.terminal.Terminal.{Terminal}
use Rattle.jl_grammar.specs.Next.{is_open_paren, is_open_brace, is_semicolon, is_comma, is_colon, is_question}
use Rattle.jl_grammar.specs.Next.{is_equals, is_else, is_finally, is_string}
use Rattle.jl_grammar.specs.Reader.{is_close_paren, is_close_bracket, is_close_brace, is_function, is_new, is_while}
use Rattle.jl_grammar.specs.Reader.{is_in, is_var, is_case, is_default, is_catch}

-- what holds of what was read, if anything was
pub record Holds {A : Type 0} (o : Option A) (P : A → Type 0) : Type 0 where
  pub has : IfSome o P

pub nothing : {A : Type 0} {P : A → Type 0} → Holds None P
nothing = record { has = tt }

pub just : {A : Type 0} {x : A} {P : A → Type 0} → P x → Holds (Some x) P
just h = record { has = h }

-- a step after a step
pub after : {A B : Type 0} {P : A → Type 0} {Q : B → Type 0} (f : A → Option B) (o : Option A) → Holds o P
    → ((x : A) → P x → Holds (f x) Q) → Holds (option_and_then f o) Q
after f None h g = nothing
after f (Some x) h g = g x h.has

-- the same value, seen as more
pub weaken : {A : Type 0} {P Q : A → Type 0} (o : Option A) → Holds o P → ((x : A) → P x → Q x) → Holds o Q
weaken None h g = nothing
weaken (Some x) h g = just (g x h.has)

-- a test
pub test : {B : Type 0} {Q : B → Type 0} (b : Bool) (x y : Option B) → (b ≡ true → Holds x Q)
    → (b ≡ false → Holds y Q) → Holds (if b then x else y) Q
test true x y f g = f refl
test false x y f g = g refl

-- a test, or nothing
pub when_true : {B : Type 0} {Q : B → Type 0} (b : Bool) (x : Option B) → (b ≡ true → Holds x Q)
    → Holds (if b then x else None) Q
when_true b x f = test b x None f (λ h. nothing)

pub both_true : (a b : Bool) → (a && b) ≡ true → (a ≡ true) × (b ≡ true)
both_true true b h = (refl, h)
both_true false b h = cc

pub and_true : (a b : Bool) → a ≡ true → b ≡ true → (a && b) ≡ true
and_true true b h g = g
and_true false b h g = cc

pub not_true : (b : Bool) → not b ≡ true → b ≡ false
not_true true h = cc
not_true false h = refl

-- what an optional value is
pub told : {A : Type 0} (o : Option A) → Holds o (λ x. o ≡ Some x)
told None = nothing
told (Some x) = just refl

pub close_paren_terminal : (k : Terminal) → is_close_paren k ≡ true → k ≡ terminals.Punct puncts.RightParen
close_paren_terminal (terminals.Punct puncts.RightParen) h = refl
close_paren_terminal _ h = cc

pub close_bracket_terminal : (k : Terminal) → is_close_bracket k ≡ true → k ≡ terminals.Punct puncts.RightBracket
close_bracket_terminal (terminals.Punct puncts.RightBracket) h = refl
close_bracket_terminal _ h = cc

pub close_brace_terminal : (k : Terminal) → is_close_brace k ≡ true → k ≡ terminals.Punct puncts.RightBrace
close_brace_terminal (terminals.Punct puncts.RightBrace) h = refl
close_brace_terminal _ h = cc

pub open_paren_terminal : (k : Terminal) → is_open_paren k ≡ true → k ≡ terminals.Punct puncts.LeftParen
open_paren_terminal (terminals.Punct puncts.LeftParen) h = refl
open_paren_terminal _ h = cc

pub open_brace_terminal : (k : Terminal) → is_open_brace k ≡ true → k ≡ terminals.Punct puncts.LeftBrace
open_brace_terminal (terminals.Punct puncts.LeftBrace) h = refl
open_brace_terminal _ h = cc

pub semicolon_terminal : (k : Terminal) → is_semicolon k ≡ true → k ≡ terminals.Punct puncts.Semicolon
semicolon_terminal (terminals.Punct puncts.Semicolon) h = refl
semicolon_terminal _ h = cc

pub comma_terminal : (k : Terminal) → is_comma k ≡ true → k ≡ terminals.Punct puncts.Comma
comma_terminal (terminals.Punct puncts.Comma) h = refl
comma_terminal _ h = cc

pub colon_terminal : (k : Terminal) → is_colon k ≡ true → k ≡ terminals.Punct puncts.Colon
colon_terminal (terminals.Punct puncts.Colon) h = refl
colon_terminal _ h = cc

pub question_terminal : (k : Terminal) → is_question k ≡ true → k ≡ terminals.Punct puncts.Question
question_terminal (terminals.Punct puncts.Question) h = refl
question_terminal _ h = cc

pub equals_terminal : (k : Terminal) → is_equals k ≡ true → k ≡ terminals.Punct puncts.Assign
equals_terminal (terminals.Punct puncts.Assign) h = refl
equals_terminal _ h = cc

pub else_terminal : (k : Terminal) → is_else k ≡ true → k ≡ terminals.Word words.Else
else_terminal (terminals.Word words.Else) h = refl
else_terminal _ h = cc

pub finally_terminal : (k : Terminal) → is_finally k ≡ true → k ≡ terminals.Word words.Finally
finally_terminal (terminals.Word words.Finally) h = refl
finally_terminal _ h = cc

pub string_terminal : (k : Terminal) → is_string k ≡ true → k ≡ terminals.Str
string_terminal terminals.Str h = refl
string_terminal _ h = cc

pub function_terminal : (k : Terminal) → is_function k ≡ true → k ≡ terminals.Word words.Function
function_terminal (terminals.Word words.Function) h = refl
function_terminal _ h = cc

pub new_terminal : (k : Terminal) → is_new k ≡ true → k ≡ terminals.Word words.New
new_terminal (terminals.Word words.New) h = refl
new_terminal _ h = cc

pub while_terminal : (k : Terminal) → is_while k ≡ true → k ≡ terminals.Word words.While
while_terminal (terminals.Word words.While) h = refl
while_terminal _ h = cc

pub in_terminal : (k : Terminal) → is_in k ≡ true → k ≡ terminals.Word words.In
in_terminal (terminals.Word words.In) h = refl
in_terminal _ h = cc

pub var_terminal : (k : Terminal) → is_var k ≡ true → k ≡ terminals.Word words.Var
var_terminal (terminals.Word words.Var) h = refl
var_terminal _ h = cc

pub case_terminal : (k : Terminal) → is_case k ≡ true → k ≡ terminals.Word words.Case
case_terminal (terminals.Word words.Case) h = refl
case_terminal _ h = cc

pub default_terminal : (k : Terminal) → is_default k ≡ true → k ≡ terminals.Word words.Default
default_terminal (terminals.Word words.Default) h = refl
default_terminal _ h = cc

pub catch_terminal : (k : Terminal) → is_catch k ≡ true → k ≡ terminals.Word words.Catch
catch_terminal (terminals.Word words.Catch) h = refl
catch_terminal _ h = cc

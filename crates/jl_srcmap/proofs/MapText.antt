-- The JSON of a source map is read as that map.
use Rattle.std.proofs.Common.{◌≡◌, ℕ, zero, suc, List, [], ◌∷◌, ◌++◌, Some, codes, option_and_then, ap, sym, subst}
use Rattle.std.proofs.Common.{refl, ◌∙◌, arith}
use Rattle.std.proofs.Common.{append_assoc}
use Rattle.std.specs.Str.{IsAscii, IsUtf8}
use Rattle.std.specs.Fmt.{decimal}
use Rattle.std.proofs.lemmas.Fmt.{decimal_digit}
use Rattle.std.proofs.lemmas.Str.{IsUtf8-append, IsUtf8-from_ascii}
use Rattle.json.specs.Json as json
use Rattle.json.specs.Lex.{Lexeme, between, colon, fresh, in_string, lex, punctuate, string_token, token}
use Rattle.json.specs.Token.{begin_object, string as string_read}
use Rattle.json.specs.Print.{escape}
use Rattle.json.proofs.Printed.Strings.{content-escape, lex-escape}
use Rattle.serde_json.proofs.OnLiterals.{serde_json_on_literals}
use Rattle.serde_json.specs.Read.{max_depth, of_json, read}
use Rattle.jl_srcmap.specs.SourceMap.{IsMap, mappings_in, source_map, source_map_text}

-- what stands before the mappings text, its closing quote and all that follows
abbrev front : List ℕ
front = codes "{\"mappings\":\""

abbrev back : List ℕ
back = codes ",\"names\":[],\"sources\":[\"script.js\"],\"version\":3}" ++ 10 ∷ []

regrouped : (e x : List ℕ) → ((e ++ 34 ∷ []) ++ x) ++ 10 ∷ [] ≡ e ++ 34 ∷ (x ++ 10 ∷ [])
regrouped e x = append_assoc (e ++ 34 ∷ []) x (10 ∷ []) ∙ append_assoc e (34 ∷ []) (x ++ 10 ∷ [])

-- what stands there up to the version, and the end with its digits
abbrev before_version : List ℕ → List ℕ
before_version rest = codes ",\"names\":[],\"sources\":[\"script.js\"],\"version\":" ++ rest

written : (m : List ℕ) → source_map_text m ≡ front ++ (escape m ++ 34 ∷ back)
unfolding serde_json_on_literals
written m =
    ap (λ l. front ++ l) (regrouped (escape m) (before_version (decimal 3 ++ 125 ∷ [])))
    ∙ ap (λ d. front ++ (escape m ++ 34 ∷ before_version ((d ++ 125 ∷ []) ++ 10 ∷ []))) (decimal_digit 3 (omega arith))

abbrev first_lexemes : List Lexeme → List Lexeme
first_lexemes l = token begin_object ∷ token (string_read (codes "mappings")) ∷ colon ∷ l

lexed : (m : List ℕ)
    → lex between (front ++ (escape m ++ 34 ∷ back)) ≡ first_lexemes (token (string_read m) ∷ lex between back)
unfolding serde_json_on_literals
lexed m =
    ap (λ o. first_lexemes (token (string_token o) ∷ lex in_string (escape m ++ 34 ∷ back))) (content-escape m back)
    ∙ ap (λ l. first_lexemes (token (string_read m) ∷ l)) (lex-escape m back)

pub read_back : (m : List ℕ) → read (source_map_text m) ≡ Some (source_map m)
unfolding serde_json_on_literals
read_back m =
    ap read (written m)
    ∙ ap (λ l. option_and_then of_json (option_and_then (λ p. json.if_last p.0 p.1)
    (json.value max_depth (punctuate fresh l)))) (lexed m)

pub mappings_back : (m : List ℕ) → mappings_in (source_map m) ≡ Some m
mappings_back m = refl

end_ascii : IsAscii (10 ∷ [])
end_ascii zero = omega arith
end_ascii (suc i) = omega arith

pub is_map : (bytes front m : List ℕ) → bytes ≡ source_map_text m → bytes ≡ front ++ 10 ∷ [] → IsUtf8 front
    → IsMap bytes m
is_map bytes front m e f u = record {
  value = source_map m;
  json = record {
    utf8 = subst IsUtf8 (sym f) (IsUtf8-append front (10 ∷ []) u (IsUtf8-from_ascii (10 ∷ []) end_ascii));
    read = ap read e ∙ read_back m;
  };
  text = mappings_back m;
}

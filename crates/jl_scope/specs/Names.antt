-- Names that have a part in what is wrong with a program, and lists of names.
use Rattle.std.specs.Prelude.{Bool, List, [], ◌∷◌, ◌++◌, codes, if◌then◌else◌}
use Rattle.std.specs.List.{list_any}
use Rattle.std.specs.Str.{bytes_eq}
use Rattle.jl_ast.specs.Tree.{Text}

-- the same units
abbrev pub same_text : Text → Text → Bool
same_text x y = bytes_eq x y

abbrev pub among : Text → List Text → Bool
among x names = list_any (λ y. same_text x y) names

-- these names and one more, unless it is among them
abbrev pub with_name : List Text → Text → List Text
with_name names x = if among x names then names else names ++ x ∷ []

-- these names, and then those of a second list in the order in which they first stand there, each once
abbrev pub with_names : List Text → List Text → List Text
with_names names [] = names
with_names names (x ∷ l) = with_names (with_name names x) l

-- the properties of the global object (15.1) that scripts here don't have
unfoldable pub left_out_names : List Text
left_out_names =
    codes "eval" ∷ codes "Infinity" ∷ codes "Date" ∷ codes "RegExp" ∷ codes "JSON" ∷ codes "parseFloat"
    ∷ codes "escape" ∷ codes "unescape" ∷ codes "decodeURI" ∷ codes "decodeURIComponent" ∷ codes "encodeURI"
    ∷ codes "encodeURIComponent" ∷ []

-- what is no identifier in strict code (7.6.1.2)
unfoldable pub strict_words : List Text
strict_words =
    codes "implements" ∷ codes "interface" ∷ codes "let" ∷ codes "package" ∷ codes "private"
    ∷ codes "protected" ∷ codes "public" ∷ codes "static" ∷ codes "yield" ∷ []

-- what strict code doesn't bind, assign or update (annex C)
unfoldable pub strict_names : List Text
strict_names = codes "eval" ∷ codes "arguments" ∷ []

-- the object with the hooks
unfoldable pub hooks_name : Text
hooks_name = codes "J$"

unfoldable pub arguments_name : Text
arguments_name = codes "arguments"

-- The names of functions, and their texts (15.3.4.2).
use Rattle.std.proofs.Common.{◌≡◌, ◌∙◌, [], ap, codes, subst, sym, List, None, Option, Some, ℕ}
use Rattle.std.proofs.lemmas.Option.{get_or_from_slice_get, slice_get-map}
use Rattle.std.specs.Option.{option_map, unwrap_or}
use Rattle.std.specs.Prelude.{slice_get, slice_index_or}
use Rattle.jl_ast.specs.declared.tree.Function.{out-Function}
use Rattle.jl_ast.specs.declared.tree.Ident.{Ident}
use Rattle.jl_value.specs.declared.error_kind.ErrorKind.TheVariants.{TypeError}
use Rattle.jl_value.specs.declared.value.Value.{Value}
use Rattle.jl_heap.specs.Objects.{Name}
use Rattle.jl_heap.specs.declared.inner.Inner.{Inner}
use Rattle.jl_meaning.specs.Errors.{string_within, throw_error}
use Rattle.jl_meaning.specs.FunctionObjects.{function_name}
use Rattle.jl_meaning.specs.FunctionObjects as functions
use Rattle.jl_meaning.specs.Parts.{◌>>=◌, Algorithm, Call}
use Rattle.jl_meaning.specs.builtins.Arguments.{give_string, need_receiver}
use Rattle.jl_meaning.specs.builtins.Function.{function_to_string, inner_of_function, name_inside, names_of}
use Rattle.jl_meaning.specs.builtins.Function.{FunctionNames}
use Rattle.jl_store.specs.Plain.{plain_function}
use Rattle.jl_store.proofs.Trees.{name_is}
use Rattle.jl_state.specs.Rest.{RefinesAlgorithm}
use Rattle.jl_state.specs.Words.{function_of, table_of}
use Rattle.jl_state.specs.declared.act.Act.{Act}
use Rattle.jl_state.specs.declared.script_function.ScriptFunction.{ScriptFunction}
use Rattle.jl_state.specs.declared.state.State.{State}
use Rattle.jl_algorithm.proofs.Throwing.{works_left_out}
use Rattle.jl_lib_object.specs.inner.Calls.{function_text, script_name}

-- the name of a function of the script

abbrev name_known : functions.ScriptFunction → Option Name
name_known f = function_name f.func

name_there : (l : List ScriptFunction) (n : ℕ) (f : ScriptFunction) → slice_get l n ≡ Some f
    → slice_index_or (names_of (table_of l)) n None ≡ function_name (plain_function f.function.now)
name_there l n f is =
    get_or_from_slice_get (names_of (table_of l)) n (function_name (plain_function f.function.now)) None
    (slice_get-map name_known (table_of l) n
    ∙ ap (option_map name_known) (slice_get-map function_of l n ∙ ap (option_map function_of) is))

pub script_named : (l : List ScriptFunction) (n : ℕ) (f : ScriptFunction) (o : Option Ident) (name : Name)
    → slice_get l n ≡ Some f → (out-Function f.function.now).name ≡ o
    → name ≡ unwrap_or (option_map (λ (x : Ident). x.text) o) [] → name ≡ script_name (names_of (table_of l)) n
script_named l n f o name there named is =
    is ∙ ap (λ (x : Option Name). unwrap_or x []) (sym (name_there l n f there ∙ name_is f.function.now o named))

-- the text of a function

abbrev text_of : FunctionNames → Inner → Algorithm Value
text_of names i = string_within (function_text (name_inside names i)) >>= give_string

-- a value that is no function
pub no_receiver : (s : State) (names : FunctionNames) (c : Call) (name : Option Name) (t : State) (a : Act)
    → name ≡ option_map (name_inside names) (inner_of_function s.store.heap c.this) → name ≡ None
    → RefinesAlgorithm s (throw_error TypeError (codes "wrong receiver")) t a
    → RefinesAlgorithm s (function_to_string names c) t a
no_receiver s names c name t a is none refines = record {
  is = (by (inner_of_function s.store.heap c.this) (sym is ∙ none)).is;
}
  where
    by : (o : Option Inner) → option_map (name_inside names) o ≡ None
        → RefinesAlgorithm s (need_receiver o >>= text_of names) t a
    by None e = works_left_out s TypeError (codes "wrong receiver") (text_of names) t a refines
    by (Some i) e = absurd (let differ = e in cc)

-- or one
pub receiver : (s : State) (names : FunctionNames) (c : Call) (name : Option Name) (x : Name) (text : List ℕ)
    (t : State) (a : Act) → name ≡ option_map (name_inside names) (inner_of_function s.store.heap c.this)
    → name ≡ Some x → text ≡ function_text x → RefinesAlgorithm s (string_within text >>= give_string) t a
    → RefinesAlgorithm s (function_to_string names c) t a
receiver s names c name x text t a is there text_is refines = record {
  is = (by (inner_of_function s.store.heap c.this) (sym is ∙ there)).is;
}
  where
    by : (o : Option Inner) → option_map (name_inside names) o ≡ Some x
        → RefinesAlgorithm s (need_receiver o >>= text_of names) t a
    by None e = absurd (let differ = e in cc)
    by (Some i) e =
        let same : x ≡ name_inside names i = cc in
        subst (λ y. RefinesAlgorithm s (string_within (function_text y) >>= give_string) t a) same
        (subst (λ u. RefinesAlgorithm s (string_within u >>= give_string) t a) text_is refines)

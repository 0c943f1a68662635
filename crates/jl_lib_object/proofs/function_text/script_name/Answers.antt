use Rattle.std.proofs.Common.{◌≡◌, [], length, refl, None, Some}
use Rattle.std.proofs.lemmas.Option.{slice_get_read}
use Rattle.std.proofs.lemmas.Result.{IfOk-weaker}
use Rattle.jl_heap.specs.Objects.{Name}
use Rattle.jl_meaning.specs.builtins.Function.{names_of}
use Rattle.jl_state.specs.Words.{table_of}
use Rattle.jl_lib_object.specs.inner.Calls.{script_name}
use Rattle.jl_lib_object.proofs.FunctionNames.{script_named}
use Rattle.jl_lib_object.proofs.function_text.script_name.Goals as goal

pub returns-in-Some-name : goal.returns-in-Some-name
returns-in-Some-name c =
    let l = c.args.functions.now in
    let f = c.in-Some.f.now in
    let at = c.in-Some.ensures.lookup in
    IfOk-weaker c.share.result (λ (x : Name). x ≡ c.in-Some-name.ident.text)
    (λ (x : Name). x ≡ script_name (names_of (table_of l)) c.args.number)
    (λ x same. script_named l c.args.number f (Some c.in-Some-name.ident) x
    (slice_get_read l (length l) c.args.number f refl at.3.0 at.1) c.in-Some-name.is same) c.share.ensures

pub returns-in-None : goal.returns-in-None
returns-in-None c =
    let l = c.args.functions.now in
    let f = c.in-Some.f.now in
    let at = c.in-Some.ensures.lookup in
    IfOk-weaker c.word-in-None.result (λ (x : Name). x ≡ [])
    (λ (x : Name). x ≡ script_name (names_of (table_of l)) c.args.number)
    (λ x same. script_named l c.args.number f None x
    (slice_get_read l (length l) c.args.number f refl at.3.0 at.1) c.in-None.is same) c.word-in-None.ensures

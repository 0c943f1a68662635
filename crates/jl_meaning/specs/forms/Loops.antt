-- Loops: their turns, and the properties that a `for-in` visits (12.6).
use Rattle.std.specs.List.{list_any, range_with_len}
use Rattle.std.specs.Option.{option_map_or}
use Rattle.std.specs.Prelude.{[], false, if◌then◌else◌, length, map, suc, true, zero, ◌&&◌, ◌++◌, ◌==◌, ◌∷◌, Bool}
use Rattle.std.specs.Prelude.{List, None, Option, Some, ℕ}
use Rattle.std.specs.Str.{bytes_eq}
use Rattle.jl_ast.specs.Tree.{Text}
use Rattle.jl_scope.specs.Names.{among}
use Rattle.jl_value.specs.Tests.{is_nothing}
use Rattle.jl_value.specs.declared.ending.Completion.{Completion}
use Rattle.jl_value.specs.declared.ending.Completion.TheVariants as completion
use Rattle.jl_value.specs.declared.value.Value.{Value}
use Rattle.jl_props.specs.Entries.{entry_named}
use Rattle.jl_props.specs.declared.entries.Entry.{Entry}
use Rattle.jl_heap.specs.Objects.{object_at, units_of, Name, Objects}
use Rattle.jl_heap.specs.Property.{is_enumerable}
use Rattle.jl_heap.specs.declared.property.Prop.{Prop}
use Rattle.jl_effects.specs.Effects.{Begin, End}
use Rattle.jl_meaning.specs.Completions.{normal, ◌>>=◌}
use Rattle.jl_meaning.specs.Conversions.{to_object}
use Rattle.jl_meaning.specs.Parts.{for_in_loop, lift, look, Context, Loop, Part, Stmts, Turn, TurnOf, Visit}
use Rattle.jl_meaning.specs.forms.Literals.{index_name}

-- the next turn of a loop
abbrev pub begin_turn : Turn → Part Completion
begin_turn t = Begin (TurnOf t) End

-- a loop that begins with a turn
abbrev pub begin_loop : Loop → Context → (labels : List Text) → (id : ℕ) → Part Completion
begin_loop l c labels id = begin_turn (record { loop = l; context = c; labels = labels; id = id })

-- a loop goes on after its body with `next`, or ends (12.6.1 to 12.6.4); the labels are its own
abbrev pub after_body : (labels : List Text) → (next : Part Completion) → Completion → Part Completion
after_body labels next completion.Normal = next
after_body labels next (completion.Continue None) = next
after_body labels next (completion.Continue (Some x)) =
    if among x labels then next else End (completion.Continue (Some x))
after_body labels next (completion.Break None) = normal
after_body labels next how = End how

-- the own properties of an object, as they may be visited: the units of a String object, and then its properties in
-- the order in which they were made
abbrev pub own_visits : Objects → (address : ℕ) → List Visit
own_visits heap address =
    map (λ (i : ℕ). record { holder = address; name = index_name i; serial = None })
    (range_with_len 0 (length (units_of (object_at heap address).class (object_at heap address).inner)))
    ++ map (λ (e : Entry Prop). record { holder = address; name = e.name; serial = Some e.serial })
    (object_at heap address).properties

-- the same for an object, and then for each of its prototypes, of which there are at most so many
abbrev pub visits_within : ℕ → Objects → (address : ℕ) → List Visit
visits_within zero heap address = own_visits heap address
visits_within (suc more) heap address =
    own_visits heap address
    ++ option_map_or (λ proto. visits_within more heap proto.0) (object_at heap address).proto []

abbrev pub is_named_among : Name → List Visit → Bool
is_named_among x l = list_any (λ (v : Visit). bytes_eq v.name x) l

-- of each name the first: a property that is shadowed isn't visited (12.6.4)
abbrev pub first_of_each_name : (before : List Visit) → List Visit → List Visit
first_of_each_name before [] = []
first_of_each_name before (v ∷ l) =
    elim (is_named_among v.name before) [
      | true ↦ first_of_each_name before l
      | false ↦ v ∷ first_of_each_name (v ∷ before) l
    ]

abbrev pub visits_of : Objects → (address : ℕ) → List Visit
visits_of heap address = first_of_each_name [] (visits_within address heap address)

-- whether the property is still there, and enumerable; a unit always is
abbrev pub is_same_entry : ℕ → Entry Prop → Bool
is_same_entry serial e = e.serial == serial && is_enumerable e.item

abbrev pub is_still_there : Objects → Visit → Option ℕ → Bool
is_still_there heap v None = true
is_still_there heap v (Some serial) =
    option_map_or (is_same_entry serial) (entry_named v.name (object_at heap v.holder).properties) false

-- from the first on that is still there
abbrev pub visits_left : Objects → List Visit → List Visit
visits_left heap [] = []
visits_left heap (v ∷ l) = if is_still_there heap v v.serial then v ∷ l else visits_left heap l

-- a `for-in` goes on with the first of these properties, if there is one (12.6.4)
abbrev pub visit_first : (x : Text) → Stmts → Context → (labels : List Text) → (id : ℕ) → List Visit
    → Part Completion
visit_first x l c labels id [] = normal
visit_first x l c labels id (v ∷ rest) = begin_loop (for_in_loop x v.name rest l) c labels id

unfoldable pub visit_next : (x : Text) → Stmts → Context → (labels : List Text) → (id : ℕ) → List Visit
    → Part Completion
visit_next x l c labels id visits = do
  store ← look
  visit_first x l c labels id (visits_left store.heap visits)

-- the properties of an object, and of undefined and null none
unfoldable pub visit_all : (x : Text) → Stmts → Context → (labels : List Text) → (id : ℕ) → Value → Part Completion
visit_all x l c labels id v =
    if is_nothing v then normal
    else (do
      object ← lift (to_object v)
      store ← look
      visit_next x l c labels id (visits_of store.heap object.0))

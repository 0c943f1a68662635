-- What is unfolded where a run is computed. To unfold `run` is to unfold all of these.
use Rattle.std.specs.Char.Utf16.{utf16_chars}
use Rattle.jl_scope.specs.Names as names
use Rattle.jl_value.specs.Indices as indices
use Rattle.jl_value.specs.Builtins as builtins
use Rattle.jl_value.specs.BuiltinPlaces as builtin_places
use Rattle.jl_conv.specs.Numerals as numerals
use Rattle.jl_token.specs.Characters as characters
use Rattle.jl_heap.specs.Define as define
use Rattle.ucd_category.specs.GeneralCategory as category
use Rattle.ucd_category.specs.GeneralCategoryRows as category_rows
use Rattle.ucd_table.specs.Rows as table_rows
use Rattle.std.specs.Fmt as fmt
use Rattle.jl_op.specs.Chosen as op_chosen
use Rattle.jl_meaning.specs.ArgumentsObject as arguments_object
use Rattle.jl_meaning.specs.Conversions as conversions
use Rattle.jl_meaning.specs.DeclarationBinding as declaration_binding
use Rattle.jl_meaning.specs.Defining as defining
use Rattle.jl_meaning.specs.Errors as errors
use Rattle.jl_meaning.specs.FunctionObjects as function_objects
use Rattle.jl_meaning.specs.FunctionTable as function_table
use Rattle.jl_meaning.specs.Getting as getting
use Rattle.jl_meaning.specs.Jobs as jobs
use Rattle.jl_meaning.specs.Mean as mean
use Rattle.jl_meaning.specs.Operators as operators
use Rattle.jl_meaning.specs.Properties as properties
use Rattle.jl_meaning.specs.Putting as putting
use Rattle.jl_meaning.specs.Realm as realm
use Rattle.jl_meaning.specs.References as references
use Rattle.jl_meaning.specs.builtins.Table as builtin_table
use Rattle.jl_meaning.specs.forms.Calls as form_calls
use Rattle.jl_meaning.specs.forms.Functions as form_functions
use Rattle.jl_meaning.specs.forms.HookCalls as form_hook_calls
use Rattle.jl_meaning.specs.forms.Hooks as form_hooks
use Rattle.jl_meaning.specs.forms.Jumps as form_jumps
use Rattle.jl_meaning.specs.forms.Literals as form_literals
use Rattle.jl_meaning.specs.forms.Loops as form_loops
use Rattle.jl_meaning.specs.forms.Members as form_members
use Rattle.jl_meaning.specs.forms.Names as form_names
use Rattle.jl_meaning.specs.forms.Operators as form_operators
use Rattle.jl_meaning.specs.forms.Try as form_try
use Rattle.jl_simulation.specs.Weaving as weave_weaving

unfoldable pub run : Unit {0}
unfolding names.hooks_name names.arguments_name indices.index_of builtins.builtins builtins.entry_of
    builtin_places.row_of builtin_places.place_of_row numerals.text_number characters.is_white_space characters.is_space
    characters.category characters.is_surrogate characters.is_line_terminator characters.is_digit
    characters.is_hex_digit characters.hex_digit_value define.length_name category.general_category
    category_rows.general_category_rows table_rows.value_in fmt.digits op_chosen.is_kept
    arguments_object.create_arguments_object conversions.to_primitive conversions.to_number conversions.to_string
    conversions.check_object_coercible conversions.to_object declaration_binding.declare_body
    declaration_binding.declare_program defining.define_own_property errors.throw_error function_objects.create_function
    function_objects.make_function_expression function_objects.callee_of function_table.function_table getting.get
    jobs.call_bound mean.language operators.binary_result operators.unary_result properties.get_own_property
    properties.get_property properties.property_of_value putting.put putting.delete realm.initial_objects realm.realm
    references.identifier_reference references.get_value references.get_name references.put_value references.put_name
    references.type_of_name references.delete_name builtin_table.builtin_algorithm form_calls.invoke
    form_functions.this_within form_functions.enter_function form_functions.new_instance
    form_hook_calls.assignment_operators form_hook_calls.relational_operators form_hook_calls.unary_kinds
    form_hook_calls.hooks form_hook_calls.openers form_hooks.enter_hook form_hooks.enter_opener form_hooks.close
    form_jumps.return_value form_jumps.throw_value form_literals.literal form_literals.literal_of
    form_literals.put_element form_literals.end_array form_literals.define_entry form_loops.visit_next
    form_loops.visit_all form_members.get_member form_members.put_member form_members.delete_member
    form_members.update_member form_members.read_member form_members.update_expression form_names.read_name
    form_names.typeof_name form_names.delete_identifier form_names.update_name form_operators.operate
    form_operators.operate_on form_operators.update form_operators.decide form_try.begin_catch
    weave_weaving.woven_program utf16_chars lib.Utf8.encode
run = tt

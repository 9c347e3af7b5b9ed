-- What a client reads off an entry of the type table.
use Rattle.std.specs.Prelude.{ℕ, Bool, true, false, List, [], map, Option, Some, None, nat_lt, slice_get}
use Rattle.model.specs.lists.Syntax.{Position}
use Rattle.model.specs.lists.TypeTable.{builtin_names}
use Rattle.model.specs.lists.Tables.{FieldEntries, unit_entries, struct_entries, tuple_entries, TypeEntry, builtin_type, primitive_type, enum_type, struct_type}

-- the number of a type
abbrev pub type_id_of : TypeEntry → ℕ
type_id_of (builtin_type place) = place
type_id_of (primitive_type id name at) = id
type_id_of (enum_type name id is_extern is_nodebug variants at) = id
type_id_of (struct_type name id is_extern is_nodebug fields at) = id

-- the text of a type's name, where there is a name of that number
abbrev pub type_text : List (List ℕ) → TypeEntry → Option (List ℕ)
type_text names (builtin_type place) = slice_get builtin_names place
type_text names (primitive_type id name at) = slice_get names name
type_text names (enum_type name id is_extern is_nodebug variants at) = slice_get names name
type_text names (struct_type name id is_extern is_nodebug fields at) = slice_get names name

abbrev pub type_pos_of : TypeEntry → Option Position
type_pos_of (builtin_type place) = None
type_pos_of (primitive_type id name at) = Some at
type_pos_of (enum_type name id is_extern is_nodebug variants at) = Some at
type_pos_of (struct_type name id is_extern is_nodebug fields at) = Some at

abbrev pub is_primitive_type : TypeEntry → Bool
is_primitive_type (builtin_type place) = false
is_primitive_type (primitive_type id name at) = true
is_primitive_type (enum_type name id is_extern is_nodebug variants at) = false
is_primitive_type (struct_type name id is_extern is_nodebug fields at) = false

-- the first built-in type is the boolean one, all others are integers
abbrev pub is_int_type : TypeEntry → Bool
is_int_type (builtin_type place) = nat_lt 0 place
is_int_type (primitive_type id name at) = false
is_int_type (enum_type name id is_extern is_nodebug variants at) = false
is_int_type (struct_type name id is_extern is_nodebug fields at) = false

-- the types of the fields, in order
abbrev pub entry_field_types : FieldEntries → List ℕ
entry_field_types unit_entries = []
entry_field_types (struct_entries fields) = map (λ f. f.ty) fields
entry_field_types (tuple_entries fields) = map (λ f. f.ty) fields

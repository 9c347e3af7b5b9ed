-- The types that terms are read with: those of a list of definitions, or those of any environment that is handed in.
use Rattle.std.specs.Prelude.{◌≡◌, ℕ, ◌<◌, List, [], ◌∷◌, length, take, Option, Some, unwrap_or, All, IsTrue, map, slice_get}
use Rattle.std.specs.List.{flat_map}
use Rattle.model.specs.lists.Syntax.{Name, Definition}
use Rattle.model.specs.lists.Names.{has_name, IsDistinct}
use Rattle.model.specs.rules.Values.{field_types}
use Rattle.model.specs.lists.Tables.{FieldEntries, unit_entries, struct_entries, tuple_entries, VariantEntry, TypeEntry, builtin_type, primitive_type, enum_type, struct_type}
use Rattle.model.specs.lists.TypeTable.{builtin_names, place_from, builtin_from, all_type_names, type_names_met, type_table}

-- the names met before, the types by id, and the names of the types by id
pub record KnownTypes : Type 0 where
  pub names : List (List ℕ)
  pub types : List TypeEntry
  pub type_names : List (List ℕ)

-- those of a list of definitions
abbrev pub types_of : List Definition → KnownTypes
types_of defs = record { names = type_names_met defs; types = type_table defs; type_names = all_type_names defs }

-- the id of the type of a name
abbrev pub type_named : KnownTypes → List ℕ → Option ℕ
type_named k x = place_from 0 x k.type_names

-- the id of a known type: 0 where it isn't known, which no valid list has
abbrev pub known_type : KnownTypes → Name → ℕ
known_type k n = unwrap_or (type_named k n.text) 0

-- the id that a type says
abbrev pub entry_id : TypeEntry → ℕ
entry_id (builtin_type place) = place
entry_id (primitive_type id name at) = id
entry_id (enum_type name id is_extern is_nodebug variants at) = id
entry_id (struct_type name id is_extern is_nodebug fields at) = id

-- the types of all fields of a type, by id
abbrev pub types_inside : TypeEntry → List ℕ
types_inside (builtin_type place) = []
types_inside (primitive_type id name at) = []
types_inside (enum_type name id is_extern is_nodebug variants at) = flat_map (λ v. field_types v.fields) variants
types_inside (struct_type name id is_extern is_nodebug fields at) = field_types fields

-- the numbers of the names of fields
abbrev pub field_numbers : FieldEntries → List ℕ
field_numbers unit_entries = []
field_numbers (struct_entries fields) = map (λ f. f.name) fields
field_numbers (tuple_entries fields) = []

-- the numbers of the names of a variant: its full name, its name, its fields
abbrev pub variant_numbers : VariantEntry → List ℕ
variant_numbers v = v.full_name ∷ (v.name ∷ field_numbers v.fields)

-- the numbers of all names of a type: its own name, and those of its variants and fields
abbrev pub entry_numbers : TypeEntry → List ℕ
entry_numbers (builtin_type place) = []
entry_numbers (primitive_type id name at) = name ∷ []
entry_numbers (enum_type name id is_extern is_nodebug variants at) = name ∷ flat_map variant_numbers variants
entry_numbers (struct_type name id is_extern is_nodebug fields at) = name ∷ field_numbers fields

-- each type stands at the id that it says
abbrev pub StandAtIds : List TypeEntry → Type 0
StandAtIds types = (i : ℕ) (t : TypeEntry) → slice_get types i ≡ Some t → entry_id t ≡ i

-- no name was met twice; the first 13 types are the built-in ones, in order, and each type stands at its id; no two types
-- have one name, there are as many names of types as types, and each was met; the types of fields are types, and the
-- numbers of names are those of names that were met
pub record IsWellFormed (k : KnownTypes) : Type 0 where
  pub names_distinct : IsDistinct k.names
  pub builtins : take 13 k.types ≡ builtin_from 0 builtin_names
  pub ids : StandAtIds k.types
  pub type_names_distinct : IsDistinct k.type_names
  pub as_many_names : length k.type_names ≡ length k.types
  pub names_of_types_met : All (λ x. IsTrue (has_name k.names x)) k.type_names
  pub types_in_range : All (λ ty. ty < length k.types) (flat_map types_inside k.types)
  pub numbers_in_range : All (λ n. n < length k.names) (flat_map entry_numbers k.types)

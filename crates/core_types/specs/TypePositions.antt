-- The positions that stand in a type table.
use Rattle.std.specs.Prelude.{List, [], ◌∷◌, map}
use Rattle.std.specs.List.{flat_map}
use Rattle.model.specs.lists.Syntax.{Position}
use Rattle.model.specs.lists.Tables.{TypeEntry, builtin_type, primitive_type, enum_type, struct_type}

-- where a type is defined, and where its variants are; a built-in type stands nowhere
abbrev pub entry_positions : TypeEntry → List Position
entry_positions (builtin_type place) = []
entry_positions (primitive_type id name at) = at ∷ []
entry_positions (enum_type name id is_extern is_nodebug variants at) = at ∷ map (λ v. v.at) variants
entry_positions (struct_type name id is_extern is_nodebug fields at) = at ∷ []

abbrev pub types_positions : List TypeEntry → List Position
types_positions types = flat_map entry_positions types

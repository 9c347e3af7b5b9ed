-- How types are written.
use Rattle.std.specs.Prelude.{ℕ, zero, suc, List, [], ◌∷◌, ◌++◌, Option, Some, None, slice_get, if◌then◌else◌, codes, decimal}
use Rattle.model.specs.lists.Signatures.{text_of}
use Rattle.model.specs.lists.Tables.{TypeEntry, builtin_type, primitive_type, enum_type, struct_type}
use Rattle.model.specs.lists.TypeTable.{builtin_names}
use Rattle.model.specs.rules.Values.{is_composed_type}
use Rattle.rust_items.specs.RustNames.{spelled, spelled_path}

-- by the texts of names; a type that isn't there isn't written
abbrev pub type_written : List (List ℕ) → Option TypeEntry → List ℕ
type_written names None = []
type_written names (Some (builtin_type place)) = text_of builtin_names place
type_written names (Some (primitive_type id name at)) = spelled_path (text_of names name)
type_written names (Some (enum_type name id is_extern is_nodebug variants at)) = spelled (text_of names name)
type_written names (Some (struct_type name id is_extern is_nodebug fields at)) = spelled (text_of names name)

-- what stands before the first of several things, and a comma before each other one
abbrev pub lead : List ℕ → ℕ → List ℕ
lead first zero = first
lead first (suc i) = codes ", "

-- a type of several, by its place
abbrev pub listed_type : List (List ℕ) → List TypeEntry → ℕ → ℕ → List ℕ
listed_type names types i ty = lead [] i ++ type_written names (slice_get types ty)

abbrev pub listed_types : List (List ℕ) → List TypeEntry → ℕ → List ℕ → List ℕ
listed_types names types i [] = []
listed_types names types i (ty ∷ tys) = listed_type names types i ty ++ listed_types names types (suc i) tys

-- the type of what a function gives: `()`, one type, or a tuple
abbrev pub outputs_written : List (List ℕ) → List TypeEntry → List ℕ → List ℕ
outputs_written names types [] = codes "()"
outputs_written names types (ty ∷ []) = type_written names (slice_get types ty)
outputs_written names types (ty ∷ (other ∷ tys)) = codes "(" ++ (listed_types names types 0 (ty ∷ (other ∷ tys)) ++ codes ")")

-- values of enums and structs are passed by reference
abbrev pub reference : Option TypeEntry → List ℕ
reference ty = if is_composed_type ty then codes "&" else []

abbrev pub parameter_written : List (List ℕ) → List TypeEntry → ℕ → ℕ → List ℕ
parameter_written names types i ty = codes ", arg" ++ (decimal i ++ (codes ": " ++ (reference (slice_get types ty) ++ type_written names (slice_get types ty))))

-- parameters, numbered from one on, each behind a comma
abbrev pub parameters_written : List (List ℕ) → List TypeEntry → ℕ → List ℕ → List ℕ
parameters_written names types i [] = []
parameters_written names types i (ty ∷ tys) = parameter_written names types i ty ++ parameters_written names types (suc i) tys

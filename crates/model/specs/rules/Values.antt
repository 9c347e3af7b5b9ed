-- Values: finite trees, and when one is a value of a type.
use Rattle.std.specs.Prelude.{ℕ, ℤ, zero, suc, Bool, true, false, ◌&&◌, List, [], ◌∷◌, map, Option, Some, None, slice_get}
use Rattle.std.specs.Bool.{◌==◌}
use Rattle.std.specs.Ordering.{int_eq}
use Rattle.std.proofs.Math.Bool.{beq}
use Rattle.model.specs.lists.Tables.{FieldEntries, unit_entries, struct_entries, tuple_entries, TypeEntry, builtin_type, primitive_type, enum_type, struct_type}

mutual
  -- a boolean, an atom of a type with atoms, a variant with its fields, a struct with its fields
  pub data Value : Type 0 where
    truth : (b : Bool) → Value
    atom : (ty : ℕ) (n : ℤ) → Value
    of_variant : (ty variant : ℕ) (fields : Values) → Value
    of_struct : (ty : ℕ) (fields : Values) → Value

  pub data Values : Type 0 where
    no_value : Values
    value_and : (v : Value) (rest : Values) → Values

-- whether two values are equal
abbrev mutual
  pub value_eq : Value → Value → Bool
  value_eq (truth a) (truth b) = beq a b
  value_eq (atom s a) (atom t b) = (s == t) && int_eq a b
  value_eq (of_variant s i a) (of_variant t j b) = (s == t) && (i == j) && values_eq a b
  value_eq (of_struct s a) (of_struct t b) = (s == t) && values_eq a b
  value_eq _ _ = false

  pub values_eq : Values → Values → Bool
  values_eq no_value no_value = true
  values_eq (value_and v a) (value_and w b) = value_eq v w && values_eq a b
  values_eq _ _ = false

abbrev pub listed : Values → List Value
listed no_value = []
listed (value_and v rest) = v ∷ listed rest

abbrev pub of_list : List Value → Values
of_list [] = no_value
of_list (v ∷ rest) = value_and v (of_list rest)

-- the types of fields, in order
abbrev pub field_types : FieldEntries → List ℕ
field_types unit_entries = []
field_types (struct_entries fields) = map (λ f. f.ty) fields
field_types (tuple_entries fields) = map (λ f. f.ty) fields

abbrev pub is_truth_type : Option TypeEntry → Bool
is_truth_type (Some (builtin_type zero)) = true
is_truth_type _ = false

-- a type of integer literals: a built-in integer type or a primitive type
abbrev pub is_atom_type : Option TypeEntry → Bool
is_atom_type (Some (builtin_type (suc k))) = true
is_atom_type (Some (primitive_type id name at)) = true
is_atom_type _ = false

-- a type with atoms: a built-in integer type, a primitive type, or an extern enum. The variants that an extern enum declares needn't be
-- all that it has, so it has values of which no variant's pattern holds: its atoms, of which each is equal to itself alone. An
-- enum that isn't extern has its variants' values and no others, and without variants it has none
abbrev pub has_atoms : Option TypeEntry → Bool
has_atoms (Some (builtin_type (suc k))) = true
has_atoms (Some (primitive_type id name at)) = true
has_atoms (Some (enum_type name id is_extern is_nodebug variants at)) = is_extern
has_atoms _ = false

-- an enum or a struct
abbrev pub is_composed_type : Option TypeEntry → Bool
is_composed_type (Some (enum_type name id is_extern is_nodebug variants at)) = true
is_composed_type (Some (struct_type name id is_extern is_nodebug fields at)) = true
is_composed_type _ = false

-- the types of a variant's fields, where the type is an enum with that variant
abbrev pub variant_types : Option TypeEntry → ℕ → Option (List ℕ)
variant_types (Some (enum_type name id is_extern is_nodebug variants at)) i = elim (slice_get variants i) [ None ↦ None | Some v ↦ Some (field_types v.fields) ]
variant_types _ i = None

abbrev pub struct_types : Option TypeEntry → Option (List ℕ)
struct_types (Some (struct_type name id is_extern is_nodebug fields at)) = Some (field_types fields)
struct_types _ = None

-- a value of a type, by the types in the order of their ids
abbrev mutual
  pub well_typed : List TypeEntry → ℕ → Value → Bool
  well_typed types ty (truth b) = is_truth_type (slice_get types ty)
  well_typed types ty (atom s n) = (s == ty) && has_atoms (slice_get types ty)
  well_typed types ty (of_variant s i fields) = (s == ty) && all_well_typed types (variant_types (slice_get types ty) i) fields
  well_typed types ty (of_struct s fields) = (s == ty) && all_well_typed types (struct_types (slice_get types ty)) fields

  pub all_well_typed : List TypeEntry → Option (List ℕ) → Values → Bool
  all_well_typed types (Some []) no_value = true
  all_well_typed types (Some (ty ∷ tys)) (value_and v rest) = well_typed types ty v && all_well_typed types (Some tys) rest
  all_well_typed types _ _ = false

-- arguments of these types, in order
abbrev pub args_well_typed : List TypeEntry → List ℕ → List Value → Bool
args_well_typed types tys args = all_well_typed types (Some tys) (of_list args)

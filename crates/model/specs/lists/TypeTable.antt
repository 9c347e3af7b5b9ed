-- Which lists of definitions have a type table, and the table: the types, the names and the types of constants.
use Rattle.std.specs.Prelude.{◌≡◌, ℕ, suc, Bool, true, false, not, ◌&&◌, List, [], ◌∷◌, ◌++◌, Option, Some, None, All, IsTrue, map, codes, is_some, unwrap_or, slice_get, if◌then◌else◌}
use Rattle.std.specs.List.{flat_map, enumerate_from}
use Rattle.std.specs.Str.{bytes_eq}
use Rattle.model.specs.lists.Syntax.{Name, FieldTree, TupleFieldTree, FieldTrees, unit_fields, struct_fields, tuple_fields, VariantTree, TypeTree, TypeValueTree, primitive_value, enum_value, struct_value, Definition, type_definition, extern_definition, extern_const}
use Rattle.model.specs.lists.Names.{number, has_name, with_names, IsDistinct}
use Rattle.model.specs.rules.Outcome.{then_option}
use Rattle.model.specs.lists.Tables.{FieldEntry, TupleFieldEntry, FieldEntries, unit_entries, struct_entries, tuple_entries, VariantEntry, TypeEntry, builtin_type, primitive_type, enum_type, struct_type}

-- the names of the built-in types: the place of a name is the type's id, and the number of the name
abbrev pub builtin_names : List (List ℕ)
builtin_names =
    codes "bool" ∷ (codes "u8" ∷ (codes "u16" ∷ (codes "u32" ∷ (codes "u64" ∷ (codes "u128" ∷ (codes "usize" ∷ (codes "i8" ∷ (codes "i16" ∷ (codes "i32" ∷ (codes "i64" ∷ (codes "i128" ∷ (codes "isize" ∷ []))))))))))))

abbrev pub type_of : Definition → List TypeTree
type_of (type_definition t) = t ∷ []
type_of _ = []

-- the definitions of types, in order: the i-th, from 0, has id 13 + i
abbrev pub type_trees : List Definition → List TypeTree
type_trees defs = flat_map type_of defs

abbrev pub type_names : List Definition → List (List ℕ)
type_names defs = map (λ t. t.name.text) (type_trees defs)

-- the id of the type of a name
abbrev pub place_from : ℕ → List ℕ → List (List ℕ) → Option ℕ
place_from n x [] = None
place_from n x (y ∷ ys) = if bytes_eq y x then Some n else place_from (suc n) x ys

abbrev pub type_id : List Definition → List ℕ → Option ℕ
type_id defs x = place_from 0 x (builtin_names ++ type_names defs)

-- the id of the type whose name has a number
abbrev pub type_of_number : List Definition → List (List ℕ) → ℕ → Option ℕ
type_of_number defs names k = then_option (slice_get names k) (type_id defs)

-- the id of a type by its name: 0 where there is none, which no valid list has
abbrev pub type_or_first : List Definition → Name → ℕ
type_or_first defs n = unwrap_or (type_id defs n.text) 0

-- a named constant: its name and the name of its type
pub record ConstantTree : Type 0 where
  pub name : Name
  pub ty : Name

-- the constant that a definition makes
abbrev pub constant_of : Definition → List ConstantTree
constant_of (extern_definition (extern_const name ty at)) = record { name = name; ty = ty } ∷ []
constant_of _ = []

-- the definitions of constants, in order
abbrev pub constant_trees : List Definition → List ConstantTree
constant_trees defs = flat_map constant_of defs

-- the full name of a variant: its type's name, a point, its own name
abbrev pub full_name : List ℕ → List ℕ → List ℕ
full_name ty variant = ty ++ (codes "." ++ variant)

-- the names of a list of fields, in order; those of a tuple have none
abbrev pub field_names : FieldTrees → List (List ℕ)
field_names unit_fields = []
field_names (struct_fields fields) = map (λ f. f.name.text) fields
field_names (tuple_fields fields) = []

-- the names of the types of a list of fields, in order
abbrev pub field_type_names : FieldTrees → List Name
field_type_names unit_fields = []
field_type_names (struct_fields fields) = map (λ f. f.ty) fields
field_type_names (tuple_fields fields) = map (λ f. f.ty) fields

-- the names that a variant of a type brings: its full name, its name, its fields
abbrev pub variant_names : List ℕ → VariantTree → List (List ℕ)
variant_names ty v = full_name ty v.name.text ∷ (v.name.text ∷ field_names v.fields)

-- the names inside a type, in order: a primitive type's own, those of each variant, or a struct's fields
abbrev pub names_inside : List ℕ → TypeValueTree → List (List ℕ)
names_inside ty (primitive_value name at) = name.text ∷ []
names_inside ty (enum_value variants at) = flat_map (variant_names ty) variants
names_inside ty (struct_value fields at) = field_names fields

-- all names of the type table, by first meeting: the built-in types, all types, what stands inside each type, the constants
abbrev pub type_names_met : List Definition → List (List ℕ)
type_names_met defs =
    with_names builtin_names (type_names defs ++ flat_map (λ t. names_inside t.name.text t.value) (type_trees defs) ++ map (λ c. c.name.text) (constant_trees defs))

-- the number of a name: its place among the names that were met
abbrev pub name_number : List Definition → List ℕ → ℕ
name_number defs x = number (type_names_met defs) x

-- the names of a type's variants, in order
abbrev pub variants_of : TypeValueTree → List (List ℕ)
variants_of (primitive_value name at) = []
variants_of (enum_value variants at) = map (λ v. v.name.text) variants
variants_of (struct_value fields at) = []

-- the lists of fields of a type: one for each variant, or the struct's
abbrev pub field_lists_of : TypeValueTree → List FieldTrees
field_lists_of (primitive_value name at) = []
field_lists_of (enum_value variants at) = map (λ v. v.fields) variants
field_lists_of (struct_value fields at) = fields ∷ []

-- all lists of fields, in order
abbrev pub field_lists : List Definition → List FieldTrees
field_lists defs = flat_map (λ t. field_lists_of t.value) (type_trees defs)

-- a type is a primitive one
abbrev pub is_primitive : TypeValueTree → Bool
is_primitive (primitive_value name at) = true
is_primitive (enum_value variants at) = false
is_primitive (struct_value fields at) = false

-- the names of all types, each at its id
abbrev pub all_type_names : List Definition → List (List ℕ)
all_type_names defs = builtin_names ++ type_names defs

-- a name is one of these names of types
abbrev pub IsKnownType : List (List ℕ) → Name → Type 0
IsKnownType types n = IsTrue (is_some (place_from 0 n.text types))

-- a type is marked neither extern nor nodebug
abbrev pub IsUnmarked : TypeTree → Type 0
IsUnmarked t = (t.is_extern ≡ false) × (t.is_nodebug ≡ false)

-- a type is unmarked if it is primitive
abbrev pub IsUnmarkedIfPrimitive : TypeTree → Type 0
IsUnmarkedIfPrimitive t = IsTrue (is_primitive t.value) → IsUnmarked t

-- a type is not extern and nodebug at once; it may be neither
abbrev pub HasAtMostOneMark : TypeTree → Type 0
HasAtMostOneMark t = IsTrue (not (t.is_extern && t.is_nodebug))

-- no two variants of a type have one name
abbrev pub HasDistinctVariants : TypeTree → Type 0
HasDistinctVariants t = IsDistinct (variants_of t.value)

-- no two fields of a list have one name
abbrev pub HasDistinctFields : FieldTrees → Type 0
HasDistinctFields fields = IsDistinct (field_names fields)

-- the types of all fields of a list are known
abbrev pub HasKnownTypes : List Definition → FieldTrees → Type 0
HasKnownTypes defs fields = All (IsKnownType (all_type_names defs)) (field_type_names fields)

-- the type of a constant is known
abbrev pub IsOfKnownType : List Definition → ConstantTree → Type 0
IsOfKnownType defs c = IsKnownType (all_type_names defs) c.ty

-- what a list of definitions must meet to have a type table: no two types have one name, the built-in ones included; a
-- primitive type is neither extern nor nodebug, and another type not both; the names of an enum's variants are
-- distinct, and those of the fields of a list; the type of each field and of each constant is known
pub record IsValidTypes (defs : List Definition) : Type 0 where
  pub distinct : IsDistinct (all_type_names defs)
  pub primitives : All IsUnmarkedIfPrimitive (type_trees defs)
  pub marks : All HasAtMostOneMark (type_trees defs)
  pub variants : All HasDistinctVariants (type_trees defs)
  pub fields : All HasDistinctFields (field_lists defs)
  pub types_of_fields : All (HasKnownTypes defs) (field_lists defs)
  pub types_of_constants : All (IsOfKnownType defs) (constant_trees defs)

-- the built-in types, from this id on
abbrev pub builtin_from : ℕ → List (List ℕ) → List TypeEntry
builtin_from n [] = []
builtin_from n (x ∷ xs) = builtin_type n ∷ builtin_from (suc n) xs

-- a field's entry: its id is its place
abbrev pub field_entry : List Definition → List (List ℕ) → ℕ → FieldTree → FieldEntry
field_entry defs names id f = record { name = number names f.name.text; id = id; ty = type_or_first defs f.ty }

-- a tuple field's entry: its id is its place
abbrev pub tuple_field_entry : List Definition → ℕ → TupleFieldTree → TupleFieldEntry
tuple_field_entry defs id f = record { id = id; ty = type_or_first defs f.ty }

-- the entries of a list of fields, where these are the names that were met
abbrev pub field_entries : List Definition → List (List ℕ) → FieldTrees → FieldEntries
field_entries defs names unit_fields = unit_entries
field_entries defs names (struct_fields fields) = struct_entries (map (λ p. field_entry defs names p.0 p.1) (enumerate_from 0 fields))
field_entries defs names (tuple_fields fields) = tuple_entries (map (λ p. tuple_field_entry defs p.0 p.1) (enumerate_from 0 fields))

-- the entry of a variant of a type of this name: its id is its place
abbrev pub variant_entry : List Definition → List (List ℕ) → List ℕ → ℕ → VariantTree → VariantEntry
variant_entry defs names ty id v = record {
  name = number names v.name.text;
  full_name = number names (full_name ty v.name.text);
  id = id;
  fields = field_entries defs names v.fields;
  at = v.at;
}

-- what a type with this value becomes: the name of a primitive type is the inner one
abbrev pub entry_at : List Definition → List (List ℕ) → ℕ → TypeTree → TypeValueTree → TypeEntry
entry_at defs names id t (primitive_value name at) = primitive_type id (number names name.text) t.at
entry_at defs names id t (enum_value variants at) =
    enum_type (number names t.name.text) id t.is_extern t.is_nodebug (map (λ p. variant_entry defs names t.name.text p.0 p.1) (enumerate_from 0 variants)) t.at
entry_at defs names id t (struct_value fields at) = struct_type (number names t.name.text) id t.is_extern t.is_nodebug (field_entries defs names fields) t.at

-- what a type becomes
abbrev pub type_entry : List Definition → List (List ℕ) → ℕ → TypeTree → TypeEntry
type_entry defs names id t = entry_at defs names id t t.value

-- the types of a valid list, each at its id: the built-in ones, then each definition's
abbrev pub type_table : List Definition → List TypeEntry
type_table defs = builtin_from 0 builtin_names ++ map (λ p. type_entry defs (type_names_met defs) p.0 p.1) (enumerate_from 13 (type_trees defs))

-- of the definitions of each constant the last one
abbrev pub last_definitions : List ConstantTree → List ConstantTree
last_definitions [] = []
last_definitions (c ∷ cs) = if has_name (map (λ d. d.name.text) cs) c.name.text then last_definitions cs else c ∷ last_definitions cs

-- the types of the constants by the numbers of their names: one entry for each constant, by its last definition
abbrev pub constant_types : List Definition → List (ℕ × ℕ)
constant_types defs = map (λ c. (name_number defs c.name.text, type_or_first defs c.ty)) (last_definitions (constant_trees defs))

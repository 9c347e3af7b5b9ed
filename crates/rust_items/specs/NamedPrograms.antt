-- The names of a program's things in Rust, kind by kind.
use Rattle.std.specs.Prelude.{ℕ, Bool, true, false, List, [], ◌∷◌, ◌++◌, Option, Some, None, codes, map, slice_get}
use Rattle.std.specs.List.{flat_map}
use Rattle.model.specs.lists.Signatures.{text_of}
use Rattle.cranelift_isle.specs.Tables.{FieldEntry, FieldEntries, unit_entries, struct_entries, tuple_entries, VariantEntry, TypeEntry, builtin_type, primitive_type, enum_type, struct_type, ConstructorEntry, internal_constructor, external_constructor, ExtractorEntry, internal_extractor, external_extractor, TermKindEntry, variant_term, struct_term, declared_term, TermEntry}
use Rattle.rust_items.specs.Claims.{Claim, Namespace}
use Rattle.rust_items.specs.OwnNames.{is_own_type, is_own_value}
use Rattle.rust_items.specs.RustNames.{part, spelled, spelled_path, spelled_constant}

-- what has names: types, terms, the constants by the numbers of their names, and the terms with rules
pub record NamedProgram : Type 0 where
  pub names : List (List ℕ)
  pub types : List TypeEntry
  pub terms : List TermEntry
  pub constants : List ℕ
  pub with_rules : List ℕ

abbrev pub claim : List ℕ → List ℕ → Claim
claim written owner = record { written = written; owner = owner }

-- a thing that is written as an identifier
abbrev pub identified : List (List ℕ) → ℕ → Claim
identified names name = claim (spelled (text_of names name)) (text_of names name)

-- a primitive type is outside, where several types may be one
abbrev pub primitive : List (List ℕ) → ℕ → Claim
primitive names name = claim (spelled_path (text_of names name)) (codes "primitive " ++ text_of names name)

-- a built-in type has no name of the program's
abbrev pub type_claim : List (List ℕ) → TypeEntry → List Claim
type_claim names (builtin_type place) = []
type_claim names (primitive_type id name at) = primitive names name ∷ []
type_claim names (enum_type name id is_extern is_nodebug variants at) = identified names name ∷ []
type_claim names (struct_type name id is_extern is_nodebug fields at) = identified names name ∷ []

abbrev pub field_claim : List (List ℕ) → FieldEntry → Claim
field_claim names f = identified names f.name

abbrev pub field_claims : List (List ℕ) → FieldEntries → List Claim
field_claims names unit_entries = []
field_claims names (struct_entries fields) = map (field_claim names) fields
field_claims names (tuple_entries fields) = []

abbrev pub variant_claim : List (List ℕ) → VariantEntry → Claim
variant_claim names v = identified names v.name

abbrev pub kind_as : List ℕ → List ℕ → (List ℕ → Bool) → List Claim → Namespace
kind_as what one own claims = record { what = what; one = one; own = own; claims = claims }

-- no names are the code's own there
abbrev pub no_own : List ℕ → Bool
no_own name = false

abbrev pub field_kind : List (List ℕ) → FieldEntries → Namespace
field_kind names fields = kind_as (codes "the fields") (codes "field") no_own (field_claims names fields)

abbrev pub variant_kind : List (List ℕ) → List VariantEntry → Namespace
variant_kind names variants = kind_as (codes "the variants") (codes "variant") no_own (map (variant_claim names) variants)

abbrev pub variant_fields : List (List ℕ) → VariantEntry → Namespace
variant_fields names v = field_kind names v.fields

-- the variants of an enum, and the fields of each variant; the fields of a struct
abbrev pub kinds_inside : List (List ℕ) → TypeEntry → List Namespace
kinds_inside names (builtin_type place) = []
kinds_inside names (primitive_type id name at) = []
kinds_inside names (enum_type name id is_extern is_nodebug variants at) = variant_kind names variants ∷ map (variant_fields names) variants
kinds_inside names (struct_type name id is_extern is_nodebug fields at) = field_kind names fields ∷ []

-- functions are told apart also by whether they are pure
abbrev pub purely : (is_pure : Bool) → List ℕ → List ℕ
purely true name = codes "pure " ++ name
purely false name = name

abbrev pub function_claim : List (List ℕ) → (is_pure : Bool) → ℕ → Claim
function_claim names is_pure name = claim (spelled (text_of names name)) (purely is_pure (text_of names name))

abbrev pub constructor_claim : List (List ℕ) → (is_pure : Bool) → Option ConstructorEntry → List Claim
constructor_claim names is_pure None = []
constructor_claim names is_pure (Some internal_constructor) = []
constructor_claim names is_pure (Some (external_constructor name)) = function_claim names is_pure name ∷ []

abbrev pub extractor_claim : List (List ℕ) → Option ExtractorEntry → List Claim
extractor_claim names None = []
extractor_claim names (Some (internal_extractor template)) = []
extractor_claim names (Some (external_extractor name infallible at)) = function_claim names true name ∷ []

-- the functions from outside of a term: an extractor is pure
abbrev pub functions_of_kind : List (List ℕ) → TermKindEntry → List Claim
functions_of_kind names (variant_term variant) = []
functions_of_kind names struct_term = []
functions_of_kind names (declared_term flags made taken) = extractor_claim names taken ++ constructor_claim names flags.pure made

abbrev pub functions_of : List (List ℕ) → TermEntry → List Claim
functions_of names t = functions_of_kind names t.kind

abbrev pub constant_claim : List (List ℕ) → ℕ → Claim
constant_claim names name = claim (spelled_constant (text_of names name)) (text_of names name)

-- the function of a term with rules
abbrev pub constructor_named : List (List ℕ) → ℕ → Claim
constructor_named names name = claim (codes "constructor_" ++ part (text_of names name)) (text_of names name)

abbrev pub constructors_of : List (List ℕ) → Option TermEntry → List Claim
constructors_of names None = []
constructors_of names (Some t) = constructor_named names t.name ∷ []

abbrev pub term_claim : List (List ℕ) → List TermEntry → ℕ → List Claim
term_claim names terms id = constructors_of names (slice_get terms id)

abbrev pub types_kind : NamedProgram → Namespace
types_kind p = kind_as (codes "the types") (codes "type") is_own_type (flat_map (type_claim p.names) p.types)

abbrev pub functions_kind : NamedProgram → Namespace
functions_kind p = kind_as (codes "the functions") (codes "function") no_own (flat_map (functions_of p.names) p.terms)

abbrev pub constants_kind : NamedProgram → Namespace
constants_kind p = kind_as (codes "the constants") (codes "constant") is_own_value (map (constant_claim p.names) p.constants)

abbrev pub terms_kind : NamedProgram → Namespace
terms_kind p = kind_as (codes "the terms") (codes "term") no_own (flat_map (term_claim p.names p.terms) p.with_rules)

-- what is written as a path of one kind, with a word for the kind: constants, `C::f` of functions from outside, functions of terms
abbrev pub path_behind : (front word : List ℕ) → Claim → Claim
path_behind front word c = claim (front ++ c.written) (word ++ c.owner)

-- structs, and the variants of enums
abbrev pub struct_path : List (List ℕ) → ℕ → Claim
struct_path names name = claim (spelled (text_of names name)) (codes "struct " ++ text_of names name)

abbrev pub variant_path : List (List ℕ) → (ty : ℕ) → VariantEntry → Claim
variant_path names ty v = claim (spelled (text_of names ty) ++ (codes "::" ++ spelled (text_of names v.name))) (codes "variant " ++ (text_of names ty ++ (codes "." ++ text_of names v.name)))

abbrev pub type_paths : List (List ℕ) → TypeEntry → List Claim
type_paths names (builtin_type place) = []
type_paths names (primitive_type id name at) = []
type_paths names (enum_type name id is_extern is_nodebug variants at) = map (variant_path names name) variants
type_paths names (struct_type name id is_extern is_nodebug fields at) = struct_path names name ∷ []

abbrev pub paths_among : List (List ℕ) → List TypeEntry → (constants functions with_rules : List Claim) → List Claim
paths_among names types constants functions with_rules =
    map (path_behind [] (codes "constant ")) constants
    ++ (flat_map (type_paths names) types ++ (map (path_behind (codes "C::") (codes "function ")) functions ++ map (path_behind [] (codes "term ")) with_rules))

abbrev pub paths_kind : NamedProgram → Namespace
paths_kind p = kind_as (codes "the paths") (codes "path") no_own
    (paths_among p.names p.types (map (constant_claim p.names) p.constants) (flat_map (functions_of p.names) p.terms) (flat_map (term_claim p.names p.terms) p.with_rules))

-- all kinds
abbrev pub kinds : NamedProgram → List Namespace
kinds p = types_kind p ∷ (flat_map (kinds_inside p.names) p.types ++ functions_kind p ∷ (constants_kind p ∷ (terms_kind p ∷ (paths_kind p ∷ []))))

-- What holds of the tables of all lists of definitions.
use Rattle.std.specs.Prelude.{◌≡◌, ℕ, ◌+◌, ◌<◌, List, [], ◌∷◌, ◌++◌, length, reverse, map, All, option_map, Some, slice_get}
use Rattle.std.specs.Bool.{◌==◌}
use Rattle.std.specs.List.{find, flat_map}
use Rattle.std.specs.Str.{bytes_eq}
use Rattle.model.specs.lists.Syntax.{TypeTree, TypeValueTree, primitive_value, enum_value, struct_value, Definition}
use Rattle.model.specs.lists.Names.{number, IsDistinct}
use Rattle.model.specs.rules.Meaning.{look}
use Rattle.model.specs.lists.Tables.{TermEntry}
use Rattle.model.specs.lists.TypeTable.{type_trees, type_id, full_name, constant_trees, type_names_met, name_number, IsValidTypes, type_entry, type_table, constant_types, type_or_first}
use Rattle.model.specs.lists.TermTable.{decl_names, term_names, term_names_met, term_named, IsValidTerms, term_table, converters}
use Rattle.model.specs.lists.KnownTypes.{KnownTypes, types_of, type_named, IsWellFormed}

-- a fact holds of all lists that are read with well-formed types, and of each list that is read with its own types,
-- valid or not
abbrev pub HoldsOfTerms : (KnownTypes → List Definition → Type 0) → Type 0
HoldsOfTerms P = ((k : KnownTypes) (defs : List Definition) → IsWellFormed k → P k defs) × ((defs : List Definition) → P (types_of defs) defs)

-- the types of a list with valid types are well formed
abbrev pub OwnTypesAreWellFormed : Type 0
OwnTypesAreWellFormed = (defs : List Definition) → IsValidTypes defs → IsWellFormed (types_of defs)

-- no name has two numbers
abbrev pub HasDistinctNames : KnownTypes → List Definition → Type 0
HasDistinctNames k defs = IsDistinct (term_names_met k defs)

abbrev pub NamesStandOnce : Type 0
NamesStandOnce = ((defs : List Definition) → IsDistinct (type_names_met defs)) × HoldsOfTerms HasDistinctNames

-- a name that was met before keeps its number in the term table
abbrev pub NumbersStay : Type 0
NumbersStay = (k : KnownTypes) (defs : List Definition) (n : ℕ) (x : List ℕ) → slice_get k.names n ≡ Some x → slice_get (term_names_met k defs) n ≡ Some x

-- the i-th type, from 0, stands at 13 + i, and in a valid list this is the id of its name
abbrev pub TypesStandAtIds : Type 0
TypesStandAtIds =
    (defs : List Definition) (i : ℕ) (t : TypeTree) → slice_get (type_trees defs) i ≡ Some t
    → (slice_get (type_table defs) (13 + i) ≡ Some (type_entry defs (type_names_met defs) (13 + i) t)) × (IsValidTypes defs → type_id defs t.name.text ≡ Some (13 + i))

-- the id of the name of a well-formed type is the type's
abbrev pub TypesAreFound : Type 0
TypesAreFound = (k : KnownTypes) → IsWellFormed k → (i : ℕ) (x : List ℕ) → slice_get k.type_names i ≡ Some x → type_named k x ≡ Some i

-- in a valid list, the id of the name of a term is the term's
abbrev pub TermsAreFound : Type 0
TermsAreFound = (k : KnownTypes) (defs : List Definition) → IsValidTerms k defs → (i : ℕ) (x : List ℕ) → slice_get (term_names k defs) i ≡ Some x → term_named k defs x ≡ Some i

-- each term stands at its id
abbrev pub TermsStandAtIds : Type 0
TermsStandAtIds = (k : KnownTypes) (defs : List Definition) (n : ℕ) (e : TermEntry) → slice_get (term_table k defs) n ≡ Some e → e.id ≡ n

-- each term has the number of its name, variants and structs too
abbrev pub HaveNumbersOfNames : KnownTypes → List Definition → Type 0
HaveNumbersOfNames k defs = map (λ e. e.name) (term_table k defs) ≡ map (number (term_names_met k defs)) (term_names k defs)

abbrev pub TermsHaveNames : Type 0
TermsHaveNames = HoldsOfTerms HaveNumbersOfNames

-- the types of the arguments and of the result of each term are types
abbrev pub AreOfTypes : KnownTypes → List Definition → Type 0
AreOfTypes k defs = All (λ ty. ty < length k.types) (flat_map (λ e. e.ret_ty ∷ e.arg_tys) (term_table k defs))

abbrev pub TermsAreOfTypes : Type 0
TermsAreOfTypes = HoldsOfTerms AreOfTypes

-- the names of the terms that a type of this name makes: the full name of each variant, or the struct's name
abbrev pub names_made : List ℕ → TypeValueTree → List (List ℕ)
names_made ty (primitive_value name at) = []
names_made ty (enum_value variants at) = map (λ v. full_name ty v.name.text) variants
names_made ty (struct_value fields at) = ty ∷ []

-- the terms of a list that is read with its own types: the declared ones, then those that its types make
abbrev pub TypesMakeTerms : Type 0
TypesMakeTerms = (defs : List Definition) → term_names (types_of defs) defs ≡ decl_names defs ++ flat_map (λ t. names_made t.name.text t.value) (type_trees defs)

-- a constant has the type of the last definition of its name
abbrev pub LastDefinitionCounts : Type 0
LastDefinitionCounts =
    (defs : List Definition) (x : List ℕ)
    → look (λ k. k == name_number defs x) (constant_types defs) ≡ option_map (λ c. type_or_first defs c.ty) (find (λ c. bytes_eq c.name.text x) (reverse (constant_trees defs)))

-- in a valid list no two converters have one pair of types
abbrev pub ConvertersStandOnce : Type 0
ConvertersStandOnce = (k : KnownTypes) (defs : List Definition) → IsValidTerms k defs → IsDistinct (map (λ e. e.0) (converters k defs))

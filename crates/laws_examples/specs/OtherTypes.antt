-- Lists of definitions that are read with types which aren't their own, and types that are not well formed.
use Rattle.std.specs.Prelude.{◌≡◌, ◌∷◌, [], ◌++◌, false, List, codes}
use Rattle.model.specs.lists.KnownTypes.{IsWellFormed, KnownTypes, types_of}
use Rattle.model.specs.lists.Syntax.{Definition, type_definition}
use Rattle.model.specs.lists.Tables.{primitive_type, struct_entries, struct_type, unit_entries}
use Rattle.model.specs.lists.TermTable.{AllDefined, IsValidTerms, term_names_met, term_table}
use Rattle.model.specs.lists.TypeTable.{builtin_from, builtin_names}
use Rattle.laws_examples.specs.Stages.{HasTerms}
use Rattle.laws_examples.specs.TypedForms.{by_rules, entry, no_flags, u8}
use Rattle.laws_examples.specs.Written.{any, at, declared, primitive, rule_to_one, term}

-- (type P (primitive P))
abbrev pub one_type : List Definition
one_type = type_definition (primitive 0 (codes "P") (codes "P")) ∷ []

-- (decl f (P) u8) (rule (f _) 1)
abbrev pub of_that_type : List Definition
of_that_type = declared 0 (codes "f") (codes "P" ∷ []) (codes "u8") ∷ (rule_to_one 1 (term 1 (codes "f") (any 1 ∷ [])) ∷ [])

-- the type comes with the types that are handed in: the list has a term table by them, and none by its own types
abbrev pub TypesHandedIn : Type 0
TypesHandedIn =
    IsWellFormed (types_of one_type)
    × (term_names_met (types_of one_type) of_that_type ≡ builtin_names ++ codes "P" ∷ (codes "f" ∷ []))
    × (term_table (types_of one_type) of_that_type
    ≡ entry 0 0 14 (13 ∷ []) u8 (by_rules no_flags) ∷ [])
    × IsValidTerms (types_of one_type) of_that_type
    × AllDefined of_that_type
    × (HasTerms of_that_type → ⊥)

-- a type that the list defines isn't known where it isn't handed in
abbrev pub OwnTypesDoNotCount : Type 0
OwnTypesDoNotCount = HasTerms (one_type ++ of_that_type) × (IsValidTerms (types_of []) (one_type ++ of_that_type) → ⊥)

-- the built-in types, where g was met before
abbrev pub with_g : KnownTypes
with_g = record (types_of []) { names = builtin_names ++ codes "g" ∷ [] }

-- (decl f () u8) (rule (f) 1)
abbrev pub plain : List Definition
plain = declared 0 (codes "f") [] (codes "u8") ∷ (rule_to_one 1 (term 1 (codes "f") []) ∷ [])

-- names go on after those that were met before
abbrev pub NamesGoOn : Type 0
NamesGoOn =
    IsWellFormed with_g
    × (term_names_met with_g plain ≡ builtin_names ++ codes "g" ∷ (codes "f" ∷ []))
    × (term_table with_g plain ≡ entry 0 0 14 [] u8 (by_rules no_flags) ∷ [])
    × IsValidTerms with_g plain
    × AllDefined plain

-- types with one more, of the name P
abbrev pub with_type : KnownTypes
with_type = types_of one_type

-- not well formed: no types; a name met twice; a type that isn't at its id; a name of no type; a type with a field of no
-- type; a number of no name
pub record IllFormed : Type 0 where
  pub no_types : IsWellFormed (record { names = []; types = []; type_names = [] }) → ⊥
  pub name_twice : IsWellFormed (record with_type { names = builtin_names ++ codes "P" ∷ (codes "P" ∷ []) }) → ⊥
  pub other_id : IsWellFormed (record with_type { types = builtin_from 0 builtin_names ++ primitive_type 14 13 (at 0) ∷ [] }) → ⊥
  pub type_name_twice : IsWellFormed (record with_type { type_names = builtin_names ++ codes "u8" ∷ [] }) → ⊥
  pub type_name_past : IsWellFormed (record with_type { type_names = builtin_names ++ codes "P" ∷ (codes "Q" ∷ []) }) → ⊥
  pub type_name_not_met : IsWellFormed (record with_type { type_names = builtin_names ++ codes "Q" ∷ [] }) → ⊥
  pub field_of_no_type : IsWellFormed (record with_type { types = builtin_from 0 builtin_names ++ struct_type 13 13 false false (struct_entries (record { name = 13; id = 0; ty = 14 } ∷ [])) (at 0) ∷ [] }) → ⊥
  pub number_of_no_name : IsWellFormed (record with_type { types = builtin_from 0 builtin_names ++ struct_type 14 13 false false unit_entries (at 0) ∷ [] }) → ⊥

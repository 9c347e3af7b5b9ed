-- The judges of lists of definitions are exact.
use Rattle.std.specs.Prelude.{◌≡◌, ◌↔◌, Bool, List, Some, None, is_some, Decides}
use Rattle.model.specs.lists.Syntax.{Definition}
use Rattle.model.specs.lists.TypeTable.{IsValidTypes}
use Rattle.model.specs.lists.KnownTypes.{KnownTypes, IsWellFormed}
use Rattle.model.specs.lists.TermTable.{IsAcyclic, IsValidTerms, AllDefined}
use Rattle.model.specs.lists.KnownJudge.{are_well_formed}
use Rattle.model.specs.lists.ListJudge.{has_valid_types, is_acyclic, has_valid_terms, all_defined}
use Rattle.model.specs.lists.Elaborated.{TypedRules}
use Rattle.model.specs.claims.Environments.{TypesRead, AreReadable, IsElaborated, HasTypedRules, IsRead}
use Rattle.model.specs.claims.ReadJudge.{are_readable, elaborated_list, read_list}

-- the judge says so exactly where a list has a type table
abbrev pub TypesAreJudged : Type 0
TypesAreJudged = (defs : List Definition) → Decides (has_valid_types defs) (IsValidTypes defs)

-- the search finds a term that comes back to itself exactly where there is one
abbrev pub CyclesAreFound : Type 0
CyclesAreFound = (defs : List Definition) → Decides (is_acyclic defs) (IsAcyclic defs)

-- the judge says so exactly where a list has a term table, by any types
abbrev pub TermsAreJudged : Type 0
TermsAreJudged = (k : KnownTypes) (defs : List Definition) → Decides (has_valid_terms k defs) (IsValidTerms k defs)

abbrev pub DefinedAreJudged : Type 0
DefinedAreJudged = (defs : List Definition) → Decides (all_defined defs) (AllDefined defs)

-- the judge says so exactly where types that are handed in are well formed
abbrev pub KnownTypesAreJudged : Type 0
KnownTypesAreJudged = (k : KnownTypes) → Decides (are_well_formed k) (IsWellFormed k)

-- and where rules can be read with them
abbrev pub ReadTypesAreJudged : Type 0
ReadTypesAreJudged = (e : TypesRead) → Decides (are_readable e) (AreReadable e)

-- by any types, the judge gives the typed rules of a list, and nothing where it has none
abbrev pub ListsAreElaborated : Type 0
ListsAreElaborated =
    (e : TypesRead) (defs : List Definition) (expand : Bool) (rules : TypedRules) → (elaborated_list e defs expand ≡ Some rules) ↔ IsElaborated e defs expand rules

-- so a list has typed rules exactly where the judge gives some
abbrev pub TypedRulesAreFound : Type 0
TypedRulesAreFound = (e : TypesRead) (defs : List Definition) (expand : Bool) → Decides (is_some (elaborated_list e defs expand)) (HasTypedRules e defs expand)

-- it gives them of a list that is read with its own types
abbrev pub ListsAreRead : Type 0
ListsAreRead = (defs : List Definition) (expand : Bool) (rules : TypedRules) → (read_list defs expand ≡ Some rules) ↔ IsRead defs expand rules

-- and gives nothing exactly where the list isn't read
abbrev pub ListsAreRefused : Type 0
ListsAreRefused = (defs : List Definition) (expand : Bool) → (read_list defs expand ≡ None) ↔ ((rules : TypedRules) → IsRead defs expand rules → ⊥)

-- How far the reading of terms by types that are handed in is, while the terms themselves are collected: the declared ones,
-- and those that types make.
use Rattle.std.specs.Prelude.{◌≡◌, ℕ, ◌<◌, ◌&&◌, true, nat_eq, if◌then◌else◌, List, [], ◌∷◌, ◌++◌, ◌⊎◌, length, map, Option, None, Some, All, Contains, slice_get}
use Rattle.std.specs.List.{enumerate_from, filter_map, flat_map, AllByRecursion}
use Rattle.model.specs.lists.Syntax.{Position, DeclTree, Definition, declaration}
use Rattle.model.specs.lists.Names.{number, with_names, IsDistinct}
use Rattle.model.specs.lists.Tables.{FieldEntries, TypeEntry, ConstructorEntry, ExtractorEntry, TermKindEntry, declared_term, TermEntry}
use Rattle.model.specs.rules.Values.{field_types}
use Rattle.model.specs.lists.KnownTypes.{KnownTypes, known_type}
use Rattle.model.specs.lists.TermTable.{decl_trees, decl_names, decl_flags, made_by, term_names_met, terms_made, HasKnownArguments, HasKnownResult, IsNotBothMultiAndPartial}
use Rattle.model.specs.claims.Environments.{TypesRead, IsLeftByRefusal}
use Rattle.core_syntax.specs.declared.syntax.Error.{Error}
use Rattle.core_types.specs.declared.type_env.TypeEnv.{TypeEnv}
use Rattle.core_types.specs.Envs.{names_of, IsInterned}
use Rattle.core_types.specs.EnvViews.{environment_view}
use Rattle.core_syntax.specs.NotedErrors.{AreIllTyped, NotesMore}
use Rattle.core_terms.specs.declared.term_table.TermTable.{TermTable}
use Rattle.core_types.specs.TypePositions.{entry_positions}
use Rattle.core_terms.specs.TermBreaches.{TermGroup, FirstStandsAt, FirstBreaksGroup}
use Rattle.core_terms.specs.TermTables.{term_at}
use Rattle.core_terms.specs.TermViews.{term_views}
use Rattle.core_terms.specs.Reading.{IsWithin, Interns, AddsTerm, IsTakenByTerm, HasUnknown}
use Rattle.core_terms.specs.Stages.{Finds, place_among, HasNoConverter}

-- nothing was noted and this is right, or something was, and this is wrong
abbrev pub NotesIfWrong : List Error → List Error → Type 0 → Type 0 → Type 0
NotesIfWrong es es' Right Wrong = ((es' ≡ es) × Right) ⊎ (NotesMore es es' × Wrong)

-- there is no error so far, or the first one stands where a condition of the group is broken
abbrev pub SoFarByTypes : KnownTypes → TermGroup → List Definition → List Error → Type 0 → Type 0
SoFarByTypes k group defs es Right = ((es ≡ []) × Right) ⊎ FirstBreaksGroup k group defs es

-- names were met and all else of the types stays; looked-up terms are terms of the table; each error says that
-- something isn't right; and where there is no error the table is right so far
pub record ReadsTerms (e : TypesRead) (group : TermGroup) (defs : List Definition) (Right : TypeEnv → TermTable → Type 0)
    (env : TypeEnv) (table : TermTable) (es : List Error) : Type 0 where
  pub left : IsLeftByRefusal e (environment_view env)
  pub within : IsWithin table
  pub ill_typed : AreIllTyped es
  pub so_far : SoFarByTypes e.known group defs es (Right env table)

-- terms, each with its id, from this id on
abbrev pub with_ids : ℕ → List (ℕ → TermEntry) → List TermEntry
with_ids n fs = map (λ p. p.1 p.0) (enumerate_from n fs)

-- a declared term, where it is known so far what makes each term, and what takes it apart
abbrev pub declared_so_far : KnownTypes → List (List ℕ) → (List ℕ → Option ConstructorEntry) → (List ℕ → Option ExtractorEntry) → DeclTree → ℕ → TermEntry
declared_so_far k names made taken d id = record {
  id = id;
  at = d.at;
  name = number names d.term.text;
  arg_tys = map (known_type k) d.arg_tys;
  ret_ty = known_type k d.ret_ty;
  kind = declared_term (decl_flags d) (made d.term.text) (taken d.term.text);
}

-- a declared term before anything is known of what makes it and takes it apart
abbrev pub declared_alone : TypesRead → List Definition → DeclTree → ℕ → TermEntry
declared_alone e defs = declared_so_far e.known (term_names_met e.known defs) (λ x. None) (λ x. None)

-- the table has terms of these names, each found by its name, which are these; and these names were met
pub record HoldsTerms (e : TypesRead) (met named : List (List ℕ)) (fs : List (ℕ → TermEntry)) (env : TypeEnv) (table : TermTable) : Type 0 where
  pub names : names_of env ≡ with_names e.known.names met
  pub finds : Finds (names_of env) (term_at table) (place_among named)
  pub distinct : IsDistinct named
  pub terms : term_views table.terms.items ≡ with_ids 0 fs
  pub count : length fs ≡ length named
  pub converters : HasNoConverter table

-- what is said of declarations by themselves
pub record AreRightDeclarations (k : KnownTypes) (ds : List DeclTree) : Type 0 where
  pub arguments : All (HasKnownArguments k) ds
  pub results : All (HasKnownResult k) ds
  pub marks : All IsNotBothMultiAndPartial ds

-- the declarations among the first definitions are read
pub record Declaring (e : TypesRead) (defs read : List Definition) (env : TypeEnv) (table : TermTable) : Type 0 where
  pub has : HoldsTerms e (decl_names read) (decl_names read) (map (declared_alone e defs) (decl_trees read)) env table
  pub right : AreRightDeclarations e.known (decl_trees read)

-- the names of the terms that types make, by the numbers of these names
abbrev pub texts_at : TypesRead → List ℕ → List (List ℕ)
texts_at e numbers = filter_map (slice_get e.known.names) numbers

-- a declaration becomes the next term, by a name that was no term's
pub record Declares (d : DeclTree) (old new : TypeEnv) (table table' : TermTable) : Type 0 where
  pub interns : Interns d.term.text old new
  pub free : term_at table (number (names_of old) d.term.text) ≡ None
  pub marks : IsNotBothMultiAndPartial d
  pub adds : AddsTerm d new (number (names_of old) d.term.text) table table'

-- what is wrong with a declaration: its name is a term's already, it has both marks, or a type isn't known
abbrev pub IsWrongDeclaration : DeclTree → TypeEnv → TypeEnv → TermTable → Type 0
IsWrongDeclaration d old new table =
    IsTakenByTerm (number (names_of old) d.term.text) table ⊎ (((d.multi && d.partial) ≡ true) ⊎ HasUnknown d new)

-- a declaration is read: its name is met, and it becomes a term or something is wrong with it
pub record ReadsDeclaration (d : DeclTree) (old : TypeEnv) (table : TermTable) (es : List Error)
    (new : TypeEnv) (table' : TermTable) (es' : List Error) : Type 0 where
  pub interns : Interns d.term.text old new
  pub reads : NotesIfWrong es es' (Declares d old new table table') (IsWrongDeclaration d old new table)

-- a definition is read, if it is a declaration
abbrev pub ReadsIfDeclared : Definition → TypeEnv → TermTable → List Error → TypeEnv → TermTable → List Error → Type 0
ReadsIfDeclared (declaration d) old table es new table' es' = ReadsDeclaration d old table es new table' es'
ReadsIfDeclared d old table es new table' es' = (es' ≡ es) × (new ≡ old) × (table' ≡ table)

-- a term that a type makes, by the number of its name
abbrev pub made_entry : ℕ → ℕ → FieldEntries → Position → TermKindEntry → ℕ → TermEntry
made_entry name ret_ty fields at kind id = record { id = id; at = at; name = name; arg_tys = field_types fields; ret_ty = ret_ty; kind = kind }

-- the next term has the name of this number
pub record PushesTerm (name : ℕ) (f : ℕ → TermEntry) (old new : TermTable) : Type 0 where
  pub ids : (k : ℕ) → term_at new k ≡ (if nat_eq name k then Some (length old.terms.items) else term_at old k)
  pub terms : term_views new.terms.items ≡ term_views old.terms.items ++ f (length old.terms.items) ∷ []
  pub converters : new.converters ≡ old.converters

-- the numbers of these names are those of names that were met before
abbrev pub NumbersAreMet : TypesRead → List ℕ → Type 0
NumbersAreMet e numbers = AllByRecursion (λ n. n < length e.known.names) numbers

-- to any terms that there are, these are added with the names of these numbers
abbrev pub GrowsBy : List ℕ → List (ℕ → TermEntry) → TermTable → TermTable → Type 0
GrowsBy numbers gs old new =
    (e : TypesRead) (met named : List (List ℕ)) (fs : List (ℕ → TermEntry)) (env : TypeEnv) → IsInterned env → NumbersAreMet e numbers
    → HoldsTerms e met named fs env old → HoldsTerms e met (named ++ texts_at e numbers) (fs ++ gs) env new

-- one of the names of these numbers is among those before, or stands twice among them
pub record StandsTwice (e : TypesRead) (named : List (List ℕ)) (numbers : List ℕ) : Type 0 where
  pub earlier : List ℕ
  pub number : ℕ
  pub later : List ℕ
  pub is : numbers ≡ earlier ++ number ∷ later
  pub name : List ℕ
  pub name_is : slice_get e.known.names number ≡ Some name
  pub taken : Contains (named ++ texts_at e earlier) name

-- one of the names of these numbers is a term's already, or stands twice among them
abbrev pub AreTaken : List ℕ → TermTable → Type 0
AreTaken numbers old =
    (e : TypesRead) (met named : List (List ℕ)) (fs : List (ℕ → TermEntry)) (env : TypeEnv) → IsInterned env → NumbersAreMet e numbers
    → HoldsTerms e met named fs env old → StandsTwice e named numbers

-- the terms that a type makes are added, or one has a name that is taken
abbrev pub AddsMade : List ℕ → List (ℕ → TermEntry) → TermTable → List Error → TermTable → List Error → Type 0
AddsMade numbers gs old es new es' = NotesIfWrong es es' (GrowsBy numbers gs old new) (AreTaken numbers old)

-- after the terms of some of these types are added, the next one makes a term whose name is taken, and the first error stands
-- at that type
pub record TakesNames (types : List TypeEntry) (old : TermTable) (es es' : List Error) : Type 0 where
  pub before : List TypeEntry
  pub entry : TypeEntry
  pub after : List TypeEntry
  pub whole : types ≡ before ++ entry ∷ after
  pub mid : TermTable
  pub grows : GrowsBy (flat_map made_by before) (flat_map terms_made before) old mid
  pub taken : AreTaken (made_by entry) mid
  pub begins : FirstStandsAt (entry_positions entry) es es'

-- the terms that these types make are added, or one has a name that is taken
abbrev pub AddsAllMade : List TypeEntry → TermTable → List Error → TermTable → List Error → Type 0
AddsAllMade types old es new es' = NotesIfWrong es es' (GrowsBy (flat_map made_by types) (flat_map terms_made types) old new) (TakesNames types old es es')

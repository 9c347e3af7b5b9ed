-- How far the reading of internal extractors by types that are handed in is, and which terms they name.
use Rattle.std.specs.Prelude.{◌≡◌, ◌≢◌, ℕ, ◌<◌, ◌&&◌, not, Bool, true, false, List, [], ◌∷◌, ◌++◌, ◌⊎◌, length, map, Option, None, Some, is_some, unwrap_or, option_map, All, Contains, IsTrue, slice_get, Vec}
use Rattle.std.specs.List.Sorted.{IsPermutation}
use Rattle.std.specs.declared.alloc.Global.{Global}
use Rattle.model.specs.lists.Syntax.{Name, ExtractorTree, Definition, extractor_definition}
use Rattle.model.specs.lists.Names.{IsDistinct}
use Rattle.model.specs.lists.Tables.{internal_extractor, TermKindEntry, variant_term, struct_term, declared_term, TermEntry}
use Rattle.model.specs.lists.TermTable.{decl_names, rule_trees, extractor_trees, extractor_template, terms_in, arguments_in, term_named, HasDeclaredRoot, IsDeclaredTerm, IsOfPlainTerm, NamesKnownTerms, HoldsNoMacroArg, UsesDeclaredArguments}
use Rattle.model.specs.claims.Environments.{TypesRead}
use Rattle.core_syntax.specs.declared.syntax.Error.{Error}
use Rattle.core_types.specs.declared.ids.TermId.{TermId}
use Rattle.core_types.specs.declared.type_env.TypeEnv.{TypeEnv}
use Rattle.core_terms.specs.declared.term_table.TermTable.{TermTable}
use Rattle.core_terms.specs.TermViews.{term_views}
use Rattle.core_terms.specs.Reading.{term_of_name}
use Rattle.core_terms.specs.Stages.{HasNoConverter, constructor_after}
use Rattle.core_terms.specs.Signing.{NotesIfWrong}
use Rattle.core_terms.specs.ReadTerms.{Stand, Changes}
use Rattle.core_terms.specs.Converting.{template_after}
use Rattle.core_terms.specs.Externing.{taken_by_this, with_kind}

-- the terms that the template of a term names
abbrev pub callees_of : List (Vec TermId Global) → ℕ → List ℕ
callees_of callees t = unwrap_or (option_map (λ v. map (λ u. u.0) v.items) (slice_get callees t)) []

-- no term names any
pub record NameNothing (count : ℕ) (callees : List (Vec TermId Global)) : Type 0 where
  pub count_is : length callees ≡ count
  pub nothing : (t : ℕ) → callees_of callees t ≡ []

-- it is told of each term of a table which terms it names, and these are terms of the table
pub record AreCallees (table : TermTable) (callees : List (Vec TermId Global)) : Type 0 where
  pub count : length callees ≡ length table.terms.items
  pub within : (t u : ℕ) → Contains (callees_of callees t) u → u < length table.terms.items

-- a term names these now, in any order, and all else is as it was
pub record SetsCallees (t : ℕ) (named : List ℕ) (old new : List (Vec TermId Global)) : Type 0 where
  pub count : length new ≡ length old
  pub this : IsPermutation named (callees_of new t)
  pub others : (u : ℕ) → u ≢ t → callees_of new u ≡ callees_of old u

-- the extractor of a term names a term
pub record IsCall (e : TypesRead) (defs : List Definition) (es : List ExtractorTree) (t u : ℕ) : Type 0 where
  pub definition : ExtractorTree
  pub there : Contains es definition
  pub of_term : term_named e.known defs definition.term.text ≡ Some t
  pub name : Name
  pub calls : Contains (terms_in definition.template) name
  pub is_term : term_named e.known defs name.text ≡ Some u

-- the terms that are named are those that these extractors name
pub record CallsAreOf (e : TypesRead) (defs : List Definition) (es : List ExtractorTree) (callees : List (Vec TermId Global)) : Type 0 where
  pub there : (t u : ℕ) → IsCall e defs es t u → Contains (callees_of callees t) u
  pub said : (t u : ℕ) → Contains (callees_of callees t) u → IsCall e defs es t u

-- what is said of internal extractors by themselves
pub record AreRightExtractors (e : TypesRead) (defs : List Definition) (es : List ExtractorTree) : Type 0 where
  pub terms : All (λ x. IsDeclaredTerm defs x.term) es
  pub plain : All (IsOfPlainTerm defs) es
  pub known : All (NamesKnownTerms e.known defs) es
  pub no_macro_args : All HoldsNoMacroArg es
  pub arguments : All (UsesDeclaredArguments defs) es
  pub distinct : IsDistinct (map (λ x. x.term.text) es)

-- the internal extractors among the first definitions are read, and name these terms
pub record TemplatesRead (e : TypesRead) (defs read : List Definition) (callees : List (Vec TermId Global)) (env : TypeEnv) (table : TermTable) : Type 0 where
  pub stand : Stand e defs (decl_names defs) (constructor_after (rule_trees defs)) (template_after (extractor_trees read)) env table
  pub roots : All (HasDeclaredRoot defs) (rule_trees defs)
  pub right : AreRightExtractors e defs (extractor_trees read)
  pub calls : CallsAreOf e defs (extractor_trees read) callees
  pub converters : HasNoConverter table

-- whether a term can have an internal extractor: a declared one that nothing takes apart yet, and that isn't multi
abbrev pub may_have_template : TermKindEntry → Bool
may_have_template (variant_term variant) = false
may_have_template struct_term = false
may_have_template (declared_term flags constructor_kind extractor_kind) = not (is_some extractor_kind) && not flags.multi

-- these are the terms of these names
abbrev pub AreFound : TypeEnv → TermTable → List Name → List ℕ → Type 0
AreFound env table names ids = map Some ids ≡ map (term_of_name env table) names

-- a name is that of a term
abbrev pub IsFoundTerm : TypeEnv → TermTable → Name → Type 0
IsFoundTerm env table n = IsTrue (is_some (term_of_name env table n))

-- one of these names is no term's
abbrev pub HaveUnknown : TypeEnv → TermTable → List Name → Type 0
HaveUnknown env table names = All (IsFoundTerm env table) names → ⊥

-- the term of a name is added
pub record AddsFound (found : Option ℕ) (old new : List TermId) : Type 0 where
  pub id : TermId
  pub is : found ≡ Some id.0
  pub adds : new ≡ old ++ id ∷ []

-- arguments of these numbers are among so many
abbrev pub AreArguments : ℕ → List ℕ → Type 0
AreArguments count arguments = All (λ i. i < count) arguments

-- the pattern of an extractor becomes the template of a term
pub record TakesTemplate (x : ExtractorTree) (id : ℕ) (old new : TermTable) : Type 0 where
  pub entry : TermEntry
  pub at : slice_get (term_views old.terms.items) id ≡ Some entry
  pub passes : may_have_template entry.kind ≡ true
  pub arguments : AreArguments (length entry.arg_tys) (arguments_in (extractor_template x))
  pub changes : Changes (with_kind (taken_by_this (internal_extractor (extractor_template x)))) id old new

-- a term can't have it as its template
pub record CantTakeTemplate (x : ExtractorTree) (id : ℕ) (old : TermTable) : Type 0 where
  pub entry : TermEntry
  pub at : slice_get (term_views old.terms.items) id ≡ Some entry
  pub fails : (may_have_template entry.kind ≡ false) ⊎ (AreArguments (length entry.arg_tys) (arguments_in (extractor_template x)) → ⊥)

-- an internal extractor of a term is read: its pattern holds no macro argument and names terms, and becomes the template of
-- its term
pub record IsTemplate (x : ExtractorTree) (id : ℕ) (env : TypeEnv) (old new : TermTable) (callees callees' : List (Vec TermId Global)) : Type 0 where
  pub no_macro_args : HoldsNoMacroArg x
  pub named : List ℕ
  pub names : AreFound env old (terms_in x.template) named
  pub sets : SetsCallees id named callees callees'
  pub takes : TakesTemplate x id old new

-- what is wrong with an internal extractor of a term
abbrev pub IsWrongTemplate : ExtractorTree → ℕ → TypeEnv → TermTable → Type 0
IsWrongTemplate x id env old = (HoldsNoMacroArg x → ⊥) ⊎ (HaveUnknown env old (terms_in x.template) ⊎ CantTakeTemplate x id old)

-- an internal extractor is that of a term, and is read
pub record IsExtractor (x : ExtractorTree) (env : TypeEnv) (old new : TermTable) (callees callees' : List (Vec TermId Global)) : Type 0 where
  pub id : ℕ
  pub found : term_of_name env old x.term ≡ Some id
  pub is : IsTemplate x id env old new callees callees'

-- it is that of a term, and something is wrong with it
pub record IsWrongOfTerm (x : ExtractorTree) (env : TypeEnv) (old : TermTable) : Type 0 where
  pub id : ℕ
  pub found : term_of_name env old x.term ≡ Some id
  pub wrong : IsWrongTemplate x id env old

-- an internal extractor is read; the reading ends where it isn't that of a term
abbrev pub ReadsExtractor : ExtractorTree → TypeEnv → TermTable → List (Vec TermId Global) → List Error
    → TermTable → List (Vec TermId Global) → List Error → Bool → Type 0
ReadsExtractor x env old callees es new callees' es' goes_on =
    NotesIfWrong es es' ((goes_on ≡ true) × IsExtractor x env old new callees callees') ((term_of_name env old x.term ≡ None) ⊎ IsWrongOfTerm x env old)

-- a definition is read, if it is an internal extractor
abbrev pub ReadsIfTemplate : Definition → TypeEnv → TermTable → List (Vec TermId Global) → List Error
    → TermTable → List (Vec TermId Global) → List Error → Bool → Type 0
ReadsIfTemplate (extractor_definition x) env old callees es new callees' es' goes_on = ReadsExtractor x env old callees es new callees' es' goes_on
ReadsIfTemplate d env old callees es new callees' es' goes_on = (es' ≡ es) × (new ≡ old) × (callees' ≡ callees) × (goes_on ≡ true)

-- How far the reading of terms by types that are handed in is, once all terms stand: what makes each and what takes it apart
-- is read then.
use Rattle.std.specs.Prelude.{◌≡◌, ℕ, zero, suc, Bool, true, false, List, [], ◌∷◌, ◌++◌, ◌⊎◌, map, Option, None, Some, All, slice_get}
use Rattle.std.specs.List.{flat_map}
use Rattle.model.specs.lists.Syntax.{RuleTree, Definition, rule_definition}
use Rattle.model.specs.lists.Names.{with_names, IsDistinct}
use Rattle.model.specs.lists.Tables.{ConstructorEntry, ExtractorEntry, TermKindEntry, variant_term, struct_term, declared_term, TermEntry}
use Rattle.model.specs.lists.TermTable.{decl_trees, decl_names, rule_trees, term_names, term_names_met, terms_made, HasDeclaredRoot}
use Rattle.model.specs.claims.Environments.{TypesRead}
use Rattle.core_syntax.specs.declared.syntax.Error.{Error}
use Rattle.core_types.specs.declared.type_env.TypeEnv.{TypeEnv}
use Rattle.core_types.specs.Envs.{names_of}
use Rattle.core_terms.specs.declared.term_table.TermTable.{TermTable}
use Rattle.core_terms.specs.TermTables.{term_at}
use Rattle.core_terms.specs.TermViews.{term_views}
use Rattle.core_terms.specs.Reading.{internal_entry, root_term_id}
use Rattle.core_terms.specs.Stages.{Finds, place_among, HasNoConverter, constructor_after}
use Rattle.core_terms.specs.Signing.{with_ids, declared_so_far, AreRightDeclarations, NotesIfWrong}

-- all terms stand, each found by its name, and these names were met; of the declared ones it is known so far what makes them
-- and what takes them apart
pub record Stand (e : TypesRead) (defs : List Definition) (met : List (List ℕ)) (made : List ℕ → Option ConstructorEntry)
    (taken : List ℕ → Option ExtractorEntry) (env : TypeEnv) (table : TermTable) : Type 0 where
  pub names : names_of env ≡ with_names e.known.names met
  pub finds : Finds (names_of env) (term_at table) (place_among (term_names e.known defs))
  pub distinct : IsDistinct (term_names e.known defs)
  pub right : AreRightDeclarations e.known (decl_trees defs)
  pub terms : term_views table.terms.items
      ≡ with_ids 0 (map (declared_so_far e.known (term_names_met e.known defs) made taken) (decl_trees defs) ++ flat_map terms_made e.known.types)

-- whether a term is a declared one
abbrev pub is_declared_kind : TermKindEntry → Bool
is_declared_kind (variant_term variant) = false
is_declared_kind struct_term = false
is_declared_kind (declared_term flags constructor_kind extractor_kind) = true

-- the entries, of which one is changed
abbrev pub change : (TermEntry → TermEntry) → ℕ → List TermEntry → List TermEntry
change g n [] = []
change g zero (e ∷ es) = g e ∷ es
change g (suc n) (e ∷ es) = e ∷ change g n es

-- one term is changed, and nothing else
pub record Changes (g : TermEntry → TermEntry) (id : ℕ) (old new : TermTable) : Type 0 where
  pub terms : term_views new.terms.items ≡ change g id (term_views old.terms.items)
  pub term_map : new.term_map ≡ old.term_map
  pub converters : new.converters ≡ old.converters

-- the terms of the rules among the first definitions are read
pub record RootsRead (e : TypesRead) (defs read : List Definition) (env : TypeEnv) (table : TermTable) : Type 0 where
  pub stand : Stand e defs (decl_names defs) (constructor_after (rule_trees read)) (λ x. None) env table
  pub roots : All (HasDeclaredRoot defs) (rule_trees read)
  pub converters : HasNoConverter table

-- a rule is of a declared term, which is made by rules now
pub record IsOfDeclared (r : RuleTree) (env : TypeEnv) (old new : TermTable) : Type 0 where
  pub id : ℕ
  pub root : root_term_id env old r ≡ Some id
  pub entry : TermEntry
  pub at : slice_get (term_views old.terms.items) id ≡ Some entry
  pub declared : is_declared_kind entry.kind ≡ true
  pub changes : Changes internal_entry id old new

-- a rule is of a term that a type makes
pub record IsOfMade (r : RuleTree) (env : TypeEnv) (old : TermTable) : Type 0 where
  pub id : ℕ
  pub root : root_term_id env old r ≡ Some id
  pub entry : TermEntry
  pub at : slice_get (term_views old.terms.items) id ≡ Some entry
  pub made : is_declared_kind entry.kind ≡ false

-- a rule is of a declared term, or of no term or of one that a type makes
abbrev pub ReadsRuleRoot : RuleTree → TypeEnv → TermTable → List Error → TermTable → List Error → Type 0
ReadsRuleRoot r env old es new es' = NotesIfWrong es es' (IsOfDeclared r env old new) ((root_term_id env old r ≡ None) ⊎ IsOfMade r env old)

-- a definition is read, if it is a rule
abbrev pub ReadsIfRule : Definition → TypeEnv → TermTable → List Error → TermTable → List Error → Type 0
ReadsIfRule (rule_definition r) env old es new es' = ReadsRuleRoot r env old es new es'
ReadsIfRule d env old es new es' = (es' ≡ es) × (new ≡ old)

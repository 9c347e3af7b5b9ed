-- How far the reading of external constructors and extractors by types that are handed in is.
use Rattle.std.specs.Prelude.{◌≡◌, ℕ, ◌&&◌, List, ◌++◌, map, Option, Some, All, option_map, if◌then◌else◌}
use Rattle.std.specs.Bool.{◌==◌}
use Rattle.std.specs.List.{find, flat_map}
use Rattle.std.specs.Str.{bytes_eq}
use Rattle.model.specs.lists.Syntax.{ExternTree, extern_constructor, extern_extractor, extern_const, Definition, extern_definition}
use Rattle.model.specs.lists.Names.{number, has_name, IsDistinct}
use Rattle.model.specs.rules.Meaning.{look}
use Rattle.model.specs.lists.Tables.{ConstructorEntry, internal_constructor, external_constructor, ExtractorEntry, internal_extractor, external_extractor}
use Rattle.model.specs.lists.TermTable.{ConstructorTree, ExternalTree, decl_names, function_of, constructor_trees, external_trees, extractor_trees, internal_extractors, extractor_template, has_rules, term_names_met, converters, IsDeclaredTerm, IsWithoutRules}
use Rattle.model.specs.claims.Environments.{TypesRead}
use Rattle.core_syntax.specs.declared.syntax.Error.{Error}
use Rattle.core_types.specs.declared.type_env.TypeEnv.{TypeEnv}
use Rattle.core_types.specs.Envs.{names_of}
use Rattle.core_terms.specs.declared.term_table.TermTable.{TermTable}
use Rattle.core_terms.specs.Reading.{Interns}
use Rattle.core_terms.specs.ReadTerms.{Stand}
use Rattle.core_terms.specs.Converting.{converter_at}
use Rattle.core_terms.specs.Externing.{lacks_constructor, lacks_extractor, made_by_this, taken_by_this, ReadsKind}

-- what makes a term of a name, when these external constructors are read
abbrev pub function_after : TypesRead → List Definition → List ConstructorTree → List ℕ → Option ConstructorEntry
function_after e defs cs x =
    if has_rules defs x then Some internal_constructor
    else option_map (λ c. external_constructor (number (term_names_met e.known defs) c.function.text)) (find (λ c. bytes_eq c.term.text x) cs)

-- what takes it apart, when these external extractors are read
abbrev pub external_after : TypesRead → List Definition → List ExternalTree → List ℕ → Option ExtractorEntry
external_after e defs es x =
    if has_name (internal_extractors defs) x
    then option_map (λ t. internal_extractor (extractor_template t)) (find (λ t. bytes_eq t.term.text x) (extractor_trees defs))
    else option_map (λ t. external_extractor (number (term_names_met e.known defs) t.function.text) t.infallible t.at) (find (λ t. bytes_eq t.term.text x) es)

-- what is said of external constructors by themselves
pub record AreRightConstructors (defs : List Definition) (cs : List ConstructorTree) : Type 0 where
  pub terms : All (λ c. IsDeclaredTerm defs c.term) cs
  pub without_rules : All (IsWithoutRules defs) cs
  pub distinct : IsDistinct (map (λ c. c.term.text) cs)

-- what is said of external extractors, beside the internal ones
pub record AreRightExternals (defs : List Definition) (es : List ExternalTree) : Type 0 where
  pub terms : All (λ t. IsDeclaredTerm defs t.term) es
  pub distinct : IsDistinct (internal_extractors defs ++ map (λ t. t.term.text) es)

-- the external functions among the first definitions are read
pub record ExternsRead (e : TypesRead) (defs read : List Definition) (env : TypeEnv) (table : TermTable) : Type 0 where
  pub stand : Stand e defs (decl_names defs ++ flat_map function_of read) (function_after e defs (constructor_trees read))
      (external_after e defs (external_trees read)) env table
  pub constructors : AreRightConstructors defs (constructor_trees read)
  pub externals : AreRightExternals defs (external_trees read)
  pub conversions : (i o : ℕ) → converter_at table i o ≡ look (λ k. (k.0 == i) && (k.1 == o)) (converters e.known defs)

-- an external constructor or extractor is read: the name of its function is met, and the function makes its term, or takes
-- it apart
abbrev pub ReadsExtern : ExternTree → TypeEnv → TermTable → List Error → TypeEnv → TermTable → List Error → Type 0
ReadsExtern (extern_constructor term function at) old table es new table' es' =
    Interns function.text old new
    × ReadsKind lacks_constructor (made_by_this (external_constructor (number (names_of old) function.text))) term new table es table' es'
ReadsExtern (extern_extractor term function at infallible) old table es new table' es' =
    Interns function.text old new
    × ReadsKind lacks_extractor (taken_by_this (external_extractor (number (names_of old) function.text) infallible at)) term new table es table' es'
ReadsExtern (extern_const name ty at) old table es new table' es' = (es' ≡ es) × (new ≡ old) × (table' ≡ table)

-- a definition is read, if it is external
abbrev pub ReadsIfExtern : Definition → TypeEnv → TermTable → List Error → TypeEnv → TermTable → List Error → Type 0
ReadsIfExtern (extern_definition x) old table es new table' es' = ReadsExtern x old table es new table' es'
ReadsIfExtern d old table es new table' es' = (es' ≡ es) × (new ≡ old) × (table' ≡ table)

-- How far the reading of converters by types that are handed in is.
use Rattle.std.specs.Prelude.{◌≡◌, ℕ, ◌&&◌, List, ◌⊎◌, map, Option, None, Some, All, option_map, if◌then◌else◌}
use Rattle.std.specs.List.{find}
use Rattle.std.specs.Str.{bytes_eq}
use Rattle.std.specs.Bool.{◌==◌}
use Rattle.model.specs.lists.Syntax.{ConverterTree, ExtractorTree, Definition, converter_definition}
use Rattle.model.specs.lists.Names.{IsDistinct}
use Rattle.model.specs.rules.Meaning.{look}
use Rattle.model.specs.lists.Tables.{ExtractorEntry, internal_extractor}
use Rattle.model.specs.lists.KnownTypes.{KnownTypes, known_type}
use Rattle.model.specs.lists.TermTable.{decl_names, rule_trees, extractor_trees, extractor_template, converter_trees, converted_pairs, known_term, IsKnownConverter}
use Rattle.model.specs.claims.Environments.{TypesRead}
use Rattle.core_syntax.specs.declared.syntax.Error.{Error}
use Rattle.core_syntax.specs.Stable.{look_up}
use Rattle.core_types.specs.declared.ids.TypeId.{TypeId}
use Rattle.core_syntax.specs.Positions.{converter_positions}
use Rattle.core_types.specs.ToldErrors.{Notes}
use Rattle.core_types.specs.declared.type_env.TypeEnv.{TypeEnv}
use Rattle.core_types.specs.Envs.{type_of_name}
use Rattle.core_terms.specs.declared.term_table.TermTable.{TermTable}
use Rattle.core_terms.specs.TermTables.{same_types}
use Rattle.core_terms.specs.Reading.{term_of_name}
use Rattle.core_terms.specs.Stages.{constructor_after}
use Rattle.core_terms.specs.ReadTerms.{Stand}

-- a type by its id
abbrev pub type_by_id : ℕ → TypeId
type_by_id n = record { 0 = n }

-- the term that converts an inner type into an outer one
abbrev pub converter_at : TermTable → ℕ → ℕ → Option ℕ
converter_at table i o = option_map (λ t. t.0) (look_up same_types table.converters (type_by_id i, type_by_id o))

-- the pair of types of a converter, by name
abbrev pub pair_of : ConverterTree → List ℕ × List ℕ
pair_of c = (c.inner_ty.text, c.outer_ty.text)

-- what a converter becomes
abbrev pub converter_entry : KnownTypes → List Definition → ConverterTree → (ℕ × ℕ) × ℕ
converter_entry k defs c = ((known_type k c.inner_ty, known_type k c.outer_ty), known_term k defs c.term)

-- what takes a term of a name apart, when these internal extractors are read
abbrev pub template_after : List ExtractorTree → List ℕ → Option ExtractorEntry
template_after es x = option_map (λ e. internal_extractor (extractor_template e)) (find (λ e. bytes_eq e.term.text x) es)

-- the converters among the first definitions are read
pub record ConvertersRead (e : TypesRead) (defs read : List Definition) (env : TypeEnv) (table : TermTable) : Type 0 where
  pub stand : Stand e defs (decl_names defs) (constructor_after (rule_trees defs)) (template_after (extractor_trees defs)) env table
  pub known : All (IsKnownConverter e.known defs) (converter_trees read)
  pub distinct : IsDistinct (converted_pairs read)
  pub conversions : (i o : ℕ) → converter_at table i o ≡ look (λ k. (k.0 == i) && (k.1 == o)) (map (converter_entry e.known defs) (converter_trees read))

-- a converter of known types and of a known term becomes that of a pair that has none
pub record Converts (c : ConverterTree) (env : TypeEnv) (old new : TermTable) : Type 0 where
  pub inner : ℕ
  pub outer : ℕ
  pub term : ℕ
  pub inner_is : type_of_name env c.inner_ty.text ≡ Some inner
  pub outer_is : type_of_name env c.outer_ty.text ≡ Some outer
  pub term_is : term_of_name env old c.term ≡ Some term
  pub free : converter_at old inner outer ≡ None
  pub conversions : (i o : ℕ) → converter_at new i o ≡ (if (inner == i) && (outer == o) then Some term else converter_at old i o)
  pub terms : new.terms ≡ old.terms
  pub term_map : new.term_map ≡ old.term_map

-- a pair of known types has a converter already
pub record IsConverted (c : ConverterTree) (env : TypeEnv) (old : TermTable) : Type 0 where
  pub inner : ℕ
  pub outer : ℕ
  pub id : ℕ
  pub inner_is : type_of_name env c.inner_ty.text ≡ Some inner
  pub outer_is : type_of_name env c.outer_ty.text ≡ Some outer
  pub taken : converter_at old inner outer ≡ Some id

-- what is wrong with a converter: a type or the term isn't known, or the pair has a converter already
abbrev pub IsWrongConverter : ConverterTree → TypeEnv → TermTable → Type 0
IsWrongConverter c env old =
    (type_of_name env c.inner_ty.text ≡ None) ⊎ ((type_of_name env c.outer_ty.text ≡ None) ⊎ ((term_of_name env old c.term ≡ None) ⊎ IsConverted c env old))

-- a converter is read, or one error is noted at its positions and nothing changes
abbrev pub ReadsConverter : ConverterTree → TypeEnv → TermTable → List Error → TermTable → List Error → Type 0
ReadsConverter c env old es new es' =
    ((es' ≡ es) × Converts c env old new) ⊎ (Notes 1 (converter_positions c) es es' × (new ≡ old) × IsWrongConverter c env old)

-- a definition is read, if it is a converter
abbrev pub ReadsIfConverter : Definition → TypeEnv → TermTable → List Error → TermTable → List Error → Type 0
ReadsIfConverter (converter_definition c) env old es new es' = ReadsConverter c env old es new es'
ReadsIfConverter d env old es new es' = (es' ≡ es) × (new ≡ old)

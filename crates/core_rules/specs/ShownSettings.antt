-- The setting and the scope that tables, the names met and the work on a rule show.
use Rattle.std.specs.Prelude.{◌≡◌, ℕ, ◌+◌, ◌<◌, true, ◌&&◌, List, ◌++◌, length, Option, Some, option_map, is_some, slice_get}
use Rattle.std.specs.Bool.{◌==◌}
use Rattle.std.specs.List.{position_from}
use Rattle.core_syntax.specs.Stable.{look_up}
use Rattle.model.specs.rules.Meaning.{look}
use Rattle.model.specs.rules.Outcome.{then_option}
use Rattle.model.specs.rules.Typed.{TypedVar}
use Rattle.model.specs.lists.Syntax.{PatternTree}
use Rattle.model.specs.lists.Tables.{TermEntry}
use Rattle.model.specs.lists.Expansions.{substituted}
use Rattle.model.specs.lists.Setting.{Setting, Scope, var_named, entry_named, kind_template}
use Rattle.model.specs.lists.Typings.{Typing}
use Rattle.core_types.specs.declared.type_env.TypeEnv.{TypeEnv}
use Rattle.core_types.specs.Envs.{names_of, type_at, constant_at, IsInterned}
use Rattle.core_types.specs.TypeViews.{type_views}
use Rattle.core_terms.specs.TermTables.{same_types}
use Rattle.core_terms.specs.TermViews.{term_views}
use Rattle.core_rules.specs.declared.term_env.TermEnv.{TermEnv}
use Rattle.core_rules.specs.declared.typing.progress.Progress.{Progress}
use Rattle.core_rules.specs.Progress.{newest, vars_of}
use Rattle.core_rules.specs.TermEnvs.{term_in_env}

-- the term that converts an inner type into an outer one
abbrev pub converter_in : TermEnv → ℕ → ℕ → Option ℕ
converter_in env i o = option_map (λ t. t.0) (look_up same_types env.converters (record { 0 = i }, record { 0 = o }))

-- the names met, and the work on a rule
pub record Standing : Type 0 where
  pub tyenv : TypeEnv
  pub work : Progress

abbrev pub standing : TypeEnv → Progress → Standing
standing tyenv work = record { tyenv = tyenv; work = work }

-- only names were added
pub record Keeps (old new : TypeEnv) : Type 0 where
  pub inverse : IsInterned new
  pub names : (more : List (List ℕ)) × (names_of new ≡ names_of old ++ more)
  pub types : new.types ≡ old.types
  pub type_map : new.type_map ≡ old.type_map
  pub const_types : new.const_types ≡ old.const_types
  pub errors : new.errors ≡ old.errors

-- the template of a term, if it has one, uses no argument that the term hasn't
abbrev pub IsWholeTemplate : TermEntry → Type 0
IsWholeTemplate t = (template : PatternTree) (given : List PatternTree) → kind_template t.kind ≡ Some template → length given ≡ length t.arg_tys → is_some (substituted given template) ≡ true

-- the tables speak of these types, constants, terms and converters, found by the numbers of their
-- names, which were all met; templates use the arguments that their terms have
pub record IsSettingOf (tyenv : TypeEnv) (env : TermEnv) (e : Setting) : Type 0 where
  pub types : type_views tyenv.types.items ≡ e.types
  pub type_names : (k : ℕ) → type_at tyenv k ≡ position_from (λ n. n == k) 0 e.type_names
  pub constants : (k : ℕ) → constant_at tyenv k ≡ look (λ n. n == k) e.constants
  pub terms : term_views env.terms.items ≡ e.terms
  pub term_names : (k : ℕ) → then_option (term_in_env env k) (slice_get e.terms) ≡ entry_named k e.terms
  pub converters : (i o : ℕ) → converter_in env i o ≡ look (λ c. (c.0 == i) && (c.1 == o)) e.converters
  pub expand : e.expand ≡ env.expand_internal_extractors
  pub types_met : (k ty : ℕ) → type_at tyenv k ≡ Some ty → k < length (names_of tyenv)
  pub constants_met : (k ty : ℕ) → constant_at tyenv k ≡ Some ty → k < length (names_of tyenv)
  pub terms_met : (k id : ℕ) → term_in_env env k ≡ Some id → k < length (names_of tyenv)
  pub templates : (k : ℕ) (t : TermEntry) → slice_get e.terms k ≡ Some t → IsWholeTemplate t

-- the names met and the variables are those of a scope; names that stand for variables were met
pub record Shows (at : Standing) (s : Scope) : Type 0 where
  pub names : names_of at.tyenv ≡ s.names
  pub vars : vars_of at.work ≡ s.vars
  pub visible : (k : ℕ) → newest at.work k ≡ var_named k s.visible
  pub met : (k : ℕ) (v : TypedVar) → newest at.work k ≡ Some v → k < length (names_of at.tyenv)

-- how something is typed: in a setting, within so many nested expansions, from a scope
abbrev pub Reading : Type 0 → Type 0
Reading Q = Setting → ℕ → Scope → Option (Typing Q)

-- a fact of each setting and scope that are shown
abbrev pub Wherever : TermEnv → Standing → (Setting → Scope → Type 0) → Type 0
Wherever env at P = (e : Setting) (s : Scope) → IsSettingOf at.tyenv env e → Shows at s → P e s

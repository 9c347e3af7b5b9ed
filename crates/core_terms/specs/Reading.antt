-- What reading one definition does to a term table, to a type environment and to the errors found so far.
use Rattle.std.specs.Prelude.{◌≡◌, ℕ, ◌<◌, nat_eq, List, [], ◌∷◌, ◌++◌, ◌⊎◌, length, map, if◌then◌else◌, Option, Some, None, is_some, option_and_then, All, IsTrue}
use Rattle.model.specs.lists.Syntax.{Name, DeclTree, RuleTree}
use Rattle.model.specs.lists.Names.{with_name}
use Rattle.model.specs.rules.Outcome.{then_option}
use Rattle.model.specs.lists.Tables.{internal_constructor, TermKindEntry, variant_term, struct_term, declared_term, TermEntry}
use Rattle.model.specs.lists.TermTable.{decl_flags, root_name}
use Rattle.core_syntax.specs.declared.syntax.Error.{Error}
use Rattle.core_types.specs.declared.type_env.TypeEnv.{TypeEnv}
use Rattle.core_types.specs.Envs.{names_of, symbol_of, type_of_name, IsInterned}
use Rattle.core_syntax.specs.NotedErrors.{NotesMore}
use Rattle.core_types.specs.Reading.{MeetsNames}
use Rattle.core_terms.specs.declared.term_table.TermTable.{TermTable}
use Rattle.core_terms.specs.TermTables.{term_at}
use Rattle.core_terms.specs.TermViews.{term_views}

-- the term of a name
abbrev pub term_of_name : TypeEnv → TermTable → Name → Option ℕ
term_of_name env table n = option_and_then (term_at table) (symbol_of env n.text)

-- each term that is looked up is one of the table
abbrev pub IsWithin : TermTable → Type 0
IsWithin table = (k n : ℕ) → term_at table k ≡ Some n → n < length table.terms.items

-- a name is met, and nothing else
pub record Interns (name : List ℕ) (old new : TypeEnv) : Type 0 where
  pub inverse : IsInterned new
  pub names : names_of new ≡ with_name (names_of old) name
  pub types : new.types ≡ old.types
  pub type_map : new.type_map ≡ old.type_map
  pub const_types : new.const_types ≡ old.const_types
  pub errors : new.errors ≡ old.errors

-- a declared term, before its rules are known
abbrev pub signature_entry : ℕ → ℕ → List ℕ → ℕ → DeclTree → TermEntry
signature_entry id name arg_tys ret_ty d = record {
  id = id;
  at = d.at;
  name = name;
  arg_tys = arg_tys;
  ret_ty = ret_ty;
  kind = declared_term (decl_flags d) None None;
}

-- the types of the arguments are all known, and are these
abbrev pub HaveTypes : TypeEnv → List Name → List ℕ → Type 0
HaveTypes env names tys = map Some tys ≡ map (λ n. type_of_name env n.text) names

abbrev pub IsKnownInEnv : TypeEnv → Name → Type 0
IsKnownInEnv env n = IsTrue (is_some (type_of_name env n.text))

-- a declared term becomes the next one, by the name of this number
pub record AddsTerm (d : DeclTree) (env : TypeEnv) (name : ℕ) (old new : TermTable) : Type 0 where
  pub arg_tys : List ℕ
  pub ret_ty : ℕ
  pub arguments : HaveTypes env d.arg_tys arg_tys
  pub result : Some ret_ty ≡ type_of_name env d.ret_ty.text
  pub ids : (k : ℕ) → term_at new k ≡ (if nat_eq name k then Some (length old.terms.items) else term_at old k)
  pub terms : term_views new.terms.items ≡ term_views old.terms.items ++ signature_entry (length old.terms.items) name arg_tys ret_ty d ∷ []
  pub converters : new.converters ≡ old.converters

-- the name of a number is a term's already
pub record IsTakenByTerm (name : ℕ) (table : TermTable) : Type 0 where
  pub id : ℕ
  pub taken : term_at table name ≡ Some id

-- a type that a declaration names isn't known
abbrev pub HasUnknown : DeclTree → TypeEnv → Type 0
HasUnknown d env = (All (IsKnownInEnv env) d.arg_tys → ⊥) ⊎ (type_of_name env d.ret_ty.text ≡ None)

-- a declaration whose name was met, and has no term yet
abbrev pub IsFreeOrReported : ℕ → TermTable → List Error → List Error → Type 0
IsFreeOrReported name table es es' = ((es' ≡ es) × (term_at table name ≡ None)) ⊎ (NotesMore es es' × IsTakenByTerm name table)

abbrev pub AddsOrReports : DeclTree → TypeEnv → ℕ → TermTable → TermTable → List Error → List Error → Type 0
AddsOrReports d env name old new es es' = ((es' ≡ es) × AddsTerm d env name old new) ⊎ (NotesMore es es' × HasUnknown d env)

-- a term that is made by rules
abbrev pub internal_kind : TermKindEntry → TermKindEntry
internal_kind (variant_term variant) = variant_term variant
internal_kind struct_term = struct_term
internal_kind (declared_term flags constructor_kind extractor_kind) = declared_term flags (Some internal_constructor) extractor_kind

abbrev pub internal_entry : TermEntry → TermEntry
internal_entry e = record { id = e.id; at = e.at; name = e.name; arg_tys = e.arg_tys; ret_ty = e.ret_ty; kind = internal_kind e.kind }

-- the term that a rule is of
abbrev pub root_term_id : TypeEnv → TermTable → RuleTree → Option ℕ
root_term_id env table r = then_option (root_name r.pattern) (term_of_name env table)

-- names may have been met, and nothing else changed
pub record MayIntern (old new : TypeEnv) : Type 0 where
  pub met : List (List ℕ)
  pub meets : MeetsNames met old new
  pub inverse : IsInterned new

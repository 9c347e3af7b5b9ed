-- What tables of types and terms say of a program, and the types that code gives sites.
use Rattle.std.specs.Prelude.{◌≡◌, ℕ, Bool, false, not, List, [], ◌∷◌, Option, Some, None, slice_get}
use Rattle.std.specs.List.{list_all}
use Rattle.model.specs.rules.Program.{Program}
use Rattle.model.specs.rules.Typed.{TypedRule}
use Rattle.model.specs.rules.Values.{is_composed_type}
use Rattle.model.specs.sites.Serves.{constant_type, term_args}
use Rattle.core_types.specs.declared.type_env.TypeEnv.{TypeEnv}
use Rattle.core_types.specs.Envs.{constant_at}
use Rattle.core_types.specs.TypeViews.{type_views}
use Rattle.core_terms.specs.declared.term.Term.{Term}
use Rattle.core_terms.specs.TermViews.{term_views}
use Rattle.rust_code.specs.declared.types.Tables.{Tables}
use Rattle.rust_code.specs.declared.types.SiteTypes.{SiteTypes}
use Rattle.rust_code.specs.declared.types.SiteTypes.TheVariants as T

-- these tables are those of a program, whatever its rules are
pub record AreTablesOf (tyenv : TypeEnv) (ts : List Term) (p : Program) : Type 0 where
  pub types : p.types ≡ type_views tyenv.types.items
  pub constants : (name : ℕ) → constant_type p name ≡ constant_at tyenv name
  pub terms : p.terms ≡ term_views ts

abbrev pub seen_types : List Term → SiteTypes → List ℕ
seen_types terms T.Unknown = []
seen_types terms (T.One ty) = ty.0 ∷ []
seen_types terms (T.OfArguments term) = term_args (slice_get (term_views terms) term.0)

-- whether a type of a number is an enum or a struct
abbrev pub has_parts : TypeEnv → ℕ → Bool
has_parts tyenv ty = is_composed_type (slice_get (type_views tyenv.types.items) ty)

abbrev pub are_without_parts : TypeEnv → List ℕ → Bool
are_without_parts tyenv tys = list_all (λ ty. not (has_parts tyenv ty)) tys

abbrev pub sole : List ℕ → Option ℕ
sole (ty ∷ []) = Some ty
sole tys = None

abbrev pub is_sole_with_parts : TypeEnv → List ℕ → Bool
is_sole_with_parts tyenv (ty ∷ []) = has_parts tyenv ty
is_sole_with_parts tyenv tys = false

-- the program of tables, with these constants and rules
abbrev pub program_in : Tables → List (ℕ × ℕ) → List TypedRule → Program
program_in tables constants rules = record { types = type_views tables.tyenv.now.types.items; constants = constants; terms = term_views tables.terms.now; rules = rules }

-- what holds of each program that these are the tables of
abbrev pub OfTables : Tables → (Program → Type 0) → Type 0
OfTables tables P =
    (constants : List (ℕ × ℕ)) (rules : List TypedRule) → ((name : ℕ) → constant_type (program_in tables constants rules) name ≡ constant_at tables.tyenv.now name)
    → P (program_in tables constants rules)

-- the types of the term's arguments
abbrev pub arguments_in : Tables → List ℕ
arguments_in tables = term_args (slice_get (term_views tables.terms.now) tables.term.0)

-- What single calls answer of environments: the term of a variant and of a site, and a rule's identifier; and which type
-- environments terms and rules can be read with.
use Rattle.std.specs.Prelude.{◌≡◌, ℕ, ◌<◌, List, length, take, Option, Some, None, All, slice_get}
use Rattle.std.specs.List.{flat_map}
use Rattle.model.specs.lists.Syntax.{Position}
use Rattle.model.specs.lists.Names.{AreNumbersOf}
use Rattle.model.specs.lists.Tables.{VariantEntry, TypeEntry}
use Rattle.model.specs.lists.TypeTable.{builtin_names, builtin_from}
use Rattle.model.specs.lists.KnownTypes.{types_inside, entry_numbers, StandAtIds}
use Rattle.model.specs.lists.Signatures.{text_of}
use Rattle.model.specs.rules.Outcome.{then_option}
use Rattle.model.specs.rules.Typed.{TypedRule}
use Rattle.model.specs.sites.Sites.{Site, extractor_site, constructor_site, make_variant_site}
use Rattle.model.specs.claims.Environments.{variants_in, HasVariantsAtIds, TypeEnvironment}

-- the variant of this id of the type of this id, where the type is an enum that has it
abbrev pub variant_by_id : List TypeEntry → ℕ → ℕ → Option VariantEntry
variant_by_id types ty variant = then_option (slice_get types ty) (λ t. slice_get (variants_in t) variant)

-- the term of a variant: the one that is looked up for the number of the variant's full name
abbrev pub term_of_variant : List TypeEntry → (ℕ → Option ℕ) → ℕ → ℕ → Option ℕ
term_of_variant types term_of ty variant = then_option (variant_by_id types ty variant) (λ v. term_of v.full_name)

-- the term that a site speaks of: that of a call, or of the variant that it makes
abbrev pub term_of_site : List TypeEntry → (ℕ → Option ℕ) → Site → Option ℕ
term_of_site types term_of (extractor_site term source) = Some term
term_of_site types term_of (constructor_site term sources instance) = Some term
term_of_site types term_of (make_variant_site ty variant fields) = term_of_variant types term_of ty variant
term_of_site types term_of _ = None

-- a rule's identifier: the text of its name, or of its place where it has none
abbrev pub identifier : List (List ℕ) → (Position → List ℕ) → TypedRule → List ℕ
identifier names printed r = elim r.name [ None ↦ printed r.at | Some n ↦ text_of names n ]

-- the condition on who asks for it: the name is one of the environment, or the rule's file is one of so many
abbrev pub HasIdentifier : List (List ℕ) → ℕ → TypedRule → Type 0
HasIdentifier names files r = elim r.name [ None ↦ r.at.file < files | Some n ↦ n < length names ]

-- one number is that of the name of a type, and no other is
pub record HasOneNumber (env : TypeEnvironment) (ty : ℕ) : Type 0 where
  pub number : ℕ
  pub of_type : env.type_of number ≡ Some ty
  pub only : (k : ℕ) → env.type_of k ≡ Some ty → k ≡ number

-- look-ups answer for the numbers of names alone, and by types
abbrev pub AnswersTypes : TypeEnvironment → (ℕ → Option ℕ) → Type 0
AnswersTypes env answer = (k ty : ℕ) → answer k ≡ Some ty → (k < length env.names) × (ty < length env.types)

-- a type environment is well formed, whatever list it is of: look-ups of names find each one at its place and no other
-- text; the first 13 types are the built-in ones, in order, each type stands at its id, and each variant at its own; names
-- are mapped one to one onto the types; the types of fields and of constants are types, and the numbers of names are those
-- of names; and it keeps no error
pub record IsWellFormedEnvironment (env : TypeEnvironment) : Type 0 where
  pub inverse : AreNumbersOf env.names env.number_of
  pub builtins : take 13 env.types ≡ builtin_from 0 builtin_names
  pub ids : StandAtIds env.types
  pub variants : All HasVariantsAtIds env.types
  pub one_number : (ty : ℕ) → ty < length env.types → HasOneNumber env ty
  pub type_names : AnswersTypes env env.type_of
  pub constants : AnswersTypes env env.constant_type_of
  pub types_in_range : All (λ ty. ty < length env.types) (flat_map types_inside env.types)
  pub numbers_in_range : All (λ n. n < length env.names) (flat_map entry_numbers env.types)
  pub no_errors : env.errors ≡ 0

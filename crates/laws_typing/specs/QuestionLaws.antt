-- What theory proves of single answers: each variant has a term, and a well-formed type environment can be read.
use Rattle.std.specs.Prelude.{◌≡◌, ◌↔◌, ℕ, List, Some, slice_get}
use Rattle.model.specs.lists.Syntax.{Definition}
use Rattle.model.specs.lists.Tables.{VariantEntry, variant_term, TermEntry}
use Rattle.model.specs.lists.KnownTypes.{KnownTypes}
use Rattle.model.specs.lists.TermTable.{IsValidTerms, term_table}
use Rattle.model.specs.claims.Environments.{TypesRead, AreReadable, TypeEnvironment, IsReadAs, shown_terms}
use Rattle.model.specs.claims.Questions.{variant_by_id, term_of_variant, IsWellFormedEnvironment}

-- a term is that of a variant of a type
pub record IsVariantsTerm (k : KnownTypes) (defs : List Definition) (ty variant id : ℕ) : Type 0 where
  pub term : TermEntry
  pub there : slice_get (term_table k defs) id ≡ Some term
  pub kind : term.kind ≡ variant_term variant
  pub of_type : term.ret_ty ≡ ty

-- by types that can be read, the look-up of a variant's term finds it, where the terms are valid
abbrev pub VariantsHaveTerms : Type 0
VariantsHaveTerms =
    (e : TypesRead) (defs : List Definition) → AreReadable e → IsValidTerms e.known defs
    → (ty variant : ℕ) (v : VariantEntry) → variant_by_id e.known.types ty variant ≡ Some v
    → (id : ℕ) × (term_of_variant e.known.types (shown_terms e defs).term_of ty variant ≡ Some id) × IsVariantsTerm e.known defs ty variant id

-- a type environment is well formed exactly where it shows types that can be read
abbrev pub WellFormedEnvironmentsAreRead : Type 0
WellFormedEnvironmentsAreRead = (env : TypeEnvironment) → IsWellFormedEnvironment env ↔ ((e : TypesRead) × AreReadable e × IsReadAs env e)

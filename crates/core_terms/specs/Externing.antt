-- What reading an external constructor or extractor does to a term table.
use Rattle.std.specs.Prelude.{◌≡◌, ℕ, Bool, true, false, not, List, ◌⊎◌, None, Some, is_some, slice_get}
use Rattle.model.specs.lists.Syntax.{Name}
use Rattle.model.specs.lists.Tables.{ConstructorEntry, ExtractorEntry, TermKindEntry, variant_term, struct_term, declared_term, TermEntry}
use Rattle.core_syntax.specs.declared.syntax.Error.{Error}
use Rattle.core_types.specs.declared.type_env.TypeEnv.{TypeEnv}
use Rattle.core_terms.specs.declared.term_table.TermTable.{TermTable}
use Rattle.core_terms.specs.TermViews.{term_views}
use Rattle.core_terms.specs.Reading.{term_of_name}
use Rattle.core_terms.specs.Signing.{NotesIfWrong}
use Rattle.core_terms.specs.ReadTerms.{Changes}

-- whether a term is a declared one that nothing makes yet
abbrev pub lacks_constructor : TermKindEntry → Bool
lacks_constructor (variant_term variant) = false
lacks_constructor struct_term = false
lacks_constructor (declared_term flags constructor_kind extractor_kind) = not (is_some constructor_kind)

-- whether a term is a declared one that nothing takes apart yet
abbrev pub lacks_extractor : TermKindEntry → Bool
lacks_extractor (variant_term variant) = false
lacks_extractor struct_term = false
lacks_extractor (declared_term flags constructor_kind extractor_kind) = not (is_some extractor_kind)

-- a declared term that this makes, or that this takes apart
abbrev pub made_by_this : ConstructorEntry → TermKindEntry → TermKindEntry
made_by_this c (variant_term variant) = variant_term variant
made_by_this c struct_term = struct_term
made_by_this c (declared_term flags constructor_kind extractor_kind) = declared_term flags (Some c) extractor_kind

abbrev pub taken_by_this : ExtractorEntry → TermKindEntry → TermKindEntry
taken_by_this x (variant_term variant) = variant_term variant
taken_by_this x struct_term = struct_term
taken_by_this x (declared_term flags constructor_kind extractor_kind) = declared_term flags constructor_kind (Some x)

-- a term of another kind
abbrev pub with_kind : (TermKindEntry → TermKindEntry) → TermEntry → TermEntry
with_kind g e = record { id = e.id; at = e.at; name = e.name; arg_tys = e.arg_tys; ret_ty = e.ret_ty; kind = g e.kind }

-- a name is that of a term whose kind passes a test, and the kind is changed
pub record ChangesKind (p : TermKindEntry → Bool) (g : TermKindEntry → TermKindEntry) (n : Name) (env : TypeEnv) (old new : TermTable) : Type 0 where
  pub id : ℕ
  pub found : term_of_name env old n ≡ Some id
  pub entry : TermEntry
  pub at : slice_get (term_views old.terms.items) id ≡ Some entry
  pub passes : p entry.kind ≡ true
  pub changes : Changes (with_kind g) id old new

-- a name is that of a term whose kind doesn't pass
pub record HasOtherKind (p : TermKindEntry → Bool) (n : Name) (env : TypeEnv) (old : TermTable) : Type 0 where
  pub id : ℕ
  pub found : term_of_name env old n ≡ Some id
  pub entry : TermEntry
  pub at : slice_get (term_views old.terms.items) id ≡ Some entry
  pub fails : p entry.kind ≡ false

-- the kind of the term of a name is changed, or there is no such term, or its kind doesn't pass the test
abbrev pub ReadsKind : (TermKindEntry → Bool) → (TermKindEntry → TermKindEntry) → Name → TypeEnv → TermTable → List Error → TermTable → List Error → Type 0
ReadsKind p g n env old es new es' = NotesIfWrong es es' (ChangesKind p g n env old new) ((term_of_name env old n ≡ None) ⊎ HasOtherKind p n env old)

-- What the tables of a program say of how it is written.
use Rattle.std.proofs.Common.{◌≡◌, ◌∷◌, [], ℕ, List, Option, Some, None, slice_get, refl, sym, subst}
use Rattle.model.specs.lists.Tables.{TermEntry, TermKindEntry, variant_term, struct_term, declared_term}
use Rattle.model.specs.rules.Program.{unknown, flags_of, kind_of, is_multi}
use Rattle.model.specs.rules.Typed.{TypedRule}
use Rattle.model.specs.sites.Serves.{constant_type}
use Rattle.model_code.specs.SiteTypes.{one_type, is_one_composed}
use Rattle.model_code.specs.Alike.{term_of}
use Rattle.model_code.specs.Notation.{Notation, Callee, extractor_of, constructor_of}
use Rattle.model_code.specs.ProgramNotation.{answers_of}
use Rattle.core_types.specs.Envs.{constant_at}
use Rattle.core_terms.specs.TermViews.{term_views}
use Rattle.rust_text.specs.declared.notation.Writer.{Writer}
use Rattle.rust_text.specs.ProgramFields.{composed_in, sole, answers_in, multi_of, multi_at}
use Rattle.rust_text.specs.Writers.{program_by, notation_by, Says}

-- what a notation says that is made of the program's tables, all of the writer's do
pub said : (w : Writer) (P : Notation → Type 0)
    → ((constants : List (ℕ × ℕ)) (rules : List TypedRule) → ((name : ℕ) → constant_type (program_by w constants rules) name ≡ constant_at w.program.tyenv.now name) → P (notation_by w constants rules))
    → Says w P
said w P h p n = subst P (sym n.is) (h n.constants n.rules n.types)

module _ (w : Writer) (constants : List (ℕ × ℕ)) (rules : List TypedRule) where
  pub one_composed : (ty : Option ℕ) → composed_in w.program.tyenv.now ty ≡ is_one_composed (program_by w constants rules) (one_type ty)
  one_composed None = refl
  one_composed (Some ty) = refl

  sole_composed : (tys : List ℕ) → composed_in w.program.tyenv.now (sole tys) ≡ is_one_composed (program_by w constants rules) tys
  sole_composed [] = refl
  sole_composed (ty ∷ []) = refl
  sole_composed (ty ∷ other ∷ tys) = refl

  pub answer_composed : (f : Callee) → composed_in w.program.tyenv.now (sole (answers_in (term_views w.program.terms.now) f)) ≡ is_one_composed (program_by w constants rules) (answers_of (program_by w constants rules) f)
  answer_composed (extractor_of term) = sole_composed _
  answer_composed (constructor_of term) = sole_composed _

  kind_said : (e : TermEntry) (k : TermKindEntry) → multi_of k ≡ (flags_of (kind_of (record e { kind = k }))).multi
  kind_said e (variant_term variant) = refl
  kind_said e struct_term = refl
  kind_said e (declared_term flags constructor_kind extractor_kind) = refl

  entry_said : (e : Option TermEntry) → multi_at e ≡ (flags_of (elim e [ None ↦ unknown | Some e ↦ kind_of e ])).multi
  entry_said None = refl
  entry_said (Some e) = kind_said e e.kind

  pub multi_said : (f : Callee) → multi_at (slice_get (term_views w.program.terms.now) (term_of f)) ≡ is_multi (program_by w constants rules) (term_of f)
  multi_said f = entry_said (slice_get (term_views w.program.terms.now) (term_of f))

-- Forms of an operator.
use Rattle.std.proofs.Common.{◌≡◌, ℕ, ◌<◌, ◌≤◌, List, [], ◌∷◌, length, get_or, map, refl, sym, ap, arith}
use Rattle.laws_specs.specs.Words as D
use Rattle.model_questions.specs.Forms as MF
use Rattle.model_questions.specs.Evaluated as E
use Rattle.spec_cases.specs.declared.forms.Form.{Form}
use Rattle.spec_cases.specs.declared.forms.Form.TheVariants as Fo
use Rattle.spec_cases.specs.Namings.{Naming, form_of, forms_of}

module _ (v : Naming) where
  pub fields_listed : (fs : List Form) → MF.form_list (forms_of v fs) ≡ map (form_of v) fs
  fields_listed [] = refl
  fields_listed (f ∷ fs) = ap (λ l. form_of v f ∷ l) (fields_listed fs)

  pub one_form : (l : List Form) (f : Form) → 1 ≤ length l → length l < 2 → f ≡ get_or l 0 f → forms_of v l ≡ MF.form_and (form_of v f) MF.no_form
  one_form [] f h k e = absurd (omega arith)
  one_form (x ∷ []) f h k e = ap (λ y. MF.form_and (form_of v y) MF.no_form) (sym e)
  one_form (x ∷ (y ∷ l)) f h k e = absurd (omega arith)

  pub no_forms : (ws : List ℕ) (i : ℕ) (l : List Form) → length l < 1 → E.fitted ws (D.field i) (forms_of v l) ≡ E.by_operands ws (D.field i) (E.operands (forms_of v l))
  no_forms ws i [] h = refl
  no_forms ws i (x ∷ l) h = absurd (omega arith)

  pub many_forms : (ws : List ℕ) (i : ℕ) (l : List Form) → 2 ≤ length l → E.fitted ws (D.field i) (forms_of v l) ≡ E.by_operands ws (D.field i) (E.operands (forms_of v l))
  many_forms ws i [] h = absurd (omega arith)
  many_forms ws i (x ∷ []) h = absurd (omega arith)
  many_forms ws i (Fo.Fact f ∷ (y ∷ l)) h = refl
  many_forms ws i (Fo.Integer z ∷ (y ∷ l)) h = refl
  many_forms ws i (Fo.Word w t ∷ (y ∷ l)) h = refl
  many_forms ws i (Fo.Variant ty k fs ∷ (y ∷ l)) h = refl
  many_forms ws i (Fo.Struct ty fs ∷ (y ∷ l)) h = refl
  many_forms ws i (Fo.AnyOf ty p ∷ (y ∷ l)) h = refl
  many_forms ws i (Fo.SomeAt p ∷ (y ∷ l)) h = refl

pub ruleset field_steps = (one_form, no_forms, many_forms)

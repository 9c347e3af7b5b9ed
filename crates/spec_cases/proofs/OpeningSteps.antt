-- Steps of what opens places.
use Rattle.std.proofs.Common.{◌≡◌, ℕ, ◌≤◌, List, [], ◌∷◌, ◌++◌, length, map, refl, ap, ◌∙◌, arith}
use Rattle.std.proofs.lemmas.List.{append_assoc, map-append}
use Rattle.model_questions.specs.Formulas as M
use Rattle.model_questions.specs.Forms as MF
use Rattle.model_questions.specs.Evaluated as E
use Rattle.spec_cases.specs.declared.forms.Form.{Form}
use Rattle.spec_cases.specs.Namings.{Naming, form_of, forms_of}
use Rattle.spec_cases.proofs.PairSteps.{cases_pushed}

-- widths: there are more, or there are none
pub widths_more : (g : M.Fact) (w : ℕ) (ws : List ℕ) (at : M.Place) → 1 ≤ length ws
    → E.at_each g (w ∷ ws) at ≡ E.wide_case (M.both_of g (M.as_wide at w)) at w ∷ E.at_each (M.both_of g (M.none_of (M.as_wide at w))) ws at
widths_more g w [] at h = absurd (omega arith)
widths_more g w (x ∷ ws) at h = refl

pub ruleset width_steps = (widths_more, cases_pushed, append_assoc)

module _ (v : Naming) where
  pub forms_pushed : (out : List Form) (f : Form) → map (form_of v) (out ++ f ∷ []) ≡ map (form_of v) out ++ (form_of v f ∷ [])
  forms_pushed out f = map-append (form_of v) out (f ∷ [])

  -- forms are those whose list it is
  pub same_forms : (fs : List Form) (x : MF.Forms) → map (form_of v) fs ≡ MF.form_list x → forms_of v fs ≡ x
  same_forms [] MF.no_form e = refl
  same_forms [] (MF.form_and y x) e = cc
  same_forms (f ∷ fs) MF.no_form e = cc
  same_forms (f ∷ fs) (MF.form_and y x) e =
      let first : form_of v f ≡ y = cc in
      let later : map (form_of v) fs ≡ MF.form_list x = cc in
      ap (λ g. MF.form_and g (forms_of v fs)) first ∙ ap (MF.form_and y) (same_forms fs x later)

pub ruleset field_steps = (forms_pushed, append_assoc)

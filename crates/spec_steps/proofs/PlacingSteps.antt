-- Steps of what sites stand for.
use Rattle.std.proofs.Common.{◌≡◌, ◌≤◌, ℕ, ◌-◌, List, [], ◌∷◌, ◌++◌, drop, get_or, length, take, refl, ap, ◌∙◌, arith}
use Rattle.std.proofs.lemmas.List.{append_assoc, map-append, take_all}
use Rattle.laws_specs.specs.Conditions.{Condition}
use Rattle.laws_specs.specs.Specs.{Specs}
use Rattle.model.specs.rules.Program.{Program}
use Rattle.model.specs.sites.Sites.{SiteTerm, each_term}
use Rattle.model_questions.specs.Forms as MF
use Rattle.model_questions.specs.Steps as S
use Rattle.spec_cases.specs.declared.forms.Form.{Form}
use Rattle.spec_cases.specs.Namings.{Naming, form_of, forms_of}
use Rattle.spec_steps.specs.Forming.{each_form}

module _ (v : Naming) where
  pub forms_pushed : (out : List Form) (f : Form) → each_form v (out ++ f ∷ []) ≡ each_form v out ++ (form_of v f ∷ [])
  forms_pushed out f = map-append (form_of v) out (f ∷ [])

  -- forms are those whose list it is
  pub same_forms : (fs : List Form) (x : MF.Forms) → each_form v fs ≡ MF.form_list x → forms_of v fs ≡ x
  same_forms [] MF.no_form e = refl
  same_forms [] (MF.form_and y x) e = cc
  same_forms (f ∷ fs) MF.no_form e = cc
  same_forms (f ∷ fs) (MF.form_and y x) e =
      let first : form_of v f ≡ y = cc in
      let later : each_form v fs ≡ MF.form_list x = cc in
      ap (λ g. MF.form_and g (forms_of v fs)) first ∙ ap (MF.form_and y) (same_forms fs x later)

-- one before others
pub forms_added : (v : Naming) (p : Program) (specs : Specs) (c : Condition) (done : List SiteTerm) (l : List ℕ) (x : ℕ) (old : List Form) (f : Form) (new : List Form)
    → 1 ≤ length l → x ≡ get_or l 0 x → form_of v f ≡ S.form_at p specs c done (v.site x)
    → each_form v new ≡ each_form v (old ++ f ∷ []) ++ MF.form_list (S.forms_at p specs c done (each_term v.site (take (length l - 1) (drop 1 l))))
    → each_form v new ≡ each_form v old ++ MF.form_list (S.forms_at p specs c done (each_term v.site l))
forms_added v p specs c done [] x old f new h at e made = absurd (omega arith)
forms_added v p specs c done (y ∷ l) x old f new h at e made =
    let rest = MF.form_list (S.forms_at p specs c done (each_term v.site l)) in
    made
    ∙ ap (λ r. each_form v (old ++ f ∷ []) ++ MF.form_list (S.forms_at p specs c done (each_term v.site r))) (take_all (length (y ∷ l) - 1) l (omega arith))
    ∙ ap (λ a. a ++ rest) (forms_pushed v old f)
    ∙ append_assoc (each_form v old) (form_of v f ∷ []) rest
    ∙ ap (λ z. each_form v old ++ (z ∷ rest)) (e ∙ ap (λ n. S.form_at p specs c done (v.site n)) at)

-- Steps of what forms are known.
use Rattle.std.proofs.Common.{◌≡◌, List, [], ◌∷◌, map, refl, ap}
use Rattle.model_questions.specs.Forms as MF
use Rattle.spec_cases.specs.declared.forms.Form.{Form}
use Rattle.spec_cases.specs.Namings.{Naming, form_of, forms_of}

-- the list of forms is the list that they were made of
pub fields_listed : (v : Naming) (fs : List Form) → MF.form_list (forms_of v fs) ≡ map (form_of v) fs
fields_listed v [] = refl
fields_listed v (f ∷ fs) = ap (λ l. form_of v f ∷ l) (fields_listed v fs)

pub ruleset field_steps = (fields_listed)

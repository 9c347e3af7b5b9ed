-- What comes of cases.
use Rattle.std.specs.Prelude.{ℕ, List, map}
use Rattle.laws_specs.specs.Words.{equals}
use Rattle.laws_specs.specs.Specs.{Specs}
use Rattle.model.specs.lists.Tables.{TypeEntry}
use Rattle.model_questions.specs.Formulas as M
use Rattle.model_questions.specs.Forms as MF
use Rattle.model_questions.specs.Evaluated as E
use Rattle.spec_cases.specs.declared.cases.Case.{Case}
use Rattle.spec_cases.specs.declared.combining.Whole.{Whole}
use Rattle.spec_cases.specs.declared.combining.Whole.TheVariants as W
use Rattle.spec_cases.specs.declared.forms.FieldsId.{FieldsId}
use Rattle.spec_cases.specs.Namings.{Naming}
use Rattle.spec_cases.specs.CaseViews.{guarded_each, with_value}

-- cases of lists
abbrev pub forms_cases : Naming → List (Case FieldsId) → List (MF.Case MF.Forms)
forms_cases v cs = map (with_value (λ l. v.fields l.0)) (guarded_each v cs)

-- what is made of its fields
abbrev pub whole_of : Whole → MF.Forms → MF.Form
whole_of (W.Variant ty variant) fs = MF.variant_by ty.0 variant.0 fs
whole_of (W.Struct ty) fs = MF.struct_by ty.0 fs

-- what comes of cases, with their rest
abbrev pub rest_with : {X : Type 0} → M.Fact → MF.Cases X → MF.Cases X
rest_with rest cs = record { cases = cs.cases; rest = M.one_of rest cs.rest }

-- the first where a key is the value, else the second
abbrev pub switch_case : List TypeEntry → Specs → E.Known → List ℕ → MF.Form → MF.Cases MF.Form → MF.Cases MF.Form → MF.Form → MF.Cases MF.Form
switch_case types specs k ws x first later y =
    MF.merged (MF.then_cases (MF.then_cases (E.opened_each types specs k (MF.form_and y (MF.form_and x MF.no_form))) (E.fitted ws equals)) (E.by_fact first later))

-- The cases that data is: guards by what they stand for, and then values too.
use Rattle.std.specs.Prelude.{List, [], ◌∷◌, map}
use Rattle.model_questions.specs.Forms as M
use Rattle.spec_cases.specs.declared.cases.Case.{Case}
use Rattle.spec_cases.specs.declared.cases.Cases.{Cases}
use Rattle.spec_cases.specs.declared.forms.Form.{Form}
use Rattle.spec_cases.specs.declared.forms.FieldsId.{FieldsId}
use Rattle.spec_cases.specs.Namings.{Naming, fact_of, form_of}

module _ {X : Type 0} (v : Naming) where
  abbrev pub guarded_case : Case X → M.Case X
  guarded_case c = record { guard = fact_of v c.guard; gives = c.gives }

  abbrev pub guarded_each : List (Case X) → List (M.Case X)
  guarded_each cs = map guarded_case cs

  abbrev pub guarded : Cases X → M.Cases X
  guarded cs = record { cases = guarded_each cs.cases.items; rest = fact_of v cs.rest }

module _ {X Y : Type 0} (f : X → Y) where
  abbrev pub with_value : M.Case X → M.Case Y
  with_value c = record { guard = c.guard; gives = f c.gives }

  -- the same cases, of other values
  abbrev pub with_values : M.Cases X → M.Cases Y
  with_values cs = record { cases = map with_value cs.cases; rest = cs.rest }

  -- the same, but for those that are never taken
  abbrev pub each_with : List (M.Case X) → List (M.Case Y)
  each_with [] = []
  each_with (c ∷ cs) = M.case_under c.guard (f c.gives) (each_with cs)

abbrev pub case_of : Naming → Case Form → M.Case M.Form
case_of v c = with_value (form_of v) (guarded_case v c)

abbrev pub form_cases : Naming → List (Case Form) → List (M.Case M.Form)
form_cases v cs = map (with_value (form_of v)) (guarded_each v cs)

abbrev pub cases_of : Naming → Cases Form → M.Cases M.Form
cases_of v cs = with_values (form_of v) (guarded v cs)

abbrev pub list_cases_of : Naming → Cases FieldsId → M.Cases M.Forms
list_cases_of v cs = with_values (λ l. v.fields l.0) (guarded v cs)

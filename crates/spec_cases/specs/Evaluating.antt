-- What expressions come to, on what they are said of.
use Rattle.std.specs.Prelude.{List, option_map}
use Rattle.laws_specs.specs.Specs as L
use Rattle.model_questions.specs.Forms as MF
use Rattle.model_questions.specs.Evaluated as E
use Rattle.spec_cases.specs.declared.evaluating.Said.{Said}
use Rattle.spec_cases.specs.Namings.{Naming, form_of, forms_of}
use Rattle.spec_cases.specs.Tables.{types_in, specs_in, known_in}

module _ (v : Naming) (s : Said) where
  abbrev pub evaluated_in : L.SpecExpr → List MF.Form → MF.Cases MF.Form
  evaluated_in = E.evaluated (types_in s.tables.now) (specs_in s.tables.now) (known_in v s.tables.now) (forms_of v s.args.now) (option_map (form_of v) s.answer)

  abbrev pub each_in : L.SpecExprs → List MF.Form → MF.Cases MF.Forms
  each_in = E.evaluated_each (types_in s.tables.now) (specs_in s.tables.now) (known_in v s.tables.now) (forms_of v s.args.now) (option_map (form_of v) s.answer)

  abbrev pub case_in : L.SpecCases → MF.Form → List MF.Form → MF.Cases MF.Form
  case_in = E.evaluated_case (types_in s.tables.now) (specs_in s.tables.now) (known_in v s.tables.now) (forms_of v s.args.now) (option_map (form_of v) s.answer)

  abbrev pub arm_in : L.SpecArms → MF.Form → List MF.Form → MF.Cases MF.Form
  arm_in = E.evaluated_arm (types_in s.tables.now) (specs_in s.tables.now) (known_in v s.tables.now) (forms_of v s.args.now) (option_map (form_of v) s.answer)

  abbrev pub matched_in : L.SpecArms → MF.Form → List MF.Form → MF.Cases MF.Form
  matched_in arms x bound = MF.then_cases (E.matched (types_in s.tables.now) (specs_in s.tables.now) (known_in v s.tables.now) arms x) (λ y. arm_in arms y bound)

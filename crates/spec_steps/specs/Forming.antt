-- Forms, as the code has them.
use Rattle.std.specs.Prelude.{List, map, Option, option_map}
use Rattle.model_questions.specs.Forms as MF
use Rattle.spec_cases.specs.declared.forms.Form.{Form}
use Rattle.spec_cases.specs.Namings.{Naming, form_of}

abbrev pub perhaps_form : Naming → Option Form → Option MF.Form
perhaps_form v o = option_map (form_of v) o

abbrev pub each_form : Naming → List Form → List MF.Form
each_form v fs = map (form_of v) fs

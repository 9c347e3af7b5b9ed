-- Whether values are equal, where they are written truths or integers.
use Rattle.std.specs.Prelude.{ℤ, Bool, true, false, List, [], ◌∷◌, Option, Some, None}
use Rattle.std.proofs.Math.Bool.{beq}
use Rattle.std.specs.Ordering.{int_eq}
use Rattle.model_questions.specs.Forms as MF
use Rattle.spec_cases.specs.declared.cases.Case.{Case}
use Rattle.spec_cases.specs.declared.forms.Form.{Form}
use Rattle.spec_cases.specs.declared.forms.Form.TheVariants as Fo
use Rattle.spec_cases.specs.declared.formulas.Fact.TheVariants as F
use Rattle.spec_cases.specs.declared.formulas.Integer.TheVariants as I

abbrev pub is_truth : Bool → Form → Option Bool
is_truth a (Fo.Fact (F.Known b)) = Some (beq a b)
is_truth a _ = None

abbrev pub is_integer : ℤ → Form → Option Bool
is_integer a (Fo.Integer (I.Written b)) = Some (int_eq a b)
is_integer a _ = None

abbrev pub is_same : Form → Form → Option Bool
is_same (Fo.Fact (F.Known a)) x = is_truth a x
is_same (Fo.Integer (I.Written a)) x = is_integer a x
is_same _ x = None

abbrev pub only_key : List (Case Form) → Form → Option Bool
only_key (c ∷ []) x = is_same c.gives x
only_key _ x = None

-- what is known not to be taken is nothing
abbrev pub unless_passed : Option Bool → MF.Cases MF.Form → MF.Cases MF.Form
unless_passed (Some false) cs = MF.nothing_said
unless_passed _ cs = cs

abbrev pub unless_taken : Option Bool → MF.Cases MF.Form → MF.Cases MF.Form
unless_taken (Some true) cs = MF.nothing_said
unless_taken _ cs = cs

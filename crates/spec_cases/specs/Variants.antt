-- A form under a guard, and whether there are variants.
use Rattle.std.specs.Prelude.{Bool, true, false, List, [], ◌∷◌}
use Rattle.model.specs.lists.Tables.{VariantEntry}
use Rattle.model_questions.specs.Formulas as M
use Rattle.model_questions.specs.Forms as MF

abbrev pub under_guard : M.Fact → MF.Form → MF.Case MF.Form
under_guard g f = record { guard = g; gives = f }

abbrev pub is_empty : List VariantEntry → Bool
is_empty [] = true
is_empty (v ∷ vs) = false

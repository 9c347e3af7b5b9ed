use Rattle.std.proofs.Common.{subst}
use Rattle.laws_specs.specs.SetConditions.{set_condition}
use Rattle.model_questions.specs.Questions.{AreUnsatisfiable}
use Rattle.spec_asked.specs.Listed.{with_classes}
use Rattle.spec_asked.proofs.ListedRules.{valid_alike}
use Rattle.spec_asked.proofs.laws.asked_rules_are_valid.Goals as goal

pub returns : goal.returns
returns c = λ p specs t set r plan qs es asked none.
    valid_alike t set r asked.classes asked.alike p specs
    (c.questions_ask_enough.ensures p specs (set_condition t set (with_classes r asked.classes)) plan (subst (AreUnsatisfiable specs) asked.all none))

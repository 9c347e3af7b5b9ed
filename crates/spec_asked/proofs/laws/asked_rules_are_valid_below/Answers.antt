use Rattle.std.proofs.Common.{◌++◌, map, subst}
use Rattle.model_questions.specs.Questions.{AreUnsatisfiable}
use Rattle.spec_asked.specs.Listed.{with_classes}
use Rattle.spec_asked.proofs.ListedRules.{valid_below_alike}
use Rattle.spec_asked.proofs.laws.asked_rules_are_valid_below.Goals as goal

pub returns : goal.returns
returns c = λ p specs t set r plan qs es asked none.
    valid_below_alike t set r asked.classes asked.alike p specs
    (c.below_ask_enough.ensures p specs t set (with_classes r asked.classes) plan es asked.excluded (subst (λ l. AreUnsatisfiable specs (map (λ q. q ++ es) l)) asked.all none))

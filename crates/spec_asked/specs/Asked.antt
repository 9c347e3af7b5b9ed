-- The joining law: where no question that was made of a rule can be satisfied, the rule's condition is valid.
use Rattle.std.specs.Prelude.{◌≡◌, ◌++◌, ℕ, Bool, List, map, All}
use Rattle.model.specs.rules.Program.{Program}
use Rattle.model.specs.sites.Sites.{SetRule, SiteSet}
use Rattle.laws_specs.specs.Conditions.{IsValid}
use Rattle.laws_specs.specs.SetConditions.{set_condition, IsValidBelowInSet}
use Rattle.laws_specs.specs.Specs.{Specs}
use Rattle.laws_questions.specs.BelowLaws.{ExcludesOne}
use Rattle.laws_questions.specs.EnoughLaws.{rule_questions}
use Rattle.model_questions.specs.Formulas.{Place, Fact}
use Rattle.model_questions.specs.Questions.{AreUnsatisfiable}
use Rattle.spec_asked.specs.Listed.{JoinAlike, with_classes}

-- lists of facts are all questions about a rule of a term's set, by a plan of the places that are split. The rule's classes are a partition,
-- which no code lists in an order of its own, so the questions are about them in some order. And these facts say that rules of greater priority
-- don't match
pub record AreQuestionsOf (p : Program) (specs : Specs) (t : ℕ) (set : SiteSet) (r : SetRule) (plan : Place → Bool) (qs : List (List Fact)) (es : List Fact) : Type 0 where
  pub classes : List (List ℕ)
  pub alike : JoinAlike classes r.classes
  pub all : qs ≡ rule_questions p specs t set (with_classes r classes) plan
  pub excluded : All (ExcludesOne p specs t set (with_classes r classes)) es

-- where no model satisfies one of them, the condition of the rule is valid
abbrev pub AskedRulesAreValid : Type 0
AskedRulesAreValid =
    (p : Program) (specs : Specs) (t : ℕ) (set : SiteSet) (r : SetRule) (plan : Place → Bool) (qs : List (List Fact)) (es : List Fact)
    → AreQuestionsOf p specs t set r plan qs es → AreUnsatisfiable specs qs → IsValid p specs (set_condition t set r)

-- where none satisfies one of them beside the facts that exclude rules, it is valid where no rule of greater priority matches
abbrev pub AskedRulesAreValidBelow : Type 0
AskedRulesAreValidBelow =
    (p : Program) (specs : Specs) (t : ℕ) (set : SiteSet) (r : SetRule) (plan : Place → Bool) (qs : List (List Fact)) (es : List Fact)
    → AreQuestionsOf p specs t set r plan qs es → AreUnsatisfiable specs (map (λ q. q ++ es) qs) → IsValidBelowInSet p specs t set r

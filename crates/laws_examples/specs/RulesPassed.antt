-- Building rule by rule: the first rule of `left_over`, whose demands no values meet, is left out and its sites stay, and
-- the second one is added; a rule of 257 arguments meets a limit, and 256 arguments stay.
use Rattle.std.specs.Prelude.{◌∷◌, [], ℕ, Option, Some, None, if◌then◌else◌, map}
use Rattle.std.specs.Bool.{◌==◌}
use Rattle.model.specs.rules.Program.{Program}
use Rattle.model.specs.sites.Limits.{arguments_limit}
use Rattle.model.specs.sites.Overlap.{limit_passed}
use Rattle.model.specs.sites.Sites.{SiteSet, argument_site}
use Rattle.model.specs.trees.Tests.{up_to}
use Rattle.laws_sites.specs.RuleByRule.{AreBuiltSoFar, BuildsRule, GoesPast, nothing_built}
use Rattle.laws_examples.specs.Answered.{one_or_two_asked}
use Rattle.laws_examples.specs.FormedRules.{f_alone, wide_rule}
use Rattle.laws_examples.specs.LeftoverSites.{any_rule, left_over_program, left_over_rules, left_over_set, never_rule}
use Rattle.laws_examples.specs.TypedForms.{no_flags}
use Rattle.laws_examples.specs.Written.{at}

-- the set after the first rule
abbrev pub after_never : SiteSet
after_never = record { rules = []; sites = left_over_set.sites }

-- where f alone has a set
abbrev pub set_of_f : SiteSet → ℕ → Option SiteSet
set_of_f set t = if t == 2 then Some set else None

-- one rule after the other, and where both are done
pub record LeftOverGoesOn : Type 0 where
  pub first : BuildsRule left_over_program [] never_rule (λ t. None) (set_of_f after_never) one_or_two_asked
  pub second : BuildsRule left_over_program (never_rule ∷ []) any_rule (set_of_f after_never) (set_of_f left_over_set) []
  pub done : AreBuiltSoFar left_over_program left_over_rules.rules (set_of_f left_over_set) one_or_two_asked

-- without the report the first step is none
abbrev pub ReportsAreNotDropped : Type 0
ReportsAreNotDropped = BuildsRule left_over_program [] never_rule (λ t. None) (set_of_f after_never) [] → ⊥

-- (rule (f _ .. _) 1) of 257 arguments
abbrev pub wide_program : Program
wide_program = record (f_alone no_flags []) { rules = wide_rule 257 ∷ [] }

-- the sites of 256 arguments
abbrev pub arguments_made : SiteSet
arguments_made = record { rules = []; sites = map argument_site (up_to 256) }

abbrev pub WideRuleIsPassed : Type 0
WideRuleIsPassed = GoesPast wide_program [] (wide_rule 257) nothing_built arguments_made (limit_passed arguments_limit (at 1) ∷ [])

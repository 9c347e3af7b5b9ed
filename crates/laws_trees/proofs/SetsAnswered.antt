-- Of a well-typed program, built sets of all terms with rules are what building gives.
use Rattle.std.proofs.Common.{ℕ, refl}
use Rattle.std.proofs.lemmas.List.Elements.{All-weaker}
use Rattle.model.specs.sites.Sites.{SiteSet}
use Rattle.model.specs.sites.RuleSets.{IsBuilt}
use Rattle.model.specs.claims.SetMeanings.{CanBeServed, DemandsAreWhole, HasNumbersInRange, MeansItsRules, TellsRulesApart}
use Rattle.laws_sites.specs.BuiltLaws.{BuiltSetsCanBeServed, BuiltDemandsAreWhole}
use Rattle.laws_trees.specs.AnswerLaws.{BuiltSetsHaveNumbersInRange, BuiltSetsAreAnswered}
use Rattle.laws_trees.specs.MatchLaws.{BuiltRulesAreToldApart}
use Rattle.laws_trees.specs.OutcomeLaws.{BuiltSetsMeanTheirRules}
use Rattle.laws_sites.proofs.LimitsReported.{reports_name_passed_limits_lem}

pub built_sets_are_answered_lem : BuiltDemandsAreWhole → BuiltSetsCanBeServed → BuiltSetsHaveNumbersInRange → BuiltSetsMeanTheirRules → BuiltRulesAreToldApart → BuiltSetsAreAnswered
built_sets_are_answered_lem whole served numbers meaning apart p sets h terms built =
    record {
      given = record {
        terms = terms;
        built = built;
        whole = All-weaker (λ (s : ℕ × SiteSet). IsBuilt p s.0 s.1) (λ s. DemandsAreWhole p s.0) (λ s b. whole p s.0 h) sets built;
        served = All-weaker (λ (s : ℕ × SiteSet). IsBuilt p s.0 s.1) (λ s. CanBeServed p s.0 s.1) (λ s b. served p s.0 s.1 h b) sets built;
        numbers = All-weaker (λ (s : ℕ × SiteSet). IsBuilt p s.0 s.1) (λ s. HasNumbersInRange p s.1) (λ s b. numbers p s.0 s.1 h b) sets built;
        meaning = All-weaker (λ (s : ℕ × SiteSet). IsBuilt p s.0 s.1) (λ s. MeansItsRules p s.0 s.1) (λ s b. meaning p s.0 s.1 h b) sets built;
        apart = All-weaker (λ (s : ℕ × SiteSet). IsBuilt p s.0 s.1) (λ s. TellsRulesApart p s.0) (λ s b. apart p s.0 h) sets built;
      };
      reported = refl;
      limits = (reports_name_passed_limits_lem p).0;
    }

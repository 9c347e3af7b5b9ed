-- What theory proves of overlap and of constraints of the rules of a set, over the numbers of its sites.
use Rattle.std.specs.Prelude.{◌≡◌, ◌↔◌, ℕ, true}
use Rattle.model.specs.rules.Program.{Program}
use Rattle.model.specs.sites.Sites.{SetRule, SiteSet}
use Rattle.model.specs.sites.Closure.{Closed}
use Rattle.model.specs.sites.Overlap.{Overlaps, IsSubsetPair, constraints_of_closed, BuiltRule}
use Rattle.model.specs.sites.RuleSets.{IsBuilt}
use Rattle.model.specs.sites.SetRules.{RuleOverlap, no_overlap, some_overlap, overlap_between}
use Rattle.model.specs.trees.Best.{total_constraints}
use Rattle.model.specs.claims.SetMeanings.{AreOneRule}

-- what is told of two rules is so of their closed demands
pub record OverlapsAsDemands (o : RuleOverlap) (a b : Closed) : Type 0 where
  pub none : (o ≡ no_overlap) ↔ (Overlaps a b → ⊥)
  pub subset : (o ≡ some_overlap true) ↔ IsSubsetPair a b

-- two rules of one built set overlap as their closed demands do
abbrev pub SetRulesOverlapAsTheirDemands : Type 0
SetRulesOverlapAsTheirDemands =
    (p : Program) (t : ℕ) (set : SiteSet) → IsBuilt p t set → (a b : BuiltRule) (r s : SetRule) → AreOneRule p t set a r → AreOneRule p t set b s
    → OverlapsAsDemands (overlap_between r s) a.demands b.demands

-- and in either order
abbrev pub OverlapOfSetRulesIsSymmetric : Type 0
OverlapOfSetRulesIsSymmetric = (r s : SetRule) → overlap_between r s ≡ overlap_between s r

-- a rule of a built set has as many constraints and equated sites as its closed demands
abbrev pub SetRulesConstrainAsTheirDemands : Type 0
SetRulesConstrainAsTheirDemands =
    (p : Program) (t : ℕ) (set : SiteSet) → IsBuilt p t set → (b : BuiltRule) (r : SetRule) → AreOneRule p t set b r
    → total_constraints r ≡ constraints_of_closed b.demands

-- Which limit is met first, by what the visit of a rule counts and by its sites.
use Rattle.std.specs.Prelude.{◌≡◌, List, Some, ℕ, ◌<◌, ◌≤◌, ◌++◌, length, take, None}
use Rattle.model.specs.rules.Typed.{TypedRule}
use Rattle.model.specs.rules.Program.{Program}
use Rattle.model.specs.sites.Sites.{SiteTerm}
use Rattle.model.specs.sites.Limits.{RuleLimit, first_limit, PassesLimit, sites_limit, passed_in_visit, most_sites, sites_reached, sites_wanted, passed_by, first_passed}
use Rattle.model.specs.visits.Demands.{demands_of, with_sites, Count, Visit, counting, visit_rule}
use Rattle.laws_sites.specs.VisitLaws.{Continues}

-- a reported limit is passed, and where one is passed one is reported
abbrev pub FirstLimitIsPassed : Type 0
FirstLimitIsPassed = (p : Program) (before : List SiteTerm) (r : TypedRule) (l : RuleLimit) → first_limit p before r ≡ Some l → PassesLimit p before r l

abbrev pub PassedLimitIsMet : Type 0
PassedLimitIsMet =
    (p : Program) (before : List SiteTerm) (r : TypedRule) (l : RuleLimit) → PassesLimit p before r l
    → (m : RuleLimit) × (first_limit p before r ≡ Some m)

-- the first count that passes a limit is the first limit that is passed, and what was made until then is what the visit had
-- made
abbrev pub FirstCountsArePassed : Type 0
FirstCountsArePassed =
    (p : Program) (r : TypedRule) (v : Visit) (c : Count) (l : RuleLimit)
    → Continues (counting c v) (visit_rule p r).visit → first_passed v.demands.counted ≡ None → passed_by c ≡ Some l
    → (passed_in_visit p r ≡ Some (l, length v.demands.made)) × (take (length v.demands.made) (demands_of p r).made ≡ v.demands.made)

-- no limit is met where the visit passes none and its sites have room; one that the visit passes is met first where the
-- sites that were reached have room, and these are what the visit made until then; and else that on sites is
pub record LimitsAreMetSo (p : Program) (before : List SiteTerm) (r : TypedRule) : Type 0 where
  pub none : passed_in_visit p r ≡ None → length (sites_wanted p before r) ≤ most_sites → first_limit p before r ≡ None
  pub of_visit : (limit : RuleLimit) (made : ℕ) → passed_in_visit p r ≡ Some (limit, made) → length (sites_reached p before r) ≤ most_sites → first_limit p before r ≡ Some limit
  pub reached : (limit : RuleLimit) (made : ℕ) → passed_in_visit p r ≡ Some (limit, made) → sites_reached p before r ≡ with_sites before (take made (demands_of p r).made)
  pub of_sites : most_sites < length (sites_reached p before r) → first_limit p before r ≡ Some sites_limit

abbrev pub LimitsAreMet : Type 0
LimitsAreMet = (p : Program) (before : List SiteTerm) (r : TypedRule) → LimitsAreMetSo p before r

-- where the sites that were made so far are too many, further ones don't change which are kept
abbrev pub first_sites : List SiteTerm → List SiteTerm
first_sites terms = take most_sites terms

abbrev pub FullSitesStay : Type 0
FullSitesStay =
    (before made more : List SiteTerm) → most_sites < length (with_sites before made)
    → (first_sites (with_sites before (made ++ more)) ≡ first_sites (with_sites before made)) × (most_sites < length (with_sites before (made ++ more)))

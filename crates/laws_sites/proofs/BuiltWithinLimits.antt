-- A rule that is built is built within the limits: no count of its visit passes one, and its closing makes no more sites
-- than there may be.
use Rattle.std.proofs.Common.{◌≡◌, ◌≤◌, true, false, not, nat_lt, List, length, None, is_none, ap, arith, ltb-false}
use Rattle.std.proofs.lemmas.Bool.{and_parts, not-true}
use Rattle.std.proofs.lemmas.Grind.{common_steps}
use Rattle.model.specs.rules.Typed.{TypedRule}
use Rattle.model.specs.rules.Program.{Program}
use Rattle.model.specs.sites.Sites.{SiteTerm}
use Rattle.model.specs.visits.Demands.{demands_of}
use Rattle.model.specs.sites.Closure.{is_unreachable, closed}
use Rattle.model.specs.sites.Limits.{most_sites, passed_in_visit, sites_until, sites_wanted, sites_reached, first_limit}
use Rattle.model.specs.sites.Overlap.{is_built}
use Rattle.model.proofs.Elements.{none_some}

-- of a rule that passes no limit
module _ (p : Program) (before : List SiteTerm) (r : TypedRule) (none : first_limit p before r ≡ None) where
  pub has_room : nat_lt most_sites (length (sites_reached p before r)) ≡ false
  has_room = grind (arith, common_steps, none_some)

  none_in_visit : passed_in_visit p r ≡ None
  none_in_visit = grind (arith, common_steps)

  pub all_wanted : sites_reached p before r ≡ sites_wanted p before r
  all_wanted = ap (sites_until p before r) none_in_visit

-- of a built rule
module _ (p : Program) (before : List SiteTerm) (r : TypedRule) (built : is_built p before r ≡ true) where
  pub is_reached : is_unreachable (demands_of p r) ≡ false
  is_reached = not-true (is_unreachable (demands_of p r)) (and_parts (is_none (first_limit p before r)) (not (is_unreachable (demands_of p r))) built).1

  -- the sites that are reached are those of the closed demands
  pub reached_closed : sites_reached p before r ≡ (closed before (demands_of p r)).made
  reached_closed = grind (arith, common_steps, all_wanted)

  -- there are no more of these than there may be
  pub few_made : length (closed before (demands_of p r)).made ≤ most_sites
  few_made = let l = ltb-false most_sites (length (sites_reached p before r)) (has_room p before r (grind arith)) in let e = ap length reached_closed in omega (arith, l, e)

-- Sites of constraints that ascend, seen by their views.
use Rattle.std.proofs.Common.{◌≡◌, ℕ, true, List, [], ◌∷◌, refl, ap, ◌∙◌}
use Rattle.core_rule_sets.specs.Listings.{ascends, sites_of}
use Rattle.core_rule_sets.specs.SiteViews.{constraint_views}
use Rattle.core_rule_sets.specs.declared.trie_again.Constraint.{Constraint}

pub sites_of_views : (cs : List (ℕ × Constraint)) → sites_of (constraint_views cs) ≡ sites_of cs
sites_of_views [] = refl
sites_of_views (c ∷ cs) = ap (λ l. c.0 ∷ l) (sites_of_views cs)

pub views_ascend : (cs : List (ℕ × Constraint)) → ascends (sites_of cs) ≡ true → ascends (sites_of (constraint_views cs)) ≡ true
views_ascend cs h = ap ascends (sites_of_views cs) ∙ h

-- The sites of a term stand once among those made, and so the sites of a built set.
use Rattle.std.proofs.Common.{◌≡◌, ℕ, zero, suc, ◌<◌, Bool, if◌then◌else◌, List, [], ◌∷◌, length, take, Some, slice_get, arith}
use Rattle.std.proofs.lemmas.Option.{slice_get_within}
use Rattle.std.proofs.lemmas.Grind.{common_steps}
use Rattle.model.specs.lists.Names.{IsDistinct}
use Rattle.model.specs.rules.Program.{Program, rules_of}
use Rattle.model.specs.rules.Typed.{TypedRule}
use Rattle.model.specs.sites.Sites.{SiteSet, SiteTerm, unfold_site}
use Rattle.model.specs.visits.Demands.{Demands, demands_of, with_sites}
use Rattle.model.specs.sites.Closure.{is_unreachable, Closed, closing, before_closing, most_closing_steps, closed}
use Rattle.model.specs.sites.Limits.{most_sites, sites_wanted, sites_reached, sites_after_rule, sites_after_rules}
use Rattle.model.specs.sites.RuleSets.{IsBuilt}
use Rattle.model.proofs.Elements.{none_some}
use Rattle.model.proofs.SitesMade.{once_with}
use Rattle.laws_sites.proofs.built.Unfolding.{one_site}

taken_from : {X : Type 0} (n : ℕ) (xs : List X) (k : ℕ) (x : X) → slice_get (take n xs) k ≡ Some x → slice_get xs k ≡ Some x
taken_from (suc n) (y ∷ xs) (suc k) x e = taken_from n xs k x e
taken_from h xs k x e = grind (arith, common_steps, none_some)

distinct_taken : {X : Type 0} (n : ℕ) (xs : List X) → IsDistinct xs → IsDistinct (take n xs)
distinct_taken n xs d j k x e f = d j k x (taken_from n xs j x e) (taken_from n xs k x f)

either_way : {X : Type 0} (P : X → Type 0) (b : Bool) (x y : X) → P x → P y → P (if b then x else y)
either_way P b x y h g = grind (arith, common_steps)

once_closing : (n : ℕ) (k : Closed) → IsDistinct k.made → IsDistinct (closing n k).made
once_closing zero k d = d
once_closing (suc n) k d = grind (arith, common_steps, once_closing n, once_with)

pub once_closed : (before : List SiteTerm) (d : Demands) → IsDistinct before → IsDistinct (closed before d).made
once_closed before d h = once_closing most_closing_steps (before_closing before d) (once_with before d.made h)

once_wanted : (p : Program) (before : List SiteTerm) (r : TypedRule) → IsDistinct before → IsDistinct (sites_wanted p before r)
once_wanted p before r h =
    either_way IsDistinct (is_unreachable (demands_of p r)) (with_sites before (demands_of p r).made) (closed before (demands_of p r)).made
    (once_with before (demands_of p r).made h) (once_closed before (demands_of p r) h)

pub once_after_rule : (p : Program) (before : List SiteTerm) (r : TypedRule) → IsDistinct before → IsDistinct (sites_after_rule p before r)
once_after_rule p before r h = distinct_taken most_sites (sites_reached p before r) (grind (arith, common_steps, once_with before, once_wanted p before r h))

pub once_after : (p : Program) (before : List SiteTerm) (rs : List TypedRule) → IsDistinct before → IsDistinct (sites_after_rules p before rs)
once_after p before [] h = h
once_after p before (r ∷ rs) h = once_after p (sites_after_rule p before r) rs (once_after_rule p before r h)

pub once_of_term : (p : Program) (t : ℕ) → IsDistinct (sites_after_rules p [] (rules_of p t))
once_of_term p t = once_after p [] (rules_of p t) (λ j k x e f. absurd (none_some x e))

-- 3. numbers of sites
module _ (p : Program) (t : ℕ) (set : SiteSet) (b : IsBuilt p t set) where
  -- two numbers that stand for one tree are one
  pub one_number : (j k : ℕ) → j < length set.sites → k < length set.sites → unfold_site set.sites j ≡ unfold_site set.sites k → j ≡ k
  one_number j k l m e = grind (arith, common_steps, once_of_term)

pub sites_stand_once_lem : (p : Program) (t : ℕ) (set : SiteSet) → IsBuilt p t set → IsDistinct set.sites
sites_stand_once_lem p t set b j k x e f = grind (arith, common_steps, one_number, slice_get_within, one_site)

-- Sites that were there stay first where more are made, so they stand for what they did.
use Rattle.std.proofs.Common.{◌≡◌, ℕ, suc, ◌<◌, ◌≤◌, List, ◌∷◌, ◌++◌, length, take, Option, Some, None, slice_get, refl, sym, subst, inl, inr, arith}
use Rattle.std.proofs.lemmas.Bool.{cases_Bool, cond-true, cond-false}
use Rattle.std.proofs.lemmas.List.{length-append, length-take}
use Rattle.std.proofs.lemmas.Option.{same_Some}
use Rattle.model.specs.rules.Program.{Program}
use Rattle.model.specs.rules.Typed.{TypedRule}
use Rattle.model.specs.sites.Sites.{Site, SiteTerm, field_terms}
use Rattle.model.specs.visits.Demands.{Demands, demands_of, with_sites}
use Rattle.model.specs.sites.Closure.{ascending, before_closing, class_at, closed, is_unreachable, most_closing_steps}
use Rattle.model.specs.sites.Limits.{RuleLimit, most_sites, passed_in_visit, sites_after_rule, sites_reached, sites_until, sites_wanted}
use Rattle.model.specs.sites.RuleSets.{StandFor}
use Rattle.laws_sites.specs.RuleByRule.{HaveGrown}
use Rattle.laws_sites.proofs.Closing.{closing_keeps}
use Rattle.core_rule_sets.proofs.FullTables.{grows}
use Rattle.core_rule_sets.specs.SiteTables.{IsTable, table_sites}
use Rattle.core_rule_sets.specs.declared.site_table.SiteTable.{SiteTable}
use Rattle.std.specs.List.{flat_map}
use Rattle.std.proofs.lemmas.Grind.{common_steps}

-- sites stay at their places
pub record StayFirst (before after : List SiteTerm) : Type 0 where
  pub longer : length before ≤ length after
  pub there : (s : ℕ) → s < length before → slice_get after s ≡ slice_get before s

at_place : (xs ys : List SiteTerm) (s : ℕ) → s < length xs → slice_get (xs ++ ys) s ≡ slice_get xs s
at_place (x ∷ xs) ys (suc s) l = at_place xs ys s (omega (arith, l))
at_place xs ys s l = grind arith

in_front : (n : ℕ) (xs : List SiteTerm) (s : ℕ) → s < n → slice_get (take n xs) s ≡ slice_get xs s
in_front (suc n) (x ∷ xs) (suc s) l = in_front n xs s (omega (arith, l))
in_front n xs s l = grind arith

pub stays_itself : (before : List SiteTerm) → StayFirst before before
stays_itself before = record { longer = omega arith; there = λ s l. refl }

pub stays_then : (before mid after : List SiteTerm) → StayFirst before mid → StayFirst mid after → StayFirst before after
stays_then before mid after h g = grind (arith, common_steps)

pub stays_with : (before made : List SiteTerm) → StayFirst before (with_sites before made)
stays_with before made = grind (arith, common_steps, grows made before, length-append before, at_place before)

pub stays_closed : (before : List SiteTerm) (d : Demands) → StayFirst (with_sites before d.made) (closed before d).made
stays_closed before d =
    closing_keeps (λ k. StayFirst (with_sites before d.made) k.made)
    (λ k h c e. stays_then (with_sites before d.made) k.made (with_sites k.made (flat_map (field_terms c.1) (ascending k.made (class_at k.classes c.0)))) h (stays_with k.made (flat_map (field_terms c.1) (ascending k.made (class_at k.classes c.0)))))
    most_closing_steps (before_closing before d) (stays_itself (with_sites before d.made))

stays_wanted : (p : Program) (before : List SiteTerm) (r : TypedRule) → StayFirst before (sites_wanted p before r)
stays_wanted p before r =
    let d = demands_of p r in
    elim (cases_Bool (is_unreachable d)) [
      | inl t ↦ subst (StayFirst before) (sym (cond-true (is_unreachable d) (with_sites before d.made) (closed before d).made t)) (stays_with before d.made)
      | inr f ↦ subst (StayFirst before) (sym (cond-false (is_unreachable d) (with_sites before d.made) (closed before d).made f)) (stays_then before (with_sites before d.made) (closed before d).made (stays_with before d.made) (stays_closed before d))
    ]

stays_until : (p : Program) (before : List SiteTerm) (r : TypedRule) (o : Option (RuleLimit × ℕ)) → StayFirst before (sites_until p before r o)
stays_until p before r (Some passed) = stays_with before (take passed.1 (demands_of p r).made)
stays_until p before r None = stays_wanted p before r

-- and where no more are kept than there may be
pub stays_in_front : (before after : List SiteTerm) → length before ≤ most_sites → StayFirst before after → StayFirst before (take most_sites after)
stays_in_front before after few h = grind (arith, common_steps, length-take most_sites after, in_front most_sites after, h.longer, h.there)

pub stays_after : (p : Program) (before : List SiteTerm) (r : TypedRule) → length before ≤ most_sites → StayFirst before (sites_after_rule p before r)
stays_after p before r few = stays_in_front before (sites_reached p before r) few (stays_until p before r (passed_in_visit p r))

-- a table whose sites stand for such has grown
pub table_grown : (old : List Site) (new : SiteTable) (before after : List SiteTerm) → IsTable new → StandFor old before → StandFor (table_sites new) after → StayFirst before after → HaveGrown old (table_sites new)
table_grown old new before after table h g stay = grind (arith, common_steps, same_Some)

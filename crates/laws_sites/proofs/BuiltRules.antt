-- The closing of a rule that is built ends, so its closed demands are whole, and none of its classes is constrained.
use Rattle.std.proofs.Common.{◌≡◌, true, List, map, filter, sym, ◌∙◌, subst}
use Rattle.std.proofs.lemmas.Bool.{false≢true}
use Rattle.model.specs.rules.Program.{Program}
use Rattle.model.specs.rules.Typed.{TypedRule}
use Rattle.model.specs.sites.Sites.{Constraint, SiteTerm}
use Rattle.model.specs.visits.Demands.{demands_of, has_site}
use Rattle.model.specs.sites.Closure.{IsUnreachable, Closed, ascending, closing, before_closing, begins_with, in_order, most_closing_steps, closed}
use Rattle.model.specs.sites.Overlap.{is_built}
use Rattle.laws_sites.specs.ClosureLaws.{HasEnded, ClosingEnds}
use Rattle.laws_sites.specs.BuiltLaws.{ClosingsOfBuiltRulesAreWhole, ConstrainedSitesStandInNoClass}
use Rattle.model.proofs.Elements.{In, in_from_contains, any_in, in_map, from_flat_map, in_filter, passed_filter}
use Rattle.laws_sites.proofs.ClosingEnds.{few_made_end}
use Rattle.laws_sites.proofs.Settled.{verdict_is_exact_lem}
use Rattle.laws_sites.proofs.FollowingDemands.{none_constrained}
use Rattle.laws_sites.proofs.WholeClosing.{closing_is_whole_lem}
use Rattle.laws_sites.proofs.BuiltWithinLimits.{is_reached, few_made}

pub closing_ends_lem : ClosingEnds
closing_ends_lem p before r built = few_made_end before (demands_of p r) (few_made p before r built)

-- values can meet its demands
pub reachable : (p : Program) (before : List SiteTerm) (r : TypedRule) → is_built p before r ≡ true → IsUnreachable (demands_of p r) → ⊥
reachable p before r built u = false≢true (sym (is_reached p before r built) ∙ (verdict_is_exact_lem (demands_of p r)).1 u)

pub closings_of_built_rules_are_whole_lem : ClosingsOfBuiltRulesAreWhole
closings_of_built_rules_are_whole_lem p before r made built =
    closing_is_whole_lem before (demands_of p r) made (reachable p before r built) (closing_ends_lem p before r built)

-- the sites of classes in order are made, so where the closing ended none of them is constrained
ended_apart : (k : Closed) → HasEnded k → (s : SiteTerm) (c : Constraint) (class : List SiteTerm) → In k.constraints (s, c) → In (in_order k).classes class → In class s → ⊥
ended_apart k ended s c class i j m =
    let f = from_flat_map (λ u. filter (begins_with u) (map (ascending k.made) k.classes)) k.made class j in
    let l = in_map (ascending k.made) k.classes class (in_filter (begins_with f.0) (map (ascending k.made) k.classes) class f.2) in
    let n = subst (λ q. In q s) (sym l.2) m in
    false≢true
    (sym (none_constrained k.classes k.constraints k.made ended s c (in_filter (has_site l.0) k.made s n) i)
    ∙ any_in (λ (q : List SiteTerm). has_site q s) k.classes l.0 l.1 (passed_filter (has_site l.0) k.made s n))

pub constrained_sites_stand_in_no_class_lem : ConstrainedSitesStandInNoClass
constrained_sites_stand_in_no_class_lem p before r built s c class i j m =
    ended_apart (closing most_closing_steps (before_closing before (demands_of p r))) (closing_ends_lem p before r built) s c class
    (in_from_contains (closed before (demands_of p r)).constraints (s, c) i) (in_from_contains (closed before (demands_of p r)).classes class j) (in_from_contains class s m)

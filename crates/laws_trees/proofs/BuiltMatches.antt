-- Under each of its picks a rule of a built set matches exactly where its demands hold, by the numbers of the set.
use Rattle.std.proofs.Common.{◌↔◌, ◌≡◌, ap, ◌∙◌, ℕ, [], is_some, Contains, sym, subst}
use Rattle.model.specs.rules.Program.{Program, rules_of}
use Rattle.model.specs.rules.Picks.{matches_under}
use Rattle.model.specs.trees.Run.{world_of}
use Rattle.model.specs.trees.Collects.{demands_hold}
use Rattle.model.specs.visits.Demands.{demands_of}
use Rattle.model.specs.sites.Closure.{ClosedIsWhole, DemandsHold, closed, ClosedDemandsHold}
use Rattle.model.specs.sites.Overlap.{BuiltRule, built_rules}
use Rattle.model.proofs.Elements.{in_from_contains, contains_from_in, in_slice}
use Rattle.laws_sites.specs.BuiltLaws.{BuiltDemandsAreWhole}
use Rattle.laws_trees.specs.MatchLaws.{IsTried, BuiltDemandsHoldAlike, BuiltSetsMatchByDemands}
use Rattle.laws_sites.proofs.overlaps.Overlaps.{bool_same}
use Rattle.laws_sites.proofs.built.BuiltGates.{was_built, one_rule}
use Rattle.laws_trees.proofs.ClosedAlike.{closed_demands_hold_alike_lem}
use Rattle.laws_trees.proofs.Numbers.{numbers_hold}
use Rattle.laws_trees.proofs.Visits.{given, visits_match_lem}

-- a built rule's demands, after the sites of the rules before it
pub built_demands_hold_alike_lem : BuiltDemandsAreWhole → BuiltDemandsHoldAlike
built_demands_hold_alike_lem whole p t m args b k h i a =
    let w = was_built p [] (rules_of p t) b (in_from_contains (built_rules p t) b i) in
    let rule = ap (λ (x : BuiltRule). x.rule) w.same in
    let demands : closed w.before (demands_of p b.rule) ≡ b.demands = ap (λ x. closed w.before (demands_of p x)) (sym rule) ∙ ap (λ (x : BuiltRule). x.demands) w.same in
    subst (λ d. DemandsHold m args k (demands_of p b.rule) ↔ ClosedDemandsHold m args k d) demands
    (closed_demands_hold_alike_lem p t m args b.rule k h a w.before (subst (ClosedIsWhole (demands_of p b.rule)) (sym demands) (whole p t h b i)))

-- a built rule is one of its term
pub built_listed : (p : Program) (t : ℕ) (b : BuiltRule) → Contains (built_rules p t) b → Contains (rules_of p t) b.rule
built_listed p t b i =
    let w = was_built p [] (rules_of p t) b (in_from_contains (built_rules p t) b i) in
    subst (Contains (rules_of p t)) (ap (λ (x : BuiltRule). x.rule) w.same) (contains_from_in (rules_of p t) w.rule w.listed)

pub built_sets_match_by_demands_lem : BuiltDemandsAreWhole → BuiltSetsMatchByDemands
built_sets_match_by_demands_lem whole p t set h built m args typed served apart b r k one pick =
    let q = one_rule p t set b r built one in
    let i = contains_from_in (built_rules p t) b (in_slice (built_rules p t) one.place b one.typed) in
    let a : IsTried p t m args b.rule k = record { typed = typed; served = served; rule = built_listed p t b i; pick = pick } in
    let v = visits_match_lem p t m args b.rule k h a in
    let c = built_demands_hold_alike_lem whole p t m args b k h i a in
    let n = numbers_hold (given p m args k) t set.sites b.demands r q.constraints q.classes in
    bool_same (is_some (matches_under p m k b.rule args)) (demands_hold (world_of p t set.sites m args) k r)
    (λ j. n.1 (c.0 (v.matching.0 j))) (λ j. v.matching.1 (c.1 (n.0 j)))

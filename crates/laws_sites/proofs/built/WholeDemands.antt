-- The closed demands of rules that are built of well-typed ones are all that follows.
use Rattle.std.proofs.Common.{[], subst}
use Rattle.model.specs.rules.Program.{rules_of}
use Rattle.model.specs.visits.Demands.{demands_of}
use Rattle.model.specs.sites.Closure.{ClosedIsWhole}
use Rattle.model.specs.sites.Overlap.{BuiltRule, built_rules}
use Rattle.laws_sites.specs.BuiltLaws.{BuiltDemandsAreWhole}
use Rattle.model.proofs.Elements.{in_from_contains, contains_from_in}
use Rattle.laws_sites.proofs.BuiltRules.{closings_of_built_rules_are_whole_lem}
use Rattle.laws_sites.proofs.BoundSites.{formed_rules_make_equal_sites_lem}
use Rattle.laws_sites.proofs.built.BuiltGates.{was_built}
use Rattle.laws_sites.proofs.built.BuiltSets.{typed_rule}

pub built_demands_are_whole_lem : BuiltDemandsAreWhole
built_demands_are_whole_lem p t h b i =
    let w = was_built p [] (rules_of p t) b (in_from_contains (built_rules p t) b i) in
    let formed = (typed_rule p t w.rule h (contains_from_in (rules_of p t) w.rule w.listed)).formed in
    subst (λ (k : BuiltRule). ClosedIsWhole (demands_of p k.rule) k.demands) w.same
    (closings_of_built_rules_are_whole_lem p w.before w.rule (formed_rules_make_equal_sites_lem p w.rule formed) w.built)

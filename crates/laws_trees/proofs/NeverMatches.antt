-- A rule of a well-typed program that is unreachable never matches, under any of its picks.
use Rattle.model.specs.rules.Program.{rules_of}
use Rattle.laws_trees.specs.MatchLaws.{UnreachableRulesNeverMatch}
use Rattle.laws_trees.proofs.FormedDemands.{rule_formed}
use Rattle.laws_trees.proofs.Unreachable.{can_be_met}
use Rattle.laws_trees.proofs.Visits.{given, tried}

pub unreachable_rules_never_match_lem : UnreachableRulesNeverMatch
unreachable_rules_never_match_lem p t m args r k h a apart u i =
    let b = tried p t m args r k h a in
    can_be_met (given p m args k) (rules_of p t) r
    (record { here = a.rule; served = a.served; types = h.types; formed = rule_formed p h.parts r b.rule.formed; met = b.matches.met i }) apart u

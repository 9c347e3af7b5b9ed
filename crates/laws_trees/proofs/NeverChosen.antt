-- A rule that is shadowed is never chosen, so it can be taken away.
use Rattle.std.proofs.Common.{ℤ, [], arith, ◌≤ℤ◌, ◌<ℤ◌}
use Rattle.std.proofs.lemmas.Int.{ints}
use Rattle.model.specs.rules.Program.{rules_of}
use Rattle.model.specs.sites.Overlap.{built_rules}
use Rattle.model.proofs.Elements.{in_from_contains}
use Rattle.laws_trees.proofs.choosing.OtherRules.{most, chosen_matches, others_in_programs_can_be_taken_away_lem}
use Rattle.laws_trees.specs.MatchLaws.{BuiltRulesAreToldApart}
use Rattle.laws_trees.specs.ShadowedLaws.{ShadowedRulesAreNeverChosen, ShadowedRulesCanBeTakenAway}
use Rattle.laws_sites.proofs.overlaps.ReportedOverlaps.{built_of}

not_both : (x y : ℤ) → x <ℤ y → y ≤ℤ x → ⊥
not_both x y a b = omega (arith, ints)

pub shadowed_rules_are_never_chosen_lem : BuiltRulesAreToldApart → ShadowedRulesAreNeverChosen
shadowed_rules_are_never_chosen_lem told p t mask r h without i j shadow m args typed served apart g =
    let one = built_of p [] (rules_of p t) mask (in_from_contains (built_rules p t) mask i) in
    let hit =
    (told p t h).shadow m args typed served apart mask r
    (record { one_of = i; other_of = j; one_result = without }) shadow (chosen_matches p m args (rules_of p t) r.rule g) in
    not_both r.rule.prio mask.rule.prio shadow.above (most p m args (rules_of p t) r.rule g mask.rule one hit)

pub shadowed_rules_can_be_taken_away_lem : ShadowedRulesAreNeverChosen → ShadowedRulesCanBeTakenAway
shadowed_rules_can_be_taken_away_lem never p t mask r h without i j shadow q before after terms rs qs m args typed served apart =
    others_in_programs_can_be_taken_away_lem p q before after r.rule terms rs qs t m args
    (never p t mask r h without i j shadow m args typed served apart)

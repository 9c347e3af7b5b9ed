-- The rules of a well-typed program's term that isn't multi go over no calls.
use Rattle.std.proofs.Common.{ap, ◌∙◌}
use Rattle.model.specs.rules.Program.{is_multi}
use Rattle.laws_typing.proofs.WellTypedPrograms.{without_multi}
use Rattle.laws_trees.proofs.picks.OnePick.{no_iterators}
use Rattle.laws_trees.specs.MatchLaws.{RulesWithoutMultiGoOverNoCalls}
use Rattle.laws_sites.proofs.built.BuiltSets.{of_term, typed_rule}

pub rules_without_multi_go_over_no_calls_lem : RulesWithoutMultiGoOverNoCalls
rules_without_multi_go_over_no_calls_lem p t h without r c = no_iterators p r (without_multi (typed_rule p t r h c) (ap (is_multi p) (of_term p t r c).1 ∙ without))

use Rattle.std.proofs.Common.{◌≡◌, ◌<◌, subst, arith}
use Rattle.model.specs.sites.Limits.{most_arguments}
use Rattle.model.specs.sites.Sites.{argument}
use Rattle.model.specs.visits.Demands.{argument_taken, counting, taking_argument, valued}
use Rattle.model.proofs.Members.{nothing_in}
use Rattle.core_rule_sets.proofs.SitesAdded.{weaker_ok}
use Rattle.core_builder.specs.VisitedSites.{MakesSite, ValuesTo}
use Rattle.core_builder.proofs.BuilderSteps.{argument_passes, counted_stands}
use Rattle.core_builder.proofs.ruleset_builder.RuleSetBuilder.make_argument.Goals as goal

pub returns-clause-made : goal.returns-clause-made
returns-clause-made c before v h =
    let old = c.args.self.now in
    let new = c.make.new.self in
    let i = c.args.index in
    let same : c.in-Ok.index ≡ i = omega (arith, c.in-Ok.ensures) in
    let few : i < most_arguments = omega (arith, c.in-Ok.ensures) in
    let w = counting (argument_taken i) v in
    weaker_ok (MakesSite before old new w (argument c.in-Ok.index)) (λ n. (i < most_arguments) × ValuesTo before old new (valued (argument i) (taking_argument i v)) n) c.make.result
    (λ n m. (few, let k = subst (λ j. MakesSite before old new w (argument j) n) same m in record { goes = k.goes; site = k.site }))
    (c.make.ensures.made before w (counted_stands before old v (argument_taken i) h (argument_passes i few)) (λ a k. absurd (nothing_in a k)))

use Rattle.std.proofs.Common.{refl}
use Rattle.model.specs.sites.Sites.{unfold_site}
use Rattle.core_builder.specs.VisitedSites.{built_sites}
use Rattle.core_builder.proofs.BuilderFields.{below_one, many_answered, some_answered}
use Rattle.core_builder.proofs.ruleset_builder.RuleSetBuilder.open_answer.Goals as goal

pub returns-in_ok-iterate-clause-opened : goal.returns-in_ok-iterate-clause-opened
returns-in_ok-iterate-clause-opened c before v h l =
    let old = c.args.self.now in
    let s = c.args.call in
    let a = many_answered before old c.make.new.self c.iterate.new.self v s c.in_ok-site.site (unfold_site (built_sites old) s) l refl
    (c.in_ok-site.ensures.made before v h (below_one old s l)) (λ w g k. c.in_ok-iterate.ensures.gone_over before w g k) in
    rw c.if-multi.true (record { goes = a.0; site = a.1 })

pub returns-in_ok-ask-clause-opened : goal.returns-in_ok-ask-clause-opened
returns-in_ok-ask-clause-opened c before v h l =
    let old = c.args.self.now in
    let s = c.args.call in
    let a = some_answered before old c.make-else-infallible.new.self c.ask.new.self v s c.in_ok-site-2.site (unfold_site (built_sites old) s) l refl
    (c.in_ok-site-2.ensures.made before v h (below_one old s l)) (λ w g k. c.in_ok-ask.ensures.asked before w g k) in
    rw (c.if-multi.false, c.if-infallible.false) (record { goes = a.0; site = a.1 })

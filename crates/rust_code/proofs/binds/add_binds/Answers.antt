use Rattle.std.proofs.Common.{rules, refl}
use Rattle.model_code.specs.TreeCode.{binds_code}
use Rattle.core_rule_sets.specs.SiteViews.{site_views}
use Rattle.rust_code.specs.CodeViews.{before}
use Rattle.rust_code.specs.HeldViews.{passes_in}
use Rattle.rust_code.proofs.StatementSteps.{binds_more, binds_done}
use Rattle.rust_code.proofs.binds.add_binds.Goals as goal

pub loop-site-init : goal.loop-site-init
loop-site-init c = λ rest. refl

pub loop-site-preserved : goal.loop-site-preserved
loop-site-preserved c =
    let sites = site_views c.args.stage.now.sites.now in
    let p = passes_in c.args.stage.now in
    binds_more sites p c.loop-site.out.items c.push.new.self.items c.args.sites.now c.in_ok-bound.bound c.site-item.result c.loop-site.site-index
    (λ rest. before c.args.out.now.items (binds_code sites p c.args.sites.now rest)) (search rules) c.site-item.is c.in_ok-bound.ensures c.in_ok-push.ensures.items c.loop-site.invariant

pub returns : goal.returns
returns c =
    let sites = site_views c.args.stage.now.sites.now in
    let p = passes_in c.args.stage.now in
    binds_done sites p c.loop-site.out.items c.args.sites.now c.loop-site.site-index (λ rest. before c.args.out.now.items (binds_code sites p c.args.sites.now rest)) (search rules) c.loop-site.invariant

use Rattle.std.proofs.Common.{rules}
use Rattle.model_code.specs.TreeCode.{to_field, use_at}
use Rattle.core_rule_sets.specs.SiteViews.{site_views}
use Rattle.rust_code.specs.HeldViews.{passes_in}
use Rattle.rust_code.proofs.UseSteps.{uses_start, uses_more, uses_done}
use Rattle.rust_code.proofs.uses.kept_uses.Goals as goal

pub loop-site-init : goal.loop-site-init
loop-site-init c = uses_start (use_at (site_views c.args.stage.now.sites.now) (passes_in c.args.stage.now) to_field) c.args.sites.now c.new-uses.result.items c.new-uses.ensures.items

pub loop-site-preserved : goal.loop-site-preserved
loop-site-preserved c =
    uses_more (use_at (site_views c.args.stage.now.sites.now) (passes_in c.args.stage.now) to_field) c.loop-site.uses.items c.push.new.self.items c.args.sites.now c.kept_use-place.result c.site-item.result c.loop-site.site-index _
    (search rules) c.site-item.is c.kept_use-place.ensures.field c.in_ok-push.ensures.items c.loop-site.invariant

pub returns : goal.returns
returns c =
    uses_done (use_at (site_views c.args.stage.now.sites.now) (passes_in c.args.stage.now) to_field) c.loop-site.uses.items c.args.sites.now c.loop-site.site-index _ (search rules) c.loop-site.invariant

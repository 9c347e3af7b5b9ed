use Rattle.std.proofs.Common.{◌∙◌}
use Rattle.core_builder.proofs.UnwrappedSites.{one_more_key}
use Rattle.core_builder.proofs.builder_rules.insert_each.Goals as goal

pub loop-site-preserved : goal.loop-site-preserved
loop-site-preserved c =
    one_more_key c.loop-site.due.keys c.insert.new.self.keys c.args.sites.now c.loop-site.site-index c.site-item.result c.loop-site-test.true c.site-item.is c.in_ok-insert.ensures.keys
    ∙ c.loop-site.invariant

use Rattle.core_serialize.proofs.ClassNames.{named_more}
use Rattle.core_serialize.proofs.around.put_names.Goals as goal

pub loop-site-preserved : goal.loop-site-preserved
loop-site-preserved c = named_more c.args.sites.now c.loop-site.site-index c.args.name c.args.names.now.items c.loop-site.names.items c.put.new.items.items c.loop-site-test.true c.put.ensures c.loop-site.invariant

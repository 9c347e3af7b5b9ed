use Rattle.std.proofs.Common.{arith}
use Rattle.report_traces.proofs.EchoedTerms.{called_all, called_more}
use Rattle.report_traces.proofs.echoed.terms_called.Goals as goal

pub loop-site-preserved : goal.loop-site-preserved
loop-site-preserved c =
    called_more c.args.sites.now c.loop-site.site-index c.site-item.result _ _ _ c.loop-site-test.true c.site-item.is c.in_ok-push_site.ensures c.loop-site.invariant

pub returns : goal.returns
returns c = called_all c.args.sites.now c.loop-site.site-index _ _ (omega (arith, c.loop-site-test.false)) c.loop-site.invariant

use Rattle.std.proofs.Common.{arith}
use Rattle.report_print.specs.TreeTexts.{tree_names}
use Rattle.report_print.proofs.PrintSteps.{one_more, no_more, sites_spelled}
use Rattle.report_print.proofs.print.print_sites.Goals as goal

pub loop-site-preserved : goal.loop-site-preserved
loop-site-preserved c =
    one_more _ _ (sites_spelled (tree_names c.args.names)) c.args.sites.now c.loop-site.site-index c.site-item.result _ _ _ c.loop-site-test.true c.site-item.is c.in_ok-print_site.ensures c.loop-site.invariant

pub returns : goal.returns
returns c =
    no_more _ _ (sites_spelled (tree_names c.args.names)) c.args.sites.now c.loop-site.site-index _ _ (omega (arith, c.loop-site-test.false)) c.loop-site.invariant

use Rattle.std.proofs.Common.{◌≡◌, rules, refl, sym, ap, ◌∙◌}
use Rattle.run_terms.proofs.VarSteps.{copy_done, copy_more}
use Rattle.run_terms.proofs.vars.copied.Goals as goal

pub loop-entry-preserved : goal.loop-entry-preserved
loop-entry-preserved c =
    copy_more c.loop-entry.copy.items c.push.new.self.items c.args.vars.now c.entry-item.result c.in_ok-value.value c.loop-entry.entry-index (search rules) c.entry-item.is
    c.in_ok-push.ensures.items c.in_ok-value.ensures c.loop-entry.invariant

pub returns : goal.returns
returns c = copy_done c.loop-entry.copy.items c.args.vars.now c.loop-entry.entry-index (search rules) c.loop-entry.invariant

use Rattle.std.proofs.Common.{[], refl, rules}
use Rattle.core_syntax.proofs.Positioned.{notes_nothing}
use Rattle.core_terms.proofs.Breaches.{begins_noted}
use Rattle.core_terms.proofs.NotedPositions.{next_noted, placed_among, placed_same}
use Rattle.core_terms.proofs.RootSteps.{next_rule_root}
use Rattle.core_terms.proofs.term_table.TermTable.read_roots.Goals as goal

pub loop-def-preserved : goal.loop-def-preserved
loop-def-preserved g c =
    let a = c.in_ok-read_if_rule.ensures in (
      next_rule_root _ c.requires.0 c.args.defs.now c.loop-def.def-index c.def-item.result (search rules) c.def-item.is _ _ _ _ _ a.within a.reads (begins_noted _ _ _ a.places) c.loop-def.invariant.0,
      next_noted c.args.defs.now c.loop-def.def-index c.def-item.result (search rules) c.def-item.is _ _ _ a.places c.loop-def.invariant.1,
      placed_among _ _ _ c.loop-def.invariant.2.each a.placed,
    )

pub loop-def-init : goal.loop-def-init
loop-def-init g c = (c.requires.1, notes_nothing _ _ _ refl, placed_same c.args.self.now c.args.self.now [] refl)

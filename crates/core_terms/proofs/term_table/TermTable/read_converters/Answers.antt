use Rattle.std.proofs.Common.{refl, ◌∙◌, rules}
use Rattle.core_syntax.proofs.Positioned.{notes_nothing}
use Rattle.core_terms.proofs.ConverterSteps.{next_converter, told_converter, told_start}
use Rattle.core_terms.proofs.Breaches.{begins_noted}
use Rattle.core_terms.proofs.NotedPositions.{next_noted}
use Rattle.core_terms.proofs.term_table.TermTable.read_converters.Goals as goal

pub loop-def-preserved : goal.loop-def-preserved
loop-def-preserved g c =
    let a = c.in_ok-read_if_converter.ensures in (
      next_converter _ c.requires.0 c.args.defs.now c.loop-def.def-index c.def-item.result (search rules) c.def-item.is _ _ _ _ _ a.within a.reads (begins_noted _ _ _ a.places) c.loop-def.invariant.0,
      next_noted c.args.defs.now c.loop-def.def-index c.def-item.result (search rules) c.def-item.is _ _ _ a.places c.loop-def.invariant.1,
      c.read_if_converter.ensures.terms ∙ c.loop-def.invariant.2,
      told_converter _ c.requires.0 c.args.defs.now c.loop-def.def-index c.def-item.result (search rules) c.def-item.is _ c.loop-def.invariant.0.left _ _ _ _ _ a.reads c.loop-def.invariant.3,
    )

pub loop-def-init : goal.loop-def-init
loop-def-init g c = (c.requires.1.0, notes_nothing _ _ _ refl, refl, told_start _ _ _ _ _ c.requires.1.1 c.requires.1.0)

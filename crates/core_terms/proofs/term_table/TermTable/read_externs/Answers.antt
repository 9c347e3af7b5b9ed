use Rattle.std.proofs.Common.{rules}
use Rattle.core_terms.proofs.ExternSteps.{next_extern}
use Rattle.core_terms.proofs.NotedPositions.{not_begun, next_so_far}
use Rattle.core_terms.proofs.TypesStaying.{left_more}
use Rattle.core_terms.proofs.term_table.TermTable.read_externs.Goals as goal

pub returns-in_err-read_if_extern-clause-left : goal.returns-in_err-read_if_extern-clause-left
returns-in_err-read_if_extern-clause-left g c = left_more _ c.requires.0 _ c.loop-def.invariant.0.left _ c.read_if_extern.ensures.interns

pub loop-def-preserved : goal.loop-def-preserved
loop-def-preserved g c =
    let a = c.in_ok-read_if_extern.ensures in (
      next_extern _ c.requires.0 c.args.defs.now c.loop-def.def-index c.def-item.result (search rules) c.def-item.is _ _ _ _ _ _ a.interns a.within a.reads a.begins c.loop-def.invariant.0,
      next_so_far c.args.defs.now c.loop-def.def-index c.def-item.result (search rules) c.def-item.is _ _ _ _ _ _ a.places a.placed c.loop-def.invariant.1,
    )

pub loop-def-init : goal.loop-def-init
loop-def-init g c = (c.requires.1, not_begun _ _ _)

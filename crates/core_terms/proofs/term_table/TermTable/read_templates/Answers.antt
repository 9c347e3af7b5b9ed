use Rattle.std.proofs.Common.{◌≡◌, false, sym, ◌∙◌, rules}
use Rattle.std.proofs.lemmas.Bool.{false≢true}
use Rattle.core_terms.proofs.ErrorSteps.{reads_as}
use Rattle.core_terms.proofs.NotedPositions.{not_begun, next_so_far}
use Rattle.core_terms.proofs.TemplateSteps.{next_template}
use Rattle.core_terms.proofs.term_table.TermTable.read_templates.Goals as goal

pub loop-def-preserved : goal.loop-def-preserved
loop-def-preserved g c =
    let a = c.in_ok-read_if_template.ensures in (
      a.callees,
      reads_as _ _ _ _ _ _ _ _ (λ h. h.1)
          (next_template _ c.requires.0 c.args.defs.now c.loop-def.def-index c.def-item.result (search rules) c.def-item.is _ _ _ _ _ _ _ _ a.within a.reads a.begins c.loop-def.invariant.1),
      next_so_far c.args.defs.now c.loop-def.def-index c.def-item.result (search rules) c.def-item.is _ _ _ _ _ _ a.places a.placed c.loop-def.invariant.2,
    )

pub loop-def-init : goal.loop-def-init
loop-def-init g c = (c.requires.1.0, c.requires.1.1, not_begun _ _ _)

pub returns-then-not-branch-clause-reads : goal.returns-then-not-branch-clause-reads
returns-then-not-branch-clause-reads g c =
    let a = c.in_ok-read_if_template.ensures in
    let stops : c.in_ok-read_if_template.field-0 ≡ false = search rules in
    reads_as _ _ _ _ _ _ _ _ (λ h. absurd (false≢true (sym stops ∙ h.0)))
    (next_template _ c.requires.0 c.args.defs.now c.loop-def.def-index c.def-item.result (search rules) c.def-item.is _ _ _ _ _ _ _ _ a.within a.reads a.begins c.loop-def.invariant.1)

pub returns-then-not-branch-clause-places : goal.returns-then-not-branch-clause-places
returns-then-not-branch-clause-places g c =
    let a = c.in_ok-read_if_template.ensures in
    (next_so_far c.args.defs.now c.loop-def.def-index c.def-item.result (search rules) c.def-item.is _ _ _ _ _ _ a.places a.placed c.loop-def.invariant.2).noted

pub returns-then-not-branch-clause-placed : goal.returns-then-not-branch-clause-placed
returns-then-not-branch-clause-placed g c =
    let a = c.in_ok-read_if_template.ensures in
    (next_so_far c.args.defs.now c.loop-def.def-index c.def-item.result (search rules) c.def-item.is _ _ _ _ _ _ a.places a.placed c.loop-def.invariant.2).kept

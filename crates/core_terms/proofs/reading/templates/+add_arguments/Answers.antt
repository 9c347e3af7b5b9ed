use Rattle.std.proofs.Common.{refl}
use Rattle.core_syntax.proofs.PatternViews.{row_patterns-hidden}
use Rattle.core_terms.proofs.reading.templates.+add_arguments.Goals as goal

pub loop-arg-init : goal.loop-arg-init
loop-arg-init t c = (
  rw (c.in-Term.is, row_patterns-hidden c.in-Term.args, c.deref-arg-items.ensures.value) refl,
  rw (c.in-Term.is, row_patterns-hidden c.in-Term.args, c.deref-arg-items.ensures.value) refl,
)

pub loop-subpat-init : goal.loop-subpat-init
loop-subpat-init t c = (
  rw (c.in-And.is, row_patterns-hidden c.in-And.subpats, c.deref-subpat-items.ensures.value) refl,
  rw (c.in-And.is, row_patterns-hidden c.in-And.subpats, c.deref-subpat-items.ensures.value) refl,
)

use Rattle.core_syntax.proofs.PatternViews.{row_patterns-hidden}
use Rattle.text_writer.proofs.patterns.+pattern.Goals as goal

pub push_pattern-returns-in-Term : goal.push_pattern-returns-in-Term
push_pattern-returns-in-Term t c =
    rw (c.in-Term.is, row_patterns-hidden c.in-Term.args, ← c.deref-in-Term-2.ensures.value, ← c.deref-in-Term.ensures) c.push_pattern_list.ensures

pub push_pattern-returns-in-And : goal.push_pattern-returns-in-And
push_pattern-returns-in-And t c =
    rw (c.in-And.is, row_patterns-hidden c.in-And.subpats, ← c.deref-in-And.ensures.value) c.push_pattern_list-in-And.ensures

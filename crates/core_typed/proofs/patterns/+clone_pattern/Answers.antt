use Rattle.std.proofs.Common.{refl, rules}
use Rattle.core_typed.specs.PatternViews.{pattern_view}
use Rattle.core_typed.proofs.Copies.{step_copies, end_copies}
use Rattle.core_typed.proofs.PatternBridges.{row_patterns-hidden}
use Rattle.core_typed.proofs.patterns.+clone_pattern.Goals as goal

pub PatternClone::clone-returns-in_ok-clones-in-Term : goal.PatternClone::clone-returns-in_ok-clones-in-Term
PatternClone::clone-returns-in_ok-clones-in-Term t c =
    record { cases = rw (c.in-Term.is, row_patterns-hidden c.in_ok-clones-in-Term.field-0, row_patterns-hidden c.in-Term.args, c.in_ok-clones-in-Term.ensures, c.deref-in-Term.ensures.value) refl }

pub PatternClone::clone-returns-in_ok-clones-in-And : goal.PatternClone::clone-returns-in_ok-clones-in-And
PatternClone::clone-returns-in_ok-clones-in-And t c =
    record { cases = rw (c.in-And.is, row_patterns-hidden c.in_ok-clones-in-And.field-0, row_patterns-hidden c.in-And.parts, c.in_ok-clones-in-And.ensures, c.deref-in-And.ensures.value) refl }

pub clones-loop-part-preserved : goal.clones-loop-part-preserved
clones-loop-part-preserved t c =
    step_copies pattern_view c.loop-part.out.items c.push.new.self.items c.args.parts.now c.in_ok-clone.field-0 c.part-item.result c.loop-part.part-index (search rules) c.part-item.is c.in_ok-clone.ensures.cases c.in_ok-push.ensures.items c.loop-part.invariant

pub clones-returns : goal.clones-returns
clones-returns t c = end_copies pattern_view c.loop-part.out.items c.args.parts.now c.loop-part.part-index (search rules) c.loop-part.invariant

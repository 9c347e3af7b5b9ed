use Rattle.std.proofs.Common.{refl, rules}
use Rattle.core_syntax.proofs.PatternViews.{row_patterns-hidden, step_before, end_before}
use Rattle.core_syntax.proofs.syntax.+pattern_clone.Goals as goal

pub PatternClone::clone-returns-in_ok-pattern_clones-in-Term : goal.PatternClone::clone-returns-in_ok-pattern_clones-in-Term
PatternClone::clone-returns-in_ok-pattern_clones-in-Term t c =
    record { cases = rw (c.in-Term.is, row_patterns-hidden c.in_ok-pattern_clones-in-Term.field-0, row_patterns-hidden c.in-Term.args, c.in_ok-clone-in-Term.ensures.cases, c.in_ok-pattern_clones-in-Term.ensures, c.deref-in-Term.ensures.value) refl }

pub pattern_clones-loop-part-preserved : goal.pattern_clones-loop-part-preserved
pattern_clones-loop-part-preserved t c =
    step_before (λ qs. qs) (λ q. q) refl (λ q qs. refl) c.loop-part.out.items c.push.new.self.items c.args.parts.now c.in_ok-clone.field-0 c.part-item.result c.loop-part.part-index (search rules) c.part-item.is c.in_ok-clone.ensures.cases c.in_ok-push.ensures.items c.loop-part.invariant

pub pattern_clones-returns : goal.pattern_clones-returns
pattern_clones-returns t c = end_before (λ qs. qs) (λ q. q) refl (λ q qs. refl) c.loop-part.out.items c.args.parts.now c.loop-part.part-index (search rules) c.loop-part.invariant

use Rattle.std.proofs.Common.{IsTrue, [], refl, rules}
use Rattle.std.proofs.lemmas.List.{drop_all}
use Rattle.std.proofs.lemmas.List.Elements.{All-nil}
use Rattle.core_syntax.proofs.Positioned.{notes_nothing}
use Rattle.core_terms.specs.TermViews.{term_view, term_views}
use Rattle.core_typed.specs.RuleNaming.{is_defined_term, AreDefined, IsLeftUndefined}
use Rattle.core_typed.proofs.FirstErrors.{begins_first, may_begin}
use Rattle.core_typed.proofs.DefinedSteps.{first_defined, next_defined, last_defined, next_begins, terms_before}
use Rattle.core_typed.proofs.NotedPositions.{next_placed}
use Rattle.core_typed.proofs.rule_names.check_defined.Goals as goal

pub loop-term-init : goal.loop-term-init
loop-term-init c = (first_defined _ _, notes_nothing _ _ _ refl, begins_first (IsLeftUndefined (term_views c.args.terms.now)) (AreDefined []) _ (All-nil (λ t. IsTrue (is_defined_term t))))

pub loop-term-preserved : goal.loop-term-preserved
loop-term-preserved c = (
  next_defined c.args.terms.now c.loop-term.term-index c.term-item.result (search rules) c.term-item.is _ _ _ c.loop-term.invariant.0 c.in_ok-check_term.ensures.checks,
  next_placed (λ t. t.at) term_view c.args.terms.now c.loop-term.term-index c.term-item.result (search rules) c.term-item.is _ _ _ c.loop-term.invariant.1 c.in_ok-check_term.ensures.places,
  next_begins c.args.terms.now c.loop-term.term-index c.term-item.result (search rules) c.term-item.is _ _ _ c.in_ok-check_term.ensures.checks c.in_ok-check_term.ensures.places c.loop-term.invariant.2,
)

pub returns-clause-checks : goal.returns-clause-checks
returns-clause-checks c = last_defined _ _ _ (rw (drop_all c.loop-term.term-index c.args.terms.now c.loop-term-test.false) at c.loop-term.invariant.0)

pub returns-clause-places : goal.returns-clause-places
returns-clause-places c = c.loop-term.invariant.1

pub returns-clause-first : goal.returns-clause-first
returns-clause-first c = may_begin (IsLeftUndefined (term_views c.args.terms.now)) (AreDefined (terms_before c.args.terms.now c.loop-term.term-index)) _ _ c.loop-term.invariant.2

use Rattle.std.proofs.Common.{drop}
use Rattle.core_syntax.specs.Positions.{NotesAt}
use Rattle.core_terms.specs.TermViews.{term_views}
use Rattle.core_typed.specs.RuleNaming.{AreDefined, IsLeftUndefined, terms_at}
use Rattle.core_typed.proofs.FirstErrors.{BeginsUnless}
use Rattle.core_typed.proofs.DefinedSteps.{DefinedAt, terms_before}
use Rattle.core_typed.proofs.rule_names.check_defined.Given as goal

abbrev pub invariant-loop-term : goal.invariant-loop-term
invariant-loop-term l =
    DefinedAt (term_views l.terms) (term_views (drop l.term-index l.terms)) l.initial.errors.items l.errors.items
    × NotesAt (terms_at (term_views l.terms)) l.initial.errors.items l.errors.items
    × BeginsUnless (IsLeftUndefined (term_views l.terms)) (AreDefined (terms_before l.terms l.term-index)) l.initial.errors.items l.errors.items

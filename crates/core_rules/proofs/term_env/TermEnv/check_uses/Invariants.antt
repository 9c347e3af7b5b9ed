use Rattle.std.proofs.Common.{IsTrue, drop, map}
use Rattle.core_syntax.specs.Places.{term_view}
use Rattle.core_syntax.specs.Positions.{NotesAt}
use Rattle.core_syntax.specs.SyntaxViews.{position}
use Rattle.core_rules.specs.Constructors.{has_constructor_if_there}
use Rattle.core_rules.specs.PatternUses.{found_term}
use Rattle.core_rules.proofs.CheckedUses.{CheckedAt}
use Rattle.core_rules.proofs.term_env.TermEnv.check_uses.Given as goal

abbrev pub invariant-loop-used : goal.invariant-loop-used
invariant-loop-used l =
    CheckedAt (λ u. IsTrue (has_constructor_if_there (found_term l.self l.tyenv u.1.text))) (map (λ t. term_view t.0 t.1.now) l.uses) (map (λ t. term_view t.0 t.1.now) (drop l.used-index l.uses)) l.initial.errors.items l.errors.items
    × NotesAt (map (λ t. position t.0) l.uses) l.initial.errors.items l.errors.items

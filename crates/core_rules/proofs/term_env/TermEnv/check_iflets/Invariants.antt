use Rattle.std.proofs.Common.{IsTrue, drop, map}
use Rattle.std.specs.List.{flat_map}
use Rattle.core_syntax.specs.Expressions.{terms_of_expr}
use Rattle.core_syntax.specs.SyntaxViews.{iflet_view}
use Rattle.core_syntax.specs.Positions.{NotesAt, iflet_positions}
use Rattle.core_rules.specs.Constructors.{has_constructor_if_there}
use Rattle.core_rules.specs.PatternUses.{found_term}
use Rattle.core_rules.proofs.CheckedUses.{CheckedAt}
use Rattle.core_rules.proofs.term_env.TermEnv.check_iflets.Given as goal

abbrev pub invariant-loop-iflet : goal.invariant-loop-iflet
invariant-loop-iflet l =
    CheckedAt (λ u. IsTrue (has_constructor_if_there (found_term l.self l.tyenv u.1.text))) (flat_map (λ i. terms_of_expr i.expr) (map iflet_view l.iflets)) (flat_map (λ i. terms_of_expr i.expr) (map iflet_view (drop l.iflet-index l.iflets))) l.initial.errors.items l.errors.items
    × NotesAt (flat_map iflet_positions (map iflet_view l.iflets)) l.initial.errors.items l.errors.items

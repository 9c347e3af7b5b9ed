use Rattle.std.proofs.Common.{[], ◌∷◌, ◌++◌, refl, subst, sym}
use Rattle.std.specs.List.{flat_map}
use Rattle.std.proofs.lemmas.Result.{on_ok_weaker}
use Rattle.model.specs.lists.Syntax.{RuleTree}
use Rattle.core_syntax.specs.Positions.{NotesAt, OccurAmong, definition_positions, expr_positions, iflet_positions, pattern_positions, rule_name_positions, rule_positions}
use Rattle.core_syntax.specs.SyntaxViews.{definition_view, rule_view}
use Rattle.core_syntax.proofs.Positioned.{among_first, notes_among}
use Rattle.core_terms.proofs.NotedPositions.{placed_same}
use Rattle.core_terms.proofs.term_table.TermTable.read_if_rule.Goals as goal

rule_at : (r : RuleTree) → OccurAmong (r.at ∷ []) (rule_positions r)
rule_at r = among_first r.at (rule_name_positions r.name ++ pattern_positions r.pattern ++ flat_map iflet_positions r.iflets ++ expr_positions r.expr)

pub returns-in_default-clause-placed : goal.returns-in_default-clause-placed
returns-in_default-clause-placed c = placed_same c.args.self.now c.args.self.now [] refl

pub returns-clause-places : goal.returns-clause-places
returns-clause-places c =
    on_ok_weaker c.read_root.result (λ r.
    subst (λ d. NotesAt (definition_positions (definition_view d)) c.args.errors.now.items c.read_root.new.errors.items) (sym c.in-Rule.is) (notes_among _ _ _ _ (rule_at (rule_view c.in-Rule.rule)) r)) c.read_root.ensures.places

use Rattle.std.proofs.Common.{refl}
use Rattle.core_syntax.specs.Positions.{definition_positions}
use Rattle.core_syntax.specs.SyntaxViews.{definition_view}
use Rattle.core_terms.proofs.NotedPositions.{placed_same}
use Rattle.core_terms.proofs.term_table.TermTable.read_if_declared.Goals as goal

pub returns-in_default-clause-placed : goal.returns-in_default-clause-placed
returns-in_default-clause-placed c = placed_same c.args.self.now c.args.self.now (definition_positions (definition_view c.args.def.now)) refl

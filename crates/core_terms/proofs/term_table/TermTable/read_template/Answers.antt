use Rattle.std.proofs.Common.{refl}
use Rattle.core_syntax.specs.Positions.{extractor_positions}
use Rattle.core_syntax.specs.SyntaxViews.{extractor_view}
use Rattle.core_syntax.proofs.Positioned.{notes_among}
use Rattle.core_terms.specs.TermPositions.{table_positions}
use Rattle.core_terms.proofs.NotedPositions.{extractor_at, placed_same}
use Rattle.core_terms.proofs.term_table.TermTable.read_template.Goals as goal

pub returns-in_default-clause-places : goal.returns-in_default-clause-places
returns-in_default-clause-places c = notes_among _ _ _ _ (extractor_at (extractor_view c.args.extractor.now) (table_positions c.args.self.now)) c.in_ok-report_name.ensures.places

pub returns-in_default-clause-placed : goal.returns-in_default-clause-placed
returns-in_default-clause-placed c = placed_same c.args.self.now c.args.self.now (extractor_positions (extractor_view c.args.extractor.now)) refl

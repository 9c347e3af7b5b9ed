use Rattle.std.proofs.Common.{take}
use Rattle.core_syntax.specs.Positions.{NotesAt, positions_of}
use Rattle.core_syntax.specs.SyntaxViews.{definition_views}
use Rattle.core_terms.specs.TermBreaches.{of_definitions}
use Rattle.core_terms.specs.Signing.{ReadsTerms}
use Rattle.core_terms.specs.ReadTerms.{RootsRead}
use Rattle.core_terms.specs.TermPositions.{table_positions, IsPlacedAmong}
use Rattle.core_terms.proofs.term_table.TermTable.read_roots.Given as goal

abbrev pub invariant-loop-def : goal.invariant-loop-def
invariant-loop-def g l =
    ReadsTerms g.read of_definitions (definition_views l.defs) (RootsRead g.read (definition_views l.defs) (definition_views (take l.def-index l.defs))) l.tyenv l.self l.errors.items
    × NotesAt (positions_of (definition_views l.defs)) l.initial.errors.items l.errors.items
    × IsPlacedAmong (table_positions l.initial.self) l.self

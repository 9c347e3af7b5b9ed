use Rattle.std.proofs.Common.{◌++◌, take}
use Rattle.core_syntax.specs.Positions.{positions_of}
use Rattle.core_syntax.specs.SyntaxViews.{definition_views}
use Rattle.core_terms.specs.TermBreaches.{of_signatures}
use Rattle.core_terms.specs.Signing.{ReadsTerms, Declaring}
use Rattle.core_terms.specs.TermPositions.{table_positions}
use Rattle.core_terms.proofs.NotedPositions.{PlacedSoFar}
use Rattle.core_terms.proofs.term_table.TermTable.read_declarations.Given as goal

abbrev pub invariant-loop-def : goal.invariant-loop-def
invariant-loop-def g l =
    ReadsTerms g.read of_signatures (definition_views l.defs) (Declaring g.read (definition_views l.defs) (definition_views (take l.def-index l.defs))) l.tyenv l.self l.errors.items
    × PlacedSoFar (positions_of (definition_views l.defs) ++ table_positions l.initial.self) l.initial.errors.items l.self l.errors.items

use Rattle.std.proofs.Common.{◌≡◌, take}
use Rattle.core_syntax.specs.Positions.{NotesAt, positions_of}
use Rattle.core_syntax.specs.SyntaxViews.{definition_views}
use Rattle.core_terms.specs.TermBreaches.{of_converters}
use Rattle.core_terms.specs.Signing.{ReadsTerms}
use Rattle.core_terms.specs.Converting.{ConvertersRead}
use Rattle.core_terms.proofs.ConverterSteps.{ConvertsUpTo}
use Rattle.core_terms.proofs.term_table.TermTable.read_converters.Given as goal

abbrev pub invariant-loop-def : goal.invariant-loop-def
invariant-loop-def g l =
    ReadsTerms g.read of_converters (definition_views l.defs) (ConvertersRead g.read (definition_views l.defs) (definition_views (take l.def-index l.defs))) l.tyenv l.self l.errors.items
    × NotesAt (positions_of (definition_views l.defs)) l.initial.errors.items l.errors.items
    × (l.self.terms ≡ l.initial.self.terms)
    × ConvertsUpTo g.read (definition_views l.defs) (definition_views (take l.def-index l.defs)) l.tyenv l.initial.errors.items l.self l.errors.items

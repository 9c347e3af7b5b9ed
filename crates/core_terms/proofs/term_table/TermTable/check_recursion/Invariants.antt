use Rattle.core_syntax.specs.Positions.{NotesAt}
use Rattle.core_terms.specs.TermPositions.{table_positions}
use Rattle.core_terms.specs.Signing.{NotesIfWrong}
use Rattle.core_terms.specs.Recursion.{AreFindings, EndsBelow, NotesReturn}
use Rattle.core_terms.proofs.term_table.TermTable.check_recursion.Given as goal

abbrev pub invariant-loop-id : goal.invariant-loop-id
invariant-loop-id l = AreFindings l.callees l.id l.search × NotesIfWrong l.fn.errors.items l.errors.items (EndsBelow l.self l.callees l.id) (NotesReturn l.self l.callees l.fn.errors.items l.errors.items) × NotesAt (table_positions l.self) l.fn.errors.items l.errors.items

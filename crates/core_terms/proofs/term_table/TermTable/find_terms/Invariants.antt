use Rattle.std.proofs.Common.{◌<◌, All, length, map, take}
use Rattle.core_syntax.specs.Positions.{NotesAt}
use Rattle.core_syntax.specs.SyntaxViews.{name_view, position}
use Rattle.core_terms.specs.Signing.{NotesIfWrong}
use Rattle.core_terms.specs.Templating.{AreFound, HaveUnknown}
use Rattle.core_terms.proofs.term_table.TermTable.find_terms.Given as goal

abbrev pub invariant-loop-name : goal.invariant-loop-name
invariant-loop-name l =
    All (λ t. t.0 < length l.self.terms.items) l.found.items
    × NotesIfWrong l.fn.errors.items l.errors.items (AreFound l.tyenv l.self (map (λ n. name_view n.1.now) (take l.name-index l.named)) (map (λ t. t.0) l.found.items)) (HaveUnknown l.tyenv l.self (map (λ n. name_view n.1.now) l.named))
    × NotesAt (map (λ n. position n.0) l.named) l.fn.errors.items l.errors.items

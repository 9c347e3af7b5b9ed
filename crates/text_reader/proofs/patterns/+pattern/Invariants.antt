-- The patterns so far, and those that follow, are what all arguments are.
use Rattle.std.proofs.Common.{All}
use Rattle.core_syntax.specs.SyntaxViews.{pattern_view}
use Rattle.text_reader.specs.Within.{PatternIsWithin}
use Rattle.text_reader.specs.FormViews.{all_view}
use Rattle.text_reader.specs.PatternGrammar.{arguments_of}
use Rattle.text_reader.proofs.ReadTrees.{PatternsAreRead}
use Rattle.text_reader.proofs.patterns.+pattern.Given as goal

abbrev pub invariant-arguments-loop-i : goal.invariant-arguments-loop-i
invariant-arguments-loop-i l =
    All (λ q. PatternIsWithin l.at.file l.at.len (pattern_view q)) l.patterns.items
    × PatternsAreRead (arguments_of (all_view l.forms)) l.forms l.i l.patterns.items

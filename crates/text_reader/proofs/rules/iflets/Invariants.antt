-- The conditions so far, and those that follow, are what all forms are.
use Rattle.std.proofs.Common.{All, map}
use Rattle.core_syntax.specs.SyntaxViews.{iflet_view}
use Rattle.text_reader.specs.Within.{IfLetIsWithin}
use Rattle.text_reader.specs.RuleGrammar.{statement_of}
use Rattle.text_reader.proofs.ReadOn.{IsReadOn}
use Rattle.text_reader.proofs.rules.iflets.Given as goal

abbrev pub invariant-loop-form : goal.invariant-loop-form
invariant-loop-form l =
    All (λ i. IfLetIsWithin l.at.file l.at.len (iflet_view i)) l.iflets.items
    × IsReadOn statement_of l.forms l.form-index (map iflet_view l.iflets.items)

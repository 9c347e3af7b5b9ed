use Rattle.std.proofs.Common.{◌≡◌, drop}
use Rattle.core_syntax.specs.SyntaxViews.{definition_views}
use Rattle.text_writer.specs.Spellable.{first_unspelled}
use Rattle.text_writer.proofs.definitions.first_unspelled.Given as goal

abbrev pub invariant-loop-def : goal.invariant-loop-def
invariant-loop-def l =
    first_unspelled (definition_views (drop l.def-index l.defs)) ≡ first_unspelled (definition_views l.defs)

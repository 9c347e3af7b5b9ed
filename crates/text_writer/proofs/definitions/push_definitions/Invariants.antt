use Rattle.std.proofs.Common.{◌≡◌, ◌++◌, drop, string_bytes}
use Rattle.core_syntax.specs.SyntaxViews.{definition_views}
use Rattle.text_writer.specs.Texts.{printed}
use Rattle.text_writer.proofs.definitions.push_definitions.Given as goal

abbrev pub invariant-loop-def : goal.invariant-loop-def
invariant-loop-def l =
    string_bytes l.out ++ printed (definition_views (drop l.def-index l.defs)) ≡ string_bytes l.fn.out ++ printed (definition_views l.defs)

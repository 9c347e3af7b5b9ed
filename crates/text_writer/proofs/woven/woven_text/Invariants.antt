use Rattle.std.proofs.Common.{◌≡◌, map, drop, string_bytes}
use Rattle.core_syntax.specs.SyntaxViews.{definition_views}
use Rattle.text_reader.specs.SpecViews.{numbered_view}
use Rattle.text_writer.specs.Woven.{before, woven}
use Rattle.text_writer.proofs.woven.woven_text.Given as goal

abbrev pub invariant-loop-n : goal.invariant-loop-n
invariant-loop-n l =
    before (string_bytes l.text) (woven l.n (definition_views (drop l.n l.defs)) (map numbered_view l.left)) ≡ woven 0 (definition_views l.defs) (map numbered_view l.forms)

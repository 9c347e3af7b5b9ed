-- What is added so far, with what is left, is all that was there and is to be added.
use Rattle.std.proofs.Common.{◌≡◌, ◌++◌, map}
use Rattle.std.specs.Vec.Iter.{into_iter_items}
use Rattle.text_reader.specs.SpecViews.{numbered_view}
use Rattle.text_writer.specs.Contents.{behind}
use Rattle.text_writer.proofs.contents.add_forms.Given as goal

abbrev pub invariant-loop-number : goal.invariant-loop-number
invariant-loop-number l =
    map numbered_view l.found.items ++ map (behind l.count) (map numbered_view (into_iter_items l.number-iterator))
    ≡ map numbered_view l.fn.found.items ++ map (behind l.count) (map numbered_view l.fn.forms.items)

-- The files that lines are of.
use Rattle.rust_items.specs.declared.lines.Lines.{Lines}
use Rattle.rust_items.specs.FilePlaces.{Sources}
use Rattle.rust_items.specs.SourceViews.{sources_view}

abbrev pub lines_view : Lines → Sources
lines_view l = sources_view l.files.now l.prefixes.now

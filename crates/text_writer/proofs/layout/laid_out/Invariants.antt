use Rattle.std.proofs.Common.{◌≡◌, ◌++◌, drop}
use Rattle.text_writer.specs.Pages.{text_of, laid_from, mark, first_layout}
use Rattle.text_writer.specs.PageViews.{page_view, page_chars}
use Rattle.text_writer.specs.PartViews.{placed_views}
use Rattle.text_writer.specs.Plans.{planned, first_last}
use Rattle.text_writer.proofs.layout.laid_out.Given as goal

abbrev pub invariant-loop-placed : goal.invariant-loop-placed
invariant-loop-placed l = page_chars l.page ++ text_of (laid_from (page_view l.page) (planned l.page.last (placed_views (drop l.placed-index l.parts))))
    ≡ text_of (mark l.is_marked) ++ text_of (laid_from (first_layout l.fn.indentation l.is_marked) (planned (first_last l.is_marked) (placed_views l.parts)))

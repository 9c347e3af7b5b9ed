use Rattle.std.proofs.Common.{◌≡◌, take}
use Rattle.cranelift_isle.specs.TermViews.{term_views}
use Rattle.rust_items.specs.ItemViews.{added_views, items_by}
use Rattle.rust_items.specs.WrittenItems.{context_functions}
use Rattle.rust_items.proofs.context.functions_of.Given as goal

abbrev pub invariant-loop-term : goal.invariant-loop-term
invariant-loop-term l = added_views l.functions.items ≡ context_functions (items_by l.fn.program) (term_views (take l.term-index l.fn.program.terms.now))

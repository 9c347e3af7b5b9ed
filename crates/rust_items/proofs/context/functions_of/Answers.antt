use Rattle.std.proofs.Common.{[], arith}
use Rattle.cranelift_isle.specs.TermViews.{term_view}
use Rattle.rust_items.specs.ItemViews.{items_by}
use Rattle.rust_items.specs.WrittenItems.{functions_of_term}
use Rattle.rust_items.proofs.Grown.{grown_by, grown_all}
use Rattle.rust_items.proofs.context.functions_of.Goals as goal

pub loop-term-preserved : goal.loop-term-preserved
loop-term-preserved c =
    grown_by term_view c.args.program.terms.now c.loop-term.term-index (functions_of_term (items_by c.args.program)) [] c.term-item.result _ _ c.loop-term-test.true c.term-item.is c.loop-term.invariant c.in_ok-push_functions.ensures

pub returns : goal.returns
returns c = grown_all term_view c.args.program.terms.now c.loop-term.term-index (functions_of_term (items_by c.args.program)) [] _ (omega (arith, c.loop-term-test.false)) c.loop-term.invariant

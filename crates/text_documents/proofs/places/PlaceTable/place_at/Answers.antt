use Rattle.std.proofs.Common.{◌≡◌, ◌-◌, Option, chars, arith, ◌∙◌}
use Rattle.text_documents.specs.declared.places.DocumentPosition.{DocumentPosition}
use Rattle.text_documents.specs.Walks.{place_after}
use Rattle.text_documents.proofs.PlaceLemmas.{at, place_clause, none_clause, place_only}
use Rattle.text_documents.proofs.TableLemmas.{goes_on_at}
use Rattle.text_documents.proofs.places.PlaceTable.place_at.Goals as goal

-- what the walk from the mark finds, one from the beginning finds
pub returns-clause-place : goal.returns-clause-place
returns-clause-place c =
    let m = c.mark_before-mark.result in
    place_clause _ c.args.offset c.over.result (c.over.ensures ∙ goes_on_at _ _ c.args.offset m.offset (c.args.offset - m.offset) m.walk.place m.walk.after_return (omega (arith, c.mark_before-mark.ensures.before)) c.mark_before-mark.ensures.mark.goes_on)

pub returns-clause-only : goal.returns-clause-only
returns-clause-only c =
    let m = c.mark_before-mark.result in
    λ p h. (c.over.ensures ∙ goes_on_at _ _ c.args.offset m.offset (c.args.offset - m.offset) m.walk.place m.walk.after_return (omega (arith, c.mark_before-mark.ensures.before)) c.mark_before-mark.ensures.mark.goes_on) ∙ place_only _ c.args.offset p h

pub returns-clause-none : goal.returns-clause-none
returns-clause-none c =
    let m = c.mark_before-mark.result in
    none_clause _ c.args.offset c.over.result (c.over.ensures ∙ goes_on_at _ _ c.args.offset m.offset (c.args.offset - m.offset) m.walk.place m.walk.after_return (omega (arith, c.mark_before-mark.ensures.before)) c.mark_before-mark.ensures.mark.goes_on)

use Rattle.std.proofs.Common.{◌∙◌}
use Rattle.text_documents.proofs.PlaceLemmas.{place_clause, none_clause, place_only}
use Rattle.text_documents.proofs.places.place_at.Goals as goal

pub returns-clause-place : goal.returns-clause-place
returns-clause-place c = place_clause _ c.args.offset c.over.result c.over.ensures

pub returns-clause-only : goal.returns-clause-only
returns-clause-only c = λ p h. c.over.ensures ∙ place_only _ c.args.offset p h

pub returns-clause-none : goal.returns-clause-none
returns-clause-none c = none_clause _ c.args.offset c.over.result c.over.ensures

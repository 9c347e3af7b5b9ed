use Rattle.core_terms.proofs.Breaches.{begins_before, begins_noted}
use Rattle.std.proofs.Common.{inr}
use Rattle.std.proofs.lemmas.Result.{on_ok_weaker}
use Rattle.core_syntax.proofs.NotedErrors.{both}
use Rattle.core_terms.specs.TermPositions.{taker_places}
use Rattle.core_terms.proofs.NotedPositions.{notes_earlier}
use Rattle.core_terms.proofs.reading.externs.report_second.Goals as goal

pub returns-clause-noted : goal.returns-clause-noted
returns-clause-noted c = on_ok_weaker c.report_name-2.result (λ r. both _ _ _ c.in_ok-report_name.ensures.noted r) c.report_name-2.ensures.noted

pub returns-clause-places : goal.returns-clause-places
returns-clause-places c = on_ok_weaker c.report_name-2.result (λ r. notes_earlier _ _ (taker_places c.args.earlier.now) _ _ _ c.place_of.ensures.there c.in_ok-report_name.ensures.places r) c.report_name-2.ensures.places

pub returns-clause-begins : goal.returns-clause-begins
returns-clause-begins c = on_ok_weaker c.report_name-2.result (λ r. begins_before _ _ _ _ c.in_ok-report_name.ensures.noted (begins_noted _ _ _ c.in_ok-report_name.ensures.places) (inr r)) c.report_name-2.ensures.noted

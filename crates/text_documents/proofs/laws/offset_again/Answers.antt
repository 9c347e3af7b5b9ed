use Rattle.std.proofs.lemmas.Option.{none-some}
use Rattle.text_documents.proofs.PlaceLemmas.{offset_again_place}
use Rattle.text_documents.proofs.laws.offset_again.Goals as goal

pub returns-in_err-place_at-clause-some : goal.returns-in_err-place_at-clause-some
returns-in_err-place_at-clause-some c = λ p h. absurd (none-some p (c.in_err-place_at.ensures.only p h))

pub returns-clause-place : goal.returns-clause-place
returns-clause-place c = offset_again_place _ c.args.offset c.offset_at.result _ c.in_ok-place_at.ensures.place

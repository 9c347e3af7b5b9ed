use Rattle.std.proofs.Common.{inl}
use Rattle.std.proofs.lemmas.Option.{none-some}
use Rattle.text_documents.proofs.PlaceLemmas.{place_again_found, place_again_none}
use Rattle.text_documents.proofs.laws.place_again.Goals as goal

pub returns-in_err-offset_at-clause-same : goal.returns-in_err-offset_at-clause-same
returns-in_err-offset_at-clause-same c = λ o h. absurd (none-some o (c.in_err-offset_at.ensures.only o (inl h)))

pub returns-in_err-offset_at-clause-none : goal.returns-in_err-offset_at-clause-none
returns-in_err-offset_at-clause-none c = rw c.from_residual.ensures c.in_err-offset_at.ensures.none

pub returns-clause-found : goal.returns-clause-found
returns-clause-found c = place_again_found _ c.args.place _ c.place_at.result c.in_ok-offset_at.ensures.offset c.place_at.ensures.place

pub returns-clause-none : goal.returns-clause-none
returns-clause-none c = place_again_none _ c.args.place _ c.place_at.result _ c.in_ok-offset_at.ensures.offset c.place_at.ensures.only

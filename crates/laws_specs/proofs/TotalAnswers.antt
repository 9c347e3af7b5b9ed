-- What total functions that meet specs give is as the spec says.
use Rattle.std.proofs.Common.{inl, inr, arith}
use Rattle.std.proofs.lemmas.Grind.{common_steps}
use Rattle.model.specs.rules.Meaning.{total}
use Rattle.laws_trees.proofs.total.Total.{total_meanings_serve_lem}
use Rattle.model.specs.trees.Run.{run, world_of}
use Rattle.laws_specs.specs.ConditionLaws.{IsCalled}
use Rattle.laws_specs.specs.TotalLaws.{TotalMeaningsAnswerAsSaid}
use Rattle.laws_specs.proofs.Answers.{computes_as_said_lem, computes_as_said_by_priority_lem}

pub total_meanings_answer_as_said_lem : TotalMeaningsAnswerAsSaid
total_meanings_answer_as_said_lem p specs t d sites tree f args h single valid runs denotes typed required well apart meets =
    let served = total_meanings_serve_lem p t f args h well typed in
    let called : IsCalled p specs t d (total f) args (run tree (world_of p t sites (total f) args)).calls = grind (arith, common_steps) in
    elim valid [
      | inl v ↦ computes_as_said_lem p specs t d (total f) args sites tree h single v runs called apart
      | inr v ↦ computes_as_said_by_priority_lem p specs t d (total f) args sites tree h single v.0 v.1 runs called apart
    ]

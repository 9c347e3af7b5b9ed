-- Where the first of two impure calls answers nothing, the second one isn't asked; where it answers, it is.
use Rattle.std.proofs.Common.{[], pos, refl, arith}
use Rattle.std.proofs.lemmas.Grind.{common_steps}
use Rattle.std.proofs.lemmas.List.Elements.{All-cons, All-nil}
use Rattle.model.specs.rules.Picks.{HasContent}
use Rattle.model.specs.sites.Sites.{some_part}
use Rattle.laws_examples.proofs.Served.{literals_apart, serves_from}
use Rattle.laws_examples.specs.MeaningForms.{DoesNotServe, alone, given, just_number}
use Rattle.laws_examples.specs.SetForms.{a0, one_source}
use Rattle.laws_examples.specs.Unreached.{UnreachedCallsAreNotAsked, first_answers, first_im, unreached_program, unreached_rule}

pub unreached_calls_are_not_asked : UnreachedCallsAreNotAsked
unreached_calls_are_not_asked = grind (arith, common_steps, serves_from, literals_apart)

-- where the first call answers, the second one is reached, and its entry is asked
pub reached_calls_are_asked : DoesNotServe unreached_program (first_answers (just_number (pos 5))) (pos 1)
reached_calls_are_asked s =
    let has = HasContent (first_answers (just_number (pos 5))) (given (pos 1)) [] in
    s.impures [] unreached_rule 0 1 (one_source a0) (alone (pos 1)) (0, omega arith, refl) refl (3, omega arith, refl) (All-cons has (some_part first_im) [] refl (All-nil has)) refl

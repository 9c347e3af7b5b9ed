-- Questions that are told, and their facts.
use Rattle.std.proofs.Common.{◌≡◌, Bool, true, false, List, [], ◌∷◌, ◌++◌, ◌&&◌, map, refl, ap, ◌∙◌}
use Rattle.std.specs.List.{list_all}
use Rattle.std.proofs.lemmas.List.{append_assoc, map-append}
use Rattle.std.proofs.lemmas.List.Folds.{list_all-append}
use Rattle.spec_questions.specs.declared.questions.Question.{Question}
use Rattle.spec_questions.specs.Right.{facts_in, is_asked_or_plain}

pub question_pushed : (out : List Question) (q : Question) → facts_in (out ++ q ∷ []) ≡ facts_in out ++ (q.facts.items ∷ [])
question_pushed out q = map-append (λ (k : Question). k.facts.items) out (q ∷ [])

and_true : (b : Bool) → (b && true) ≡ b
and_true true = refl
and_true false = refl

pub plain_pushed : (out : List Question) (q : Question) → is_asked_or_plain q ≡ true → list_all is_asked_or_plain (out ++ q ∷ []) ≡ list_all is_asked_or_plain out
plain_pushed out q e = list_all-append is_asked_or_plain out (q ∷ []) ∙ ap (λ b. list_all is_asked_or_plain out && (b && true)) e ∙ and_true (list_all is_asked_or_plain out)

pub ruleset told_steps = (question_pushed, plain_pushed, append_assoc)

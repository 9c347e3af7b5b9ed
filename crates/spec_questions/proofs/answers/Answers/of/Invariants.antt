use Rattle.std.proofs.Common.{◌≡◌, ℕ, List, take}
use Rattle.std.specs.HashSet.{contains_text}
use Rattle.std.specs.List.{list_any}
use Rattle.spec_questions.specs.Refuting.{says_sat, says_unsat}
use Rattle.spec_questions.proofs.answers.Answers.of.Given as goal

abbrev pub invariant-loop-answer : goal.invariant-loop-answer
invariant-loop-answer l = (text : List ℕ) → (contains_text l.unsat text ≡ list_any (says_unsat text) (take l.answer-index l.fn.list.items)) × (contains_text l.sat text ≡ list_any (says_sat text) (take l.answer-index l.fn.list.items))

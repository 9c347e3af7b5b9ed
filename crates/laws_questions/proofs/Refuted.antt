-- Where solvers are right and refute each question, runs are as specs say.
use Rattle.std.proofs.Common.{◌≡◌, true, false, List, [], ◌∷◌, sym, ap, ◌∙◌, inl, inr, arith}
use Rattle.std.proofs.lemmas.Grind.{common_steps}
use Rattle.std.proofs.lemmas.Bool.{and_parts, false≢true}
use Rattle.model.proofs.Elements.{In, in_from_contains}
use Rattle.laws_specs.specs.Specs.{Specs}
use Rattle.laws_specs.specs.SetConditions.{set_condition, ProgramsOfSetsComputeAsSaid}
use Rattle.model.specs.claims.Layers.{own_program}
use Rattle.model_questions.specs.Formulas.{Fact, known, Model, is_so, are_so}
use Rattle.model_questions.specs.Questions.{IsUnsatisfiable}
use Rattle.laws_questions.specs.EnoughLaws.{QuestionsAskEnough, Answers, IsRefutedBy, SolversAreRight, RefutedProgramsComputeAsSaid}

-- a question with a fact that is false can't be satisfied
false_unsatisfiable : (m : Model) (fs : List Fact) → In fs (known false) → are_so m fs ≡ true → ⊥
false_unsatisfiable m (g ∷ fs) (inl e) h = false≢true (ap (is_so m) (sym e) ∙ (and_parts (is_so m g) (are_so m fs) h).0)
false_unsatisfiable m (g ∷ fs) (inr i) h = false_unsatisfiable m fs i (and_parts (is_so m g) (are_so m fs) h).1
false_unsatisfiable m [] i h = absurd i

pub refuted_unsatisfiable : (specs : Specs) (answers : Answers) → SolversAreRight specs answers → (q : List Fact) → IsRefutedBy answers q → IsUnsatisfiable specs q
refuted_unsatisfiable specs answers right q h = grind (arith, common_steps, false_unsatisfiable, in_from_contains)

pub refuted_programs_compute_as_said_lem : QuestionsAskEnough → ProgramsOfSetsComputeAsSaid → RefutedProgramsComputeAsSaid
refuted_programs_compute_as_said_lem enough programs defs expand rules terms f specs d plans answers accepted lowered runs denotes right refuted =
    programs defs expand rules terms f specs d accepted lowered runs denotes
    (λ l i single. inl (λ place r there.
    enough (own_program defs rules) specs (set_condition l.term l.set r) (plans l.term place)
    (λ q j. refuted_unsatisfiable specs answers right q (refuted l place r q i single there j))))

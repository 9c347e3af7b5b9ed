-- The laws: questions that can't be satisfied ask enough, and where solvers refute them, runs are as specs say.
use Rattle.std.specs.Prelude.{◌≡◌, ◌⊎◌, ℕ, Bool, false, List, Some, slice_get, Contains}
use Rattle.model.specs.lists.Elaborated.{TypedRules}
use Rattle.model.specs.lists.Syntax.{Definition}
use Rattle.model.specs.rules.Program.{Program, is_multi}
use Rattle.model.specs.sites.Sites.{SetRule, SiteSet}
use Rattle.model.specs.claims.Layers.{own_program, IsAccepted, AreLowered, LoweredTerm}
use Rattle.laws_specs.specs.Specs.{Specs}
use Rattle.laws_specs.specs.Conditions.{Condition, IsValid}
use Rattle.laws_specs.specs.Meets.{Atoms, IsDenotation}
use Rattle.laws_specs.specs.WholeRuns.{Functions}
use Rattle.laws_specs.specs.ProgramLaws.{RunTrees, RunCode, AllRunsAreAsSaid}
use Rattle.laws_specs.specs.SetConditions.{set_condition}
use Rattle.model_questions.specs.Formulas.{Place, Fact, known}
use Rattle.model_questions.specs.Questions.{questions, IsUnsatisfiable, AreUnsatisfiable}

-- where no question about a condition can be satisfied, the condition is valid: whatever its specs say, and whichever places are split
abbrev pub QuestionsAskEnough : Type 0
QuestionsAskEnough = (p : Program) (specs : Specs) (c : Condition) (plan : Place → Bool) → AreUnsatisfiable specs (questions p specs c plan) → IsValid p specs c

-- the questions about a rule of a term's set
abbrev pub rule_questions : Program → Specs → ℕ → SiteSet → SetRule → (Place → Bool) → List (List Fact)
rule_questions p specs t set r plan = questions p specs (set_condition t set r) plan

-- what a solver answers to a question; and records of all answers that there were
pub data Answer : Type 0 where
  sat : Answer
  unsat : Answer
  unknown : Answer

abbrev pub Answers : Type 0
Answers = List (List Fact × Answer)

-- a solver says that it can't be satisfied, and none that it can; or one of its facts is false, and no solver is asked
abbrev pub IsRefutedBySolvers : Answers → List Fact → Type 0
IsRefutedBySolvers answers q = Contains answers (q, unsat) × (Contains answers (q, sat) → ⊥)

abbrev pub IsRefutedBy : Answers → List Fact → Type 0
IsRefutedBy answers q = IsRefutedBySolvers answers q ⊎ Contains q (known false)

-- what is trusted of solvers, and of the text in which they read a question: its constants, functions and operators
abbrev pub SolversAreRight : Specs → Answers → Type 0
SolversAreRight specs answers = (q : List Fact) → IsRefutedBySolvers answers q → IsUnsatisfiable specs q

-- each question about each rule of the set of each term that isn't multi is refuted, by any plan for each rule
abbrev pub Plans : Type 0
Plans = ℕ → ℕ → Place → Bool

abbrev pub AreAllRefuted : Program → List LoweredTerm → Specs → Plans → Answers → Type 0
AreAllRefuted p terms specs plans answers =
    (l : LoweredTerm) (place : ℕ) (r : SetRule) (q : List Fact) → Contains terms l → is_multi p l.term ≡ false → slice_get l.set.rules place ≡ Some r
    → Contains (rule_questions p specs l.term l.set r (plans l.term place)) q → IsRefutedBy answers q

-- then all whole runs of the trees that lowering gives of accepted definitions, and of their code, answer as specs say
abbrev pub RefutedProgramsComputeAsSaid : Type 0
RefutedProgramsComputeAsSaid =
    (defs : List Definition) (expand : Bool) (rules : TypedRules) (terms : List LoweredTerm) (f : Functions) (specs : Specs) (d : Atoms) (plans : Plans) (answers : Answers)
    → IsAccepted defs expand rules → AreLowered (own_program defs rules) terms → RunTrees (own_program defs rules) terms f ⊎ RunCode (own_program defs rules) terms f
    → IsDenotation (own_program defs rules) specs d → SolversAreRight specs answers → AreAllRefuted (own_program defs rules) terms specs plans answers
    → AllRunsAreAsSaid (own_program defs rules) specs d f

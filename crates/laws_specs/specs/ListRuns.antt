-- Whole runs where multi terms with rules are called too. What a multi term answers is a list, whose elements come in any order: trees and
-- code give the results of its rules in another order than source rules.
use Rattle.std.specs.Prelude.{◌≡◌, ◌⊎◌, ℕ, zero, suc, Bool, true, false, List, [], All, Contains}
use Rattle.model.specs.rules.Values.{listed}
use Rattle.model.specs.rules.Meaning.{Content, many, Contents, contents, Meaning}
use Rattle.model.specs.rules.Outcome.{Call, Outcome, ran_through}
use Rattle.model.specs.rules.Program.{Program, is_multi, rules_of, terms_with_rules}
use Rattle.model.specs.rules.Picks.{bag}
use Rattle.model.specs.trees.Collects.{Collects, HasCollectedResults}
use Rattle.model.specs.claims.Layers.{AreLowered, LoweredTerm}
use Rattle.laws_code.specs.CodeChoices.{OnServed}
use Rattle.laws_specs.specs.WholeRuns.{Outside, Functions, by_rules, IsAround, IsRun, WholeRun}
use Rattle.laws_specs.specs.ProgramLaws.{SameRuns, DoTheSame, RunTrees, RunCode}

-- by source rules: of a multi term the bag of its rules' results, of another the outcome of the matching rule of greatest priority
abbrev pub bag_or_choice : Bool → Program → Functions
bag_or_choice true p t m args = record { calls = []; results = bag p m (rules_of p t) args; ending = ran_through }
bag_or_choice false p t m args = by_rules p t m args

abbrev pub by_bags : Program → Functions
by_bags p t m args = bag_or_choice (is_multi p t) p t m args

-- what the caller of a multi term gets: all results, in any order
abbrev pub IsListAnswer : Outcome → Content → Type 0
IsListAnswer o c = (list : Contents) × (c ≡ many list) × Collects o (contents list)

-- the function of a multi term is called whose rules make no impure call, and leave no multi call of an if-let unused
pub record IsListRun (Nested : Call → List Call → Content → List Call → Type 0) (p : Program) (o : Outside) (f : Functions) (call : Call) (before : List Call) (c : Content) (after : List Call) : Type 0 where
  pub known : Contains (terms_with_rules p) call.term
  pub multi : is_multi p call.term ≡ true
  pub collected : All (HasCollectedResults p) (rules_of p call.term)
  pub meaning : Meaning
  pub around : IsAround Nested p o call meaning
  pub calls : before ≡ after
  pub answer : IsListAnswer (f call.term meaning (listed call.args)) c

-- a call of a term with rules comes to an answer, by calls of such terms that nest so deep at most
abbrev pub ListRun : Functions → Program → Outside → ℕ → Call → List Call → Content → List Call → Type 0
ListRun f p o zero call before c after = ⊥
ListRun f p o (suc n) call before c after = IsRun (ListRun f p o n) p o f call before c after ⊎ IsListRun (ListRun f p o n) p o f call before c after

-- a whole run in which no multi term with rules is called is one
abbrev pub WholeRunsAreListRuns : Type 0
WholeRunsAreListRuns = (f : Functions) (p : Program) (o : Outside) (n : ℕ) (call : Call) (before : List Call) (c : Content) (after : List Call) → WholeRun f p o n call before c after → ListRun f p o n call before c after

-- functions of multi terms that collect the same bags, wherever a meaning serves and tells constants apart
abbrev pub CollectTheSame : Program → Functions → Functions → Type 0
CollectTheSame p f g =
    (t : ℕ) → Contains (terms_with_rules p) t → is_multi p t ≡ true → All (HasCollectedResults p) (rules_of p t)
    → OnServed p t (λ m args. (expected : List Content) → (Collects (f t m args) expected → Collects (g t m args) expected) × (Collects (g t m args) expected → Collects (f t m args) expected))

-- they have the same runs: with the same answers, lists up to the order of their elements, and the same impure calls outside in the same order
abbrev pub HaveTheSameListRuns : Program → Functions → Functions → Type 0
HaveTheSameListRuns p f g = (o : Outside) → SameRuns (ListRun f p o) (ListRun g p o)

abbrev pub LikeFunctionsHaveLikeListRuns : Type 0
LikeFunctionsHaveLikeListRuns = (p : Program) (f g : Functions) → DoTheSame p f g → CollectTheSame p f g → HaveTheSameListRuns p f g

-- the trees that lowering gives, or their code without a bound of results, run as the source rules do, however terms call one another
abbrev pub LoweredProgramsCollectAsTheirSource : Type 0
LoweredProgramsCollectAsTheirSource =
    (p : Program) (terms : List LoweredTerm) (f : Functions) → AreLowered p terms → RunTrees p terms f ⊎ RunCode p terms f → HaveTheSameListRuns p f (by_bags p)

-- The laws of whole runs: trees and code run as source rules do, and where each rule's condition is valid, they answer as specs say.
use Rattle.std.specs.Prelude.{◌≡◌, ◌⊎◌, ℕ, ℤ, Bool, false, List, ◌++◌, None, Some, Contains}
use Rattle.model.specs.lists.Elaborated.{TypedRules}
use Rattle.model.specs.lists.Syntax.{Definition}
use Rattle.model.specs.rules.Values.{Value, Values}
use Rattle.model.specs.rules.Meaning.{Content, Meaning, bool_literal, int_literal}
use Rattle.model.specs.rules.Outcome.{Call}
use Rattle.model.specs.rules.Choice.{choice}
use Rattle.model.specs.rules.Program.{Program, is_multi, rules_of, terms_with_rules}
use Rattle.model.specs.trees.Run.{run, world_of}
use Rattle.model.specs.claims.Layers.{own_program, IsAccepted, AreLowered, LoweredTerm}
use Rattle.model_code.specs.Code.{Block}
use Rattle.model_code.specs.CodeRuns.{code_run}
use Rattle.laws_code.specs.CodeChoices.{OnServed, MeansItsSource}
use Rattle.laws_typing.specs.WellTypedPrograms.{IsWellTypedProgram}
use Rattle.laws_specs.specs.Specs.{Specs, constant_of, literal_of, IsRequired, IsProvided}
use Rattle.laws_specs.specs.Words.{Denoted, a_truth}
use Rattle.laws_specs.specs.Conditions.{result_as, IsExtractedAsSaid, IsConstructedAsSaid}
use Rattle.laws_specs.specs.Meets.{Atoms, stands_for, stand_for, content_as, IsDenotation, AreNumbers, AnswersAsSaid, answers_in}
use Rattle.laws_specs.specs.ConditionLaws.{AreValid, AreValidBelow, IsCalled}
use Rattle.laws_specs.specs.WholeRuns.{Outside, Functions, by_rules, has_rules, WholeRun}

-- functions of the terms with rules that have the same outcomes, wherever a meaning serves and tells constants apart
abbrev pub DoTheSame : Program → Functions → Functions → Type 0
DoTheSame p f g = (t : ℕ) → Contains (terms_with_rules p) t → is_multi p t ≡ false → OnServed p t (λ m args. f t m args ≡ g t m args)

-- runs, by how deep calls nest, are the same
abbrev pub SameRuns : (f g : ℕ → Call → List Call → Content → List Call → Type 0) → Type 0
SameRuns f g = (n : ℕ) (call : Call) (before : List Call) (c : Content) (after : List Call) → (f n call before c after → g n call before c after) × (g n call before c after → f n call before c after)

-- they have the same whole runs: with the same answers, and the same impure calls outside in the same order
abbrev pub HaveTheSameRuns : Program → Functions → Functions → Type 0
HaveTheSameRuns p f g = (o : Outside) → SameRuns (WholeRun f p o) (WholeRun g p o)

abbrev pub LikeFunctionsHaveLikeRuns : Type 0
LikeFunctionsHaveLikeRuns = (p : Program) (f g : Functions) → DoTheSame p f g → HaveTheSameRuns p f g

-- functions that run the trees of terms
abbrev pub RunTrees : Program → List LoweredTerm → Functions → Type 0
RunTrees p terms f = (l : LoweredTerm) → Contains terms l → (m : Meaning) (args : List Value) → f l.term m args ≡ run l.tree (world_of p l.term l.set.sites m args)

-- functions that run code, which means of each term what its source rules do
pub record RunCode (p : Program) (terms : List LoweredTerm) (f : Functions) : Type 0 where
  pub code : LoweredTerm → Block
  pub means : (l : LoweredTerm) → Contains terms l → MeansItsSource p l (code l)
  pub runs : (l : LoweredTerm) → Contains terms l → (m : Meaning) (args : List Value) → f l.term m args ≡ code_run (code l) (world_of p l.term l.set.sites m args) None

-- the trees that lowering gives, or their code, run as the source rules do, however terms call one another
abbrev pub LoweredProgramsRunAsTheirSource : Type 0
LoweredProgramsRunAsTheirSource = (p : Program) (terms : List LoweredTerm) (f : Functions) → AreLowered p terms → RunTrees p terms f ⊎ RunCode p terms f → HaveTheSameRuns p f (by_rules p)

-- what is outside answers as specs say: literals, constants, extractors, and constructors without rules
pub record MeetsSpecsOutside (p : Program) (specs : Specs) (d : Atoms) (o : Outside) : Type 0 where
  pub bools : (b : Bool) (ty : ℕ) (v : Value) → o.literals (bool_literal b ty) ≡ Some v → stands_for d v ≡ a_truth b
  pub ints : (z : ℤ) (ty : ℕ) (v : Value) (x : Denoted) → o.literals (int_literal z ty) ≡ Some v → literal_of specs z ty ≡ Some x → stands_for d v ≡ x
  pub constants : (name : ℕ) (v : Value) (x : Denoted) → o.constants name ≡ Some v → constant_of specs name ≡ Some x → stands_for d v ≡ x
  pub extractors : (t : ℕ) (v : Value) (c a : Content) → o.extractors t v ≡ Some c → Contains (answers_in c) a → IsExtractedAsSaid specs t (stands_for d v) (content_as d a)
  pub pures : (t : ℕ) (vs : Values) (c a : Content) → has_rules p t ≡ false → o.pures t vs ≡ Some c → Contains (answers_in c) a → IsConstructedAsSaid specs t (stand_for d vs) (content_as d a)
  pub impures : (before : List Call) (call : Call) (c a : Content) → has_rules p call.term ≡ false → o.impures before call ≡ Some c → Contains (answers_in c) a
      → IsConstructedAsSaid specs call.term (stand_for d call.args) (content_as d a)

-- the condition of each rule of each term that isn't multi is valid, alone or where no rule of greater priority matches
abbrev pub AllAreValid : Program → Specs → Atoms → Type 0
AllAreValid p specs d = (t : ℕ) → Contains (terms_with_rules p) t → is_multi p t ≡ false → AreValid p specs t ⊎ (AreValidBelow p specs t × AreNumbers d)

-- the choice among the source rules of each term that isn't multi answers as said
abbrev pub AllChooseAsSaid : Program → Specs → Atoms → Type 0
AllChooseAsSaid p specs d =
    (t : ℕ) → Contains (terms_with_rules p) t → is_multi p t ≡ false → (m : Meaning) (args : List Value)
    → IsCalled p specs t d m args (choice p m (rules_of p t) args).calls → AnswersAsSaid p specs t d args (choice p m (rules_of p t) args)

-- a call that meets its term's require is answered by what the term's spec provides, also each element of a list, and each impure call that
-- is made outside meets its require
pub record IsRunAsSaid (specs : Specs) (d : Atoms) (call : Call) (before : List Call) (c : Content) (after : List Call) : Type 0 where
  pub provides : (a : Content) (x : Denoted) → Contains (answers_in c) a → result_as (content_as d a) ≡ Some x → IsProvided specs call.term (stand_for d call.args) x
  pub made : List Call
  pub after_those : after ≡ before ++ made
  pub required : (k : Call) → Contains made k → IsRequired specs k.term (stand_for d k.args)

-- so is each run among what is outside as specs say
abbrev pub AllAreAsSaid : Program → Specs → Atoms → (Outside → ℕ → Call → List Call → Content → List Call → Type 0) → Type 0
AllAreAsSaid p specs d Run =
    (o : Outside) (n : ℕ) (call : Call) (before : List Call) (c : Content) (after : List Call)
    → MeetsSpecsOutside p specs d o → Run o n call before c after → IsRequired specs call.term (stand_for d call.args) → IsRunAsSaid specs d call before c after

abbrev pub AllRunsAreAsSaid : Program → Specs → Atoms → Functions → Type 0
AllRunsAreAsSaid p specs d f = AllAreAsSaid p specs d (WholeRun f p)

-- so a program whose rules are valid computes what its specs say: that rules take it of the terms which they call is no circle
abbrev pub ProgramsComputeAsSaid : Type 0
ProgramsComputeAsSaid =
    (p : Program) (specs : Specs) (d : Atoms) → IsWellTypedProgram p → IsDenotation p specs d → AllAreValid p specs d → AllRunsAreAsSaid p specs d (by_rules p)

-- and so do the trees that lowering gives of accepted definitions, or their code
abbrev pub LoweredProgramsComputeAsSaid : Type 0
LoweredProgramsComputeAsSaid =
    (defs : List Definition) (expand : Bool) (rules : TypedRules) (terms : List LoweredTerm) (f : Functions) (specs : Specs) (d : Atoms)
    → IsAccepted defs expand rules → AreLowered (own_program defs rules) terms → RunTrees (own_program defs rules) terms f ⊎ RunCode (own_program defs rules) terms f
    → IsDenotation (own_program defs rules) specs d → AllAreValid (own_program defs rules) specs d → AllRunsAreAsSaid (own_program defs rules) specs d f

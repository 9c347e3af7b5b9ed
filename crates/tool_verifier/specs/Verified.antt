-- What is known of the tree of one term of an answer of `lower`.
use Rattle.std.specs.Prelude.{◌≡◌, ◌⊎◌, ℕ, Bool, false, List, IsTrue}
use Rattle.cranelift_isle.specs.Elaborated.{TypedRules}
use Rattle.cranelift_isle.specs.Syntax.{Definition}
use Rattle.cranelift_isle.specs.Choice.{choice, MatchesOnce}
use Rattle.cranelift_isle.specs.Meaning.{Meaning}
use Rattle.cranelift_isle.specs.Outcome.{Outcome}
use Rattle.cranelift_isle.specs.Program.{Program, arg_types, is_multi, rules_of}
use Rattle.cranelift_isle.specs.Values.{Value, args_well_typed}
use Rattle.cranelift_isle.specs.Serves.{Serves, TellsConstantsApart}
use Rattle.cranelift_isle.specs.Layers.{own_program, IsAccepted, LoweredTerm}
use Rattle.cranelift_isle.specs.Run.{run, world_of}
use Rattle.laws_specs.specs.ConditionLaws.{IsCalled}
use Rattle.laws_specs.specs.Meets.{Atoms, AreNumbers, AnswersAsSaid}
use Rattle.laws_specs.specs.Specs.{Specs}
use Rattle.laws_specs.specs.SetConditions.{AreValidInSet, AreValidBelowInSet}

-- what is asked of a meaning and of arguments: these are well typed, and it has an answer for all that the rules call
pub record CanRun (p : Program) (t : ℕ) (m : Meaning) (args : List Value) : Type 0 where
  pub typed : IsTrue (args_well_typed p.types (arg_types p t) args)
  pub served : Serves p m args (rules_of p t)

-- the run of a term's tree
abbrev pub run_of : Program → LoweredTerm → Meaning → List Value → Outcome
run_of p l m args = run l.tree (world_of p l.term l.set.sites m args)

-- it has the outcome of the rule that is chosen, and no second rule of its priority matches
pub record RunsAsRule (p : Program) (l : LoweredTerm) (m : Meaning) (args : List Value) : Type 0 where
  pub same : run_of p l m args ≡ choice p m (rules_of p l.term) args
  pub once : MatchesOnce p m (rules_of p l.term) args

-- the condition of each rule of a term's set is valid by these specs; or it is where no rule of the set with greater priority matches,
-- and atoms stand for numbers. This is what a solver is asked
abbrev pub AreRight : Program → Specs → Atoms → LoweredTerm → Type 0
AreRight p specs d l = AreValidInSet p specs l ⊎ (AreValidBelowInSet p specs l × AreNumbers d)

-- so it is for the rules of accepted definitions, where the meaning tells constants apart. That the term isn't multi was decided
pub record RunsWhereApart (defs : List Definition) (expand : Bool) (l : LoweredTerm) : Type 0 where
  pub rules : TypedRules
  pub accepted : IsAccepted defs expand rules
  pub single : is_multi (own_program defs rules) l.term ≡ false
  pub runs : (m : Meaning) (args : List Value) → CanRun (own_program defs rules) l.term m args
      → TellsConstantsApart (own_program defs rules) m (rules_of (own_program defs rules) l.term) → RunsAsRule (own_program defs rules) l m args
  -- and if the rules are right one by one, the run answers what the term's spec says
  pub computes : (specs : Specs) (d : Atoms) (m : Meaning) (args : List Value) → AreRight (own_program defs rules) specs d l
      → IsCalled (own_program defs rules) specs l.term d m args (run_of (own_program defs rules) l m args).calls
      → TellsConstantsApart (own_program defs rules) m (rules_of (own_program defs rules) l.term)
      → AnswersAsSaid (own_program defs rules) specs l.term d args (run_of (own_program defs rules) l m args)

-- so it is under every meaning. That it tells constants apart was decided too
pub record RunsAlways (defs : List Definition) (expand : Bool) (l : LoweredTerm) : Type 0 where
  pub rules : TypedRules
  pub accepted : IsAccepted defs expand rules
  pub single : is_multi (own_program defs rules) l.term ≡ false
  pub runs : (m : Meaning) (args : List Value) → CanRun (own_program defs rules) l.term m args → RunsAsRule (own_program defs rules) l m args
  pub computes : (specs : Specs) (d : Atoms) (m : Meaning) (args : List Value) → AreRight (own_program defs rules) specs d l
      → IsCalled (own_program defs rules) specs l.term d m args (run_of (own_program defs rules) l m args).calls
      → AnswersAsSaid (own_program defs rules) specs l.term d args (run_of (own_program defs rules) l m args)

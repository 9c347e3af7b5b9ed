-- The chain said once: the code of a tree of accepted definitions means what their source rules mean.
use Rattle.std.specs.Prelude.{[], ◌≡◌, ◌≤◌, ◌<◌, ◌++◌, ℕ, suc, true, false, List, length, Some, None, All, IsTrue, IsPermutation}
use Rattle.model.specs.rules.Values.{Value, args_well_typed}
use Rattle.model.specs.rules.Meaning.{Content, Meaning}
use Rattle.model.specs.rules.Outcome.{ended, Outcome}
use Rattle.model.specs.rules.Program.{Program, is_multi, arg_types, rules_of}
use Rattle.model.specs.rules.Choice.{choice, MatchesOnce}
use Rattle.model.specs.rules.Picks.{bag}
use Rattle.model.specs.sites.Sites.{Site}
use Rattle.model.specs.sites.Serves.{Serves, TellsConstantsApart}
use Rattle.model.specs.trees.Run.{world_of}
use Rattle.model.specs.trees.Collects.{Collects, HasCollectedResults}
use Rattle.model.specs.claims.Layers.{IsLoweredTerm, LoweredTerm}
use Rattle.model_code.specs.Code.{Block}
use Rattle.model_code.specs.CodeRuns.{code_run}
use Rattle.laws_code.specs.AcceptedCode.{OfBestTrees, EachCode}

-- what holds on all well-typed arguments, under every meaning that serves the term's rules and tells constants apart
abbrev pub OnServed : Program → ℕ → (Meaning → List Value → Type 0) → Type 0
OnServed p t Holds =
    (m : Meaning) (args : List Value) → IsTrue (args_well_typed p.types (arg_types p t) args) → Serves p m args (rules_of p t) → TellsConstantsApart p m (rules_of p t)
    → Holds m args

-- in a term that isn't multi, code without a bound has the outcome of the matching source rule of greatest priority, its
-- result or failure and its impure calls in order, or no rule and no impure calls; and no second rule of that priority
-- matches
abbrev pub CodeRunsAsChosen : Program → ℕ → List Site → Block → Type 0
CodeRunsAsChosen p t sites code =
    is_multi p t ≡ false
    → OnServed p t (λ m args. (code_run code (world_of p t sites m args) None ≡ choice p m (rules_of p t) args) × MatchesOnce p m (rules_of p t) args)

-- results of a run with a bound: a part of the bag, so many where there are as many, then a return, and where there are fewer
-- all of it, run through; without impure calls
pub record CollectsUpTo (most : ℕ) (o : Outcome) (expected : List Content) : Type 0 where
  pub calls : o.calls ≡ []
  pub part : (left : List Content) × IsPermutation expected (o.results ++ left)
  pub full : most ≤ length expected → length o.results ≡ most
  pub ending : most ≤ length expected → o.ending ≡ ended
  pub all : length expected < most → Collects o expected

-- in a multi term whose rules make no impure call and leave no multi call of an if-let unused, code without a bound collects
-- the bag of the rules' results, and with one a part of it up to there
abbrev pub CodeCollectsTheBag : Program → ℕ → List Site → Block → Type 0
CodeCollectsTheBag p t sites code =
    is_multi p t ≡ true → All (HasCollectedResults p) (rules_of p t)
    → OnServed p t (λ m args.
    Collects (code_run code (world_of p t sites m args) None) (bag p m (rules_of p t) args)
    × ((n : ℕ) → CollectsUpTo (suc n) (code_run code (world_of p t sites m args) (Some (suc n))) (bag p m (rules_of p t) args)))

pub record MeansItsSource (p : Program) (l : LoweredTerm) (code : Block) : Type 0 where
  pub chooses : CodeRunsAsChosen p l.term l.set.sites code
  pub collects : CodeCollectsTheBag p l.term l.set.sites code

-- of each term that was lowered: what `lower` promises of its answer
abbrev pub CodeOfLoweredTermsMeans : Type 0
CodeOfLoweredTermsMeans = (p : Program) (l : LoweredTerm) → IsLoweredTerm p l → EachCode l (MeansItsSource p l)

-- of each best tree of a set that is built of accepted definitions, whatever made it
abbrev pub CodeChoosesAsSource : Type 0
CodeChoosesAsSource = OfBestTrees (λ p l. EachCode l (MeansItsSource p l))

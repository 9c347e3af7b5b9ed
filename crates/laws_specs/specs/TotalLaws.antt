-- The law by total functions: those that are well typed for what a term's rules use, and meet specs, give what its spec says.
use Rattle.std.specs.Prelude.{◌≡◌, ◌⊎◌, ℕ, false, List, IsTrue}
use Rattle.model.specs.rules.Values.{Value, args_well_typed}
use Rattle.model.specs.rules.Meaning.{TotalMeaning, total}
use Rattle.model.specs.rules.Program.{Program, is_multi, arg_types, rules_of}
use Rattle.model.specs.sites.Sites.{Site}
use Rattle.model.specs.sites.Serves.{TellsConstantsApart}
use Rattle.model.specs.trees.Run.{run, world_of}
use Rattle.model.specs.trees.Trees.{Tree}
use Rattle.model.specs.claims.Headline.{RunsAsChosen}
use Rattle.laws_typing.specs.WellTypedPrograms.{IsWellTypedProgram}
use Rattle.laws_trees.specs.TotalLaws.{IsTotalFor}
use Rattle.laws_specs.specs.Specs.{Specs}
use Rattle.laws_specs.specs.Meets.{Atoms, IsDenotation, AreNumbers, MeetsSpecs, IsCalledAsRequired, AnswersAsSaid}
use Rattle.laws_specs.specs.ConditionLaws.{AreValid, AreValidBelow}

-- such functions serve the term's rules, so a tree that runs as chosen computes by them what the spec says
abbrev pub TotalMeaningsAnswerAsSaid : Type 0
TotalMeaningsAnswerAsSaid =
    (p : Program) (specs : Specs) (t : ℕ) (d : Atoms) (sites : List Site) (tree : Tree) (f : TotalMeaning) (args : List Value)
    → IsWellTypedProgram p → is_multi p t ≡ false → AreValid p specs t ⊎ (AreValidBelow p specs t × AreNumbers d) → RunsAsChosen p t sites tree
    → IsDenotation p specs d → IsTrue (args_well_typed p.types (arg_types p t) args) → IsCalledAsRequired specs t d args
    → IsTotalFor p t f → TellsConstantsApart p (total f) (rules_of p t) → MeetsSpecs specs d (total f) (run tree (world_of p t sites (total f) args)).calls
    → AnswersAsSaid p specs t d args (run tree (world_of p t sites (total f) args))

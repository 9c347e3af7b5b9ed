-- Functions that are impure as their terms are.
use Rattle.std.specs.Prelude.{◌≡◌, ℕ, Bool, true, false, not, Some, slice_get}
use Rattle.model.specs.lists.Tables.{Flags, TermEntry}
use Rattle.model.specs.rules.Program.{Program, a_call, kind}
use Rattle.model.specs.trees.Trees.{Tree}
use Rattle.laws_sites.specs.BuiltSets.{OfBuiltSets}
use Rattle.laws_trees.specs.TotalLaws.{can_be_matched, can_be_called}
use Rattle.model_code.specs.TreeCode.{Passes, tree_code}
use Rattle.model_code.specs.Notation.{Notation, ReturnForm, extractor_of, constructor_of}
use Rattle.model_code.specs.ProgramNotation.{notation_of}
use Rattle.model_code.specs.PureAlike.{ArePureAlike, is_impure_number}
use Rattle.laws_code.specs.AcceptedCode.{OfBestTrees}
use Rattle.laws_code.specs.TypedTrees.{code_by_types}
use Rattle.laws_code.specs.ShownLaws.{calls_as}

-- the function of an extractor is pure, and that of a constructor as its term says. So two terms that are one function are impure
-- alike
pub record AreCalledAlike (p : Program) (n : Notation) (is_impure : ℕ → Bool) : Type 0 where
  pub extractors : (t : ℕ) (e : TermEntry) → slice_get p.terms t ≡ Some e → can_be_matched e.kind ≡ true → is_impure (n.function (extractor_of t)) ≡ false
  pub constructors : (t : ℕ) (e : TermEntry) (flags : Flags) (infallible : Bool) → slice_get p.terms t ≡ Some e → can_be_called e.kind ≡ true → kind p t ≡ a_call flags infallible
      → is_impure (n.function (constructor_of t)) ≡ not flags.pure

-- where what is one function from outside is pure alike, functions are impure as their terms are
abbrev pub PureFunctionsCallAlike : Type 0
PureFunctionsCallAlike = (p : Program) → ArePureAlike p → (kind : ReturnForm) (is_logged : Bool) → AreCalledAlike p (notation_of p kind is_logged) (is_impure_number p)

-- then each call in the code of a tree of a built set is impure as its function is
abbrev pub TreesCallAlike : Type 0
TreesCallAlike =
    OfBuiltSets (λ p t set. (n : Notation) (is_impure : ℕ → Bool) → AreCalledAlike p n is_impure → (tree : Tree) (passes : Passes)
    → calls_as n is_impure (tree_code tree set.sites passes) ≡ true)

-- and so in code by types
abbrev pub CodeCallsAlike : Type 0
CodeCallsAlike = OfBestTrees (λ p l. (n : Notation) (is_impure : ℕ → Bool) → AreCalledAlike p n is_impure → (deep : ℕ → Bool) (d : ℕ) → calls_as n is_impure (code_by_types p l deep d) ≡ true)

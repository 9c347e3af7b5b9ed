-- The code of accepted definitions can be written, and its text is read back.
use Rattle.std.specs.Prelude.{◌≡◌, ℕ, Bool, true, false}
use Rattle.model.specs.trees.Trees.{Tree}
use Rattle.model.specs.trees.Best.{IsBestTree}
use Rattle.laws_sites.specs.BuiltSets.{OfBuiltSets}
use Rattle.model_code.specs.TreeCode.{to_match, Passes, tree_code}
use Rattle.model_code.specs.Notation.{ReturnForm}
use Rattle.model_code.specs.ProgramNotation.{notation_of}
use Rattle.model_code.specs.Written.{shown_code, function_body}
use Rattle.model_code.specs.Spelling.{Names, spelled}
use Rattle.model_code.specs.Lexing.{AreWhole}
use Rattle.model_code.specs.ReadsBack.{is_looked_at, writable}
use Rattle.model_code.specs.ReadTexts.{IsReadAsCode}
use Rattle.laws_code.specs.AcceptedCode.{OfBestTrees}
use Rattle.laws_code.specs.TypedTrees.{code_by_types}

-- what is matched is handed on as it is, or by reference
abbrev pub LooksAtMatched : Passes → Type 0
LooksAtMatched passes = (s : ℕ) → is_looked_at (passes s to_match) ≡ true

-- then the code of a best tree can be written: what is made, and each pattern, has as many fields as its type has
abbrev pub CodeOfBuiltSetsIsWritable : Type 0
CodeOfBuiltSetsIsWritable =
    OfBuiltSets (λ p t set. (tree : Tree) → IsBestTree set tree → (passes : Passes) → LooksAtMatched passes → (kind : ReturnForm) (is_logged : Bool)
    → writable (notation_of p kind is_logged) false (tree_code tree set.sites passes) ≡ true)

-- so can code by types, whatever the term gives
abbrev pub CodeOfAcceptedIsWritable : Type 0
CodeOfAcceptedIsWritable = OfBestTrees (λ p l. (kind : ReturnForm) (is_logged : Bool) (deep : ℕ → Bool) (n : ℕ) → writable (notation_of p kind is_logged) false (code_by_types p l deep n) ≡ true)

-- and where names are read by themselves, what is printed of it is read as what it shows of it
abbrev pub TextOfAcceptedIsReadBack : Type 0
TextOfAcceptedIsReadBack =
    OfBestTrees (λ p l. (names : Names) → AreWhole names → (kind : ReturnForm) (is_logged : Bool) (deep : ℕ → Bool) (n : ℕ)
    → IsReadAsCode names (notation_of p kind is_logged) (spelled names (function_body (notation_of p kind is_logged) (code_by_types p l deep n))) (shown_code (notation_of p kind is_logged) (code_by_types p l deep n)))

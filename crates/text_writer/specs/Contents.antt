-- What texts have: definitions, what is said for a verifier, and mistakes.
use Rattle.std.specs.Prelude.{ℕ, ◌+◌, ◌≡◌, List, [], ◌∷◌, ◌++◌, length, map, Result, Ok, Err, ⊤}
use Rattle.core_syntax.specs.SyntaxViews.{definition_views, position}
use Rattle.model.specs.lists.Syntax.{Definition}
use Rattle.text_reader.specs.Definitions.{reading}
use Rattle.text_reader.specs.Lexemes.{Wrong, ◌>>=◌}
use Rattle.text_reader.specs.RecoveryViews.{wrong_view}
use Rattle.text_reader.specs.SpecTrees.{VerificationTree}
use Rattle.text_reader.specs.SpecViews.{numbered_view}
use Rattle.text_reader.specs.Verifying.{verification_in}
use Rattle.text_writer.specs.declared.contents.Contents.{Contents}
use Rattle.text_writer.specs.declared.contents.ContentsFault.{ContentsFault}
use Rattle.text_writer.specs.declared.contents.ContentsFault.TheVariants.{Memory, Unspellable}
use Rattle.text_writer.specs.Woven.{Trouble, unspelled}

-- definitions, trees for a verifier, each with the number of the definition that stands for it, and mistakes
pub record TextContents : Type 0 where
  pub definitions : List Definition
  pub trees : List (ℕ × VerificationTree)
  pub mistakes : List Wrong

abbrev pub contents_view : Contents → TextContents
contents_view found =
    record { definitions = definition_views found.defs.items; trees = map numbered_view found.forms.items; mistakes = map wrong_view found.mistakes.items }

abbrev pub no_contents : TextContents
no_contents = record { definitions = []; trees = []; mistakes = [] }

-- what is read of a text
abbrev pub read_contents : List Definition → List (ℕ × VerificationTree) → TextContents
read_contents definitions trees = record { definitions = definitions; trees = trees; mistakes = [] }

-- the mistake of one
abbrev pub mistaken_contents : Wrong → TextContents
mistaken_contents mistake = record { definitions = []; trees = []; mistakes = mistake ∷ [] }

-- the definitions and the trees of the text of a file; or its first mistake, in its definitions, or else in what it says for a
-- verifier
abbrev pub whole_reading : (number : ℕ) (text : List ℕ) → Result (List Definition × List (ℕ × VerificationTree)) Wrong
whole_reading number text = reading number text >>= (λ defs. verification_in number text >>= (λ trees. Ok (defs, trees)))

abbrev pub contents_in : Result (List Definition × List (ℕ × VerificationTree)) Wrong → TextContents
contents_in (Ok read) = read_contents read.0 read.1
contents_in (Err mistake) = mistaken_contents mistake

-- what a text has: what is read of it, or its mistake
abbrev pub contents_of_text : (number : ℕ) (text : List ℕ) → TextContents
contents_of_text number text = contents_in (whole_reading number text)

-- a tree that stands behind so many definitions
abbrev pub behind : ℕ → ℕ × VerificationTree → ℕ × VerificationTree
behind count tree = (count + tree.0, tree.1)

-- contents, and others behind them
abbrev pub followed_by : TextContents → TextContents → TextContents
followed_by these others = record {
  definitions = these.definitions ++ others.definitions;
  trees = these.trees ++ map (behind (length these.definitions)) others.trees;
  mistakes = these.mistakes ++ others.mistakes;
}

-- what texts have, from this number on: each its own, in order
abbrev pub contents_of_texts : (number : ℕ) → List (List ℕ) → TextContents
contents_of_texts number [] = no_contents
contents_of_texts number (text ∷ texts) = followed_by (contents_of_text number text) (contents_of_texts (number + 1) texts)

-- these are what some texts have
abbrev pub AreOfTexts : Contents → Type 0
AreOfTexts found = (texts : List (List ℕ)) × (contents_view found ≡ contents_of_texts 0 texts)

-- that memory was refused, or what can't be spelled stands there
abbrev pub TellsUnspelled : {A : Type 0} → ContentsFault → Result A Trouble → Type 0
TellsUnspelled (Memory e) woven = ⊤
TellsUnspelled (Unspellable p) woven = woven ≡ Err (unspelled (position p))

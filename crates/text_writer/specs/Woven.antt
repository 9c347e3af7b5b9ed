-- Definitions and trees for a verifier woven into one text: each tree stands in the place of the definition for other tools that has
-- its number.
use Rattle.std.specs.Prelude.{◌≡◌, ℕ, suc, List, [], ◌∷◌, ◌++◌, drop, map, Option, Some, None, Result, Ok, Err, if◌then◌else◌, ◌==◌}
use Rattle.model.specs.lists.Syntax.{Position, Definition}
use Rattle.core_syntax.specs.SyntaxViews.{definition_place}
use Rattle.text_writer.specs.Spellable as D
use Rattle.text_writer.specs.Texts.{written}
use Rattle.text_reader.specs.SpecTrees.{VerificationTree}
use Rattle.text_writer.specs.SpellableTrees as T
use Rattle.text_writer.specs.Items.{Item, a_definition, a_tree, item_form}

-- why they can't be
pub data Trouble : Type 0 where
  -- no text spells the definition or the tree that stands there
  unspelled : (at : Position) → Trouble
  -- no tree has the number of this definition for other tools, or no such definition has the number of this tree
  unmatched : (number : ℕ) → Trouble

abbrev pub Trees : Type 0
Trees = List (ℕ × VerificationTree)

abbrev pub tree_item : ℕ → ℕ × VerificationTree → Result Item Trouble
tree_item n v = if v.0 == n then (if T.can_be_spelled v.1 then Ok (a_tree v.1) else Err (unspelled (T.place_of_tree v.1))) else Err (unmatched n)

-- the item of a number that has a tree: the next one
abbrev pub said_item : ℕ → Trees → Result Item Trouble
said_item n [] = Err (unmatched n)
said_item n (v ∷ vs) = tree_item n v

abbrev pub defined_item : Definition → Position → Result Item Trouble
defined_item d p = if D.can_be_spelled d then Ok (a_definition d) else Err (unspelled p)

-- by the place of a definition: one for other tools has none
abbrev pub item_by : Option Position → ℕ → Definition → Trees → Result Item Trouble
item_by None n d vs = said_item n vs
item_by (Some p) n d vs = defined_item d p

-- the item of a number, where this definition and these trees are left
abbrev pub item_at : ℕ → Definition → Trees → Result Item Trouble
item_at n d vs = item_by (definition_place d) n d vs

abbrev pub left_by : Option Position → Trees → Trees
left_by None vs = drop 1 vs
left_by (Some p) vs = vs

-- the trees that are left behind a definition
abbrev pub left_behind : Definition → Trees → Trees
left_behind d vs = left_by (definition_place d) vs

-- a text, and an item on a line of its own
abbrev pub added : List ℕ → Result Item Trouble → Result (List ℕ) Trouble
added text (Ok i) = Ok (text ++ (written (item_form i) ++ 10 ∷ []))
added text (Err e) = Err e

-- a text, and what follows
abbrev pub before : List ℕ → Result (List ℕ) Trouble → Result (List ℕ) Trouble
before text (Ok more) = Ok (text ++ more)
before text (Err e) = Err e

abbrev pub item_before : Result Item Trouble → Result (List ℕ) Trouble → Result (List ℕ) Trouble
item_before (Ok i) more = before (written (item_form i) ++ 10 ∷ []) more
item_before (Err e) more = Err e

-- the text of definitions and trees from a number on, or the first trouble
abbrev pub woven : ℕ → List Definition → Trees → Result (List ℕ) Trouble
woven n [] [] = Ok []
woven n [] (v ∷ vs) = Err (unmatched v.0)
woven n (d ∷ ds) vs = item_before (item_at n d vs) (woven (suc n) ds (left_behind d vs))

-- ---- definitions and trees of one text

abbrev pub number_by : Option Position → ℕ → List ℕ
number_by None n = n ∷ []
number_by (Some p) n = []

-- the numbers of definitions for other tools, where the first definition has this number
abbrev pub other_numbers : ℕ → List Definition → List ℕ
other_numbers n [] = []
other_numbers n (d ∷ ds) = number_by (definition_place d) n ++ other_numbers (suc n) ds

-- each tree has the number of a definition for other tools, and each of these a tree, in their order
abbrev pub AreMatched : ℕ → List Definition → Trees → Type 0
AreMatched n ds vs = map (λ v. v.0) vs ≡ other_numbers n ds

-- Definitions and what is said for a verifier, in the order of one text.
use Rattle.std.specs.Prelude.{ℕ, suc, Bool, List, [], ◌∷◌, ◌++◌}
use Rattle.model.specs.lists.Syntax.{Definition, other_definition}
use Rattle.text_reader.specs.FormTrees.{FormTree}
use Rattle.text_writer.specs.Forms.{form_of}
use Rattle.text_writer.specs.Texts.{written}
use Rattle.text_writer.specs.Spellable as D
use Rattle.text_reader.specs.SpecTrees.{VerificationTree}
use Rattle.text_writer.specs.SpecForms.{verification_form}
use Rattle.text_writer.specs.SpellableTrees as T

pub data Item : Type 0 where
  a_definition : Definition → Item
  a_tree : VerificationTree → Item

-- what a reader of definitions reads: it passes over what is said for a verifier
abbrev pub definition_in : Item → Definition
definition_in (a_definition d) = d
definition_in (a_tree v) = other_definition

-- what a reader for a verifier reads: the trees, each with the number of its item, the first of which has this number
abbrev pub trees_from : ℕ → List Item → List (ℕ × VerificationTree)
trees_from n [] = []
trees_from n (a_definition d ∷ is) = trees_from (suc n) is
trees_from n (a_tree v ∷ is) = (n, v) ∷ trees_from (suc n) is

abbrev pub item_form : Item → FormTree
item_form (a_definition d) = form_of d
item_form (a_tree v) = verification_form v

abbrev pub item_can_be_spelled : Item → Bool
item_can_be_spelled (a_definition d) = D.can_be_spelled d
item_can_be_spelled (a_tree v) = T.can_be_spelled v

-- the text of items, each on a line of its own
abbrev pub printed_items : List Item → List ℕ
printed_items [] = []
printed_items (i ∷ is) = written (item_form i) ++ 10 ∷ printed_items is

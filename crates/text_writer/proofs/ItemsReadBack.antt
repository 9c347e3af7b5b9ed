-- The text of definitions and trees for a verifier is read as these, but for places.
use Rattle.std.proofs.Common.{◌≡◌, ℕ, suc, refl, sym, ap, ◌∙◌, subst, List, [], ◌∷◌, ◌++◌, map, arith}
use Rattle.std.specs.Prelude.{true, None, Ok}
use Rattle.std.specs.List.{list_all}
use Rattle.std.proofs.lemmas.Simd.{map-map}
use Rattle.std.proofs.lemmas.Grind.{common_steps}
use Rattle.text_reader.specs.Lexemes.{◌>>=◌}
use Rattle.text_reader.specs.Definitions.{definition_of}
use Rattle.text_writer.specs.Forms.{form_of}
use Rattle.text_writer.specs.ReadsBack.{ReadsBackAs}
use Rattle.text_writer.specs.Texts.{written}
use Rattle.text_writer.specs.Placeless.{placeless_definition}
use Rattle.text_writer.specs.Spellable as D
use Rattle.text_writer.proofs.WordParts.{both}
use Rattle.text_writer.proofs.Bare.{bared}
use Rattle.text_writer.proofs.Placed.{placed, placed_bare}
use Rattle.text_writer.proofs.Lines.{StandsAlone, lines, line_end, lines_placed, lines_forms}
use Rattle.text_writer.proofs.FormsRead.{definition_read}
use Rattle.text_writer.proofs.ReadBack.{good, definition_stands, all_stand, all_spelled_back}
use Rattle.text_reader.specs.SpecTrees.{VerificationTree}
use Rattle.text_reader.specs.Verifying.{verification_of, said_from}
use Rattle.text_writer.specs.PlacelessTrees.{placeless_tree}
use Rattle.text_writer.specs.SpecForms.{verification_form, printed}
use Rattle.text_writer.specs.SpellableTrees as T
use Rattle.text_writer.specs.Items.{Item, a_definition, a_tree, definition_in, trees_from, item_form, item_can_be_spelled, printed_items}
use Rattle.text_writer.specs.Saying.{numbered_from, placeless_numbered, ReadsBackVerification}
use Rattle.text_writer.proofs.TreesRead.{tree_read}
use Rattle.text_writer.proofs.BareTrees.{verification_bare}
use Rattle.text_writer.proofs.TwiceTrees.{tree_twice}
use Rattle.text_writer.proofs.TreesFit.{tree_stands}

-- ---- one item

item_read : (i : Item) → item_can_be_spelled i ≡ true → definition_of (item_form i) ≡ Ok (placeless_definition (definition_in i))
item_read i h = grind (arith, common_steps, definition_read)

item_stands : (i : Item) → item_can_be_spelled i ≡ true → StandsAlone (item_form i)
item_stands (a_definition d) h = definition_stands d h
item_stands (a_tree v) h = tree_stands v h

-- ---- what is said for a verifier

module _ (file : ℕ) where
  tree_there : (o : ℕ) (v : VerificationTree) → T.can_be_spelled v ≡ true
      → (w : VerificationTree) × (verification_of (placed file o (verification_form v)) ≡ Ok w) × (placeless_tree w ≡ placeless_tree v)
  tree_there o v h = good placeless_tree (verification_of (placed file o (verification_form v))) (placeless_tree v)
      (verification_bare (placed file o (verification_form v))
      ∙ ap verification_of (placed_bare file o (verification_form v))
      ∙ sym (verification_bare (verification_form v))
      ∙ ap (bared placeless_tree) (tree_read v h)
      ∙ ap Ok (tree_twice v))

  items_said : (is : List Item) (n o : ℕ) → list_all item_can_be_spelled is ≡ true
      → (said : List (ℕ × VerificationTree)) × (said_from n (lines_placed file o (map item_form is)) ≡ Ok said)
      × (map placeless_numbered said ≡ map placeless_numbered (trees_from n is))
  items_said [] n o h = ([], refl, refl)
  items_said (a_definition d ∷ is) n o h =
      let k = both (D.can_be_spelled d) (list_all item_can_be_spelled is) h in
      let behind = line_end file o (form_of d) in
      let rest = items_said is (suc n) behind k.1 in
      (rest.0, (grind (arith, common_steps)), rest.2)
  items_said (a_tree v ∷ is) n o h =
      let k = both (T.can_be_spelled v) (list_all item_can_be_spelled is) h in
      let behind = line_end file o (verification_form v) in
      let one = tree_there o v k.0 in
      let rest = items_said is (suc n) behind k.1 in (
        (n, one.0) ∷ rest.0,
        (grind (arith, common_steps)),
        first one.2 rest.2,
      )
    where
      first : {x y : VerificationTree} {xs ys : List (ℕ × VerificationTree)} → x ≡ y → xs ≡ ys → (n, x) ∷ xs ≡ (n, y) ∷ ys
      first e g = rw (e, g) refl

-- ---- whole texts

items_say : (is : List Item) → list_all item_can_be_spelled is ≡ true → ReadsBackVerification (lines (map item_form is)) (trees_from 0 is)
unfolding ReadsBackVerification
items_say is h file =
    let said = items_said file is 0 0 h in (
      said.0,
      ap (λ r. r >>= said_from 0) (lines_forms file (map item_form is) (all_stand item_form definition_in item_can_be_spelled item_read item_stands is h)) ∙ said.1,
      said.2,
    )

lines_are_defined : (is : List Item) → list_all item_can_be_spelled is ≡ true → ReadsBackAs (lines (map item_form is)) (map definition_in is)
unfolding ReadsBackAs
lines_are_defined is h file =
    let found = all_spelled_back item_form definition_in item_can_be_spelled item_read item_stands is h file in
    (found.0, found.1, found.2 ∙ sym (map-map placeless_definition definition_in is))

printed_lines : (is : List Item) → printed_items is ≡ lines (map item_form is)
printed_lines [] = refl
printed_lines (i ∷ is) = ap (λ t. written (item_form i) ++ 10 ∷ t) (printed_lines is)

pub items_read_back : (is : List Item) → list_all item_can_be_spelled is ≡ true → ReadsBackAs (printed_items is) (map definition_in is) × ReadsBackVerification (printed_items is) (trees_from 0 is)
items_read_back is h = (
  subst (λ t. ReadsBackAs t (map definition_in is)) (sym (printed_lines is)) (lines_are_defined is h),
  subst (λ t. ReadsBackVerification t (trees_from 0 is)) (sym (printed_lines is)) (items_say is h),
)

-- ---- trees alone

only_trees : (vs : List VerificationTree) → printed vs ≡ lines (map item_form (map a_tree vs))
only_trees [] = refl
only_trees (v ∷ vs) = ap (λ t. written (verification_form v) ++ 10 ∷ t) (only_trees vs)

trees_spelled : (vs : List VerificationTree) → list_all T.can_be_spelled vs ≡ true → list_all item_can_be_spelled (map a_tree vs) ≡ true
trees_spelled [] h = refl
trees_spelled (v ∷ vs) h = grind (arith, common_steps, trees_spelled vs, both)

trees_numbered : (n : ℕ) (vs : List VerificationTree) → trees_from n (map a_tree vs) ≡ numbered_from n vs
trees_numbered n [] = refl
trees_numbered n (v ∷ vs) = ap (λ xs. (n, v) ∷ xs) (trees_numbered (suc n) vs)

pub trees_say : (vs : List VerificationTree) → list_all T.can_be_spelled vs ≡ true → ReadsBackVerification (printed vs) (numbered_from 0 vs)
trees_say vs h =
    subst (λ t. ReadsBackVerification t (numbered_from 0 vs)) (sym (only_trees vs))
    (subst (λ xs. ReadsBackVerification (lines (map item_form (map a_tree vs))) xs) (trees_numbered 0 vs) (items_say (map a_tree vs) (trees_spelled vs h)))

-- where none is the first that can't be spelled, all can be
all_spellable : (vs : List VerificationTree) → T.first_unspelled vs ≡ None → list_all T.can_be_spelled vs ≡ true
all_spellable [] e = refl
all_spellable (v ∷ vs) e = grind (arith, common_steps, all_spellable vs)

pub printed_says : (text : List ℕ) (vs : List VerificationTree) → T.first_unspelled vs ≡ None → text ≡ printed vs → ReadsBackVerification text (numbered_from 0 vs)
printed_says text vs none is = subst (λ t. ReadsBackVerification t (numbered_from 0 vs)) (sym is) (trees_say vs (all_spellable vs none))

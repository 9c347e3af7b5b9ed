-- The text of forms: one space between the parts of a list, and each definition on a line of its own.
use Rattle.std.specs.Prelude.{ℕ, List, [], ◌∷◌, ◌++◌, codes}
use Rattle.std.specs.Fmt.{signed_decimal}
use Rattle.model.specs.lists.Syntax.{Definition}
use Rattle.text_reader.specs.FormTrees.{FormTree, a_word, a_number, a_constant, a_binding, a_list, FormTrees, no_form, form_and}
use Rattle.text_writer.specs.Forms.{form_of}

abbrev mutual
  pub written : FormTree → List ℕ
  written (a_word n) = n.text
  written (a_number z p) = signed_decimal z
  written (a_constant n p) = 36 ∷ n.text
  written (a_binding n f) = n.text ++ (codes " @ " ++ written f)
  written (a_list fs p e) = 40 ∷ (parted fs ++ 41 ∷ [])

  -- the parts of a list, with a space between them
  pub parted : FormTrees → List ℕ
  parted no_form = []
  parted (form_and f fs) = written f ++ spaced fs

  -- parts, each with a space before it
  pub spaced : FormTrees → List ℕ
  spaced no_form = []
  spaced (form_and f fs) = 32 ∷ (written f ++ spaced fs)

-- the text of definitions
abbrev pub printed : List Definition → List ℕ
printed [] = []
printed (d ∷ ds) = written (form_of d) ++ 10 ∷ printed ds

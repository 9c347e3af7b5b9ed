-- Which lists are passed over, and that words begin with `-` in these alone.
use Rattle.std.specs.Prelude.{◌≡◌, ⊤, [], ◌∷◌, if◌then◌else◌, Bool, true, false, not, ◌||◌, ◌&&◌, ◌==◌, ℕ, List, codes, slice_index}
use Rattle.std.specs.Str.{bytes_eq}
use Rattle.text_reader.specs.Lexemes.{Lexeme, erased, begin_list, end_list, word, dash, binder, number, constant}
use Rattle.text_reader.specs.FormTrees.{FormTree, a_word, a_number, a_constant, a_binding, a_list, FormTrees, no_form, form_and}

-- whether a definition that begins with this word says nothing of types, terms and rules
abbrev pub passes_over : List ℕ → Bool
passes_over w =
    bytes_eq w (codes "pragma") || bytes_eq w (codes "spec") || bytes_eq w (codes "model") || bytes_eq w (codes "form")
    || bytes_eq w (codes "instantiate") || bytes_eq w (codes "attr") || bytes_eq w (codes "state") || bytes_eq w (codes "macro")
    || bytes_eq w (codes "spec_macro")

-- whether the parts of a list are those of such a definition
abbrev pub begins_passed_over : FormTrees → Bool
begins_passed_over no_form = false
begins_passed_over (form_and (a_word n) fs) = passes_over n.text
begins_passed_over (form_and (a_number z p) fs) = false
begins_passed_over (form_and (a_constant n p) fs) = false
begins_passed_over (form_and (a_binding n f) fs) = false
begins_passed_over (form_and (a_list gs p e) fs) = false

abbrev pub is_passed_over : FormTree → Bool
is_passed_over (a_word n) = false
is_passed_over (a_number z p) = false
is_passed_over (a_constant n p) = false
is_passed_over (a_binding n f) = false
is_passed_over (a_list fs p e) = begins_passed_over fs

-- whether a word begins with `-`
abbrev pub is_dashed : List ℕ → Bool
is_dashed w = slice_index w 0 == 45

-- whether a form has such a word. Numbers are no words.
abbrev mutual
  pub has_dash : FormTree → Bool
  has_dash (a_word n) = is_dashed n.text
  has_dash (a_number z p) = false
  has_dash (a_constant n p) = false
  has_dash (a_binding n f) = has_dash f
  has_dash (a_list fs p e) = have_dash fs

  pub have_dash : FormTrees → Bool
  have_dash no_form = false
  have_dash (form_and f fs) = has_dash f || have_dash fs

-- whether all forms of a text that have such a word are passed over
abbrev pub dashes_are_passed_over : FormTrees → Bool
dashes_are_passed_over no_form = true
dashes_are_passed_over (form_and f fs) = (not (has_dash f) || is_passed_over f) && dashes_are_passed_over fs

-- ---- tokens

-- a word as the token that it is
abbrev pub mark : Lexeme → Lexeme
mark (begin_list p) = begin_list p
mark (end_list p) = end_list p
mark (word n) = if is_dashed n.text then dash n else word n
mark (dash n) = dash n
mark (binder n) = binder n
mark (number z p) = number z p
mark (constant n p) = constant n p

-- of tokens those words are told apart that begin with `-`
abbrev pub AreMarked : List Lexeme → Type 0
AreMarked [] = ⊤
AreMarked (t ∷ ts) = (mark (erased t) ≡ t) × AreMarked ts

-- The forms of a text: words, numbers, constants, bindings and lists. How forms are spelled, as tokens, is a function of them.
use Rattle.std.specs.Prelude.{ℕ, ◌+◌, max, ℤ, List, ◌∷◌}
use Rattle.model.specs.lists.Syntax.{Position, Name}
use Rattle.text_reader.specs.Lexemes.{Lexeme, begin_list, end_list, word, binder, number, constant}

mutual
  pub data FormTree : Type 0 where
    a_word : (name : Name) → FormTree
    a_number : (z : ℤ) (at : Position) → FormTree
    a_constant : (name : Name) (at : Position) → FormTree
    a_binding : (name : Name) (of : FormTree) → FormTree
    a_list : (parts : FormTrees) (at ends : Position) → FormTree

  pub data FormTrees : Type 0 where
    no_form : FormTrees
    form_and : (f : FormTree) (rest : FormTrees) → FormTrees

-- the tokens of forms, before others; a word that begins with `-` as one that does not
abbrev mutual
  pub spelled : FormTree → List Lexeme → List Lexeme
  spelled (a_word n) after = word n ∷ after
  spelled (a_number z p) after = number z p ∷ after
  spelled (a_constant n p) after = constant n p ∷ after
  spelled (a_binding n f) after = binder n ∷ spelled f after
  spelled (a_list fs p e) after = begin_list p ∷ all_spelled fs (end_list e ∷ after)

  pub all_spelled : FormTrees → List Lexeme → List Lexeme
  all_spelled no_form after = after
  all_spelled (form_and f fs) after = spelled f (all_spelled fs after)

-- how deep lists and bindings nest
abbrev mutual
  pub depth : FormTree → ℕ
  depth (a_word n) = 0
  depth (a_number z p) = 0
  depth (a_constant n p) = 0
  depth (a_binding n f) = depth f + 1
  depth (a_list fs p e) = all_depth fs + 1

  pub all_depth : FormTrees → ℕ
  all_depth no_form = 0
  all_depth (form_and f fs) = max (depth f) (all_depth fs)

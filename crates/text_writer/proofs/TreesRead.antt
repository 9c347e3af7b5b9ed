-- The form of a tree that can be spelled is read as this tree.
use Rattle.std.proofs.Common.{◌≡◌, ℕ, ◌-◌, refl, sym, ap, List, [], ◌∷◌, ◌++◌, map, append-nil, arith}
use Rattle.std.specs.Prelude.{nat_lt, Bool, true, false, Result, Ok}
use Rattle.std.specs.List.{list_all}
use Rattle.std.proofs.lemmas.Bool.{false≢true}
use Rattle.std.proofs.lemmas.List.{append_assoc}
use Rattle.std.proofs.lemmas.Grind.{common_steps}
use Rattle.model.specs.lists.Syntax.{Position, Name}
use Rattle.text_reader.specs.Lexemes.{Wrong, ◌>>=◌}
use Rattle.text_reader.specs.FormTrees.{FormTree, no_form}
use Rattle.text_reader.specs.Solid.{nowhere, placeless_name}
use Rattle.text_reader.specs.Grammar.{each_of, names_of}
use Rattle.text_writer.specs.Forms.{names_before}
use Rattle.text_reader.specs.SpecTrees.{SpecExprTree, spec_int, spec_bits, spec_bool, spec_unit, spec_var, spec_op, spec_cases, spec_let, spec_with, spec_as, spec_pair, SpecExprTrees, no_spec_expr, spec_expr_and, ModifiesTree, SpecTree, ModelValueTree, SignatureTree, VerificationTree, a_spec}
use Rattle.text_reader.specs.SpecGrammar.{spec_expr_of, spec_exprs_of, pair_of, pairs_of, model_value_of, signature_of, signatures_of}
use Rattle.text_reader.specs.TermSpecGrammar.{with_parts_of}
use Rattle.text_reader.specs.Verifying.{verification_of}
use Rattle.text_writer.specs.SpecForms.{forms_by, spec_expr_form, spec_expr_forms, modifies_form, model_value_form, signature_form, verification_form}
use Rattle.text_writer.specs.PlacelessTrees.{placeless_spec_expr, placeless_spec_exprs, placeless_modifies, placeless_model_value, placeless_signature, placeless_tree}
use Rattle.text_writer.specs.SpellableTrees.{is_operator, is_spec_variable, spec_expr_is_spellable, spec_exprs_are_spellable, pair_is_spellable, pairs_are_spellable, model_value_is_spellable, signature_is_spellable, signatures_are_spellable, can_be_spelled}
use Rattle.text_writer.proofs.WordParts.{both, three, four, six, unless}
use Rattle.text_writer.proofs.WordTests.{variable_parts, operator_parts}
use Rattle.text_writer.proofs.DigitTexts.{bits_read}

names_read : (ns : List Name) → names_of (names_before ns no_form) ≡ Ok (map placeless_name ns)
names_read [] = refl
names_read (n ∷ ns) = ap (λ r. r >>= (λ xs. Ok (placeless_name n ∷ xs))) (names_read ns)

-- each form by itself
each_read : {A : Type 0} (one : FormTree → Result A Wrong) (form : A → FormTree) (placeless : A → A) (test : A → Bool)
    → ((x : A) → test x ≡ true → one (form x) ≡ Ok (placeless x)) → (xs : List A) → list_all test xs ≡ true → each_of one (forms_by form xs) ≡ Ok (map placeless xs)
each_read one form placeless test read [] h = refl
each_read one form placeless test read (x ∷ xs) h = grind (arith, common_steps, each_read one form placeless test read xs, both)

-- ---- expressions

variable_read : (n : Name) (p : Position) → is_spec_variable n ≡ true → spec_expr_of (spec_expr_form (spec_var n p)) ≡ Ok (spec_var (placeless_name n) nowhere)
variable_read n p h = let k = variable_parts n h in rw (k.3, k.4, k.1, k.2) refl

mutual
  expr_read : (x : SpecExprTree) (room : ℕ) → spec_expr_is_spellable x room ≡ true → spec_expr_of (spec_expr_form x) ≡ Ok (placeless_spec_expr x)
  expr_read (spec_int z p) room h = refl
  expr_read (spec_bits value width p) room h = bits_read value width h
  expr_read (spec_bool true p) room h = refl
  expr_read (spec_bool false p) room h = refl
  expr_read (spec_unit p) room h = refl
  expr_read (spec_var n p) room h = variable_read n p h
  expr_read (spec_op op xs p) room h =
      let k = three (nat_lt 0 room) (is_operator op) (spec_exprs_are_spellable xs (room - 1)) h in
      let o = operator_parts op k.1 in
      rw (o.1, o.2, exprs_read xs (room - 1) k.2) refl
  expr_read (spec_cases op x xs p) room h = grind (arith, common_steps, expr_read x (room - 1), pairs_read xs (room - 1), four)
  expr_read (spec_let ds x p) room h = grind (arith, common_steps, pairs_read ds (room - 2), expr_read x (room - 1), three)
  expr_read (spec_with ns x p) room h = grind (arith, common_steps, expr_read x (room - 1), three, names_read)
  expr_read (spec_as x t p) room h = grind (arith, common_steps, expr_read x (room - 1), three)
  expr_read (spec_pair x y p) room h = absurd (false≢true h)

  exprs_read : (xs : SpecExprTrees) (room : ℕ) → spec_exprs_are_spellable xs room ≡ true → spec_exprs_of (spec_expr_forms xs) ≡ Ok (placeless_spec_exprs xs)
  exprs_read no_spec_expr room h = refl
  exprs_read (spec_expr_and x xs) room h = grind (arith, common_steps, expr_read x room, exprs_read xs room, both)

  pair_read : (x : SpecExprTree) (room : ℕ) → pair_is_spellable x room ≡ true → pair_of (spec_expr_form x) ≡ Ok (placeless_spec_expr x)
  pair_read (spec_pair x y p) room h =
      let k = three (nat_lt 0 room) (spec_expr_is_spellable x (room - 1)) (spec_expr_is_spellable y (room - 1)) h in
      rw (expr_read x (room - 1) k.1, expr_read y (room - 1) k.2) refl
  pair_read _ room h = absurd (false≢true h)

  pairs_read : (xs : SpecExprTrees) (room : ℕ) → pairs_are_spellable xs room ≡ true → pairs_of (spec_expr_forms xs) ≡ Ok (placeless_spec_exprs xs)
  pairs_read no_spec_expr room h = refl
  pairs_read (spec_expr_and x xs) room h = grind (arith, common_steps, pair_read x room, pairs_read xs room, both)

-- ---- specs of terms

states_read : (ms : List ModifiesTree) (s : SpecTree) → with_parts_of s (forms_by modifies_form ms) ≡ Ok (record s { modifies = s.modifies ++ map placeless_modifies ms })
states_read [] s = ap (λ xs. Ok (record s { modifies = xs })) (sym (append-nil s.modifies))
states_read (m ∷ ms) s = grind (arith, common_steps, states_read ms, append_assoc)

spec_read : (s : SpecTree) → can_be_spelled (a_spec s) ≡ true → verification_of (verification_form (a_spec s)) ≡ Ok (placeless_tree (a_spec s))
spec_read s h = grind (arith, common_steps, six, names_read, states_read, exprs_read)

-- ---- models

model_value_read : (v : ModelValueTree) → model_value_is_spellable v ≡ true → model_value_of (model_value_form v) ≡ Ok (placeless_model_value v)
model_value_read v h = grind (arith, common_steps, each_read, expr_read)

-- ---- signatures and attributes

signature_read : (s : SignatureTree) → signature_is_spellable s ≡ true → signature_of (signature_form s) ≡ Ok (placeless_signature s)
signature_read s h = grind (arith, common_steps, three, each_read)

signatures_read : (ss : List SignatureTree) → signatures_are_spellable ss ≡ true → signatures_of (forms_by signature_form ss) ≡ Ok (map placeless_signature ss)
signatures_read ss h = each_read signature_of signature_form placeless_signature signature_is_spellable signature_read ss h

-- ---- whole trees

pub tree_read : (v : VerificationTree) → can_be_spelled v ≡ true → verification_of (verification_form v) ≡ Ok (placeless_tree v)
tree_read v h = grind (arith, spec_read, model_value_read, both, signatures_read, three, each_read, unless, expr_read, names_read)

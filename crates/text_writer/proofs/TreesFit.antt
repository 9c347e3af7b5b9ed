-- The forms of trees for a verifier that can be spelled: their words and numbers can be, and they nest 1,000 deep at most.
use Rattle.std.proofs.Common.{◌≡◌, ℕ, ◌-◌, ◌/◌, ◌%◌, ◌≤◌, ◌==◌, refl, inl, inr, List, [], ◌∷◌, ◌++◌, arith}
use Rattle.std.specs.Prelude.{◌^◌, ◌||◌, not, nat_lt, Bool, true, false, codes, Option, Some, None}
use Rattle.std.specs.List.{list_all}
use Rattle.std.proofs.lemmas.Bool.{false≢true, cases_Bool}
use Rattle.std.proofs.lemmas.Grind.{common_steps}
use Rattle.model.specs.lists.Syntax.{Name}
use Rattle.text_reader.specs.FormTrees.{FormTree, FormTrees, no_form, form_and}
use Rattle.text_reader.specs.Grammar.{reads}
use Rattle.text_reader.specs.PassedOver.{is_passed_over, has_dash}
use Rattle.text_reader.specs.Pieces.{is_in_word}
use Rattle.text_writer.specs.Forms.{the_word, word_form, names_before}
use Rattle.text_writer.specs.Spellable.{is_any_word, begins_word}
use Rattle.text_writer.proofs.WordParts.{both, three, four, six}
use Rattle.text_writer.proofs.Fine.{is_plain, Fits, AllFit, known, any_word_fits, number_fits, index_fits, truth_fits, none, more, listed, headed, one_more, two_less}
use Rattle.text_writer.proofs.Lines.{StandsAlone}
use Rattle.text_reader.specs.SpecGrammar.{has_cases}
use Rattle.text_reader.specs.SpecTrees.{SpecExprTree, spec_int, spec_bits, spec_bool, spec_unit, spec_var, spec_op, spec_cases, spec_let, spec_with, spec_as, spec_pair, SpecExprTrees, no_spec_expr, spec_expr_and, ModelTypeTree, int_model, bool_model, unit_model, bits_model, named_model, ModifiesTree, SpecTree, VariantValueTree, ModelValueTree, type_value, enum_value, const_value, SignatureTree, AttrKindTree, tag, chain, priority, AttrTree, MacroTree, VerificationTree, a_spec, a_model, a_form, an_instantiation, an_attr, a_state, a_macro, a_pragma}
use Rattle.text_writer.specs.SpecForms.{with_forms, forms_by, form_if, section_form, use_form, digit_text, digits_text, bits_text, part_forms, model_type_form, spec_expr_form, spec_expr_forms, modifies_form, spec_form, variant_value_by, variant_value_form, model_value_form, signature_form, attr_kind_form, attr_form, macro_form, verification_form}
use Rattle.text_writer.specs.SpellableTrees.{are_any_words, is_operator, is_no_name_or_any_word, model_type_is_spellable, spec_expr_is_spellable, spec_exprs_are_spellable, pair_is_spellable, pairs_are_spellable, part_is_spellable, modifies_is_spellable, is_no_value_or_spellable, variant_value_is_spellable, model_value_is_spellable, signature_type_is_spellable, signature_is_spellable, signatures_are_spellable, are_signatures_spellable, attr_kind_is_spellable, can_be_spelled}
use Rattle.text_writer.proofs.WordTests.{variable_parts, operator_parts, cases_fit}
use Rattle.text_writer.proofs.DigitTexts.{each_below, text-all}
use Rattle.std.proofs.lemmas.Bool.Decides.{nat_tests}

-- ---- lists

names_fit : (ns : List Name) (fs : FormTrees) (room : ℕ) → are_any_words ns ≡ true → AllFit true fs room → AllFit true (names_before ns fs) room
names_fit [] fs room h k = k
names_fit (n ∷ ns) fs room h k =
    let e = both (is_any_word n) (list_all is_any_word ns) h in
    more (any_word_fits n e.0) (names_fit ns fs room e.1 k)

use_fits : (n : Name) (args : List Name) → is_any_word n ≡ true → are_any_words args ≡ true → Fits true (use_form n args) 999
use_fits n args h k = listed 999 refl (more (any_word_fits n h) (names_fit args no_form 998 k none))

each_fits : {A : Type 0} (form : A → FormTree) (test : A → Bool) (room : ℕ) → ((x : A) → test x ≡ true → Fits true (form x) room)
    → (xs : List A) → list_all test xs ≡ true → AllFit true (forms_by form xs) room
each_fits form test room fits [] h = none
each_fits form test room fits (x ∷ xs) h = grind (arith, common_steps, each_fits form test room fits xs, both, more)

name_if_fits : (o : Option Name) (room : ℕ) → is_no_name_or_any_word o ≡ true → AllFit true (form_if word_form o) room
name_if_fits None room h = none
name_if_fits (Some n) room h = more (any_word_fits n h) none

section_fits : {f : FormTree} (head : List ℕ) (room : ℕ) → nat_lt 0 room ≡ true → is_plain head ≡ true → Fits true f (room - 1) → Fits true (section_form head f) room
section_fits head room some plain h = headed head room some plain (more h none)

-- ---- bits

digits_plain : (radix : ℕ) → 2 ≤ radix → radix ≤ 16 → (mark k n : ℕ) → nat_lt mark 128 ≡ true → is_in_word mark ≡ true → is_plain (35 ∷ mark ∷ digits_text radix k n) ≡ true
unfolding is_plain begins_word
digits_plain radix two most mark k n ascii inside =
    let ds = digits_text radix k n in
    let all_ascii : list_all (λ b. nat_lt b 128) ds ≡ true =
    text-all radix two most (λ b. nat_lt b 128) (λ d h. each_below (λ e. nat_lt (digit_text e) 128) 16 refl d (omega (arith, h, most))) k n in
    let all_inside : list_all is_in_word ds ≡ true =
    text-all radix two most is_in_word (λ d h. each_below (λ e. is_in_word (digit_text e)) 16 refl d (omega (arith, h, most))) k n in
    rw (ascii, all_ascii, inside, all_inside) refl

bits_fit : (value width room : ℕ) → Fits true (the_word (bits_text value width)) room
bits_fit value width room = elim (cases_Bool (width % 4 == 0)) [
  | inl e ↦ rw e (known (codes "#x" ++ digits_text 16 (width / 4) value) room (digits_plain 16 (omega arith) (omega arith) 120 (width / 4) value refl refl))
  | inr e ↦ rw e (known (codes "#b" ++ digits_text 2 width value) room (digits_plain 2 (omega arith) (omega arith) 98 width value refl refl))
]

-- ---- types and expressions

model_type_fits : (t : ModelTypeTree) (room : ℕ) → model_type_is_spellable t room ≡ true → Fits true (model_type_form t) room
unfolding is_plain
model_type_fits (int_model p) room h = known (codes "Int") room refl
model_type_fits (bool_model p) room h = known (codes "Bool") room refl
model_type_fits (unit_model p) room h = known (codes "Unit") room refl
model_type_fits (bits_model None p) room h = headed (codes "bv") room h refl none
model_type_fits (bits_model (Some width) p) room h =
    let k = both (nat_lt 0 room) (nat_lt width (2 ^ 64)) h in
    section_fits (codes "bv") room k.0 refl (number_fits (index_fits width k.1))
model_type_fits (named_model n p) room h =
    let k = both (nat_lt 0 room) (is_any_word n) h in
    section_fits (codes "named") room k.0 refl (any_word_fits n k.1)

mutual
  unfolding is_plain

  expr_fits : (x : SpecExprTree) (room : ℕ) → spec_expr_is_spellable x room ≡ true → Fits true (spec_expr_form x) room
  expr_fits (spec_int z p) room h = number_fits h
  expr_fits (spec_bits value width p) room h = bits_fit value width room
  expr_fits (spec_bool b p) room h = truth_fits b room
  expr_fits (spec_unit p) room h = listed room h none
  expr_fits (spec_var n p) room h = any_word_fits n (variable_parts n h).0
  expr_fits (spec_op op xs p) room h =
      let k = three (nat_lt 0 room) (is_operator op) (spec_exprs_are_spellable xs (room - 1)) h in
      listed room k.0 (more (any_word_fits op (operator_parts op k.1).0) (exprs_fit xs (room - 1) k.2))
  expr_fits (spec_cases op x xs p) room h =
      let k = four (nat_lt 0 room) (has_cases op) (spec_expr_is_spellable x (room - 1)) (pairs_are_spellable xs (room - 1)) h in
      listed room k.0 (more (cases_fit op (room - 1) k.1) (more (expr_fits x (room - 1) k.2) (pairs_fit xs (room - 1) k.3)))
  expr_fits (spec_let ds x p) room h =
      let k = three (nat_lt 1 room) (pairs_are_spellable ds (room - 2)) (spec_expr_is_spellable x (room - 1)) h in
      headed (codes "let") room (one_more room k.0) refl
      (more (listed (room - 1) (grind (arith, common_steps, nat_tests)) (rw (two_less room) (pairs_fit ds (room - 2) k.1))) (more (expr_fits x (room - 1) k.2) none))
  expr_fits (spec_with ns x p) room h =
      let k = three (nat_lt 1 room) (are_any_words ns) (spec_expr_is_spellable x (room - 1)) h in
      headed (codes "with") room (one_more room k.0) refl
      (more (listed (room - 1) (grind (arith, common_steps, nat_tests)) (names_fit ns no_form ((room - 1) - 1) k.1 none)) (more (expr_fits x (room - 1) k.2) none))
  expr_fits (spec_as x t p) room h =
      let k = three (nat_lt 0 room) (spec_expr_is_spellable x (room - 1)) (model_type_is_spellable t (room - 1)) h in
      headed (codes "as") room k.0 refl (more (expr_fits x (room - 1) k.1) (more (model_type_fits t (room - 1) k.2) none))
  expr_fits (spec_pair x y p) room h = absurd (false≢true h)

  exprs_fit : (xs : SpecExprTrees) (room : ℕ) → spec_exprs_are_spellable xs room ≡ true → AllFit true (spec_expr_forms xs) room
  exprs_fit no_spec_expr room h = none
  exprs_fit (spec_expr_and x xs) room h = grind (arith, common_steps, expr_fits x room, exprs_fit xs room, both, more)

  pair_fits : (x : SpecExprTree) (room : ℕ) → pair_is_spellable x room ≡ true → Fits true (spec_expr_form x) room
  pair_fits (spec_pair x y p) room h =
      let k = three (nat_lt 0 room) (spec_expr_is_spellable x (room - 1)) (spec_expr_is_spellable y (room - 1)) h in
      listed room k.0 (more (expr_fits x (room - 1) k.1) (more (expr_fits y (room - 1) k.2) none))
  pair_fits _ room h = absurd (false≢true h)

  pairs_fit : (xs : SpecExprTrees) (room : ℕ) → pairs_are_spellable xs room ≡ true → AllFit true (spec_expr_forms xs) room
  pairs_fit no_spec_expr room h = none
  pairs_fit (spec_expr_and x xs) room h = grind (arith, common_steps, pair_fits x room, pairs_fit xs room, both, more)

-- ---- specs of terms

part_fits : {fs : FormTrees} (head : List ℕ) (o : Option SpecExprTrees) → is_plain head ≡ true → part_is_spellable o ≡ true → AllFit true fs 999
    → AllFit true (with_forms (part_forms head o) fs) 999
part_fits head None plain h k = k
part_fits head (Some xs) plain h k = more (headed head 999 refl plain (exprs_fit xs 998 h)) k

modifies_fits : (m : ModifiesTree) → modifies_is_spellable m ≡ true → Fits true (modifies_form m) 999
unfolding is_plain
modifies_fits m h =
    let k = both (is_any_word m.state) (is_no_name_or_any_word m.cond) h in
    headed (codes "modifies") 999 refl refl (more (any_word_fits m.state k.0) (name_if_fits m.cond 998 k.1))

spec_fits : (s : SpecTree) → can_be_spelled (a_spec s) ≡ true → Fits true (spec_form s) 1000
unfolding is_plain
spec_fits s h =
    let k = six (is_any_word s.term) (are_any_words s.args) (part_is_spellable s.matches) (part_is_spellable s.provides) (part_is_spellable s.required) (list_all modifies_is_spellable s.modifies) h in
    headed (codes "spec") 1000 refl refl (more (use_fits s.term s.args k.0 k.1)
    (part_fits (codes "match") s.matches refl k.2 (part_fits (codes "provide") s.provides refl k.3 (part_fits (codes "require") s.required refl k.4
    (each_fits modifies_form modifies_is_spellable 999 modifies_fits s.modifies k.5)))))

-- ---- models

variant_value_fits : (v : VariantValueTree) → variant_value_is_spellable v ≡ true → Fits true (variant_value_form v) 998
variant_value_fits v h = let k = both (is_any_word v.name) (is_no_value_or_spellable v.value) h in by v.value k.0 k.1
  where
    by : (o : Option SpecExprTree) → is_any_word v.name ≡ true → is_no_value_or_spellable o ≡ true → Fits true (variant_value_by v.name o) 998
    by None word h = any_word_fits v.name word
    by (Some x) word h = listed 998 refl (more (any_word_fits v.name word) (more (expr_fits x 997 h) none))

model_value_fits : (v : ModelValueTree) → model_value_is_spellable v ≡ true → Fits true (model_value_form v) 999
unfolding is_plain
model_value_fits (type_value t) h = section_fits (codes "type") 999 refl refl (model_type_fits t 998 h)
model_value_fits (enum_value vs) h = headed (codes "enum") 999 refl refl (each_fits variant_value_form variant_value_is_spellable 998 variant_value_fits vs h)
model_value_fits (const_value x) h = section_fits (codes "const") 999 refl refl (expr_fits x 998 h)

-- ---- signatures and attributes

signature_type_fits : (t : ModelTypeTree) → signature_type_is_spellable t ≡ true → Fits true (model_type_form t) 997
signature_type_fits t h = model_type_fits t 997 h

signature_fits : (s : SignatureTree) → signature_is_spellable s ≡ true → Fits true (signature_form s) 999
unfolding is_plain
signature_fits s h =
    let k = three (list_all signature_type_is_spellable s.args) (signature_type_is_spellable s.ret) (signature_type_is_spellable s.canonical) h in
    listed 999 refl (more (headed (codes "args") 998 refl refl (each_fits model_type_form signature_type_is_spellable 997 signature_type_fits s.args k.0))
    (more (section_fits (codes "ret") 998 refl refl (signature_type_fits s.ret k.1)) (more (section_fits (codes "canon") 998 refl refl (signature_type_fits s.canonical k.2)) none)))

signatures_fit : (ss : List SignatureTree) → signatures_are_spellable ss ≡ true → AllFit true (forms_by signature_form ss) 999
signatures_fit ss h = each_fits signature_form signature_is_spellable 999 signature_fits ss h

form_and_signatures_fit : (form : Option Name) (ss : List SignatureTree) → are_signatures_spellable form ss ≡ true
    → AllFit true (with_forms (form_if word_form form) (forms_by signature_form ss)) 999
form_and_signatures_fit None ss h = signatures_fit ss h
form_and_signatures_fit (Some n) [] h = more (any_word_fits n h) none
form_and_signatures_fit (Some n) (s ∷ ss) h = absurd (false≢true h)

attr_kind_fits : (k : AttrKindTree) → attr_kind_is_spellable k ≡ true → Fits true (attr_kind_form k) 999
unfolding is_plain
attr_kind_fits (tag n p) h = section_fits (codes "tag") 999 refl refl (any_word_fits n h)
attr_kind_fits (chain p) h = section_fits (codes "veri") 999 refl refl (known (codes "chain") 998 refl)
attr_kind_fits (priority p) h = section_fits (codes "veri") 999 refl refl (known (codes "priority") 998 refl)

attr_fits : (a : AttrTree) → can_be_spelled (an_attr a) ≡ true → Fits true (attr_form a) 1000
unfolding is_plain
attr_fits a h =
    let k = three (is_any_word a.name) (a.is_rule || not (reads a.name (codes "rule"))) (list_all attr_kind_is_spellable a.kinds) h in
    by a.is_rule (more (any_word_fits a.name k.0) (each_fits attr_kind_form attr_kind_is_spellable 999 attr_kind_fits a.kinds k.2))
  where
    by : (is : Bool) → AllFit true (form_and (word_form a.name) (forms_by attr_kind_form a.kinds)) 999 → Fits true (attr_form (record a { is_rule = is })) 1000
    by true h = headed (codes "attr") 1000 refl refl (more (known (codes "rule") 999 refl) h)
    by false h = headed (codes "attr") 1000 refl refl h

macro_fits : (m : MacroTree) → can_be_spelled (a_macro m) ≡ true → Fits true (macro_form m) 1000
unfolding is_plain
macro_fits m h =
    let k = three (is_any_word m.name) (are_any_words m.params) (spec_expr_is_spellable m.body 999) h in
    by m.is_spec (more (use_fits m.name m.params k.0 k.1) (more (expr_fits m.body 999 k.2) none))
  where
    by : (is : Bool) → AllFit true (form_and (use_form m.name m.params) (form_and (spec_expr_form m.body) no_form)) 999 → Fits true (macro_form (record m { is_spec = is })) 1000
    by true h = headed (codes "spec_macro") 1000 refl refl h
    by false h = headed (codes "macro") 1000 refl refl h

-- ---- whole trees

tree_fits : (v : VerificationTree) → can_be_spelled v ≡ true → Fits true (verification_form v) 1000
unfolding is_plain
tree_fits (a_spec s) h = spec_fits s h
tree_fits (a_model m) h =
    let k = both (is_any_word m.name) (model_value_is_spellable m.value) h in
    headed (codes "model") 1000 refl refl (more (any_word_fits m.name k.0) (more (model_value_fits m.value k.1) none))
tree_fits (a_form f) h =
    let k = both (is_any_word f.name) (signatures_are_spellable f.signatures) h in
    headed (codes "form") 1000 refl refl (more (any_word_fits f.name k.0) (signatures_fit f.signatures k.1))
tree_fits (an_instantiation i) h =
    let k = both (is_any_word i.term) (are_signatures_spellable i.form i.signatures) h in
    headed (codes "instantiate") 1000 refl refl (more (any_word_fits i.term k.0) (form_and_signatures_fit i.form i.signatures k.1))
tree_fits (an_attr a) h = attr_fits a h
tree_fits (a_state s) h =
    let k = three (is_any_word s.name) (model_type_is_spellable s.ty 998) (spec_expr_is_spellable s.default 998) h in
    headed (codes "state") 1000 refl refl (more (any_word_fits s.name k.0)
    (more (section_fits (codes "type") 999 refl refl (model_type_fits s.ty 998 k.1)) (more (section_fits (codes "default") 999 refl refl (expr_fits s.default 998 k.2)) none)))
tree_fits (a_macro m) h = macro_fits m h
tree_fits (a_pragma p) h = headed (codes "pragma") 1000 refl refl none

-- the form of a tree stands on a line of its own
pub tree_stands : (v : VerificationTree) → can_be_spelled v ≡ true → StandsAlone (verification_form v)
tree_stands v h = record {
  list = grind arith;
  fits = tree_fits v h;
  dashes = anyway (not (has_dash (verification_form v))) (is_passed_over (verification_form v)) (grind arith);
}
  where
    anyway : (a b : Bool) → b ≡ true → (a || b) ≡ true
    anyway a b h = grind (arith, common_steps)

-- The forms of definitions that can be spelled: their words, numbers and constants can be, and they nest 1,000 deep at most. Words
-- that begin with `-` stand in other forms.
use Rattle.std.proofs.Common.{◌≡◌, ℕ, suc, ◌+◌, ◌-◌, ◌≤◌, refl, List, [], ◌∷◌, arith}
use Rattle.std.specs.Prelude.{◌^◌, ℤ, pos, negsuc, max, nat_lt, Bool, true, false, ◌&&◌, ◌==◌, codes, Option, Some, None}
use Rattle.std.specs.List.{list_all}
use Rattle.std.specs.Str.{IsAscii}
use Rattle.std.proofs.lemmas.Bool.{false≢true}
use Rattle.std.proofs.lemmas.Bool.Decides.{nat_tests}
use Rattle.std.proofs.lemmas.Str.{is_utf8-from_IsUtf8, IsUtf8-from_ascii, chars-IsAscii}
use Rattle.std.proofs.lemmas.Grind.{common_steps}
use Rattle.model.specs.lists.Syntax.{Name, PatternTree, var_pattern, bind_pattern, bool_pattern, int_pattern, prim_pattern, term_pattern, wildcard_pattern, and_pattern, macro_arg, PatternTrees, no_pattern, pattern_and, ExprTree, term_expr, var_expr, bool_expr, int_expr, prim_expr, let_expr, ExprTrees, no_expr, expr_and, LetTrees, no_let, let_and, FieldTree, TupleFieldTree, FieldTrees, unit_fields, struct_fields, tuple_fields, VariantTree, TypeValueTree, primitive_value, enum_value, struct_value, TypeTree, DeclTree, ExtractorTree, ConverterTree, IfLetTree, RuleTree, ExternTree, extern_constructor, extern_extractor, extern_const, Definition, type_definition, declaration, extractor_definition, converter_definition, rule_definition, extern_definition, other_definition}
use Rattle.text_reader.specs.FormTrees.{FormTree, a_word, a_number, a_constant, a_binding, a_list, FormTrees, no_form, form_and, depth, all_depth}
use Rattle.text_reader.specs.PassedOver.{is_dashed, has_dash, have_dash}
use Rattle.text_reader.specs.Pieces.{is_in_word}
use Rattle.text_reader.specs.RuleGrammar.{is_signed_64}
use Rattle.text_reader.specs.Solid.{nowhere, placeless_name}
use Rattle.text_writer.specs.Forms.{the_word, word_form, constant_form, number_form, list_form, headed_form, truth_form, names_before, flag_before, flags_before, type_words_before, rule_words_before, pattern_form, pattern_forms, expr_form, expr_forms, let_forms, field_forms, tuple_field_forms, fields_forms, variant_by, variant_forms, value_form, type_form, decl_form, extern_form, if_let_form, if_lets_before, name_before, priority_before, rule_form, form_of}
use Rattle.text_writer.specs.Spellable.{begins_word, has_word_characters, is_word, is_any_word, is_constant_name, is_signed_128, are_words, is_pattern_head, is_expr_head, pattern_is_spellable, patterns_are_spellable, expr_is_spellable, exprs_are_spellable, lets_are_spellable, field_is_spellable, tuple_is_spellable, fields_are_spellable, variant_is_spellable, value_is_spellable, type_is_spellable, if_let_is_spellable, begins_with_pattern, is_no_name_or_word, is_no_priority_or_fits, can_be_spelled}
use Rattle.text_writer.proofs.WordParts.{both, three, four, six, word_parts, beginning_parts, nothing_begins, word_is_any, variable_parts, pattern_head_parts, expr_variable_parts, expr_head_parts}

-- a word, which may begin with `-` where such words may stand
abbrev pub is_fine_word : (dashes : Bool) → Name → Bool
is_fine_word true n = is_any_word n
is_fine_word false n = is_word n

-- a form whose words, numbers and constants can be spelled
abbrev mutual
  pub is_fine : (dashes : Bool) → FormTree → Bool
  is_fine dashes (a_word n) = is_fine_word dashes n
  is_fine dashes (a_number z p) = is_signed_128 z
  is_fine dashes (a_constant n p) = is_constant_name n
  is_fine dashes (a_binding n f) = is_word n && is_fine dashes f
  is_fine dashes (a_list fs p e) = are_fine dashes fs

  pub are_fine : (dashes : Bool) → FormTrees → Bool
  are_fine dashes no_form = true
  are_fine dashes (form_and f fs) = is_fine dashes f && are_fine dashes fs

-- ... and that nests so deep at most
pub record Fits (dashes : Bool) (f : FormTree) (room : ℕ) : Type 0 where
  pub fine : is_fine dashes f ≡ true
  pub nests : depth f ≤ room

pub record AllFit (dashes : Bool) (fs : FormTrees) (room : ℕ) : Type 0 where
  pub fine : are_fine dashes fs ≡ true
  pub nests : all_depth fs ≤ room

-- where words may begin with `-`, they needn't
mutual
  pub fine_anyway : (f : FormTree) → is_fine false f ≡ true → is_fine true f ≡ true
  fine_anyway (a_binding n f) h = let k = both (is_word n) (is_fine false f) h in rw (k.0, fine_anyway f k.1) refl
  fine_anyway (a_list fs p e) h = all_fine_anyway fs h
  fine_anyway f h = grind (arith, common_steps, word_is_any)

  all_fine_anyway : (fs : FormTrees) → are_fine false fs ≡ true → are_fine true fs ≡ true
  all_fine_anyway no_form h = refl
  all_fine_anyway (form_and f fs) h = let k = both (is_fine false f) (are_fine false fs) h in rw (fine_anyway f k.0, all_fine_anyway fs k.1) refl

-- no other word begins with `-`
pub no_dash : (t : List ℕ) → begins_word t ≡ true → is_dashed t ≡ false
no_dash t h = grind (arith, common_steps, nothing_begins, beginning_parts)

mutual
  pub fine_dashes : (f : FormTree) → is_fine false f ≡ true → has_dash f ≡ false
  fine_dashes (a_binding n f) h = fine_dashes f (both (is_word n) (is_fine false f) h).1
  fine_dashes (a_list fs p e) h = all_fine_dashes fs h
  fine_dashes f h = grind (arith, common_steps, no_dash, word_parts)

  all_fine_dashes : (fs : FormTrees) → are_fine false fs ≡ true → have_dash fs ≡ false
  all_fine_dashes no_form h = refl
  all_fine_dashes (form_and f fs) h = let k = both (is_fine false f) (are_fine false fs) h in rw (fine_dashes f k.0, all_fine_dashes fs k.1) refl

-- ---- words of the notation

abbrev is_ascii : ℕ → Bool
is_ascii b = nat_lt b 128

unfoldable pub is_plain : List ℕ → Bool
unfolding begins_word
is_plain t = list_all is_ascii t && begins_word t && list_all is_in_word t

ascii : (t : List ℕ) → list_all is_ascii t ≡ true → IsAscii t
ascii (b ∷ bs) h (suc i) = ascii bs (both (is_ascii b) (list_all is_ascii bs) h).1 i
ascii t h i = grind (arith, nat_tests, both)

plain_word : (t : List ℕ) → is_plain t ≡ true → is_word (record { text = t; at = nowhere }) ≡ true
unfolding is_plain is_word has_word_characters
plain_word t h =
    let k = three (list_all is_ascii t) (begins_word t) (list_all is_in_word t) h in
    let plain = ascii t k.0 in
    rw (k.1, is_utf8-from_IsUtf8 t (IsUtf8-from_ascii t plain), chars-IsAscii t plain, k.2) refl

-- a word of the notation fits anywhere
pub known : {dashes : Bool} (t : List ℕ) (room : ℕ) → is_plain t ≡ true → Fits dashes (the_word t) room
known {dashes = dashes} t room h = record { fine = by dashes; nests = omega arith }
  where
    by : (d : Bool) → is_fine d (the_word t) ≡ true
    by true = word_is_any (record { text = t; at = nowhere }) (plain_word t h)
    by false = plain_word t h

-- a name's place doesn't matter
bare_word : (n : Name) → is_word n ≡ true → is_word (placeless_name n) ≡ true
unfolding is_word
bare_word n h = h

bare_any_word : (n : Name) → is_any_word n ≡ true → is_any_word (placeless_name n) ≡ true
unfolding is_any_word
bare_any_word n h = h

bare_constant : (n : Name) → is_constant_name n ≡ true → is_constant_name (placeless_name n) ≡ true
unfolding is_constant_name
bare_constant n h = h

word_fits : {room : ℕ} (n : Name) → is_word n ≡ true → Fits false (word_form n) room
word_fits n h = record { fine = bare_word n h; nests = omega arith }

pub any_word_fits : {room : ℕ} (n : Name) → is_any_word n ≡ true → Fits true (word_form n) room
any_word_fits n h = record { fine = bare_any_word n h; nests = omega arith }

constant_fits : {room : ℕ} (n : Name) → is_constant_name n ≡ true → Fits false (constant_form n) room
constant_fits n h = record { fine = bare_constant n h; nests = omega arith }

pub number_fits : {dashes : Bool} {z : ℤ} {room : ℕ} → is_signed_128 z ≡ true → Fits dashes (number_form z) room
number_fits h = record { fine = h; nests = omega arith }

-- ---- lists

pub none : {dashes : Bool} {room : ℕ} → AllFit dashes no_form room
none = record { fine = refl; nests = omega arith }

pub and_true : (a b : Bool) → a ≡ true → b ≡ true → (a && b) ≡ true
and_true a b e f = rw (e, f) refl

pub greatest : (a b n : ℕ) → a ≤ n → b ≤ n → max a b ≤ n
greatest a b n h k = omega arith

pub more : {dashes : Bool} {f : FormTree} {fs : FormTrees} {room : ℕ} → Fits dashes f room → AllFit dashes fs room → AllFit dashes (form_and f fs) room
more {dashes = dashes} {f = f} {fs = fs} {room = room} h k = grind (arith, common_steps, and_true, greatest)

pub less : (a room : ℕ) → nat_lt 0 room ≡ true → a ≤ room - 1 → a + 1 ≤ room
less a room some h = grind (arith, nat_tests, some, h)

pub listed : {dashes : Bool} {fs : FormTrees} (room : ℕ) → nat_lt 0 room ≡ true → AllFit dashes fs (room - 1) → Fits dashes (list_form fs) room
listed {fs = fs} room some h = record { fine = h.fine; nests = less (all_depth fs) room some h.nests }

pub headed : {dashes : Bool} {fs : FormTrees} (t : List ℕ) (room : ℕ) → nat_lt 0 room ≡ true → is_plain t ≡ true → AllFit dashes fs (room - 1) → Fits dashes (headed_form t fs) room
headed {fs = fs} t room some plain h = listed room some (more (known t (room - 1) plain) h)

flagged : {fs : FormTrees} {room : ℕ} (t : List ℕ) (is : Bool) → is_plain t ≡ true → AllFit false fs room → AllFit false (flag_before t is fs) room
unfolding flag_before
flagged {room = room} t true plain h = more (known t room plain) h
flagged t false plain h = h

names_fit : (ns : List Name) (fs : FormTrees) (room : ℕ) → are_words ns ≡ true → AllFit false fs room → AllFit false (names_before ns fs) room
names_fit [] fs room h k = k
names_fit (n ∷ ns) fs room h k =
    let e = both (is_word n) (list_all is_word ns) h in
    more (word_fits n e.0) (names_fit ns fs room e.1 k)

pub truth_fits : {dashes : Bool} (b : Bool) (room : ℕ) → Fits dashes (truth_form b) room
unfolding is_plain
truth_fits true room = known (codes "true") room refl
truth_fits false room = known (codes "false") room refl

pub index_fits : (i : ℕ) → nat_lt i (2 ^ 64) ≡ true → is_signed_128 (pos i) ≡ true
unfolding is_signed_128
index_fits i h = grind (arith, nat_tests, h)

priority_fits : (z : ℤ) → is_signed_64 z ≡ true → is_signed_128 z ≡ true
unfolding is_signed_128
priority_fits (pos n) h = grind (arith, nat_tests, h)
priority_fits (negsuc n) h = grind (arith, nat_tests, h)

-- ---- patterns and expressions

mutual
  unfolding is_plain

  pattern_fits : (q : PatternTree) (room : ℕ) → pattern_is_spellable q room ≡ true → Fits false (pattern_form q) room
  pattern_fits (var_pattern n p) room h = word_fits n (variable_parts n h).0
  pattern_fits (bind_pattern n q p) room h =
      let k = three (nat_lt 0 room) (is_word n) (pattern_is_spellable q (room - 1)) h in
      let inner = pattern_fits q (room - 1) k.2 in
      record {
        fine = and_true (is_word (placeless_name n)) (is_fine false (pattern_form q)) (bare_word n k.1) inner.fine;
        nests = less (depth (pattern_form q)) room k.0 inner.nests;
      }
  pattern_fits (bool_pattern b p) room h = truth_fits b room
  pattern_fits (int_pattern z p) room h = number_fits h
  pattern_fits (prim_pattern n p) room h = constant_fits n h
  pattern_fits (term_pattern t qs p) room h =
      let k = three (nat_lt 0 room) (is_pattern_head t) (patterns_are_spellable qs (room - 1)) h in
      listed room k.0 (more (word_fits t (pattern_head_parts t k.1).0) (patterns_fit qs (room - 1) k.2))
  pattern_fits (wildcard_pattern p) room h = known (codes "_") room refl
  pattern_fits (and_pattern qs p) room h =
      let k = both (nat_lt 0 room) (patterns_are_spellable qs (room - 1)) h in
      headed (codes "and") room k.0 refl (patterns_fit qs (room - 1) k.1)
  pattern_fits (macro_arg i p) room h =
      let k = both (nat_lt 0 room) (nat_lt i (2 ^ 64)) h in
      headed (codes "macro-arg") room k.0 refl (more (number_fits (index_fits i k.1)) none)

  patterns_fit : (qs : PatternTrees) (room : ℕ) → patterns_are_spellable qs room ≡ true → AllFit false (pattern_forms qs) room
  patterns_fit no_pattern room h = none
  patterns_fit (pattern_and q qs) room h = grind (arith, common_steps, pattern_fits q room, patterns_fit qs room, both, more)

pub one_more : (room : ℕ) → nat_lt 1 room ≡ true → nat_lt 0 room ≡ true
one_more room h = grind (arith, nat_tests, h)

pub two_less : (room : ℕ) → (room - 1) - 1 ≡ room - 2
two_less room = omega arith

mutual
  unfolding is_plain

  expr_fits : (e : ExprTree) (room : ℕ) → expr_is_spellable e room ≡ true → Fits false (expr_form e) room
  expr_fits (term_expr t es p) room h =
      let k = three (nat_lt 0 room) (is_expr_head t) (exprs_are_spellable es (room - 1)) h in
      listed room k.0 (more (word_fits t (expr_head_parts t k.1).0) (exprs_fit es (room - 1) k.2))
  expr_fits (var_expr n p) room h = word_fits n (expr_variable_parts n h).0
  expr_fits (bool_expr b p) room h = truth_fits b room
  expr_fits (int_expr z p) room h = number_fits h
  expr_fits (prim_expr n p) room h = constant_fits n h
  expr_fits (let_expr ds e p) room h =
      let k = three (nat_lt 1 room) (lets_are_spellable ds (room - 2)) (expr_is_spellable e (room - 1)) h in
      headed (codes "let") room (one_more room k.0) refl
      (grind (arith, lets_fit ds (room - 2) k.1, expr_fits e (room - 1) k.2, more, listed, two_less))

  exprs_fit : (es : ExprTrees) (room : ℕ) → exprs_are_spellable es room ≡ true → AllFit false (expr_forms es) room
  exprs_fit no_expr room h = none
  exprs_fit (expr_and e es) room h = grind (arith, common_steps, expr_fits e room, exprs_fit es room, both, more)

  lets_fit : (ds : LetTrees) (room : ℕ) → lets_are_spellable ds room ≡ true → AllFit false (let_forms ds) room
  lets_fit no_let room h = none
  lets_fit (let_and n t e p ds) room h =
      let k = both (nat_lt 0 room && is_word n && is_word t && expr_is_spellable e (room - 1)) (lets_are_spellable ds room) h in
      let one = four (nat_lt 0 room) (is_word n) (is_word t) (expr_is_spellable e (room - 1)) k.0 in
      more (listed room one.0 (more (word_fits n one.1) (more (word_fits t one.2) (more (expr_fits e (room - 1) one.3) none)))) (lets_fit ds room k.1)

-- ---- types

field_list_fits : (fs : List FieldTree) → list_all field_is_spellable fs ≡ true → AllFit false (field_forms fs) 997
field_list_fits [] h = none
field_list_fits (f ∷ fs) h =
    let k = both (field_is_spellable f) (list_all field_is_spellable fs) h in
    let one = both (is_word f.name) (is_word f.ty) k.0 in
    more (listed 997 refl (more (word_fits f.name one.0) (more (word_fits f.ty one.1) none))) (field_list_fits fs k.1)

tuple_list_fits : (i : ℕ) (fs : List TupleFieldTree) → tuple_is_spellable i fs ≡ true → AllFit false (tuple_field_forms fs) 997
tuple_list_fits i [] h = none
tuple_list_fits i (f ∷ fs) h =
    let k = three (f.index == i) (is_word f.ty) (tuple_is_spellable (suc i) fs) h in
    more (word_fits f.ty k.1) (tuple_list_fits (suc i) fs k.2)

fields_fit : (fs : FieldTrees) → fields_are_spellable fs ≡ true → AllFit false (fields_forms fs) 997
fields_fit unit_fields h = none
fields_fit (struct_fields (f ∷ fs)) h = field_list_fits (f ∷ fs) h
fields_fit (tuple_fields (f ∷ fs)) h = tuple_list_fits 0 (f ∷ fs) h
fields_fit _ h = absurd (false≢true h)

deeper : (fs : FormTrees) → AllFit false fs 997 → AllFit false fs 998
deeper fs h = record { fine = h.fine; nests = omega (arith, h.nests) }

variant_fits : (n : Name) (fs : FieldTrees) → is_word n ≡ true → fields_are_spellable fs ≡ true → Fits false (variant_by n fs) 998
variant_fits n unit_fields w h = word_fits n w
variant_fits n (struct_fields fs) w h = listed 998 refl (more (word_fits n w) (fields_fit (struct_fields fs) h))
variant_fits n (tuple_fields fs) w h = listed 998 refl (more (word_fits n w) (fields_fit (tuple_fields fs) h))

variants_fit : (vs : List VariantTree) → list_all variant_is_spellable vs ≡ true → AllFit false (variant_forms vs) 998
variants_fit [] h = none
variants_fit (v ∷ vs) h =
    let k = both (variant_is_spellable v) (list_all variant_is_spellable vs) h in
    let one = both (is_word v.name) (fields_are_spellable v.fields) k.0 in
    more (variant_fits v.name v.fields one.0 one.1) (variants_fit vs k.1)

value_fits : (v : TypeValueTree) → value_is_spellable v ≡ true → Fits false (value_form v) 999
unfolding is_plain
value_fits (primitive_value n p) h = headed (codes "primitive") 999 refl refl (more (word_fits n h) none)
value_fits (enum_value vs p) h = headed (codes "enum") 999 refl refl (variants_fit vs h)
value_fits (struct_value fs p) h = headed (codes "struct") 999 refl refl (deeper (fields_forms fs) (fields_fit fs h))

type_fits : (t : TypeTree) → type_is_spellable t ≡ true → Fits false (type_form t) 1000
unfolding is_plain type_words_before
type_fits t h =
    let k = both (is_word t.name) (value_is_spellable t.value) h in
    headed (codes "type") 1000 refl refl (more (word_fits t.name k.0)
    (flagged (codes "extern") t.is_extern refl (flagged (codes "nodebug") t.is_nodebug refl (more (value_fits t.value k.1) none))))

-- ---- terms

decl_fits : (d : DeclTree) → can_be_spelled (declaration d) ≡ true → Fits false (decl_form d) 1000
unfolding is_plain flags_before
decl_fits d h =
    let k = three (is_word d.term) (are_words d.arg_tys) (is_word d.ret_ty) h in
    headed (codes "decl") 1000 refl refl
    (flagged (codes "pure") d.pure refl (flagged (codes "multi") d.multi refl (flagged (codes "partial") d.partial refl (flagged (codes "rec") d.rec refl
    (more (word_fits d.term k.0) (more (listed 999 refl (names_fit d.arg_tys no_form 998 k.1 none)) (more (word_fits d.ret_ty k.2) none)))))))

extractor_fits : (e : ExtractorTree) → can_be_spelled (extractor_definition e) ≡ true → Fits false (form_of (extractor_definition e)) 1000
unfolding is_plain
extractor_fits e h =
    let k = three (is_word e.term) (are_words e.args) (pattern_is_spellable e.template 999) h in
    headed (codes "extractor") 1000 refl refl
    (more (listed 999 refl (more (word_fits e.term k.0) (names_fit e.args no_form 998 k.1 none))) (more (pattern_fits e.template 999 k.2) none))

converter_fits : (c : ConverterTree) → can_be_spelled (converter_definition c) ≡ true → Fits false (form_of (converter_definition c)) 1000
unfolding is_plain
converter_fits c h =
    let k = three (is_word c.inner_ty) (is_word c.outer_ty) (is_word c.term) h in
    headed (codes "convert") 1000 refl refl (more (word_fits c.inner_ty k.0) (more (word_fits c.outer_ty k.1) (more (word_fits c.term k.2) none)))

extern_fits : (e : ExternTree) → can_be_spelled (extern_definition e) ≡ true → Fits false (extern_form e) 1000
unfolding is_plain
extern_fits (extern_constructor t f p) h =
    let k = both (is_word t) (is_word f) h in
    headed (codes "extern") 1000 refl refl (more (known (codes "constructor") 999 refl) (more (word_fits t k.0) (more (word_fits f k.1) none)))
extern_fits (extern_extractor t f p i) h =
    let k = both (is_word t) (is_word f) h in
    headed (codes "extern") 1000 refl refl (more (known (codes "extractor") 999 refl)
    (flagged (codes "infallible") i refl (more (word_fits t k.0) (more (word_fits f k.1) none))))
extern_fits (extern_const n t p) h =
    let k = both (is_constant_name n) (is_word t) h in
    headed (codes "extern") 1000 refl refl (more (known (codes "const") 999 refl) (more (constant_fits n k.0) (more (word_fits t k.1) none)))

-- ---- rules

if_let_fits : (l : IfLetTree) → if_let_is_spellable l ≡ true → Fits false (if_let_form l) 999
unfolding is_plain
if_let_fits l h =
    let k = both (pattern_is_spellable l.pattern 998) (expr_is_spellable l.expr 998) h in
    headed (codes "if-let") 999 refl refl (more (pattern_fits l.pattern 998 k.0) (more (expr_fits l.expr 998 k.1) none))

if_lets_fit : (ls : List IfLetTree) (fs : FormTrees) → list_all if_let_is_spellable ls ≡ true → AllFit false fs 999 → AllFit false (if_lets_before ls fs) 999
unfolding if_lets_before
if_lets_fit [] fs h k = k
if_lets_fit (l ∷ ls) fs h k =
    let e = both (if_let_is_spellable l) (list_all if_let_is_spellable ls) h in
    more (if_let_fits l e.0) (if_lets_fit ls fs e.1 k)

name_fits : {fs : FormTrees} (name : Option Name) → is_no_name_or_word name ≡ true → AllFit false fs 999 → AllFit false (name_before name fs) 999
unfolding name_before
name_fits None h k = k
name_fits (Some n) h k = more (word_fits n h) k

prio_fits : {fs : FormTrees} (prio : Option ℤ) → is_no_priority_or_fits prio ≡ true → AllFit false fs 999 → AllFit false (priority_before prio fs) 999
unfolding priority_before
prio_fits None h k = k
prio_fits (Some z) h k = more (number_fits (priority_fits z h)) k

rule_fits : (r : RuleTree) → can_be_spelled (rule_definition r) ≡ true → Fits false (rule_form r) 1000
unfolding is_plain rule_words_before
rule_fits r h =
    let k = six (is_no_name_or_word r.name) (is_no_priority_or_fits r.prio) (begins_with_pattern r.name r.prio r.pattern)
    (pattern_is_spellable r.pattern 999) (list_all if_let_is_spellable r.iflets) (expr_is_spellable r.expr 999) h in
    let body = form_and (expr_form r.expr) no_form in
    headed (codes "rule") 1000 refl refl (name_fits r.name k.0 (prio_fits r.prio k.1
    (more (pattern_fits r.pattern 999 k.3) (if_lets_fit r.iflets body k.4 (more (expr_fits r.expr 999 k.5) none)))))

-- ---- definitions

pub definition_fits : (d : Definition) → can_be_spelled d ≡ true → Fits false (form_of d) 1000
definition_fits (type_definition t) h = type_fits t h
definition_fits (declaration d) h = decl_fits d h
definition_fits (extractor_definition e) h = extractor_fits e h
definition_fits (converter_definition c) h = converter_fits c h
definition_fits (rule_definition r) h = rule_fits r h
definition_fits (extern_definition e) h = extern_fits e h
definition_fits other_definition h = absurd (false≢true h)

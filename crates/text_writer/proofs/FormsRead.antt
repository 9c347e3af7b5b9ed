-- The form of a definition that can be spelled is read as this definition.
use Rattle.std.proofs.Common.{◌≡◌, ℕ, suc, ◌-◌, refl, ap, List, [], ◌∷◌, map, arith}
use Rattle.std.specs.Prelude.{ℤ, nat_lt, Bool, true, false, not, ◌&&◌, ◌==◌, codes, Option, Some, None, Ok}
use Rattle.std.specs.List.{list_all}
use Rattle.std.proofs.lemmas.Bool.{false≢true, eqb-true}
use Rattle.std.proofs.lemmas.Grind.{common_steps}
use Rattle.model.specs.lists.Syntax.{Position, Name, PatternTree, var_pattern, bind_pattern, bool_pattern, term_pattern, and_pattern, macro_arg, PatternTrees, no_pattern, pattern_and, ExprTree, term_expr, var_expr, bool_expr, let_expr, ExprTrees, no_expr, expr_and, LetTrees, no_let, let_and, FieldTree, TupleFieldTree, FieldTrees, unit_fields, struct_fields, tuple_fields, VariantTree, TypeValueTree, TypeTree, DeclTree, IfLetTree, ExternTree, extern_constructor, extern_extractor, extern_const, Definition, type_definition, declaration, extractor_definition, converter_definition, rule_definition, extern_definition, other_definition}
use Rattle.text_reader.specs.Lexemes.{◌>>=◌}
use Rattle.text_reader.specs.FormTrees.{FormTree, FormTrees, no_form, form_and}
use Rattle.text_reader.specs.Solid.{nowhere, placeless_name}
use Rattle.text_reader.specs.Grammar.{listed, names_of, is_word}
use Rattle.text_reader.specs.PatternGrammar.{pattern_of, patterns_of}
use Rattle.text_reader.specs.ExprGrammar.{expr_of, exprs_of, lets_in}
use Rattle.text_reader.specs.TypeGrammar.{named_fields_of, numbered_from, fields_of, variant_of, variants_of, type_value_of}
use Rattle.text_reader.specs.RuleGrammar.{statement_of, statements_of, named_in, prioritized_in, parted_of}
use Rattle.text_reader.specs.Definitions.{definition_of}
use Rattle.text_writer.specs.Placeless.{placeless_pattern, placeless_patterns, placeless_expr, placeless_exprs, placeless_lets, placeless_field, placeless_tuple_field, placeless_fields, placeless_variant, placeless_value, placeless_type, placeless_if_let, placeless_definition}
use Rattle.text_writer.specs.Forms.{names_before, flag_before, flags_before, type_words_before, rule_words_before, name_before, priority_before, pattern_form, pattern_forms, expr_form, expr_forms, let_forms, field_forms, tuple_field_forms, fields_forms, variant_by, variant_forms, value_form, if_let_form, if_lets_before, form_of}
use Rattle.text_writer.specs.Spellable.{is_pattern_head, is_expr_head, pattern_is_spellable, patterns_are_spellable, expr_is_spellable, exprs_are_spellable, lets_are_spellable, tuple_is_spellable, fields_are_spellable, variant_is_spellable, value_is_spellable, if_let_is_spellable, is_written_as_word, is_written_as_number, begins_with_pattern, is_no_name_or_word, is_no_priority_or_fits, can_be_spelled}
use Rattle.text_writer.specs.Spellable as S
use Rattle.text_writer.proofs.WordParts.{both, three, four, six, unless, variable_parts, pattern_head_parts, expr_variable_parts, expr_head_parts}

names_read : (ns : List Name) → names_of (names_before ns no_form) ≡ Ok (map placeless_name ns)
names_read [] = refl
names_read (n ∷ ns) = ap (λ r. r >>= (λ xs. Ok (placeless_name n ∷ xs))) (names_read ns)

-- ---- patterns

mutual
  pattern_read : (q : PatternTree) (room : ℕ) → pattern_is_spellable q room ≡ true → pattern_of (pattern_form q) ≡ Ok (placeless_pattern q)
  pattern_read (var_pattern n p) room h = let k = variable_parts n h in rw (k.1, k.2, k.3) refl
  pattern_read (bind_pattern n q p) room h =
      let k = three (nat_lt 0 room) (S.is_word n) (pattern_is_spellable q (room - 1)) h in
      ap (λ r. r >>= (λ x. Ok (bind_pattern (placeless_name n) x nowhere))) (pattern_read q (room - 1) k.2)
  pattern_read (bool_pattern true p) room h = refl
  pattern_read (term_pattern t qs p) room h =
      let k = three (nat_lt 0 room) (is_pattern_head t) (patterns_are_spellable qs (room - 1)) h in
      let names = pattern_head_parts t k.1 in
      rw (patterns_read qs (room - 1) k.2, names.2, names.1) refl
  pattern_read (and_pattern qs p) room h = grind (arith, common_steps, patterns_read qs (room - 1), both (nat_lt 0 room) (patterns_are_spellable qs (room - 1)) h)
  pattern_read (macro_arg i p) room h = grind (arith, common_steps, both (nat_lt 0 room))
  pattern_read _ room h = refl

  patterns_read : (qs : PatternTrees) (room : ℕ) → patterns_are_spellable qs room ≡ true → patterns_of (pattern_forms qs) ≡ Ok (placeless_patterns qs)
  patterns_read no_pattern room h = refl
  patterns_read (pattern_and q qs) room h = grind (arith, common_steps, pattern_read q room, patterns_read qs room, both)

-- ---- expressions

mutual
  expr_read : (e : ExprTree) (room : ℕ) → expr_is_spellable e room ≡ true → expr_of (expr_form e) ≡ Ok (placeless_expr e)
  expr_read (term_expr t es p) room h =
      let k = three (nat_lt 0 room) (is_expr_head t) (exprs_are_spellable es (room - 1)) h in
      rw ((expr_head_parts t k.1).1, exprs_read es (room - 1) k.2) refl
  expr_read (var_expr n p) room h = let k = expr_variable_parts n h in rw (k.1, k.2) refl
  expr_read (bool_expr true p) room h = refl
  expr_read (let_expr ds e p) room h =
      let k = three (nat_lt 1 room) (lets_are_spellable ds (room - 2)) (expr_is_spellable e (room - 1)) h in
      rw (lets_read ds (room - 2) k.1, expr_read e (room - 1) k.2) refl
  expr_read _ room h = refl

  exprs_read : (es : ExprTrees) (room : ℕ) → exprs_are_spellable es room ≡ true → exprs_of (expr_forms es) ≡ Ok (placeless_exprs es)
  exprs_read no_expr room h = refl
  exprs_read (expr_and e es) room h =
      let k = both (expr_is_spellable e room) (exprs_are_spellable es room) h in
      rw (expr_read e room k.0, exprs_read es room k.1) refl

  lets_read : (ds : LetTrees) (room : ℕ) → lets_are_spellable ds room ≡ true → lets_in (let_forms ds) ≡ Ok (placeless_lets ds)
  lets_read no_let room h = refl
  lets_read (let_and n t e p ds) room h =
      let k = both (nat_lt 0 room && S.is_word n && S.is_word t && expr_is_spellable e (room - 1)) (lets_are_spellable ds room) h in
      let one = four (nat_lt 0 room) (S.is_word n) (S.is_word t) (expr_is_spellable e (room - 1)) k.0 in
      rw (expr_read e (room - 1) one.3, lets_read ds room k.1) refl

-- ---- types

fields_read : (fs : List FieldTree) → named_fields_of (field_forms fs) ≡ Ok (map placeless_field fs)
fields_read [] = refl
fields_read (f ∷ fs) = ap (λ r. r >>= (λ xs. Ok (placeless_field f ∷ xs))) (fields_read fs)

abbrev types_of : List TupleFieldTree → List Name
types_of [] = []
types_of (f ∷ fs) = placeless_name f.ty ∷ types_of fs

types_read : (fs : List TupleFieldTree) → names_of (tuple_field_forms fs) ≡ Ok (types_of fs)
types_read [] = refl
types_read (f ∷ fs) = ap (λ r. r >>= (λ xs. Ok (placeless_name f.ty ∷ xs))) (types_read fs)

numbered : (i : ℕ) (fs : List TupleFieldTree) → tuple_is_spellable i fs ≡ true → numbered_from i (types_of fs) ≡ map placeless_tuple_field fs
numbered i [] h = refl
numbered i (f ∷ fs) h =
    let k = three (f.index == i) (S.is_word f.ty) (tuple_is_spellable (suc i) fs) h in
    rw (eqb-true f.index i k.0, numbered (suc i) fs k.2) refl

all_fields_read : (fs : FieldTrees) → fields_are_spellable fs ≡ true → fields_of (fields_forms fs) ≡ Ok (placeless_fields fs)
all_fields_read fs h = grind (arith, common_steps, fields_read, types_read, numbered)

variant_read : (n : Name) (fs : FieldTrees) → fields_are_spellable fs ≡ true
    → variant_of (variant_by n fs) ≡ Ok (record { name = placeless_name n; fields = placeless_fields fs; at = nowhere })
variant_read n unit_fields h = refl
variant_read n (struct_fields fs) h = rw (all_fields_read (struct_fields fs) h) refl
variant_read n (tuple_fields fs) h = rw (all_fields_read (tuple_fields fs) h) refl

variants_read : (vs : List VariantTree) → list_all variant_is_spellable vs ≡ true → variants_of (variant_forms vs) ≡ Ok (map placeless_variant vs)
variants_read [] h = refl
variants_read (v ∷ vs) h = grind (arith, common_steps, variants_read vs, both, variant_read)

value_read : (v : TypeValueTree) → value_is_spellable v ≡ true → type_value_of (value_form v) ≡ Ok (placeless_value v)
value_read v h = grind (arith, common_steps, variants_read, all_fields_read)

value_no_word : (text : List ℕ) (v : TypeValueTree) → is_word text (value_form v) ≡ false
value_no_word text v = grind (arith, common_steps)

type_read : (n : Name) (outside silent : Bool) (v : TypeValueTree) (at : Position) → value_is_spellable v ≡ true
    → (let t : TypeTree = record { name = n; is_extern = outside; is_nodebug = silent; value = v; at = at } in
    definition_of (form_of (type_definition t)) ≡ Ok (type_definition (placeless_type t)))
unfolding flag_before type_words_before
type_read n true true v at h = rw (value_read v h) refl
type_read n true false v at h = rw (value_no_word (codes "nodebug") v, value_read v h) refl
type_read n false true v at h = rw (value_read v h) refl
type_read n false false v at h = rw (value_no_word (codes "extern") v, value_no_word (codes "nodebug") v, value_read v h) refl

-- ---- terms

decl_read : (pure multi partial rec : Bool) (term : Name) (args : List Name) (ret : Name) (at : Position)
    → (let d : DeclTree = record { term = term; arg_tys = args; ret_ty = ret; pure = pure; multi = multi; partial = partial; rec = rec; at = at } in
    definition_of (form_of (declaration d)) ≡ Ok (placeless_definition (declaration d)))
unfolding flags_before flag_before
decl_read true true true true term args ret at = rw (names_read args) refl
decl_read true true true false term args ret at = rw (names_read args) refl
decl_read true true false true term args ret at = rw (names_read args) refl
decl_read true true false false term args ret at = rw (names_read args) refl
decl_read true false true true term args ret at = rw (names_read args) refl
decl_read true false true false term args ret at = rw (names_read args) refl
decl_read true false false true term args ret at = rw (names_read args) refl
decl_read true false false false term args ret at = rw (names_read args) refl
decl_read false true true true term args ret at = rw (names_read args) refl
decl_read false true true false term args ret at = rw (names_read args) refl
decl_read false true false true term args ret at = rw (names_read args) refl
decl_read false true false false term args ret at = rw (names_read args) refl
decl_read false false true true term args ret at = rw (names_read args) refl
decl_read false false true false term args ret at = rw (names_read args) refl
decl_read false false false true term args ret at = rw (names_read args) refl
decl_read false false false false term args ret at = rw (names_read args) refl

extern_read : (e : ExternTree) → definition_of (form_of (extern_definition e)) ≡ Ok (placeless_definition (extern_definition e))
unfolding flag_before
extern_read (extern_constructor t f p) = refl
extern_read (extern_extractor t f p true) = refl
extern_read (extern_extractor t f p false) = refl
extern_read (extern_const n t p) = refl

-- ---- rules

if_let_read : (l : IfLetTree) → if_let_is_spellable l ≡ true → statement_of (if_let_form l) ≡ Ok (placeless_if_let l)
if_let_read l h = grind (arith, common_steps, both, pattern_read, expr_read)

if_lets_read : (ls : List IfLetTree) → list_all if_let_is_spellable ls ≡ true → statements_of (if_lets_before ls no_form) ≡ Ok (map placeless_if_let ls)
unfolding if_lets_before
if_lets_read [] h = refl
if_lets_read (l ∷ ls) h =
    let k = both (if_let_is_spellable l) (list_all if_let_is_spellable ls) h in
    rw (if_let_read l k.0, if_lets_read ls k.1) refl

body_parted : (ends : Position) (ls : List IfLetTree) (f : FormTree) → parted_of ends (if_lets_before ls (form_and f no_form)) ≡ Ok (if_lets_before ls no_form, f)
unfolding if_lets_before
body_parted ends [] f = refl
body_parted ends (l ∷ []) f = refl
body_parted ends (l ∷ m ∷ ls) f = ap (λ r. r >>= (λ s. Ok (form_and (if_let_form l) s.0, s.1))) (body_parted ends (m ∷ ls) f)

no_name : (q : PatternTree) (fs : FormTrees) (at ends : Position) → is_written_as_word q ≡ false
    → named_in (form_and (pattern_form q) fs) at ends ≡ (None, listed (form_and (pattern_form q) fs) at ends)
no_name q fs at ends h = grind (arith, common_steps)

no_priority : (q : PatternTree) (fs : FormTrees) (at ends : Position) → is_written_as_number q ≡ false
    → prioritized_in (form_and (pattern_form q) fs) at ends ≡ Ok (None, listed (form_and (pattern_form q) fs) at ends)
no_priority q fs at ends h = grind (arith, common_steps)

abbrev a_rule : PatternTree → List IfLetTree → ExprTree → Position → Option ℤ → Option Name → Definition
a_rule q ls e at prio name = rule_definition (record { pattern = q; iflets = ls; expr = e; at = at; prio = prio; name = name })

module _ (q : PatternTree) (ls : List IfLetTree) (e : ExprTree) (at : Position)
    (q_read : pattern_of (pattern_form q) ≡ Ok (placeless_pattern q)) (ls_read : statements_of (if_lets_before ls no_form) ≡ Ok (map placeless_if_let ls))
    (e_read : expr_of (expr_form e) ≡ Ok (placeless_expr e)) where
  rule_read : (prio : Option ℤ) (name : Option Name) → is_no_priority_or_fits prio ≡ true → begins_with_pattern name prio q ≡ true
      → definition_of (form_of (a_rule q ls e at prio name)) ≡ Ok (placeless_definition (a_rule q ls e at prio name))
  unfolding name_before priority_before rule_words_before
  rule_read (Some z) (Some n) fits begins = rw (fits, body_parted nowhere ls (expr_form e), q_read, ls_read, e_read) refl
  rule_read (Some z) None fits begins = rw (fits, body_parted nowhere ls (expr_form e), q_read, ls_read, e_read) refl
  rule_read None (Some n) fits begins =
      rw (
        no_priority q (if_lets_before ls (form_and (expr_form e) no_form)) nowhere nowhere (unless (is_written_as_number q) begins),
        body_parted nowhere ls (expr_form e),
        q_read,
        ls_read,
        e_read,
      ) refl
  rule_read None None fits begins =
      let k = both (not (is_written_as_number q)) (not (is_written_as_word q)) begins in
      rw (
        no_name q (if_lets_before ls (form_and (expr_form e) no_form)) nowhere nowhere (unless (is_written_as_word q) k.1),
        no_priority q (if_lets_before ls (form_and (expr_form e) no_form)) nowhere nowhere (unless (is_written_as_number q) k.0),
        body_parted nowhere ls (expr_form e),
        q_read,
        ls_read,
        e_read,
      ) refl

-- ---- definitions

pub definition_read : (d : Definition) → can_be_spelled d ≡ true → definition_of (form_of d) ≡ Ok (placeless_definition d)
definition_read (type_definition t) h = type_read t.name t.is_extern t.is_nodebug t.value t.at (both (S.is_word t.name) (value_is_spellable t.value) h).1
definition_read (declaration d) h = decl_read d.pure d.multi d.partial d.rec d.term d.arg_tys d.ret_ty d.at
definition_read (extractor_definition e) h = grind (arith, common_steps, three, names_read, pattern_read)
definition_read (converter_definition c) h = refl
definition_read (rule_definition r) h =
    let k = six (is_no_name_or_word r.name) (is_no_priority_or_fits r.prio) (begins_with_pattern r.name r.prio r.pattern)
    (pattern_is_spellable r.pattern 999) (list_all if_let_is_spellable r.iflets) (expr_is_spellable r.expr 999) h in
    rule_read r.pattern r.iflets r.expr r.at (pattern_read r.pattern 999 k.3) (if_lets_read r.iflets k.4) (expr_read r.expr 999 k.5) r.prio r.name k.1 k.2
definition_read (extern_definition e) h = extern_read e
definition_read other_definition h = absurd (false≢true h)

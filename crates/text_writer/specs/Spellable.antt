-- Which definitions a text can spell. What can't be spelled is what the notation takes for something else, or not at all.
use Rattle.std.specs.Prelude.{ℕ, suc, ◌-◌, ◌^◌, ℤ, pos, negsuc, Bool, true, false, not, ◌&&◌, ◌||◌, ◌==◌, nat_lt, List, [], ◌∷◌, codes, Option, Some, None, if◌then◌else◌}
use Rattle.std.specs.List.{list_all}
use Rattle.std.specs.Char.{is_ascii_digit}
use Rattle.std.specs.Str.{chars, is_utf8}
use Rattle.model.specs.lists.Syntax.{Position, Name, PatternTree, var_pattern, bind_pattern, bool_pattern, int_pattern, prim_pattern, term_pattern, wildcard_pattern, and_pattern, macro_arg, PatternTrees, no_pattern, pattern_and, ExprTree, term_expr, var_expr, bool_expr, int_expr, prim_expr, let_expr, ExprTrees, no_expr, expr_and, LetTrees, no_let, let_and, FieldTree, TupleFieldTree, FieldTrees, unit_fields, struct_fields, tuple_fields, VariantTree, TypeValueTree, primitive_value, enum_value, struct_value, TypeTree, DeclTree, ExtractorTree, ConverterTree, IfLetTree, RuleTree, ExternTree, extern_constructor, extern_extractor, extern_const, Definition, type_definition, declaration, extractor_definition, converter_definition, rule_definition, extern_definition, other_definition}
use Rattle.core_syntax.specs.SyntaxViews.{definition_place}
use Rattle.text_reader.specs.Pieces.{is_in_word}
use Rattle.text_reader.specs.Grammar.{reads}
use Rattle.text_reader.specs.Lexemes.{begins_number}
use Rattle.text_reader.specs.RuleGrammar.{is_signed_64}

-- ---- words and numbers

-- a word's first byte begins no constant, no number, and no word that begins with `-`
unfoldable pub begins_word : List ℕ → Bool
begins_word [] = false
begins_word (b ∷ bs) = not (b == 36) && not (b == 45) && not (is_ascii_digit b)

unfoldable pub has_word_characters : List ℕ → Bool
has_word_characters text = is_utf8 text && list_all is_in_word (chars text)

unfoldable pub is_word : Name → Bool
is_word n = begins_word n.text && has_word_characters n.text

-- lists that are passed over may have words that begin with `-`, too
unfoldable pub begins_any_word : List ℕ → Bool
begins_any_word [] = false
begins_any_word (b ∷ bs) = not (b == 36) && not (begins_number (b ∷ bs))

unfoldable pub is_any_word : Name → Bool
is_any_word n = begins_any_word n.text && has_word_characters n.text

abbrev pub is_some_text : List ℕ → Bool
is_some_text [] = false
is_some_text (b ∷ bs) = true

-- a constant's name may begin as it likes
unfoldable pub is_constant_name : Name → Bool
is_constant_name n = is_some_text n.text && has_word_characters n.text

-- a number of 128 bits, of which one is its sign
unfoldable pub is_signed_128 : ℤ → Bool
is_signed_128 (pos n) = nat_lt n (2 ^ 127)
is_signed_128 (negsuc n) = nat_lt n (2 ^ 127)

abbrev pub are_words : List Name → Bool
are_words ns = list_all is_word ns

unfoldable pub is_truth : Name → Bool
is_truth n = reads n (codes "true") || reads n (codes "false")

-- a variable's name in a pattern: `_` is any value there
unfoldable pub is_pattern_variable : Name → Bool
is_pattern_variable n = is_word n && not (reads n (codes "_")) && not (is_truth n)

-- a term's name in a pattern
unfoldable pub is_pattern_head : Name → Bool
is_pattern_head n = is_word n && not (reads n (codes "and")) && not (reads n (codes "macro-arg"))

unfoldable pub is_expr_variable : Name → Bool
is_expr_variable n = is_word n && not (is_truth n)

-- a term's name in an expression
unfoldable pub is_expr_head : Name → Bool
is_expr_head n = is_word n && not (reads n (codes "let"))

-- ---- patterns and expressions, in which lists and bindings nest so deep at most

abbrev mutual
  pub pattern_is_spellable : PatternTree → ℕ → Bool
  pattern_is_spellable (var_pattern n p) room = is_pattern_variable n
  pattern_is_spellable (bind_pattern n q p) room = nat_lt 0 room && is_word n && pattern_is_spellable q (room - 1)
  pattern_is_spellable (bool_pattern b p) room = true
  pattern_is_spellable (int_pattern z p) room = is_signed_128 z
  pattern_is_spellable (prim_pattern n p) room = is_constant_name n
  pattern_is_spellable (term_pattern t qs p) room = nat_lt 0 room && is_pattern_head t && patterns_are_spellable qs (room - 1)
  pattern_is_spellable (wildcard_pattern p) room = true
  pattern_is_spellable (and_pattern qs p) room = nat_lt 0 room && patterns_are_spellable qs (room - 1)
  pattern_is_spellable (macro_arg i p) room = nat_lt 0 room && nat_lt i (2 ^ 64)

  pub patterns_are_spellable : PatternTrees → ℕ → Bool
  patterns_are_spellable no_pattern room = true
  patterns_are_spellable (pattern_and q qs) room = pattern_is_spellable q room && patterns_are_spellable qs room

abbrev mutual
  pub expr_is_spellable : ExprTree → ℕ → Bool
  expr_is_spellable (term_expr t es p) room = nat_lt 0 room && is_expr_head t && exprs_are_spellable es (room - 1)
  expr_is_spellable (var_expr n p) room = is_expr_variable n
  expr_is_spellable (bool_expr b p) room = true
  expr_is_spellable (int_expr z p) room = is_signed_128 z
  expr_is_spellable (prim_expr n p) room = is_constant_name n
  expr_is_spellable (let_expr ds e p) room = nat_lt 1 room && lets_are_spellable ds (room - 2) && expr_is_spellable e (room - 1)

  pub exprs_are_spellable : ExprTrees → ℕ → Bool
  exprs_are_spellable no_expr room = true
  exprs_are_spellable (expr_and e es) room = expr_is_spellable e room && exprs_are_spellable es room

  -- definitions of a let are lists in a list
  pub lets_are_spellable : LetTrees → ℕ → Bool
  lets_are_spellable no_let room = true
  lets_are_spellable (let_and n t e p ds) room = (nat_lt 0 room && is_word n && is_word t && expr_is_spellable e (room - 1)) && lets_are_spellable ds room

-- ---- types

abbrev pub field_is_spellable : FieldTree → Bool
field_is_spellable f = is_word f.name && is_word f.ty

-- fields without names are counted, from this number on
abbrev pub tuple_is_spellable : ℕ → List TupleFieldTree → Bool
tuple_is_spellable i [] = true
tuple_is_spellable i (f ∷ fs) = (f.index == i) && is_word f.ty && tuple_is_spellable (suc i) fs

-- where there are no fields, a text says that there are none, and not of which kind
abbrev pub fields_are_spellable : FieldTrees → Bool
fields_are_spellable unit_fields = true
fields_are_spellable (struct_fields []) = false
fields_are_spellable (struct_fields (f ∷ fs)) = list_all field_is_spellable (f ∷ fs)
fields_are_spellable (tuple_fields []) = false
fields_are_spellable (tuple_fields (f ∷ fs)) = tuple_is_spellable 0 (f ∷ fs)

abbrev pub variant_is_spellable : VariantTree → Bool
variant_is_spellable v = is_word v.name && fields_are_spellable v.fields

abbrev pub value_is_spellable : TypeValueTree → Bool
value_is_spellable (primitive_value n p) = is_word n
value_is_spellable (enum_value vs p) = list_all variant_is_spellable vs
value_is_spellable (struct_value fs p) = fields_are_spellable fs

abbrev pub type_is_spellable : TypeTree → Bool
type_is_spellable t = is_word t.name && value_is_spellable t.value

-- ---- terms

abbrev pub decl_is_spellable : DeclTree → Bool
decl_is_spellable d = is_word d.term && are_words d.arg_tys && is_word d.ret_ty

abbrev pub extractor_is_spellable : ExtractorTree → Bool
extractor_is_spellable e = is_word e.term && are_words e.args && pattern_is_spellable e.template 999

abbrev pub converter_is_spellable : ConverterTree → Bool
converter_is_spellable c = is_word c.inner_ty && is_word c.outer_ty && is_word c.term

abbrev pub extern_is_spellable : ExternTree → Bool
extern_is_spellable (extern_constructor t f p) = is_word t && is_word f
extern_is_spellable (extern_extractor t f p i) = is_word t && is_word f
extern_is_spellable (extern_const n t p) = is_constant_name n && is_word t

-- ---- rules

abbrev pub if_let_is_spellable : IfLetTree → Bool
if_let_is_spellable l = pattern_is_spellable l.pattern 998 && expr_is_spellable l.expr 998

-- whether a pattern is written as a word, and as a number
abbrev pub is_written_as_word : PatternTree → Bool
is_written_as_word (var_pattern n p) = true
is_written_as_word (bind_pattern n q p) = false
is_written_as_word (bool_pattern b p) = true
is_written_as_word (int_pattern z p) = false
is_written_as_word (prim_pattern n p) = false
is_written_as_word (term_pattern t qs p) = false
is_written_as_word (wildcard_pattern p) = true
is_written_as_word (and_pattern qs p) = false
is_written_as_word (macro_arg i p) = false

abbrev pub is_written_as_number : PatternTree → Bool
is_written_as_number (var_pattern n p) = false
is_written_as_number (bind_pattern n q p) = false
is_written_as_number (bool_pattern b p) = false
is_written_as_number (int_pattern z p) = true
is_written_as_number (prim_pattern n p) = false
is_written_as_number (term_pattern t qs p) = false
is_written_as_number (wildcard_pattern p) = false
is_written_as_number (and_pattern qs p) = false
is_written_as_number (macro_arg i p) = false

-- a rule without a priority whose pattern is a number: that would be the priority. Without a name too, and with a word as
-- its pattern: that would be the name.
abbrev pub begins_with_pattern : Option Name → Option ℤ → PatternTree → Bool
begins_with_pattern name (Some z) q = true
begins_with_pattern (Some n) None q = not (is_written_as_number q)
begins_with_pattern None None q = not (is_written_as_number q) && not (is_written_as_word q)

abbrev pub is_no_name_or_word : Option Name → Bool
is_no_name_or_word None = true
is_no_name_or_word (Some n) = is_word n

abbrev pub is_no_priority_or_fits : Option ℤ → Bool
is_no_priority_or_fits None = true
is_no_priority_or_fits (Some z) = is_signed_64 z

abbrev pub rule_is_spellable : RuleTree → Bool
rule_is_spellable r =
    is_no_name_or_word r.name && is_no_priority_or_fits r.prio && begins_with_pattern r.name r.prio r.pattern
    && pattern_is_spellable r.pattern 999 && list_all if_let_is_spellable r.iflets && expr_is_spellable r.expr 999

-- ---- definitions

abbrev pub can_be_spelled : Definition → Bool
can_be_spelled (type_definition t) = type_is_spellable t
can_be_spelled (declaration d) = decl_is_spellable d
can_be_spelled (extractor_definition e) = extractor_is_spellable e
can_be_spelled (converter_definition c) = converter_is_spellable c
can_be_spelled (rule_definition r) = rule_is_spellable r
can_be_spelled (extern_definition e) = extern_is_spellable e
can_be_spelled other_definition = false

-- where the first of some definitions stands that can't be spelled, if there is one
abbrev pub first_unspelled : List Definition → Option (Option Position)
first_unspelled [] = None
first_unspelled (d ∷ ds) = if can_be_spelled d then first_unspelled ds else Some (definition_place d)

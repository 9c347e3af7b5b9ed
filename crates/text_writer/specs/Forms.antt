-- The form that a definition is written as. Forms stand nowhere, as the text that they are written into isn't there yet.
use Rattle.std.specs.Prelude.{ℕ, ℤ, pos, Bool, true, false, List, [], ◌∷◌, codes, Option, Some, None, if◌then◌else◌}
use Rattle.model.specs.lists.Syntax.{Name, PatternTree, var_pattern, bind_pattern, bool_pattern, int_pattern, prim_pattern, term_pattern, wildcard_pattern, and_pattern, macro_arg, PatternTrees, no_pattern, pattern_and, ExprTree, term_expr, var_expr, bool_expr, int_expr, prim_expr, let_expr, ExprTrees, no_expr, expr_and, LetTrees, no_let, let_and, FieldTree, TupleFieldTree, FieldTrees, unit_fields, struct_fields, tuple_fields, VariantTree, TypeValueTree, primitive_value, enum_value, struct_value, TypeTree, DeclTree, ExtractorTree, ConverterTree, IfLetTree, RuleTree, ExternTree, extern_constructor, extern_extractor, extern_const, Definition, type_definition, declaration, extractor_definition, converter_definition, rule_definition, extern_definition, other_definition}
use Rattle.text_reader.specs.FormTrees.{FormTree, a_word, a_number, a_constant, a_binding, a_list, FormTrees, no_form, form_and}
use Rattle.text_reader.specs.Solid.{nowhere, placeless_name}

-- ---- words, numbers, lists

abbrev pub the_word : List ℕ → FormTree
the_word text = a_word (record { text = text; at = nowhere })

abbrev pub word_form : Name → FormTree
word_form n = a_word (placeless_name n)

abbrev pub constant_form : Name → FormTree
constant_form n = a_constant (placeless_name n) nowhere

abbrev pub number_form : ℤ → FormTree
number_form z = a_number z nowhere

abbrev pub truth_form : Bool → FormTree
truth_form true = the_word (codes "true")
truth_form false = the_word (codes "false")

abbrev pub list_form : FormTrees → FormTree
list_form fs = a_list fs nowhere nowhere

-- a list that begins with this word
abbrev pub headed_form : List ℕ → FormTrees → FormTree
headed_form head fs = list_form (form_and (the_word head) fs)

-- names, before other forms
abbrev pub names_before : List Name → FormTrees → FormTrees
names_before [] fs = fs
names_before (n ∷ ns) fs = form_and (word_form n) (names_before ns fs)

-- a word, where it is to be there, before other forms
unfoldable pub flag_before : List ℕ → Bool → FormTrees → FormTrees
flag_before text is fs = if is then form_and (the_word text) fs else fs

-- ---- patterns and expressions

abbrev mutual
  pub pattern_form : PatternTree → FormTree
  pattern_form (var_pattern n p) = word_form n
  pattern_form (bind_pattern n q p) = a_binding (placeless_name n) (pattern_form q)
  pattern_form (bool_pattern b p) = truth_form b
  pattern_form (int_pattern z p) = number_form z
  pattern_form (prim_pattern n p) = constant_form n
  pattern_form (term_pattern t qs p) = list_form (form_and (word_form t) (pattern_forms qs))
  pattern_form (wildcard_pattern p) = the_word (codes "_")
  pattern_form (and_pattern qs p) = headed_form (codes "and") (pattern_forms qs)
  pattern_form (macro_arg i p) = headed_form (codes "macro-arg") (form_and (number_form (pos i)) no_form)

  pub pattern_forms : PatternTrees → FormTrees
  pattern_forms no_pattern = no_form
  pattern_forms (pattern_and q qs) = form_and (pattern_form q) (pattern_forms qs)

abbrev mutual
  pub expr_form : ExprTree → FormTree
  expr_form (term_expr t es p) = list_form (form_and (word_form t) (expr_forms es))
  expr_form (var_expr n p) = word_form n
  expr_form (bool_expr b p) = truth_form b
  expr_form (int_expr z p) = number_form z
  expr_form (prim_expr n p) = constant_form n
  expr_form (let_expr ds e p) = headed_form (codes "let") (form_and (list_form (let_forms ds)) (form_and (expr_form e) no_form))

  pub expr_forms : ExprTrees → FormTrees
  expr_forms no_expr = no_form
  expr_forms (expr_and e es) = form_and (expr_form e) (expr_forms es)

  pub let_forms : LetTrees → FormTrees
  let_forms no_let = no_form
  let_forms (let_and n t e p ds) = form_and (list_form (form_and (word_form n) (form_and (word_form t) (form_and (expr_form e) no_form)))) (let_forms ds)

-- ---- types

abbrev pub field_forms : List FieldTree → FormTrees
field_forms [] = no_form
field_forms (f ∷ fs) = form_and (list_form (form_and (word_form f.name) (form_and (word_form f.ty) no_form))) (field_forms fs)

abbrev pub tuple_field_forms : List TupleFieldTree → FormTrees
tuple_field_forms [] = no_form
tuple_field_forms (f ∷ fs) = form_and (word_form f.ty) (tuple_field_forms fs)

abbrev pub fields_forms : FieldTrees → FormTrees
fields_forms unit_fields = no_form
fields_forms (struct_fields fs) = field_forms fs
fields_forms (tuple_fields fs) = tuple_field_forms fs

-- a variant without fields is its name alone
abbrev pub variant_by : Name → FieldTrees → FormTree
variant_by n unit_fields = word_form n
variant_by n (struct_fields fs) = list_form (form_and (word_form n) (field_forms fs))
variant_by n (tuple_fields fs) = list_form (form_and (word_form n) (tuple_field_forms fs))

abbrev pub variant_forms : List VariantTree → FormTrees
variant_forms [] = no_form
variant_forms (v ∷ vs) = form_and (variant_by v.name v.fields) (variant_forms vs)

abbrev pub value_form : TypeValueTree → FormTree
value_form (primitive_value n p) = headed_form (codes "primitive") (form_and (word_form n) no_form)
value_form (enum_value vs p) = headed_form (codes "enum") (variant_forms vs)
value_form (struct_value fs p) = headed_form (codes "struct") (fields_forms fs)

-- a type's name and its words, before other forms
unfoldable pub type_words_before : TypeTree → FormTrees → FormTrees
type_words_before t fs = form_and (word_form t.name) (flag_before (codes "extern") t.is_extern (flag_before (codes "nodebug") t.is_nodebug fs))

abbrev pub type_form : TypeTree → FormTree
type_form t = headed_form (codes "type") (type_words_before t (form_and (value_form t.value) no_form))

-- ---- terms

-- flags, in this order, before other forms
unfoldable pub flags_before : DeclTree → FormTrees → FormTrees
flags_before d fs = flag_before (codes "pure") d.pure (flag_before (codes "multi") d.multi (flag_before (codes "partial") d.partial (flag_before (codes "rec") d.rec fs)))

abbrev pub signature : DeclTree → FormTrees
signature d = form_and (word_form d.term) (form_and (list_form (names_before d.arg_tys no_form)) (form_and (word_form d.ret_ty) no_form))

abbrev pub decl_form : DeclTree → FormTree
decl_form d = headed_form (codes "decl") (flags_before d (signature d))

abbrev pub extractor_form : ExtractorTree → FormTree
extractor_form e =
    headed_form (codes "extractor") (form_and (list_form (form_and (word_form e.term) (names_before e.args no_form))) (form_and (pattern_form e.template) no_form))

abbrev pub converter_form : ConverterTree → FormTree
converter_form c = headed_form (codes "convert") (form_and (word_form c.inner_ty) (form_and (word_form c.outer_ty) (form_and (word_form c.term) no_form)))

abbrev pub extern_form : ExternTree → FormTree
extern_form (extern_constructor t f p) =
    headed_form (codes "extern") (form_and (the_word (codes "constructor")) (form_and (word_form t) (form_and (word_form f) no_form)))
extern_form (extern_extractor t f p i) =
    headed_form (codes "extern") (form_and (the_word (codes "extractor")) (flag_before (codes "infallible") i (form_and (word_form t) (form_and (word_form f) no_form))))
extern_form (extern_const n t p) =
    headed_form (codes "extern") (form_and (the_word (codes "const")) (form_and (constant_form n) (form_and (word_form t) no_form)))

-- ---- rules

abbrev pub if_let_form : IfLetTree → FormTree
if_let_form l = headed_form (codes "if-let") (form_and (pattern_form l.pattern) (form_and (expr_form l.expr) no_form))

-- conditions, before other forms
unfoldable pub if_lets_before : List IfLetTree → FormTrees → FormTrees
if_lets_before [] fs = fs
if_lets_before (l ∷ ls) fs = form_and (if_let_form l) (if_lets_before ls fs)

unfoldable pub name_before : Option Name → FormTrees → FormTrees
name_before None fs = fs
name_before (Some n) fs = form_and (word_form n) fs

unfoldable pub priority_before : Option ℤ → FormTrees → FormTrees
priority_before None fs = fs
priority_before (Some z) fs = form_and (number_form z) fs

-- a rule's name and its priority, before other forms
unfoldable pub rule_words_before : RuleTree → FormTrees → FormTrees
rule_words_before r fs = name_before r.name (priority_before r.prio fs)

abbrev pub rule_body : RuleTree → FormTrees
rule_body r = form_and (pattern_form r.pattern) (if_lets_before r.iflets (form_and (expr_form r.expr) no_form))

abbrev pub rule_form : RuleTree → FormTree
rule_form r = headed_form (codes "rule") (rule_words_before r (rule_body r))

-- ---- definitions

-- of any other definition its list isn't known: an empty one stands for it, and can't be spelled
abbrev pub form_of : Definition → FormTree
form_of (type_definition t) = type_form t
form_of (declaration d) = decl_form d
form_of (extractor_definition e) = extractor_form e
form_of (converter_definition c) = converter_form c
form_of (rule_definition r) = rule_form r
form_of (extern_definition e) = extern_form e
form_of other_definition = list_form no_form

abbrev pub forms_of_all : List Definition → FormTrees
forms_of_all [] = no_form
forms_of_all (d ∷ ds) = form_and (form_of d) (forms_of_all ds)

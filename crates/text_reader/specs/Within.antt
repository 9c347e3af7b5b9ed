-- Which definitions have each position inside a text: in that file, at an offset below the text's length.
use Rattle.std.specs.Prelude.{◌≡◌, ◌<◌, ℕ, List, All, Option, Some, None, ⊤}
use Rattle.model.specs.lists.Syntax.{Position, Name, PatternTree, var_pattern, bind_pattern, bool_pattern, int_pattern, prim_pattern, term_pattern, wildcard_pattern, and_pattern, macro_arg, PatternTrees, no_pattern, pattern_and, ExprTree, term_expr, var_expr, bool_expr, int_expr, prim_expr, let_expr, ExprTrees, no_expr, expr_and, LetTrees, no_let, let_and, FieldTree, TupleFieldTree, FieldTrees, unit_fields, struct_fields, tuple_fields, VariantTree, TypeValueTree, primitive_value, enum_value, struct_value, IfLetTree, ExternTree, extern_constructor, extern_extractor, extern_const, Definition, type_definition, declaration, extractor_definition, converter_definition, rule_definition, extern_definition, other_definition}

module _ (file size : ℕ) where
  abbrev pub PositionIsWithin : Position → Type 0
  PositionIsWithin p = (p.file ≡ file) × (p.offset < size)

  abbrev pub NameIsWithin : Name → Type 0
  NameIsWithin n = PositionIsWithin n.at

  abbrev mutual
    pub PatternIsWithin : PatternTree → Type 0
    PatternIsWithin (var_pattern v p) = NameIsWithin v × PositionIsWithin p
    PatternIsWithin (bind_pattern v q p) = NameIsWithin v × PatternIsWithin q × PositionIsWithin p
    PatternIsWithin (bool_pattern b p) = PositionIsWithin p
    PatternIsWithin (int_pattern z p) = PositionIsWithin p
    PatternIsWithin (prim_pattern v p) = NameIsWithin v × PositionIsWithin p
    PatternIsWithin (term_pattern s qs p) = NameIsWithin s × PatternsAreWithin qs × PositionIsWithin p
    PatternIsWithin (wildcard_pattern p) = PositionIsWithin p
    PatternIsWithin (and_pattern qs p) = PatternsAreWithin qs × PositionIsWithin p
    PatternIsWithin (macro_arg i p) = PositionIsWithin p

    pub PatternsAreWithin : PatternTrees → Type 0
    PatternsAreWithin no_pattern = ⊤
    PatternsAreWithin (pattern_and q qs) = PatternIsWithin q × PatternsAreWithin qs

  abbrev mutual
    pub ExprIsWithin : ExprTree → Type 0
    ExprIsWithin (term_expr s es p) = NameIsWithin s × ExprsAreWithin es × PositionIsWithin p
    ExprIsWithin (var_expr v p) = NameIsWithin v × PositionIsWithin p
    ExprIsWithin (bool_expr b p) = PositionIsWithin p
    ExprIsWithin (int_expr z p) = PositionIsWithin p
    ExprIsWithin (prim_expr v p) = NameIsWithin v × PositionIsWithin p
    ExprIsWithin (let_expr ds e p) = LetsAreWithin ds × ExprIsWithin e × PositionIsWithin p

    pub ExprsAreWithin : ExprTrees → Type 0
    ExprsAreWithin no_expr = ⊤
    ExprsAreWithin (expr_and e es) = ExprIsWithin e × ExprsAreWithin es

    pub LetsAreWithin : LetTrees → Type 0
    LetsAreWithin no_let = ⊤
    LetsAreWithin (let_and v t e p ds) = NameIsWithin v × NameIsWithin t × ExprIsWithin e × PositionIsWithin p × LetsAreWithin ds

  abbrev pub FieldIsWithin : FieldTree → Type 0
  FieldIsWithin f = NameIsWithin f.name × NameIsWithin f.ty × PositionIsWithin f.at

  abbrev pub TupleFieldIsWithin : TupleFieldTree → Type 0
  TupleFieldIsWithin f = NameIsWithin f.ty × PositionIsWithin f.at

  abbrev pub FieldsAreWithin : FieldTrees → Type 0
  FieldsAreWithin unit_fields = ⊤
  FieldsAreWithin (struct_fields fs) = All FieldIsWithin fs
  FieldsAreWithin (tuple_fields fs) = All TupleFieldIsWithin fs

  abbrev pub VariantIsWithin : VariantTree → Type 0
  VariantIsWithin v = NameIsWithin v.name × FieldsAreWithin v.fields × PositionIsWithin v.at

  abbrev pub TypeValueIsWithin : TypeValueTree → Type 0
  TypeValueIsWithin (primitive_value n p) = NameIsWithin n × PositionIsWithin p
  TypeValueIsWithin (enum_value vs p) = All VariantIsWithin vs × PositionIsWithin p
  TypeValueIsWithin (struct_value fs p) = FieldsAreWithin fs × PositionIsWithin p

  abbrev pub IfLetIsWithin : IfLetTree → Type 0
  IfLetIsWithin l = PatternIsWithin l.pattern × ExprIsWithin l.expr × PositionIsWithin l.at

  abbrev pub NameIsWithinIfAny : Option Name → Type 0
  NameIsWithinIfAny None = ⊤
  NameIsWithinIfAny (Some n) = NameIsWithin n

  abbrev pub ExternIsWithin : ExternTree → Type 0
  ExternIsWithin (extern_constructor t f p) = NameIsWithin t × NameIsWithin f × PositionIsWithin p
  ExternIsWithin (extern_extractor t f p i) = NameIsWithin t × NameIsWithin f × PositionIsWithin p
  ExternIsWithin (extern_const n t p) = NameIsWithin n × NameIsWithin t × PositionIsWithin p

  abbrev pub DefinitionIsWithin : Definition → Type 0
  DefinitionIsWithin (type_definition t) = NameIsWithin t.name × TypeValueIsWithin t.value × PositionIsWithin t.at
  DefinitionIsWithin (declaration d) = NameIsWithin d.term × All NameIsWithin d.arg_tys × NameIsWithin d.ret_ty × PositionIsWithin d.at
  DefinitionIsWithin (extractor_definition e) = NameIsWithin e.term × All NameIsWithin e.args × PatternIsWithin e.template × PositionIsWithin e.at
  DefinitionIsWithin (converter_definition c) = NameIsWithin c.term × NameIsWithin c.inner_ty × NameIsWithin c.outer_ty × PositionIsWithin c.at
  DefinitionIsWithin (rule_definition r) = PatternIsWithin r.pattern × All IfLetIsWithin r.iflets × ExprIsWithin r.expr × NameIsWithinIfAny r.name × PositionIsWithin r.at
  DefinitionIsWithin (extern_definition e) = ExternIsWithin e
  DefinitionIsWithin other_definition = ⊤

  abbrev pub DefinitionsAreWithin : List Definition → Type 0
  DefinitionsAreWithin ds = All DefinitionIsWithin ds

-- Syntax trees, as plain data: what a list of definitions says, without where it lies in memory.
use Rattle.std.specs.Prelude.{ℕ, ℤ, Bool, List, [], Option, ◌∷◌}

-- a place in a file: the file's number and an offset in its bytes
pub record Position : Type 0 where
  pub file : ℕ
  pub offset : ℕ

-- a name, and where it stands
pub record Name : Type 0 where
  pub text : List ℕ
  pub at : Position

mutual
  pub data PatternTree : Type 0 where
    var_pattern : (name : Name) (at : Position) → PatternTree
    bind_pattern : (name : Name) (of : PatternTree) (at : Position) → PatternTree
    bool_pattern : (b : Bool) (at : Position) → PatternTree
    int_pattern : (z : ℤ) (at : Position) → PatternTree
    prim_pattern : (name : Name) (at : Position) → PatternTree
    term_pattern : (term : Name) (args : PatternTrees) (at : Position) → PatternTree
    wildcard_pattern : (at : Position) → PatternTree
    and_pattern : (parts : PatternTrees) (at : Position) → PatternTree
    macro_arg : (i : ℕ) (at : Position) → PatternTree

  pub data PatternTrees : Type 0 where
    no_pattern : PatternTrees
    pattern_and : (p : PatternTree) (rest : PatternTrees) → PatternTrees

mutual
  pub data ExprTree : Type 0 where
    term_expr : (term : Name) (args : ExprTrees) (at : Position) → ExprTree
    var_expr : (name : Name) (at : Position) → ExprTree
    bool_expr : (b : Bool) (at : Position) → ExprTree
    int_expr : (z : ℤ) (at : Position) → ExprTree
    prim_expr : (name : Name) (at : Position) → ExprTree
    let_expr : (defs : LetTrees) (body : ExprTree) (at : Position) → ExprTree

  pub data ExprTrees : Type 0 where
    no_expr : ExprTrees
    expr_and : (e : ExprTree) (rest : ExprTrees) → ExprTrees

  -- a let's definitions: name, name of its type, value and place
  pub data LetTrees : Type 0 where
    no_let : LetTrees
    let_and : (name ty : Name) (value : ExprTree) (at : Position) (rest : LetTrees) → LetTrees

pub record FieldTree : Type 0 where
  pub name : Name
  pub ty : Name
  pub at : Position

pub record TupleFieldTree : Type 0 where
  pub index : ℕ
  pub ty : Name
  pub at : Position

pub data FieldTrees : Type 0 where
  unit_fields : FieldTrees
  struct_fields : (fields : List FieldTree) → FieldTrees
  tuple_fields : (fields : List TupleFieldTree) → FieldTrees

pub record VariantTree : Type 0 where
  pub name : Name
  pub fields : FieldTrees
  pub at : Position

pub data TypeValueTree : Type 0 where
  primitive_value : (name : Name) (at : Position) → TypeValueTree
  enum_value : (variants : List VariantTree) (at : Position) → TypeValueTree
  struct_value : (fields : FieldTrees) (at : Position) → TypeValueTree

pub record TypeTree : Type 0 where
  pub name : Name
  pub is_extern : Bool
  pub is_nodebug : Bool
  pub value : TypeValueTree
  pub at : Position

pub record DeclTree : Type 0 where
  pub term : Name
  pub arg_tys : List Name
  pub ret_ty : Name
  pub pure : Bool
  pub multi : Bool
  pub partial : Bool
  pub rec : Bool
  pub at : Position

pub record ExtractorTree : Type 0 where
  pub term : Name
  pub args : List Name
  pub template : PatternTree
  pub at : Position

pub record ConverterTree : Type 0 where
  pub term : Name
  pub inner_ty : Name
  pub outer_ty : Name
  pub at : Position

pub record IfLetTree : Type 0 where
  pub pattern : PatternTree
  pub expr : ExprTree
  pub at : Position

pub record RuleTree : Type 0 where
  pub pattern : PatternTree
  pub iflets : List IfLetTree
  pub expr : ExprTree
  pub at : Position
  pub prio : Option ℤ
  pub name : Option Name

pub data ExternTree : Type 0 where
  extern_constructor : (term function : Name) (at : Position) → ExternTree
  extern_extractor : (term function : Name) (at : Position) (infallible : Bool) → ExternTree
  extern_const : (name ty : Name) (at : Position) → ExternTree

pub data Definition : Type 0 where
  type_definition : (t : TypeTree) → Definition
  declaration : (d : DeclTree) → Definition
  extractor_definition : (e : ExtractorTree) → Definition
  converter_definition : (c : ConverterTree) → Definition
  rule_definition : (r : RuleTree) → Definition
  extern_definition : (e : ExternTree) → Definition
  other_definition : Definition

-- the patterns of a rule's arguments
abbrev pub pattern_list : PatternTrees → List PatternTree
pattern_list no_pattern = []
pattern_list (pattern_and p rest) = p ∷ pattern_list rest

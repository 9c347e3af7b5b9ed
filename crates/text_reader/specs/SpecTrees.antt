-- What is said for a verifier, without where it lies in memory.
use Rattle.std.specs.Prelude.{ℕ, ℤ, Bool, List, Option}
use Rattle.model.specs.lists.Syntax.{Position, Name}

pub data ModelTypeTree : Type 0 where
  int_model : Position → ModelTypeTree
  bool_model : Position → ModelTypeTree
  unit_model : Position → ModelTypeTree
  bits_model : (width : Option ℕ) → Position → ModelTypeTree
  named_model : Name → Position → ModelTypeTree

mutual
  pub data SpecExprTree : Type 0 where
    spec_int : (z : ℤ) (at : Position) → SpecExprTree
    spec_bits : (value width : ℕ) (at : Position) → SpecExprTree
    spec_bool : (b : Bool) (at : Position) → SpecExprTree
    spec_unit : (at : Position) → SpecExprTree
    spec_var : (name : Name) (at : Position) → SpecExprTree
    spec_op : (op : Name) (args : SpecExprTrees) (at : Position) → SpecExprTree
    -- `switch` or `match` on a value, and pairs
    spec_cases : (op : Name) (value : SpecExprTree) (cases : SpecExprTrees) (at : Position) → SpecExprTree
    -- pairs of a name and its value
    spec_let : (defs : SpecExprTrees) (body : SpecExprTree) (at : Position) → SpecExprTree
    spec_with : (names : List Name) (body : SpecExprTree) (at : Position) → SpecExprTree
    spec_as : (value : SpecExprTree) (ty : ModelTypeTree) (at : Position) → SpecExprTree
    spec_pair : (left right : SpecExprTree) (at : Position) → SpecExprTree

  pub data SpecExprTrees : Type 0 where
    no_spec_expr : SpecExprTrees
    spec_expr_and : (x : SpecExprTree) (rest : SpecExprTrees) → SpecExprTrees

pub record ModifiesTree : Type 0 where
  pub state : Name
  pub cond : Option Name
  pub at : Position

pub record SpecTree : Type 0 where
  pub term : Name
  pub args : List Name
  pub provides : Option SpecExprTrees
  pub required : Option SpecExprTrees
  pub matches : Option SpecExprTrees
  pub modifies : List ModifiesTree
  pub at : Position

pub record VariantValueTree : Type 0 where
  pub name : Name
  pub value : Option SpecExprTree
  pub at : Position

pub data ModelValueTree : Type 0 where
  type_value : ModelTypeTree → ModelValueTree
  enum_value : List VariantValueTree → ModelValueTree
  const_value : SpecExprTree → ModelValueTree

pub record ModelTree : Type 0 where
  pub name : Name
  pub value : ModelValueTree
  pub at : Position

pub record SignatureTree : Type 0 where
  pub args : List ModelTypeTree
  pub ret : ModelTypeTree
  pub canonical : ModelTypeTree
  pub at : Position

pub record SignaturesTree : Type 0 where
  pub name : Name
  pub signatures : List SignatureTree
  pub at : Position

pub record InstantiationTree : Type 0 where
  pub term : Name
  pub form : Option Name
  pub signatures : List SignatureTree
  pub at : Position

pub data AttrKindTree : Type 0 where
  tag : Name → Position → AttrKindTree
  chain : Position → AttrKindTree
  priority : Position → AttrKindTree

pub record AttrTree : Type 0 where
  pub is_rule : Bool
  pub name : Name
  pub kinds : List AttrKindTree
  pub at : Position

pub record StateTree : Type 0 where
  pub name : Name
  pub ty : ModelTypeTree
  pub default : SpecExprTree
  pub at : Position

pub record MacroTree : Type 0 where
  pub is_spec : Bool
  pub name : Name
  pub params : List Name
  pub body : SpecExprTree
  pub at : Position

pub data VerificationTree : Type 0 where
  a_spec : SpecTree → VerificationTree
  a_model : ModelTree → VerificationTree
  a_form : SignaturesTree → VerificationTree
  an_instantiation : InstantiationTree → VerificationTree
  an_attr : AttrTree → VerificationTree
  a_state : StateTree → VerificationTree
  a_macro : MacroTree → VerificationTree
  a_pragma : Position → VerificationTree

-- Code as data: the statements that a printed function is made of. A statement says how each value is handed on, which
-- rustc asks for, and which says nothing of what the code does.
use Rattle.std.specs.Prelude.{ℕ, ℤ, Bool, List, Option}
use Rattle.model.specs.lists.Syntax.{Position}
use Rattle.model.specs.sites.Sites.{Constraint}

-- what is read: a variable, a parameter, a part of a variable that holds a tuple, or what is written out
pub data Place : Type 0 where
  variable : (v : ℕ) → Place
  parameter : (i : ℕ) → Place
  part_of : (v i : ℕ) → Place
  int_written : (z : ℤ) (ty : ℕ) → Place
  name_written : (name : ℕ) → Place
  variant_written : (ty variant : ℕ) → Place
  struct_written : (ty : ℕ) → Place

-- as it is, `&v`, `v.clone()`, `*v`
pub data Pass : Type 0 where
  as_it_is : Pass
  lent : Pass
  cloned : Pass
  seen_through : Pass

pub record PlaceUse : Type 0 where
  pub place : Place
  pub pass : Pass

-- what a variable is bound to
pub data Expr : Type 0 where
  truth_written : (b : Bool) (ty : ℕ) → Expr
  read : (u : PlaceUse) → Expr
  extraction : (term : ℕ) (u : PlaceUse) → Expr
  call : (term : ℕ) (us : List PlaceUse) (instance : ℕ) → Expr
  variant_of : (ty variant : ℕ) (us : List PlaceUse) → Expr
  struct_of : (ty : ℕ) (us : List PlaceUse) → Expr
  some_of : (u : PlaceUse) → Expr

mutual
  pub data Block : Type 0 where
    no_statement : Block
    statement : (s : Statement) (rest : Block) → Block

  pub data Statement : Type 0 where
    -- let v = e;
    bind : (v : ℕ) (e : Expr) → Statement
    -- let Some(v) = u else { the term fails };
    bind_some : (v : ℕ) (u : PlaceUse) → Statement
    -- unreachable!();
    no_way : Statement
    -- if let P = u { .. }, or match u { P => { .. } .. _ => {} }
    match_on : (u : PlaceUse) (arms : CodeArms) → Statement
    -- if a == b { .. }
    if_equal : (a b : PlaceUse) (body : Block) → Statement
    -- let mut from = from.into_context_iter(); while let Some(v) = from.next(ctx) { .. }
    for_each_of : (v from : ℕ) (body : Block) → Statement
    -- return u;  or  returns.extend(Some(u)); and a return where the list is full
    give : (at : Position) (u : PlaceUse) → Statement
    -- 'a: { .. }, and break 'a where a pattern isn't met, or two values differ: what it binds lasts to the block's end
    labelled : (body : Block) → Statement
    unless_let : (u : PlaceUse) (pattern : Constraint) (fields : List (Option ℕ)) → Statement
    unless_equal : (a b : PlaceUse) → Statement

  pub data CodeArms : Type 0 where
    no_code_arm : CodeArms
    code_arm : (pattern : Constraint) (fields : List (Option ℕ)) (body : Block) (rest : CodeArms) → CodeArms

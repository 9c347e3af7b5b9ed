-- Typed patterns, expressions and rules, as plain data: each form begins with its type.
use Rattle.std.specs.Prelude.{ℕ, ℤ, Bool, List, Option}
use Rattle.model.specs.lists.Syntax.{Position}

mutual
  pub data TypedPattern : Type 0 where
    match_bind : (ty x : ℕ) (of : TypedPattern) → TypedPattern
    match_var : (ty x : ℕ) → TypedPattern
    match_bool : (ty : ℕ) (b : Bool) → TypedPattern
    match_int : (ty : ℕ) (z : ℤ) → TypedPattern
    match_prim : (ty name : ℕ) → TypedPattern
    match_term : (ty term : ℕ) (args : TypedPatterns) → TypedPattern
    match_any : (ty : ℕ) → TypedPattern
    match_and : (ty : ℕ) (parts : TypedPatterns) → TypedPattern

  pub data TypedPatterns : Type 0 where
    no_typed_pattern : TypedPatterns
    typed_pattern_and : (p : TypedPattern) (rest : TypedPatterns) → TypedPatterns

mutual
  pub data TypedExpr : Type 0 where
    make_term : (ty term : ℕ) (args : TypedExprs) → TypedExpr
    make_var : (ty x : ℕ) → TypedExpr
    make_bool : (ty : ℕ) (b : Bool) → TypedExpr
    make_int : (ty : ℕ) (z : ℤ) → TypedExpr
    make_prim : (ty name : ℕ) → TypedExpr
    make_let : (ty : ℕ) (defs : TypedLets) (body : TypedExpr) → TypedExpr

  pub data TypedExprs : Type 0 where
    no_typed_expr : TypedExprs
    typed_expr_and : (e : TypedExpr) (rest : TypedExprs) → TypedExprs

  -- a let's definitions: variable, its type, its value
  pub data TypedLets : Type 0 where
    no_typed_let : TypedLets
    typed_let_and : (x ty : ℕ) (value : TypedExpr) (rest : TypedLets) → TypedLets

-- a variable of a rule: its number is its place
pub record TypedVar : Type 0 where
  pub id : ℕ
  pub name : ℕ
  pub ty : ℕ

pub record TypedIfLet : Type 0 where
  pub lhs : TypedPattern
  pub rhs : TypedExpr

pub record TypedRule : Type 0 where
  pub id : ℕ
  pub root_term : ℕ
  pub args : List TypedPattern
  pub iflets : List TypedIfLet
  pub rhs : TypedExpr
  pub vars : List TypedVar
  pub prio : ℤ
  pub at : Position
  pub name : Option ℕ

-- Where what is wrong with an expression stands.
use Rattle.std.proofs.Common.{ℕ, zero, suc, ◌+◌, true, false, cond, nat_le, List, [], ◌∷◌, Option, Some, None, arith}
use Rattle.std.proofs.lemmas.Grind.{common_steps}
use Rattle.std.specs.Prelude.{Contains}
use Rattle.model.specs.lists.Syntax.{Position, Name, ExprTree, term_expr, let_expr, ExprTrees, expr_and, LetTrees, no_let, let_and}
use Rattle.model.specs.rules.Typed.{TypedExpr, TypedLets}
use Rattle.model.specs.lists.Tables.{Flags, TermKindEntry, TermEntry}
use Rattle.model.specs.lists.Setting.{Setting, Scope, met, term_of, type_of_name}
use Rattle.model.specs.lists.Expansions.{wrapped_expr}
use Rattle.model.specs.lists.Elaborated.{most_expansions}
use Rattle.model.specs.claims.Refusals.{of_expansions}
use Rattle.laws_errors.specs.Steps.{Step, stopped, here, counted_step, after_made, last_made, then_made}
use Rattle.laws_errors.specs.ExprSteps.{expected_step, forbidden, call_step, called_step, with_arg, with_def, let_step, ended_step, expr_step, args_step, lets_step, deeper_expr_step}
use Rattle.laws_errors.specs.PlaceLaws.{ExprStandsAt, ExprsStandAt, LetsStandAt, AreAt, wrong_of, ExprErrorsArePlaced}
use Rattle.laws_errors.proofs.PlacedErrors.{noting_at, checked_step_at, made_at, counted_at, in_order_at}

module _ (P : Position → Type 0) where
  forbidden_at : (flags : Flags) (x : List ℕ) (at : Position) (kind : TermKindEntry) → P at → AreAt P (forbidden flags x at kind)
  forbidden_at flags x at kind h = grind (arith, common_steps)

  expected_at : (e : Setting) (own : ℕ) (ty : Option ℕ) (at : Position) (s : Scope) (t : Step TypedExpr) (convert : TermEntry → Step TypedExpr) → P at → AreAt P (wrong_of t)
      → ((c : TermEntry) → AreAt P (wrong_of (convert c))) → AreAt P (wrong_of (expected_step e own ty at s t convert))
  expected_at e own ty at s t convert k h i = grind (arith, common_steps)

  ended_at : (defs : TypedLets) (t : Step TypedExpr) → AreAt P (wrong_of t) → AreAt P (wrong_of (ended_step defs t))
  ended_at defs t h = grind (arith, common_steps)

  let_at : (x ty : List ℕ) (at : Position) (s : Scope) (value : ℕ → Step TypedExpr) (o : Option ℕ) → P at → ((own : ℕ) → AreAt P (wrong_of (value own))) → AreAt P (wrong_of (let_step x ty at s value o))
  let_at x ty at s value o h i = grind (arith, common_steps)

  pub then_made_at : {X Y : Type 0} (t : Step X) (next : X → Scope → ℕ → Step Y) → AreAt P (wrong_of t) → ((x : X) (s : Scope) (k : ℕ) → AreAt P (wrong_of (next x s k))) → AreAt P (wrong_of (then_made t next))
  then_made_at {X} {Y} t next h r = grind (arith, common_steps, in_order_at P last_made t (after_made next) h)

  module _ (e : Setting) (flags : Flags) (d : ℕ)
      (deeper : (x : ExprTree) (ty : Option ℕ) (n : ℕ) (s : Scope) → ExprStandsAt P x → AreAt P (wrong_of (deeper_expr_step e flags d x ty n s))) where
    called_at : (name : Name) (args : ExprTrees) (at : Position) (ty : Option ℕ) (n : ℕ) (s : Scope) → P at → ExprsStandAt P args
        → ((tys : List ℕ) → AreAt P (wrong_of (args_step e flags (deeper_expr_step e flags d) args tys n s))) → (o : Option TermEntry)
        → AreAt P (wrong_of (called_step e flags (deeper_expr_step e flags d) name args at ty n s (λ tys. args_step e flags (deeper_expr_step e flags d) args tys n s) o))
    called_at name args at ty n s here given parts None = (here, tt)
    called_at name args at ty n s here given parts (Some t) = expected_at e t.ret_ty ty at s (call_step flags name args at ty t (λ tys. args_step e flags (deeper_expr_step e flags d) args tys n s)) (λ c. deeper_expr_step e flags d (wrapped_expr s c at (term_expr name args at)) ty n s) here
        (grind (arith, common_steps, checked_step_at, noting_at, forbidden_at, made_at, parts t.arg_tys))
        (λ c. deeper (wrapped_expr s c at (term_expr name args at)) ty n s (here, ((here, given), tt)))

    mutual
      pub placed : (x : ExprTree) (ty : Option ℕ) (n : ℕ) (s : Scope) → ExprStandsAt P x → AreAt P (wrong_of (expr_step e flags (deeper_expr_step e flags d) x ty n s))
      placed (term_expr name args at) ty n s h = called_at name args at ty n s h.0 h.1 (λ tys. args_placed args tys n s h.1) (term_of e s name.text)
      placed (let_expr defs body at) ty n s h = then_made_at (lets_step e flags (deeper_expr_step e flags d) defs at n s) (λ ds t k. ended_step ds (expr_step e flags (deeper_expr_step e flags d) body ty (n + k) t))
          (lets_placed defs at n s h.0 h.1.0) (λ ds t k. ended_at ds (expr_step e flags (deeper_expr_step e flags d) body ty (n + k) t) (placed body ty (n + k) t h.1.1))
      placed x ty n s h = grind (arith, common_steps)

      args_placed : (args : ExprTrees) (tys : List ℕ) (n : ℕ) (s : Scope) → ExprsStandAt P args → AreAt P (wrong_of (args_step e flags (deeper_expr_step e flags d) args tys n s))
      args_placed (expr_and x rest) (ty ∷ tys) n s h = in_order_at P with_arg (expr_step e flags (deeper_expr_step e flags d) x (Some ty) n s) (λ m t k. args_step e flags (deeper_expr_step e flags d) rest tys (n + k) t)
          (placed x (Some ty) n s h.0) (λ m t k. args_placed rest tys (n + k) t h.1)
      args_placed args tys n s h = tt

      lets_placed : (defs : LetTrees) (at : Position) (n : ℕ) (s : Scope) → P at → LetsStandAt P defs → AreAt P (wrong_of (lets_step e flags (deeper_expr_step e flags d) defs at n s))
      lets_placed no_let at n s h i = tt
      lets_placed (let_and name ty value own_at rest) at n s h i = in_order_at P with_def
          (let_step name.text ty.text at s (λ own. expr_step e flags (deeper_expr_step e flags d) value (Some own) n (met s name.text)) (type_of_name e s ty.text)) (λ m t k. lets_step e flags (deeper_expr_step e flags d) rest at (n + k) t)
          (let_at name.text ty.text at s (λ own. expr_step e flags (deeper_expr_step e flags d) value (Some own) n (met s name.text)) (type_of_name e s ty.text) h (λ own. placed value (Some own) n (met s name.text) i.0))
          (λ m t k. lets_placed rest at (n + k) t h i.1)

  -- what expansions make
  pub deeper_placed : (e : Setting) (flags : Flags) (d : ℕ) (x : ExprTree) (ty : Option ℕ) (n : ℕ) (s : Scope) → ExprStandsAt P x → AreAt P (wrong_of (deeper_expr_step e flags d x ty n s))
  deeper_placed e flags zero x ty n s h = tt
  deeper_placed e flags (suc d) x ty n s h = elim (nat_le most_expansions n) as (λ b. AreAt P (wrong_of
      (cond b (stopped of_expansions s []) (counted_step (expr_step e flags (deeper_expr_step e flags d) x ty (suc n) s))))) [
        | true ↦ tt
        | false ↦ counted_at P (expr_step e flags (deeper_expr_step e flags d) x ty (suc n) s) (placed e flags d (deeper_placed e flags d) x ty (suc n) s h)
      ]

pub expr_errors_are_placed_lem : ExprErrorsArePlaced
expr_errors_are_placed_lem ps e flags d x ty n s h = placed (Contains ps) e flags d (deeper_placed (Contains ps) e flags d) x ty n s h

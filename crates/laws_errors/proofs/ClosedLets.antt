-- Where nothing is wrong, what can be used after a let is what could be used before it.
use Rattle.std.proofs.Common.{◌≡◌, ℕ, List, Option, Some, subst, refl, ap, ◌∙◌, arith}
use Rattle.std.proofs.lemmas.Grind.{common_steps}
use Rattle.std.proofs.lemmas.Option.{same_Some}
use Rattle.model.specs.lists.Syntax.{ExprTree, ExprTrees, LetTrees, no_let, let_and}
use Rattle.model.specs.lists.Tables.{Flags}
use Rattle.model.specs.rules.Outcome.{then_option}
use Rattle.model.specs.rules.Typed.{TypedExpr, TypedExprs, TypedLets, no_typed_let}
use Rattle.model.specs.lists.Setting.{Setting, Scope, after_let}
use Rattle.model.specs.lists.Typings.{Typing, plain, followed}
use Rattle.model.specs.lists.Elaborates.{ElaboratesExpr, ElaboratesArgs, a_call, converted_call, converted_variable, no_arg, an_arg}
use Rattle.model.specs.lists.Elaborated.{elaborated_expr, lets_with, deeper_expr, bound_let, before_rest}
use Rattle.laws_typing.proofs.TypedExprs as exprs
use Rattle.laws_errors.specs.ExprSteps.{closed}

module _ (e : Setting) (flags : Flags) where
  mutual
    stays_usable : {d n : ℕ} {ty : Option ℕ} {x : ExprTree} {s t : Scope} {q : TypedExpr} → ElaboratesExpr e flags d x ty s q t n → t.visible ≡ s.visible
    stays_usable (a_call h i j g) = args_usable g
    stays_usable (converted_call h i j g) = stays_usable g
    stays_usable (converted_variable h i j g) = stays_usable g
    stays_usable h = refl

    args_usable : {d n : ℕ} {tys : List ℕ} {xs : ExprTrees} {s t : Scope} {qs : TypedExprs} → ElaboratesArgs e flags d xs tys s qs t n → t.visible ≡ s.visible
    args_usable no_arg = refl
    args_usable (an_arg g h) = args_usable h ∙ stays_usable g

  -- after an expression what can be used is what could be used before it
  pub usable : (d : ℕ) (x : ExprTree) (ty : Option ℕ) (s : Scope) (a : Typing TypedExpr) → elaborated_expr e flags d x ty s ≡ Some a → a.scope.visible ≡ s.visible
  usable d x ty s a h = stays_usable (exprs.sound e flags d x ty s a h)

  -- whatever definitions an option has, their names are put back
  abbrev IsClosed : Scope → Option (Typing TypedLets) → Type 0
  IsClosed s o = (a : Typing TypedLets) → o ≡ Some a → (t : Scope) → t.visible ≡ a.scope.visible → closed a.made t ≡ after_let s t

  none_closed : (s : Scope) → IsClosed s (Some (plain no_typed_let s))
  none_closed s = λ a h t g. subst (λ (b : Typing TypedLets). t.visible ≡ b.scope.visible → closed b.made t ≡ after_let s t) (same_Some _ _ h) (λ g. ap (λ vs. record t { visible = vs }) g) g

  def_closed : (s : Scope) (x : List ℕ) (own : ℕ) (value : Option (Typing TypedExpr)) (rest : Scope → Option (Typing TypedLets)) → ((v : Typing TypedExpr) → value ≡ Some v → v.scope.visible ≡ s.visible)
      → ((u : Scope) → IsClosed u (rest u)) → IsClosed s (followed before_rest (bound_let x own value) (λ a. rest a.scope))
  def_closed s x own value rest same others = grind (arith, common_steps)

  typed_closed : (s : Scope) (o : Option ℕ) (f : ℕ → Option (Typing TypedLets)) → ((own : ℕ) → IsClosed s (f own)) → IsClosed s (then_option o f)
  typed_closed s o f h = grind (arith, common_steps)

  pub lets_closed : (d : ℕ) (defs : LetTrees) (s : Scope) → IsClosed s (lets_with e flags (deeper_expr e flags d) defs s)
  lets_closed d (let_and name ty value at rest) s = grind (arith, common_steps, lets_closed d rest, typed_closed, def_closed, usable)
  lets_closed d no_let s = none_closed s

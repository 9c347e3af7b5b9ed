-- How the arguments of a call are read on, part by part.
use Rattle.std.proofs.Common.{◌≡◌, ℕ, ◌+◌, ◌<◌, ◌≤◌, min, nat_le, List, [], ◌∷◌, ◌++◌, length, map, drop, get_or, Option, Some, None, option_map, Ok, append-nil, inl, inr, ◌⊎◌, refl, sym, ap, subst, ◌∙◌, arith}
use Rattle.std.proofs.lemmas.Bool.{cases_Bool, leb-true, leb-false}
use Rattle.std.proofs.lemmas.List.{drop_more, drop_all}
use Rattle.std.specs.Option.{option_to_list}
use Rattle.std.proofs.lemmas.Grind.{common_steps}
use Rattle.core_syntax.specs.declared.syntax.Expr as T
use Rattle.core_syntax.specs.SyntaxViews as S
use Rattle.model.specs.lists.Setting.{Setting, Scope}
use Rattle.model.specs.lists.Tables.{Flags}
use Rattle.model.specs.rules.Typed.{TypedExprs, no_typed_expr, typed_expr_and}
use Rattle.laws_errors.specs.Steps.{here, then_step}
use Rattle.laws_errors.specs.ExprSteps.{with_arg}
use Rattle.core_types.specs.declared.ids.TypeId.{TypeId}
use Rattle.core_typed.specs.declared.exprs.Expr.{Expr}
use Rattle.core_typed.specs.ExprViews.{expr_view, expr_views, expr_parts}
use Rattle.core_typed.proofs.NotedErrors.{none_at}
use Rattle.core_rules.specs.declared.term_env.TermEnv.{TermEnv}
use Rattle.core_rules.specs.declared.typing.progress.Stop.{Stop}
use Rattle.core_rules.specs.ExprTaking.{expr_steps, args_steps}
use Rattle.core_rules.specs.PatternTaking.{made_end}
use Rattle.core_rules.specs.Taking.{Stepping, MadeOrLimit, Took, took, EndsAs, StopsBy, LeadsOn}
use Rattle.core_rules.specs.ShownSettings.{Standing, Keeps}
use Rattle.core_rules.proofs.ExprLists.{appended}
use Rattle.core_rules.proofs.Taken.{joined_end, one_on, one_stops}

-- expressions after those that were made
abbrev pub after_made : List Expr → MadeOrLimit TypedExprs → MadeOrLimit TypedExprs
after_made xs = made_end (appended (expr_parts (expr_views xs)))

after_none : (r : MadeOrLimit TypedExprs) → r ≡ after_made [] r
after_none r = grind (arith, common_steps)

appended_none : (ys : TypedExprs) → appended ys no_typed_expr ≡ ys
appended_none no_typed_expr = refl
appended_none (typed_expr_and y ys) = ap (typed_expr_and y) (appended_none ys)

one_between : (xs : List Expr) (x : Expr) (ys : TypedExprs) → appended (expr_parts (expr_views xs)) (typed_expr_and (expr_view x) ys) ≡ appended (expr_parts (expr_views (xs ++ x ∷ []))) ys
one_between [] x ys = refl
one_between (y ∷ xs) x ys = ap (typed_expr_and (expr_view y)) (one_between xs x ys)

arg_between : (xs : List Expr) (o : Option Expr) (ys : TypedExprs) → appended (expr_parts (expr_views xs)) (with_arg (option_map expr_view o) ys) ≡ appended (expr_parts (expr_views (xs ++ option_to_list o))) ys
arg_between xs None ys = ap (λ zs. appended (expr_parts (expr_views zs)) ys) (sym (append-nil xs))
arg_between xs (Some x) ys = one_between xs x ys

abbrev something : TypedExprs → MadeOrLimit TypedExprs
something ys = Ok (Some ys)

one_after : (xs : List Expr) (o : Option Expr) (r : MadeOrLimit TypedExprs) → after_made xs (joined_end with_arg (option_map expr_view o) r) ≡ after_made (xs ++ option_to_list o) r
one_after xs o r = grind (arith, arg_between)

-- nothing is read yet
pub none_read : (env : TermEnv) (old : Standing) (whole : Stepping TypedExprs) (xs : List Expr) → xs ≡ [] → LeadsOn env old old whole whole (after_made xs)
none_read env old whole xs none = (inl refl, λ e s is sh new r rest. subst (Took old new (whole e old.work.expansions s)) (after_none r ∙ ap (λ (zs : List Expr). after_made zs r) (sym none)) (rest s sh))

-- all is read
pub all_read : (env : TermEnv) (old mid : Standing) (whole rest : Stepping TypedExprs) (xs : List Expr) → ((e : Setting) (n : ℕ) (u : Scope) → rest e n u ≡ here no_typed_expr u)
    → LeadsOn env old mid whole rest (after_made xs) → EndsAs env old mid whole (Ok (Some (expr_parts (expr_views xs))))
all_read env old mid whole rest xs law on = (
  on.0,
  λ e s is sh.
      subst (λ (ys : TypedExprs). Took old mid (whole e old.work.expansions s) (Ok (Some ys))) (appended_none (expr_parts (expr_views xs)))
      (on.1 e s is sh mid (Ok (Some no_typed_expr))
      (λ u shown. subst (λ t. Took mid mid t (Ok (Some no_typed_expr))) (sym (law e mid.work.expansions u))
      (took (Some no_typed_expr) u 0 [] (none_at mid.work.errors.items mid.work.errors.items refl) shown (omega arith)))),
)

abbrev pub args_from : Flags → List T.Expr → List TypeId → ℕ → ℕ → Stepping TypedExprs
args_from flags args tys d i = args_steps (S.expr_views (drop i args)) flags (map (λ t. t.0) (drop i tys)) d

module _ (flags : Flags) (args : List T.Expr) (tys : List TypeId) (d i : ℕ) (x : T.Expr) (w : i < length args) (arg_is : x ≡ get_or args i x) (ty : TypeId) (v : i < length tys) (ty_is : ty ≡ get_or tys i ty) where
  args_law : (e : Setting) (n : ℕ) (u : Scope)
      → args_from flags args tys d i e n u ≡ then_step with_arg (expr_steps (S.expr_view x) flags (Some ty.0) d e n u) (λ m t k. args_from flags args tys d (i + 1) e (n + k) t)
  args_law e n u = grind (arith, common_steps, drop_more)

  module _ (env : TermEnv) (old mid new : Standing) (keeps : Keeps old.tyenv mid.tyenv) (whole : Stepping TypedExprs) (xs : List Expr) (on : LeadsOn env old mid whole (args_from flags args tys d i) (after_made xs)) where
    pub arg_goes_on : (o : Option Expr) → EndsAs env mid new (expr_steps (S.expr_view x) flags (Some ty.0) d) (Ok (option_map expr_view o)) → LeadsOn env old new whole (args_from flags args tys d (i + 1)) (after_made (xs ++ option_to_list o))
    arg_goes_on o h =
        one_on with_arg env old mid new keeps whole (expr_steps (S.expr_view x) flags (Some ty.0) d) (args_from flags args tys d i) (args_from flags args tys d (i + 1)) args_law (after_made xs) on
        (option_map expr_view o) (after_made (xs ++ option_to_list o)) (one_after xs o) h

    pub arg_stops_all : (stop : Stop) → StopsBy env mid new (expr_steps (S.expr_view x) flags (Some ty.0) d) stop → StopsBy env old new whole stop
    arg_stops_all stop h =
        one_stops with_arg env old mid new keeps whole (expr_steps (S.expr_view x) flags (Some ty.0) d) (args_from flags args tys d i) (args_from flags args tys d (i + 1)) args_law (after_made xs) on (λ l. refl) stop h

-- as far as there are arguments and types
no_more : (flags : Flags) (xs : List T.Expr) (ts : List TypeId) (d : ℕ) (e : Setting) (n : ℕ) (u : Scope) → (length xs ≡ 0) ⊎ (length ts ≡ 0) → args_steps (S.expr_views xs) flags (map (λ t. t.0) ts) d e n u ≡ here no_typed_expr u
no_more flags (x ∷ xs) (t ∷ ts) d e n u (inl h) = absurd (cc)
no_more flags (x ∷ xs) (t ∷ ts) d e n u (inr h) = absurd (cc)
no_more flags _ _ d e n u h = refl

pub args_read : (flags : Flags) (args : List T.Expr) (tys : List TypeId) (d i : ℕ) → min (length args) (length tys) ≤ i → (e : Setting) (n : ℕ) (u : Scope) → args_from flags args tys d i e n u ≡ here no_typed_expr u
args_read flags args tys d i few e n u = elim (cases_Bool (nat_le (length args) i)) [
  | inl t ↦ no_more flags (drop i args) (drop i tys) d e n u (inl (ap length (drop_all i args (leb-true (length args) i t))))
  | inr f ↦ grind (arith, common_steps, leb-false (length args) i f, no_more flags (drop i args) (drop i tys) d e n u, drop_all i tys)
]

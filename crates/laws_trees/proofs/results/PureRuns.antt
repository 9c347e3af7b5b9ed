-- An expression that calls pure terms alone gives its value, and makes no call.
use Rattle.std.proofs.Common.{◌≡◌, ℕ, true, List, [], ◌∷◌, Option, Some, refl, ap, ◌∙◌, arith}
use Rattle.std.proofs.lemmas.Bool.{false≢true}
use Rattle.std.proofs.lemmas.Grind.{common_steps}
use Rattle.model.specs.lists.Formed.{is_formed_expr, are_formed_args, formed_lets}
use Rattle.model.specs.rules.Values.{Value, Values}
use Rattle.model.specs.rules.Meaning.{Meaning}
use Rattle.model.specs.rules.Outcome.{then_option}
use Rattle.model.specs.rules.Program.{Program, Kind, unknown, flags_of}
use Rattle.model.specs.rules.RightSide.{gives, EvalAll, gives_all}
use Rattle.model.specs.rules.Picks.{Pick, SitedVars, sited, expr_site, term_under, value_under, values_under, lets_under, applied_under, apply_under, gives_sited, then_sited_lets, then_sited_body, eval_under, eval_all_under, eval_lets_under}
use Rattle.model.specs.rules.Typed.{TypedExpr, make_term, make_var, make_bool, make_int, make_prim, make_let, TypedExprs, no_typed_expr, typed_expr_and, TypedLets, no_typed_let, typed_let_and}
use Rattle.model.specs.sites.Sites.{SiteTerms}
use Rattle.model.specs.sites.DemandedGates.{IsPureExpr, ArePureExprs, ArePureLets}
use Rattle.laws_sites.proofs.SameExprs.{from_let, from_term, from_args, from_body}
use Rattle.laws_sites.proofs.Patterns.{term_known}

module _ (p : Program) (m : Meaning) (k : Pick) where
  -- a term that can be called by a pure expression is known
  abbrev with_value : Kind → ℕ → SiteTerms → Option Values → Option Value
  with_value c t ss o = then_option o (λ vs. term_under c m k t ss vs)

  applied_pure : (c : Kind) (t : ℕ) (ss : SiteTerms) (o : Option Values) → (flags_of c).pure ≡ true → (c ≡ unknown → ⊥) → applied_under c m k t ss o [] ≡ gives (with_value c t ss o) []
  applied_pure c t ss o h n = grind (arith, common_steps)

  apply_pure : (c : Kind) (t : ℕ) (ss : SiteTerms) (o : Option Values) (a : EvalAll) → a ≡ gives_all o [] → (flags_of c).pure ≡ true → (c ≡ unknown → ⊥) → apply_under c m k t ss a ≡ gives (with_value c t ss o) []
  apply_pure c t ss o a e h n = ap (apply_under c m k t ss) e ∙ applied_pure c t ss o h n

  mutual
    pub pure_runs : (x : TypedExpr) (vars : List (ℕ × ℕ)) (e : SitedVars) → is_formed_expr p x vars ≡ true → IsPureExpr p x → eval_under p m k x e [] ≡ gives (value_under p m k x e) []
    pure_runs (make_term ty t args) vars e f y = grind (arith, common_steps, all_run args, from_term, apply_pure, term_known)
    pure_runs (make_var ty x) vars e f y = refl
    pure_runs (make_bool ty b) vars e f y = refl
    pure_runs (make_int ty z) vars e f y = refl
    pure_runs (make_prim ty name) vars e f y = refl
    pure_runs (make_let ty ds body) vars e f y =
        let a = from_body p ty ds body vars f in
        ap (λ l. then_sited_body l (λ e' calls. eval_under p m k body e' calls)) (lets_run ds vars a.0 e a.1 y.0)
        ∙ pure_runs body a.0 (lets_under p m k ds e) a.3 y.1

    all_run : (xs : TypedExprs) (tys : List ℕ) (vars : List (ℕ × ℕ)) (e : SitedVars) → are_formed_args p xs tys vars ≡ true → ArePureExprs p xs → eval_all_under p m k xs e [] ≡ gives_all (values_under p m k xs e) []
    all_run no_typed_expr tys vars e f y = refl
    all_run (typed_expr_and x xs) [] vars e f y = absurd (false≢true f)
    all_run (typed_expr_and x xs) (ty ∷ tys) vars e f y = grind (arith, common_steps, pure_runs x vars e, all_run xs tys vars e, from_args)

    lets_run : (ds : TypedLets) (vars more : List (ℕ × ℕ)) (e : SitedVars) → formed_lets p ds vars ≡ Some more → ArePureLets p ds → eval_lets_under p m k ds e [] ≡ gives_sited (lets_under p m k ds e) []
    lets_run no_typed_let vars more e f y = refl
    lets_run (typed_let_and x ty value rest) vars more e f y =
        let a = from_let p x ty value rest vars more f in
        ap (λ o. then_sited_lets o (λ v calls. eval_lets_under p m k rest ((x, sited (expr_site p value e 0) v) ∷ e) calls)) (pure_runs value vars e a.1 y.0)
        ∙ lets_run rest ((x, ty) ∷ vars) more ((x, sited (expr_site p value e 0) (value_under p m k value e)) ∷ e) a.3 y.1

-- Which limit stops a step of an expression first.
use Rattle.std.proofs.Common.{◌≡◌, ℕ, zero, suc, ◌+◌, Bool, true, false, cond, eqb, nat_le, List, [], ◌∷◌, length, Option, Some, None, option_map, refl, ap, ◌∙◌, arith}
use Rattle.std.proofs.lemmas.Grind.{common_steps}
use Rattle.model.specs.lists.Syntax.{Position, Name, ExprTree, term_expr, var_expr, let_expr, ExprTrees, expr_and, LetTrees, no_let, let_and}
use Rattle.model.specs.rules.Outcome.{then_option}
use Rattle.model.specs.rules.Typed.{TypedExpr, make_term, make_var, TypedLets, TypedVar}
use Rattle.model.specs.lists.Tables.{Flags, TermKindEntry, TermEntry}
use Rattle.model.specs.lists.Setting.{Setting, Scope, met, term_of, type_of_name, is_expected, is_callable}
use Rattle.model.specs.lists.Typings.{Typing}
use Rattle.model.specs.lists.Expansions.{wrapped_expr}
use Rattle.model.specs.lists.Elaborated.{as_expected, expr_with, lets_with, bound_let, deeper_expr, most_expansions}
use Rattle.model.specs.claims.Refusals.{NamedLimit, of_expansions}
use Rattle.laws_errors.specs.AllMade.{made_kind, made_entry, all_made}
use Rattle.laws_errors.specs.Steps.{Why, variable_type, Step, stopped, unless, here, noting, made_step, counted_step, last_made}
use Rattle.laws_errors.specs.ExprSteps.{expr_list, expected_step, forbidden, called_step, used_step, made_constant_step, with_arg, with_def, let_step, ended_step, expr_step, args_step, lets_step, deeper_expr_step}
use Rattle.laws_errors.specs.ReachedLimits.{or_after, where_counted, expr_limit, args_limit, lets_limit, deeper_expr_limit}
use Rattle.laws_errors.specs.LimitLaws.{first_limit, ExprLimitsAreFirst}
use Rattle.laws_errors.proofs.MadeSettings.{term_made, converter_made}
use Rattle.laws_errors.proofs.ExprDepths.{let_agrees, expr_steps_agree_at_depths_lem, lets_agree_at_depths_lem}
use Rattle.laws_errors.proofs.FirstLimits.{first_noted, first_none, first_counted, first_at_depths, leaf_first}

allowed_first : {X : Type 0} (flags : Flags) (name : List ℕ) (at : Position) (kind : TermKindEntry) (t : Step X) → first_limit (noting (forbidden flags name at kind) t) ≡ cond (is_callable flags (made_kind kind)) (first_limit t) None
allowed_first flags name at kind t = grind (arith, common_steps)

expected_first : (e : Setting) (own : ℕ) (ty : Option ℕ) (at : Position) (s : Scope) (why : Why) (t : Step TypedExpr) (l : Option NamedLimit) (convert : TermEntry → Step TypedExpr) (limit : TermEntry → Option NamedLimit)
    → first_limit t ≡ l → ((c : TermEntry) → first_limit (convert c) ≡ limit (made_entry c))
    → first_limit (expected_step e own ty at s (noting (unless (is_expected ty own) why at) t) convert) ≡ as_expected (all_made e) own ty l limit
expected_first e own ty at s why t l convert limit h i = grind (arith, common_steps, first_none, converter_made, first_noted)

constant_first : (ty : Option ℕ) (x : List ℕ) (at : Position) (s : Scope) (o : Option ℕ) → first_limit (made_constant_step ty x at s o) ≡ None
constant_first ty x at s o = grind (arith, common_steps)

first_ended : (defs : TypedLets) (t : Step TypedExpr) → first_limit (ended_step defs t) ≡ first_limit t
first_ended defs t = grind (arith, common_steps)

let_first : (x ty : List ℕ) (at : Position) (s : Scope) (value : ℕ → Step TypedExpr) (reading : ℕ → Option (Typing TypedExpr)) (o : Option ℕ) (rest : Typing (TypedLets → TypedLets) → Option NamedLimit)
    → or_after (first_limit (let_step x ty at s value o)) (then_option o (λ own. bound_let x own (reading own))) rest ≡ then_option o (λ own. or_after (first_limit (value own)) (bound_let x own (reading own)) rest)
let_first x ty at s value reading o rest = grind (arith, common_steps)

same_then : (o : Option ℕ) (f g : ℕ → Option NamedLimit) → ((own : ℕ) → f own ≡ g own) → then_option o f ≡ then_option o g
same_then o f g h = grind (arith, common_steps)

module _ (e : Setting) (flags : Flags) (d : ℕ)
    (deeper : (x : ExprTree) (ty : Option ℕ) (n : ℕ) (s : Scope) → first_limit (deeper_expr_step e flags d x ty n s) ≡ deeper_expr_limit (all_made e) flags d x ty n s) where
  abbrev AreArgsFirst : ExprTrees → ℕ → Scope → Type 0
  AreArgsFirst args n s = (tys : List ℕ) → length (expr_list args) ≡ length tys
      → first_limit (args_step e flags (deeper_expr_step e flags d) args tys n s) ≡ args_limit (all_made e) flags (deeper_expr (all_made e) flags d) (deeper_expr_limit (all_made e) flags d) args tys n s

  counted_first : (args : ExprTrees) (at : Position) (n : ℕ) (s : Scope) (t : TermEntry) (why : Why) → AreArgsFirst args n s → (b : Bool) → eqb (length (expr_list args)) (length t.arg_tys) ≡ b
      → first_limit (noting (unless b why at) (made_step (make_term t.ret_ty t.id) (args_step e flags (deeper_expr_step e flags d) args t.arg_tys n s)))
      ≡ cond b (args_limit (all_made e) flags (deeper_expr (all_made e) flags d) (deeper_expr_limit (all_made e) flags d) args t.arg_tys n s) None
  counted_first args at n s t why parts h i = grind (arith, common_steps)

  called_first : (name : Name) (args : ExprTrees) (at : Position) (ty : Option ℕ) (n : ℕ) (s : Scope) → AreArgsFirst args n s → (o : Option TermEntry)
      → first_limit (called_step e flags (deeper_expr_step e flags d) name args at ty n s (λ tys. args_step e flags (deeper_expr_step e flags d) args tys n s) o)
      ≡ then_option (option_map made_entry o) (λ t. as_expected (all_made e) t.ret_ty ty
      (cond (is_callable flags t.kind) (where_counted (length (expr_list args)) (length t.arg_tys) (args_limit (all_made e) flags (deeper_expr (all_made e) flags d) (deeper_expr_limit (all_made e) flags d) args t.arg_tys n s)) None)
      (λ c. deeper_expr_limit (all_made e) flags d (wrapped_expr s c at (term_expr name args at)) ty n s))
  called_first name args at ty n s parts h = grind (arith, common_steps, expected_first, allowed_first, counted_first)

  used_first : (name : Name) (at : Position) (ty : Option ℕ) (n : ℕ) (s : Scope) → (o : Option TypedVar)
      → first_limit (used_step e (deeper_expr_step e flags d) name at ty n s o)
      ≡ then_option o (λ v. as_expected (all_made e) v.ty ty None (λ c. deeper_expr_limit (all_made e) flags d (wrapped_expr s c at (var_expr name at)) ty n s))
  used_first name at ty n s None = refl
  used_first name at ty n s (Some v) = expected_first e v.ty ty at s (variable_type name.text ty v.ty) (here (make_var v.ty v.id) s) None _ _ refl (λ c. deeper (wrapped_expr s c at (var_expr name at)) ty n s)

  mutual
    pub first : (x : ExprTree) (ty : Option ℕ) (n : ℕ) (s : Scope)
        → first_limit (expr_step e flags (deeper_expr_step e flags d) x ty n s) ≡ expr_limit (all_made e) flags (deeper_expr (all_made e) flags d) (deeper_expr_limit (all_made e) flags d) x ty n s
    first (term_expr name args at) ty n s = rw (term_made e s name.text (term_of e s name.text) refl) (called_first name args at ty n s (λ tys h. args_first args tys n s h) (term_of e s name.text))
    first (let_expr defs body at) ty n s =
        first_at_depths n d last_made _ (λ c. lets_with (all_made e) flags (deeper_expr (all_made e) flags c) defs s) _ _ (lets_agree_at_depths_lem e flags d defs at n s) (λ a. first_ended a.made _ ∙ first body ty (n + a.expansions) a.scope)
        ∙ ap (λ l. or_after l (lets_with (all_made e) flags (deeper_expr (all_made e) flags d) defs s) (λ a. expr_limit (all_made e) flags (deeper_expr (all_made e) flags d) (deeper_expr_limit (all_made e) flags d) body ty (n + a.expansions) a.scope)) (lets_first defs at n s)
    first x ty n s = grind (arith, common_steps, used_first, leaf_first, constant_first)

    args_first : (args : ExprTrees) (tys : List ℕ) (n : ℕ) (s : Scope) → length (expr_list args) ≡ length tys
        → first_limit (args_step e flags (deeper_expr_step e flags d) args tys n s) ≡ args_limit (all_made e) flags (deeper_expr (all_made e) flags d) (deeper_expr_limit (all_made e) flags d) args tys n s
    args_first (expr_and x rest) (ty ∷ tys) n s h =
        first_at_depths n d with_arg _ (λ c. expr_with (all_made e) flags (deeper_expr (all_made e) flags c) x (Some ty) s) _ _ (expr_steps_agree_at_depths_lem e flags d x (Some ty) n s) (λ a. args_first rest tys (n + a.expansions) a.scope (omega (arith, h)))
        ∙ ap (λ l. or_after l (expr_with (all_made e) flags (deeper_expr (all_made e) flags d) x (Some ty) s) (λ a. args_limit (all_made e) flags (deeper_expr (all_made e) flags d) (deeper_expr_limit (all_made e) flags d) rest tys (n + a.expansions) a.scope)) (first x (Some ty) n s)
    args_first args tys n s h = refl

    lets_first : (defs : LetTrees) (at : Position) (n : ℕ) (s : Scope)
        → first_limit (lets_step e flags (deeper_expr_step e flags d) defs at n s) ≡ lets_limit (all_made e) flags (deeper_expr (all_made e) flags d) (deeper_expr_limit (all_made e) flags d) defs n s
    lets_first no_let at n s = refl
    lets_first (let_and name ty value own_at rest) at n s =
        first_at_depths n d with_def _ (λ c. then_option (type_of_name e s ty.text) (λ own. bound_let name.text own (expr_with (all_made e) flags (deeper_expr (all_made e) flags c) value (Some own) (met s name.text)))) _ _
        (let_agrees n d name.text ty.text at s _ (λ c own. expr_with (all_made e) flags (deeper_expr (all_made e) flags c) value (Some own) (met s name.text)) (type_of_name e s ty.text)
        (λ own. expr_steps_agree_at_depths_lem e flags d value (Some own) n (met s name.text)))
        (λ a. lets_first rest at (n + a.expansions) a.scope)
        ∙ let_first name.text ty.text at s _ (λ own. expr_with (all_made e) flags (deeper_expr (all_made e) flags d) value (Some own) (met s name.text)) (type_of_name e s ty.text)
        (λ a. lets_limit (all_made e) flags (deeper_expr (all_made e) flags d) (deeper_expr_limit (all_made e) flags d) rest (n + a.expansions) a.scope)
        ∙ same_then (type_of_name e s ty.text) _ _ (λ own. grind (arith, common_steps, first value (Some own) n (met s name.text)))

-- what expansions make
pub deeper_first : (e : Setting) (flags : Flags) (d : ℕ) (x : ExprTree) (ty : Option ℕ) (n : ℕ) (s : Scope)
    → first_limit (deeper_expr_step e flags d x ty n s) ≡ deeper_expr_limit (all_made e) flags d x ty n s
deeper_first e flags zero x ty n s = refl
deeper_first e flags (suc d) x ty n s = elim (nat_le most_expansions n) as (λ b. first_limit
    (cond b (stopped of_expansions s []) (counted_step (expr_step e flags (deeper_expr_step e flags d) x ty (suc n) s)))
    ≡ cond b (Some of_expansions) (expr_limit (all_made e) flags (deeper_expr (all_made e) flags d) (deeper_expr_limit (all_made e) flags d) x ty (suc n) s)) [
      | true ↦ refl
      | false ↦ first_counted _ ∙ first e flags d (deeper_first e flags d) x ty (suc n) s
    ]

pub expr_limits_are_first_lem : ExprLimitsAreFirst
expr_limits_are_first_lem e flags d x ty n s = first e flags d (deeper_first e flags d) x ty n s

-- What elaboration does to a scope, and of what type it makes patterns and expressions.
use Rattle.std.proofs.Common.{◌≡◌, ℕ, Bool, true, false, cond, List, [], ◌∷◌, ◌++◌, Option, Some, slice_get, refl, sym, ap, ◌∙◌, ⊎_elim, arith}
use Rattle.std.proofs.lemmas.Grind.{common_steps}
use Rattle.std.proofs.lemmas.Bool.Decides.{Decides-eqb}
use Rattle.std.proofs.lemmas.Option.{same_Some, none-some}
use Rattle.model.specs.lists.Syntax.{RuleTree, Name, PatternTree, PatternTrees, ExprTree, ExprTrees, LetTrees, IfLetTree}
use Rattle.model.specs.lists.Names.{has_name, with_name, IsDistinct}
use Rattle.model.specs.lists.Tables.{Flags}
use Rattle.model.specs.rules.Typed.{TypedRule, TypedPattern, TypedPatterns, TypedExpr, TypedExprs, TypedLets, TypedVar, TypedIfLet}
use Rattle.model.specs.lists.Setting.{Setting, Scope, met, bound, after_let, expr_type, on_lhs, is_expected, bool_type}
use Rattle.model.specs.lists.Elaborated.{with_own_name}
use Rattle.model.specs.lists.Elaborates.{ElaboratesRules, no_rule, one_rule, ElaboratesPattern, ElaboratesParts, ElaboratesEach, binding, a_term, a_template, a_conversion, all_of, no_part, part, no_more, one_more, ElaboratesExpr, ElaboratesArgs, ElaboratesLets, a_call, converted_call, a_variable, converted_variable, truth_expr, integer_expr, constant_expr, let_in, no_arg, an_arg, no_def, a_def, ElaboratesIfLets, no_iflet, an_iflet, a_rule}
use Rattle.model.specs.lists.Formed.{pattern_type}
use Rattle.laws_typing.specs.TypingResults.{TypesAreExpected, VariablesAtPlaces, NamesStay, NamesStayInLists}
use Rattle.std.proofs.lemmas.List.{append-nil, append_assoc}
use Rattle.model.proofs.Names.{absent}
use Rattle.model.proofs.Positions.{distinct_push, get_push_cases}

-- what may happen to a scope: names are met and bound, and lets are after_let
data Reaches (s : Scope) : Scope → Type 0 where
  stays : Reaches s s
  then_met : {t : Scope} (x : List ℕ) → Reaches s t → Reaches s (met t x)
  then_bound : {t : Scope} (x : List ℕ) (ty : ℕ) → Reaches s t → Reaches s (bound t x ty)
  then_closed : {t : Scope} (before : Scope) → Reaches s t → Reaches s (after_let before t)

on : {s t u : Scope} → Reaches s t → Reaches t u → Reaches s u
on a stays = a
on a (then_met x b) = then_met x (on a b)
on a (then_bound x ty b) = then_bound x ty (on a b)
on a (then_closed before b) = then_closed before (on a b)

module _ (e : Setting) (multi : Bool) where
  mutual
    pattern_reaches : {d ty n : ℕ} {p : PatternTree} {s t : Scope} {q : TypedPattern} → ElaboratesPattern e multi d p ty s q t n → Reaches s t
    pattern_reaches (binding {ty = ty} {name = name} g h) = then_bound name.text ty (pattern_reaches g)
    pattern_reaches (a_term h i j k g) = parts_reach g
    pattern_reaches (a_template h i j k g) = pattern_reaches g
    pattern_reaches (a_conversion h i j g) = pattern_reaches g
    pattern_reaches (all_of g) = each_reaches g
    pattern_reaches h = grind (arith, common_steps, then_bound, stays)

    parts_reach : {d n : ℕ} {tys : List ℕ} {ps : PatternTrees} {s t : Scope} {qs : TypedPatterns} → ElaboratesParts e multi d ps tys s qs t n → Reaches s t
    parts_reach no_part = stays
    parts_reach (part g h) = on (pattern_reaches g) (parts_reach h)

    each_reaches : {d ty n : ℕ} {ps : PatternTrees} {s t : Scope} {qs : TypedPatterns} → ElaboratesEach e multi d ps ty s qs t n → Reaches s t
    each_reaches no_more = stays
    each_reaches (one_more g h) = on (pattern_reaches g) (each_reaches h)

  pub pattern_at_type : {d ty n : ℕ} {p : PatternTree} {s t : Scope} {q : TypedPattern} → ElaboratesPattern e multi d p ty s q t n → pattern_type q ≡ ty
  pattern_at_type (a_template h i j k g) = pattern_at_type g
  pattern_at_type (a_conversion h i j g) = pattern_at_type g
  pattern_at_type h = grind (arith, common_steps)

module _ (e : Setting) (flags : Flags) where
  mutual
    expr_reaches : {d n : ℕ} {ty : Option ℕ} {x : ExprTree} {s t : Scope} {q : TypedExpr} → ElaboratesExpr e flags d x ty s q t n → Reaches s t
    expr_reaches (a_call h i j g) = args_reach g
    expr_reaches (converted_call h i j g) = expr_reaches g
    expr_reaches (converted_variable h i j g) = expr_reaches g
    expr_reaches (let_in {s = s} g h) = then_closed s (on (lets_reach g) (expr_reaches h))
    expr_reaches h = grind (arith, common_steps, stays)

    args_reach : {d n : ℕ} {tys : List ℕ} {xs : ExprTrees} {s t : Scope} {qs : TypedExprs} → ElaboratesArgs e flags d xs tys s qs t n → Reaches s t
    args_reach no_arg = stays
    args_reach (an_arg g h) = on (expr_reaches g) (args_reach h)

    lets_reach : {d n : ℕ} {ls : LetTrees} {s t : Scope} {ds : TypedLets} → ElaboratesLets e flags d ls s ds t n → Reaches s t
    lets_reach no_def = stays
    lets_reach (a_def {own = own} {name = name} h g i) = on (then_bound name.text own (on (then_met name.text stays) (expr_reaches g))) (lets_reach i)

  -- where a type is expected, the expression has it
  pub expr_at_type : {d ty n : ℕ} {o : Option ℕ} {x : ExprTree} {s t : Scope} {q : TypedExpr} → o ≡ Some ty → ElaboratesExpr e flags d x o s q t n → expr_type q ≡ ty
  expr_at_type {ty = ty} o (a_call {entry = entry} h i j g) = (Decides-eqb entry.ret_ty ty).0 (sym (ap (λ v. is_expected v entry.ret_ty) o) ∙ i)
  expr_at_type o (converted_call h i j g) = expr_at_type o g
  expr_at_type {ty = ty} o (a_variable {v = v} h i) = (Decides-eqb v.ty ty).0 (sym (ap (λ w. is_expected w v.ty) o) ∙ i)
  expr_at_type o (converted_variable h i j g) = expr_at_type o g
  expr_at_type {ty = ty} o (truth_expr h) = (Decides-eqb bool_type ty).0 (sym (ap (λ w. is_expected w bool_type) o) ∙ h)
  expr_at_type o (integer_expr h) = same_Some _ _ o
  expr_at_type {ty = ty} o (constant_expr {own = own} h i) = (Decides-eqb own ty).0 (sym (ap (λ w. is_expected w own) o) ∙ i)
  expr_at_type o (let_in g h) = expr_at_type o h

pub types_are_expected : TypesAreExpected
types_are_expected = (λ e multi d p ty s q t n g. pattern_at_type e multi g, λ e flags d x ty s q t n g. expr_at_type e flags refl g)

iflets_reach : (e : Setting) (flags : Flags) {d n : ℕ} {is : List IfLetTree} {s t : Scope} {qs : List TypedIfLet} → ElaboratesIfLets e flags d is s qs t n → Reaches s t
iflets_reach e flags no_iflet = stays
iflets_reach e flags (an_iflet g h i) = on (expr_reaches e (on_lhs flags) g) (on (pattern_reaches e flags.multi h) (iflets_reach e flags i))

-- variables at their places
abbrev AtPlaces : List TypedVar → Type 0
AtPlaces vars = (k : ℕ) (v : TypedVar) → slice_get vars k ≡ Some v → v.id ≡ k

at_places : {s t : Scope} → Reaches s t → AtPlaces s.vars → AtPlaces t.vars
at_places stays a = a
at_places (then_met x g) a = at_places g a
at_places (then_bound {t = t} x ty g) a = λ k v h. ⊎_elim (λ i. at_places g a k v i) (λ i. sym (ap (λ (w : TypedVar). w.id) i.1) ∙ sym i.0) (get_push_cases t.vars _ v k h)
at_places (then_closed before g) a = at_places g a

-- names
abbrev Follows : List (List ℕ) → List (List ℕ) → Type 0
Follows names after = ((more : List (List ℕ)) × (after ≡ names ++ more)) × (IsDistinct names → IsDistinct after)

one_met : (names : List (List ℕ)) (x : List ℕ) → Follows names (with_name names x)
one_met names x =
    elim (has_name names x) as (λ b. has_name names x ≡ b → Follows names (cond b names (names ++ x ∷ []))) [
      | true ↦ λ _. (([], sym (append-nil names)), λ d. d)
      | false ↦ λ new. ((x ∷ [], refl), λ d. distinct_push names x d (absent names x new))
    ] refl

both_follow : (names mid after : List (List ℕ)) → Follows names mid → Follows mid after → Follows names after
both_follow names mid after a b = ((a.0.0 ++ b.0.0, b.0.1 ∙ ap (λ l. l ++ b.0.0) a.0.1 ∙ append_assoc names a.0.0 b.0.0), λ d. b.1 (a.1 d))

names_follow : {s t : Scope} → Reaches s t → Follows s.names t.names
names_follow {s} stays = (([], sym (append-nil s.names)), λ d. d)
names_follow {s} (then_met {t = t} x g) = both_follow s.names t.names (with_name t.names x) (names_follow g) (one_met t.names x)
names_follow {s} (then_bound {t = t} x ty g) = both_follow s.names t.names (with_name t.names x) (names_follow g) (one_met t.names x)
names_follow (then_closed before g) = names_follow g

own_reaches : (name : Option Name) {s t : Scope} → Reaches s t → Reaches s (with_own_name name t)
own_reaches name g = grind (arith, common_steps, then_met)

pub variables_at_places : VariablesAtPlaces
variables_at_places e d id r names q t n (a_rule {flags = flags} h i j k f g x) = grind (arith, common_steps, at_places, on, parts_reach, iflets_reach, expr_reaches, none-some)

pub names_stay : NamesStay
names_stay e d id r names q t n (a_rule {flags = flags} h i j k f g x) =
    names_follow (own_reaches r.name (on (parts_reach e flags.multi f) (on (iflets_reach e flags g) (expr_reaches e flags x))))

lists_follow : (e : Setting) {id : ℕ} {rs : List RuleTree} {names after : List (List ℕ)} {qs : List TypedRule} → ElaboratesRules e id rs names qs after → Follows names after
lists_follow e (one_rule {id = id} {n = n} {r = r} {names = names} {after = after} {q = q} {t = t} g h i) = grind (arith, common_steps, lists_follow e i, both_follow, names_stay)
lists_follow e (no_rule {names = names}) = (([], sym (append-nil names)), λ d. d)

pub names_stay_in_lists : NamesStayInLists
names_stay_in_lists e id rs names qs after g = lists_follow e g

-- No rule of a program whose rules can be told apart passes a limit.
use Rattle.std.proofs.Common.{◌≡◌, ℕ, zero, suc, ◌≤◌, ◌==◌, Bool, true, not, List, [], ◌∷◌, ◌++◌, map, length, take, filter, Option, Some, is_none, slice_get, refl, sym, ap, ◌∙◌, subst, inl, inr, arith, eq-eqb}
use Rattle.std.proofs.lemmas.Bool.{cases_Bool, cond-true, cond-false, and_parts}
use Rattle.std.proofs.lemmas.List.{length-map}
use Rattle.std.proofs.lemmas.Grind.{common_steps}
use Rattle.model.specs.rules.Typed.{TypedRule}
use Rattle.model.specs.rules.Program.{Program, rules_of}
use Rattle.model.specs.sites.Sites.{SiteTerm}
use Rattle.model.specs.visits.Demands.{demands_of}
use Rattle.model.specs.sites.Closure.{is_unreachable}
use Rattle.model.specs.sites.Limits.{first_limit, sites_after_rule, sites_after_rules}
use Rattle.model.specs.sites.Overlap.{BuiltRule, is_built, built_rule, built_from}
use Rattle.model.specs.claims.Refusals.{rule_passes}
use Rattle.model.proofs.Elements.{some_is, none_some}
use Rattle.laws_sites.proofs.LimitsPassed.{passed_limit_is_met_lem}
use Rattle.laws_trees.specs.NoLimits.{CheckableProgramsPassNoLimit}

abbrev typed_of : BuiltRule → TypedRule
typed_of b = b.rule

module _ (p : Program) where
  -- there are no more built rules than rules
  few_built : (before : List SiteTerm) (rs : List TypedRule) → length (built_from p before rs) ≤ length rs
  few_built before [] = omega arith
  few_built before (r ∷ rs) = grind (arith, common_steps, few_built (sites_after_rule p before r) rs)

  tail_is : (x y : TypedRule) (xs ys : List TypedRule) → ◌≡◌ {A = List TypedRule} (x ∷ xs) (y ∷ ys) → xs ≡ ys
  tail_is x y xs ys e = ap (λ l. elim l [ [] ↦ [] | z ∷ zs ↦ zs ]) e

  -- where all rules are built, the first one is, and so are the others
  head_built : (before : List SiteTerm) (r : TypedRule) (rs : List TypedRule) → map typed_of (built_from p before (r ∷ rs)) ≡ r ∷ rs
      → (is_built p before r ≡ true) × (map typed_of (built_from p (sites_after_rule p before r) rs) ≡ rs)
  head_built before r rs h =
      let rest = built_from p (sites_after_rule p before r) rs in
      elim (cases_Bool (is_built p before r)) [
        | inl t ↦
            let e = ap (λ (l : List BuiltRule). map typed_of (l ++ rest)) (cond-true (is_built p before r) (built_rule p before r ∷ []) [] t) in
            (t, tail_is r r (map typed_of rest) rs (sym e ∙ h))
        | inr f ↦
            let e = ap (λ (l : List BuiltRule). map typed_of (l ++ rest)) (cond-false (is_built p before r) (built_rule p before r ∷ []) [] f) in
            let n : length (map typed_of rest) ≡ suc (length rs) = ap length (sym e ∙ h) in
            let m = length-map rest typed_of in
            let k = few_built (sites_after_rule p before r) rs in
            absurd (omega arith)
      ]

  each_built : (before : List SiteTerm) (xs ys : List TypedRule) (r : TypedRule) → map typed_of (built_from p before (xs ++ r ∷ ys)) ≡ xs ++ r ∷ ys → is_built p (sites_after_rules p before xs) r ≡ true
  each_built before [] ys r h = (head_built before r ys h).0
  each_built before (x ∷ xs) ys r h = each_built (sites_after_rule p before x) xs ys r (head_built before x (xs ++ r ∷ ys) h).1

split_at : (rs : List TypedRule) (i : ℕ) (r : TypedRule) → slice_get rs i ≡ Some r → (ys : List TypedRule) × (rs ≡ take i rs ++ r ∷ ys)
split_at [] i r e = absurd (none_some r e)
split_at (x ∷ xs) zero r e = (xs, ap (λ y. y ∷ xs) (some_is x r e))
split_at (x ∷ xs) (suc i) r e = (let s = split_at xs i r e in (s.0, ap (λ l. x ∷ l) s.1))

filter_split : (f : TypedRule → Bool) (xs ys : List TypedRule) (r : TypedRule) → f r ≡ true → filter f (xs ++ r ∷ ys) ≡ filter f xs ++ r ∷ filter f ys
filter_split f [] ys r t = cond-true (f r) (r ∷ filter f ys) (filter f ys) t
filter_split f (x ∷ xs) ys r t = grind (arith, common_steps, filter_split f xs ys r t)

none_met : {X : Type 0} (o : Option X) (x : X) → is_none o ≡ true → o ≡ Some x → ⊥
none_met o x h e = grind (arith, common_steps, none_some)

pub checkable_programs_pass_no_limit_lem : CheckableProgramsPassNoLimit
checkable_programs_pass_no_limit_lem p check _ _ (rule_passes i r l h passes) =
    let f : TypedRule → Bool = λ q. q.root_term == r.root_term in
    let s = split_at p.rules i r h in
    let xs = filter f (take i p.rules) in
    let ys = filter f s.0 in
    let e : rules_of p r.root_term ≡ xs ++ r ∷ ys = ap (filter f) s.1 ∙ filter_split f (take i p.rules) s.0 r (eq-eqb r.root_term r.root_term refl) in
    let b = each_built p [] xs ys r (subst (λ rs. map typed_of (built_from p [] rs) ≡ rs) e (check.built r.root_term)) in
    let n = (and_parts (is_none (first_limit p (sites_after_rules p [] xs) r)) (not (is_unreachable (demands_of p r))) b).0 in
    let m = passed_limit_is_met_lem p (sites_after_rules p [] xs) r l passes in
    none_met (first_limit p (sites_after_rules p [] xs) r) m.0 n m.1

-- What the run of a pattern that hangs together binds can be used after it.
use Rattle.std.proofs.Common.{◌≡◌, ◌⊎◌, ℕ, ◌==◌, true, List, ◌∷◌, Option, Some, is_some, Ok, sym, ap, subst, inl, inr, ⊎_elim, arith}
use Rattle.std.proofs.lemmas.Grind.{common_steps}
use Rattle.model.specs.lists.Formed.{pattern_type, var_type, with_new, formed_pattern, formed_parts, formed_each}
use Rattle.model.specs.rules.Outcome.{then_option}
use Rattle.model.specs.rules.Program.{Program}
use Rattle.model.specs.rules.Typed.{TypedPattern, match_bind, match_var, match_bool, match_int, match_prim, match_term, match_any, match_and, TypedPatterns, no_typed_pattern, typed_pattern_and}
use Rattle.model.specs.visits.Runs.{BoundIds, bound_at, with_bound}
use Rattle.model.specs.visits.Visitors.{PatternSteps}
use Rattle.model.specs.visits.PatternRuns.{PatternRun, PartsRun, EachRun}
use Rattle.model.proofs.Elements.{none_some, some_is}
use Rattle.model.proofs.Options.{then_some}
use Rattle.laws_sites.proofs.Patterns.{from_new}
use Rattle.laws_typing.proofs.FormedParts.{from_if}
use Rattle.laws_sites.proofs.KnownVars.{InScope, bound_once, no_fault, refusal}

-- what is bound can be used, but for some variables
abbrev InScopeBut : {N : Type 0} → (ℕ → Type 0) → BoundIds N → List (ℕ × ℕ) → Type 0
InScopeBut {N} K vs vars = (y : ℕ) (n : N) → bound_at vs y ≡ Some n → (is_some (var_type vars y) ≡ true) ⊎ K y

module _ {N : Type 0} (K : ℕ → Type 0) where
  but_more : (vs : BoundIds N) (vars : List (ℕ × ℕ)) (x : ℕ) (n : N) → InScopeBut K vs vars → InScopeBut (λ y. K y ⊎ ((x == y) ≡ true)) (with_bound vs x n) vars
  but_more vs vars x n scope y m e = grind (arith, common_steps, bound_once)

  but_less : (vs : BoundIds N) (vars : List (ℕ × ℕ)) (x ty : ℕ) → InScopeBut (λ y. K y ⊎ ((x == y) ≡ true)) vs vars → InScopeBut K vs ((x, ty) ∷ vars)
  but_less vs vars x ty scope y m e = grind (arith, common_steps)

  alike : (vs ws : BoundIds N) (vars more : List (ℕ × ℕ)) → ws ≡ vs → vars ≡ more → InScopeBut K vs vars → InScopeBut K ws more
  alike vs ws vars more e f scope = subst (λ l. InScopeBut K l more) (sym e) (subst (InScopeBut K vs) f scope)

module _ {F S N : Type 0} (want : Option F) (v : PatternSteps F S N) (p : Program) where
  mutual
    binds_in_scope : (K : ℕ → Type 0) (q : TypedPattern) (n : N) (s t : S × BoundIds N) (vars more : List (ℕ × ℕ)) → formed_pattern p q vars ≡ Some more → PatternRun want v p.terms q n s (Ok tt) t
        → InScopeBut K s.1 vars → InScopeBut K t.1 more
    binds_in_scope K (match_bind ty x of) n s t vars more f run scope =
        ⊎_elim
        (λ r.
        let a = from_if (pattern_type of == ty) (then_option (formed_pattern p of vars) (with_new x ty)) more f in
        let b = then_some (formed_pattern p of vars) (with_new x ty) more a.1 in
        let same : r.1.1 ≡ with_bound s.1 x n = ⊎_elim (λ c. c.1) (λ c. let d = refusal want s.1 (Ok r.0) r.1.1 c in absurd (no_fault r.0 d.0 d.2)) r.2.0 in
        let now = alike (λ y. K y ⊎ ((x == y) ≡ true)) (with_bound s.1 x n) r.1.1 vars vars same (λ i. vars) (but_more K s.1 vars x n scope) in
        let later = binds_in_scope (λ y. K y ⊎ ((x == y) ≡ true)) of n r.1 t vars b.0 b.1 r.3 now in
        subst (InScopeBut K t.1) (from_new x ty b.0 more b.2).1 (but_less K t.1 b.0 x ty later))
        (λ e. absurd (no_fault tt e.0 e.2)) run
    binds_in_scope K (match_var ty x) n s t vars more f run scope = grind (arith, common_steps, alike, some_is, from_if, no_fault)
    binds_in_scope K (match_bool ty b) n s t vars more f run scope = alike K s.1 t.1 vars more run.1 (some_is vars more (from_if _ (Some vars) more f).1) scope
    binds_in_scope K (match_int ty z) n s t vars more f run scope = alike K s.1 t.1 vars more run.1 (some_is vars more (from_if _ (Some vars) more f).1) scope
    binds_in_scope K (match_prim ty name) n s t vars more f run scope = alike K s.1 t.1 vars more run.1 (some_is vars more (from_if _ (Some vars) more f).1) scope
    binds_in_scope K (match_term ty term args) n s t vars more f run scope = grind (arith, common_steps, parts_in_scope K args, then_some, from_if, alike, no_fault)
    binds_in_scope K (match_any ty) n s t vars more f run scope = alike K s.1 t.1 vars more (ap (λ (z : S × BoundIds N). z.1) run.1) (some_is vars more f) scope
    binds_in_scope K (match_and ty parts) n s t vars more f run scope = each_in_scope K parts n s t ty vars more f run scope

    parts_in_scope : (K : ℕ → Type 0) (qs : TypedPatterns) (ids : List N) (s t : S × BoundIds N) (tys : List ℕ) (vars more : List (ℕ × ℕ)) → formed_parts p qs tys vars ≡ Some more → PartsRun want v p.terms qs ids s (Ok tt) t
        → InScopeBut K s.1 vars → InScopeBut K t.1 more
    parts_in_scope K (typed_pattern_and q rest) (id ∷ ids) s t (ty ∷ tys) vars more f run scope =
        ⊎_elim
        (λ r.
        let a = from_if (pattern_type q == ty) (then_option (formed_pattern p q vars) (λ ws. formed_parts p rest tys ws)) more f in
        let b = then_some (formed_pattern p q vars) (λ ws. formed_parts p rest tys ws) more a.1 in
        parts_in_scope K rest ids r.1 t tys b.0 more b.2 r.3 (binds_in_scope K q id s r.1 vars b.0 b.1 r.2 scope))
        (λ e. absurd (no_fault tt e.0 e.2)) run
    parts_in_scope K qs ids s t h vars more f run scope = grind (arith, common_steps, alike, some_is, none_some)

    each_in_scope : (K : ℕ → Type 0) (qs : TypedPatterns) (n : N) (s t : S × BoundIds N) (ty : ℕ) (vars more : List (ℕ × ℕ)) → formed_each p qs ty vars ≡ Some more → EachRun want v p.terms qs n s (Ok tt) t
        → InScopeBut K s.1 vars → InScopeBut K t.1 more
    each_in_scope K no_typed_pattern n s t ty vars more f run scope = alike K s.1 t.1 vars more (ap (λ (z : S × BoundIds N). z.1) run.1) (some_is vars more f) scope
    each_in_scope K (typed_pattern_and q rest) n s t ty vars more f run scope =
        ⊎_elim
        (λ r.
        let a = from_if (pattern_type q == ty) (then_option (formed_pattern p q vars) (λ ws. formed_each p rest ty ws)) more f in
        let b = then_some (formed_pattern p q vars) (λ ws. formed_each p rest ty ws) more a.1 in
        each_in_scope K rest n r.1 t ty b.0 more b.2 r.3 (binds_in_scope K q n s r.1 vars b.0 b.1 r.2 scope))
        (λ e. absurd (no_fault tt e.0 e.2)) run

  pub scope_after : (q : TypedPattern) (n : N) (s t : S × BoundIds N) (vars more : List (ℕ × ℕ)) → formed_pattern p q vars ≡ Some more → PatternRun want v p.terms q n s (Ok tt) t → InScope s.1 vars → InScope t.1 more
  scope_after q n s t vars more f run scope y m e = elim (binds_in_scope (λ y. ⊥) q n s t vars more f run (λ x k h. inl (scope x k h)) y m e) [ inl h ↦ h | inr h ↦ absurd h ]

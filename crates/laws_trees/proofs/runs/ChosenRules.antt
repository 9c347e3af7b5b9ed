-- The chosen rule is a matching one that no matching one is above.
use Rattle.std.proofs.Common.{◌≡◌, ℕ, ℤ, suc, true, false, List, [], ◌∷◌, Some, None, is_some, slice_get, IsTrue, refl, sym, ap, ◌∙◌, subst, inl, inr, arith, int_cmp, is_lt, ◌≤ℤ◌}
use Rattle.std.proofs.lemmas.Bool.{cases_Bool, cond-true, cond-false, both_ways}
use Rattle.std.proofs.lemmas.Int.{ints}
use Rattle.std.specs.Cmp.{int_ranks}
use Rattle.std.proofs.lemmas.Grind.{common_steps}
use Rattle.model.specs.rules.Values.{Value}
use Rattle.model.specs.rules.Meaning.{Meaning}
use Rattle.model.specs.rules.Program.{Program}
use Rattle.model.specs.rules.Typed.{TypedRule}
use Rattle.model.specs.rules.Matching.{matches}
use Rattle.model.specs.rules.Choice.{higher, chosen}
use Rattle.model.proofs.Elements.{In}
use Rattle.model.proofs.Priorities.{at_most, at_least}

pub one_number : (x y : ℤ) → x ≤ℤ y → y ≤ℤ x → x ≡ y
one_number x y a b = grind (arith, common_steps, ints)

pub through : (x y z : ℤ) → x ≤ℤ y → y ≤ℤ z → x ≤ℤ z
through x y z a b = omega (arith, ints)

abbrev pub MatchesWith : Program → Meaning → List Value → TypedRule → Type 0
MatchesWith p m args r = IsTrue (is_some (matches p m r args))

-- nothing chosen, and nothing matches; or this one is
pub data Chosen (p : Program) (m : Meaning) (rs : List TypedRule) (args : List Value) : Type 0 where
  no_match : chosen p m rs args ≡ None → ((q : TypedRule) → In rs q → MatchesWith p m args q → ⊥) → Chosen p m rs args
  matching : (r : TypedRule) (i : ℕ) → chosen p m rs args ≡ Some r → slice_get rs i ≡ Some r → MatchesWith p m args r → ((q : TypedRule) → In rs q → MatchesWith p m args q → q.prio ≤ℤ r.prio) → Chosen p m rs args

module _ (p : Program) (m : Meaning) (args : List Value) where
  itself : (z : ℤ) → z ≤ℤ z
  itself z = omega (arith, ints)

  pub passes : (r : TypedRule) (rs : List TypedRule) → is_some (matches p m r args) ≡ true → chosen p m (r ∷ rs) args ≡ higher r (chosen p m rs args)
  passes r rs t = cond-true (is_some (matches p m r args)) (higher r (chosen p m rs args)) (chosen p m rs args) t

  pub fails : (r : TypedRule) (rs : List TypedRule) → is_some (matches p m r args) ≡ false → chosen p m (r ∷ rs) args ≡ chosen p m rs args
  fails r rs f = cond-false (is_some (matches p m r args)) (higher r (chosen p m rs args)) (chosen p m rs args) f

  after_fail : (r : TypedRule) (rs : List TypedRule) → is_some (matches p m r args) ≡ false → Chosen p m rs args → Chosen p m (r ∷ rs) args
  after_fail r rs f (no_match e n) = no_match (fails r rs f ∙ e) (λ q i t. elim i [ inl g ↦ both_ways (is_some (matches p m r args)) f (subst (MatchesWith p m args) (sym g) t) | inr j ↦ n q j t ])
  after_fail r rs f (matching s i e at t n) =
      matching s (suc i) (fails r rs f ∙ e) at t (λ q j u. elim j [ inl g ↦ absurd (both_ways (is_some (matches p m r args)) f (subst (MatchesWith p m args) (sym g) u)) | inr k ↦ n q k u ])

  after_pass : (r : TypedRule) (rs : List TypedRule) → is_some (matches p m r args) ≡ true → Chosen p m rs args → Chosen p m (r ∷ rs) args
  after_pass r rs t (no_match e n) =
      matching r 0 (passes r rs t ∙ ap (higher r) e) refl t (λ q j u. elim j [ inl g ↦ subst (λ x. x.prio ≤ℤ r.prio) g (itself r.prio) | inr k ↦ absurd (n q k u) ])
  after_pass r rs t (matching s i e at v n) =
      let here = passes r rs t ∙ ap (higher r) e in
      elim (cases_Bool (is_lt (int_cmp r.prio s.prio))) [
        | inl l ↦
            matching s (suc i) (here ∙ cond-true (is_lt (int_cmp r.prio s.prio)) (Some s) (Some r) l) at v
            (λ q j u. elim j [ inl g ↦ subst (λ x. x.prio ≤ℤ s.prio) g (at_most r.prio s.prio (int_cmp r.prio s.prio) (int_ranks r.prio s.prio) l) | inr k ↦ n q k u ])
        | inr l ↦
            let above = at_least r.prio s.prio (int_cmp r.prio s.prio) (int_ranks r.prio s.prio) l in
            matching r 0 (here ∙ cond-false (is_lt (int_cmp r.prio s.prio)) (Some s) (Some r) l) refl t
            (λ q j u. elim j [ inl g ↦ subst (λ x. x.prio ≤ℤ r.prio) g (itself r.prio) | inr k ↦ through q.prio s.prio r.prio (n q k u) above ])
      ]

  pub chosen_is : (rs : List TypedRule) → Chosen p m rs args
  chosen_is [] = no_match refl (λ q n t. n)
  chosen_is (r ∷ rs) =
      elim (cases_Bool (is_some (matches p m r args))) [
        | inl t ↦ after_pass r rs t (chosen_is rs)
        | inr f ↦ after_fail r rs f (chosen_is rs)
      ]

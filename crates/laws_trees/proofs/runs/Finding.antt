-- Choosing from lists of rules, one after another: a rule of greatest priority is taken, or none holds.
use Rattle.std.proofs.Common.{◌≡◌, ◌⊎◌, ℕ, List, [], ◌∷◌, ◌++◌, Some, slice_get, Contains, ◌≤ℤ◌, sym, ap, ◌∙◌, subst, inl, inr, arith}
use Rattle.std.proofs.lemmas.Option.{same_Some}
use Rattle.std.proofs.lemmas.List.Elements.{Contains-append_left, Contains-append_right, Contains-append_cases}
use Rattle.std.specs.Int.Signed.{≤ℤ_refl}
use Rattle.std.proofs.lemmas.Grind.{common_steps}
use Rattle.model.specs.rules.Outcome.{Outcome, no_rule}
use Rattle.model.specs.sites.Sites.{SetRule}
use Rattle.model.specs.trees.Run.{Trace, at_start, or_next}
use Rattle.model.specs.trees.Sound.{NoneHigher}
use Rattle.model.proofs.Members.{in_alone, in_head}

module _ (rules : List SetRule) (Holds : SetRule → Type 0) (Takes : SetRule → Outcome → Type 0) where
  abbrev pub AtMost : List ℕ → SetRule → Type 0
  AtMost ids r = (j : ℕ) (q : SetRule) → Contains ids j → slice_get rules j ≡ Some q → Holds q → q.prio ≤ℤ r.prio

  abbrev pub NoneHolds : List ℕ → Type 0
  NoneHolds ids = (j : ℕ) (q : SetRule) → Contains ids j → slice_get rules j ≡ Some q → Holds q → ⊥

  abbrev pub Chooses : List ℕ → Outcome → Type 0
  Chooses ids o = (i : ℕ) × (r : SetRule) × Contains ids i × (slice_get rules i ≡ Some r) × Holds r × AtMost ids r × Takes r o

  abbrev pub Found : List ℕ → Outcome → Type 0
  Found ids o = Chooses ids o ⊎ (NoneHolds ids × (o ≡ no_rule))

  -- a rule of the first list stays the choice where no later rule that holds is higher
  first_stays : (here later : List ℕ) (o : Outcome) (t : Chooses here o) → AtMost later t.1 → Chooses (here ++ later) o
  first_stays here later o (i, r, k, get, holds, most, e) below =
      (i, r, Contains-append_left here later i k, get, holds, λ j q l at m. elim (Contains-append_cases here later j l) [ inl a ↦ most j q a at m | inr b ↦ below j q b at m ], e)

  pub found_left : (here later : List ℕ) (o : Outcome) → Found here o → NoneHolds later → Found (here ++ later) o
  found_left here later o (inl t) none = inl (first_stays here later o t (λ j q l at m. absurd (none j q l at m)))
  found_left here later o (inr (n, e)) none = grind (arith, common_steps)

  pub found_right : (here later : List ℕ) (o : Outcome) → NoneHolds here → Found later o → Found (here ++ later) o
  found_right here later o none (inl (i, r, k, get, holds, most, e)) =
      inl (i, r, Contains-append_right here later i k, get, holds, λ j q l at m. elim (Contains-append_cases here later j l) [ inl a ↦ absurd (none j q a at m) | inr b ↦ most j q b at m ], e)
  found_right here later o none (inr (n, e)) = grind (arith, common_steps)

  -- a step, then the steps after it, where a rule that was taken ended the run
  pub next_found : (here later : List ℕ) (o : Outcome) (go : Trace → Outcome) → ((i : ℕ) (r : SetRule) → slice_get rules i ≡ Some r → Takes r o → or_next o go ≡ o)
      → Found here o → NoneHigher rules here later → Found later (go at_start) → Found (here ++ later) (or_next o go)
  next_found here later o go ends (inl t) higher g =
      let stay : or_next o go ≡ o = ends t.0 t.1 t.3 t.6 in
      inl (subst (Chooses (here ++ later)) (sym stay) (first_stays here later o t (λ j q l at m. higher t.0 j t.1 q t.2 l t.3 at)))
  next_found here later o go ends (inr (n, e)) higher g =
      subst (Found (here ++ later)) (sym (ap (λ x. or_next x go) e)) (found_right here later (go at_start) n g)

  -- a rule that is returned
  pub rule_found : (i : ℕ) (r : SetRule) (later : List ℕ) (o : Outcome) → slice_get rules i ≡ Some r → Holds r → Takes r o → NoneHigher rules (i ∷ []) later → Found (i ∷ later) o
  rule_found i r later o get holds takes higher =
      let most : AtMost (i ∷ []) r = λ j q l at m. subst (λ x. x.prio ≤ℤ r.prio) (same_Some r q (sym get ∙ ap (slice_get rules) (in_alone i j l) ∙ at)) (≤ℤ_refl r.prio) in
      inl (first_stays (i ∷ []) later o (i, r, in_head i [], get, holds, most, takes) (λ j q l at m. higher i j r q (in_head i []) l get at))

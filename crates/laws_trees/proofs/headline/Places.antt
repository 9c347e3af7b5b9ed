-- Rules of a built set and the typed rules that they are built of stand at the same places.
use Rattle.std.proofs.Common.{◌≡◌, ℕ, suc, List, [], ◌∷◌, map, Some, slice_get, refl, sym, ap, ◌∙◌, length, subst, ◌<◌, arith}
use Rattle.std.proofs.lemmas.Option.{slice_get-map, slice_get_within}
use Rattle.std.proofs.lemmas.Grind.{common_steps}
use Rattle.model.specs.rules.Program.{Program, rules_of}
use Rattle.model.specs.rules.Typed.{TypedRule}
use Rattle.model.specs.sites.Sites.{Site, SetRule, SiteSet}
use Rattle.model.specs.sites.Overlap.{BuiltRule, built_rules}
use Rattle.model.specs.sites.RuleSets.{AreRulesOfSet, IsBuilt}
use Rattle.model.specs.claims.SetMeanings.{AreOneRule}
use Rattle.model.proofs.Mapped.{mapped_some}
use Rattle.model.proofs.Members.{get_within}

as_many_rules : (p : Program) (sites : List Site) (bs : List BuiltRule) (rs : List SetRule) → AreRulesOfSet p sites bs rs → length bs ≡ length rs
as_many_rules p sites [] [] h = refl
as_many_rules p sites [] (q ∷ rs) h = absurd h
as_many_rules p sites (b ∷ bs) [] h = absurd h
as_many_rules p sites (b ∷ bs) (q ∷ rs) h = ap suc (as_many_rules p sites bs rs h.1)

-- what stands at a place of one of two lists of one length has a counterpart
other_at : {X Y : Type 0} (xs : List X) (ys : List Y) → length xs ≡ length ys → (i : ℕ) (y : Y) → slice_get ys i ≡ Some y → (x : X) × (slice_get xs i ≡ Some x)
other_at xs ys n i y e = get_within xs i (subst (λ m. i < m) (sym n) (slice_get_within ys i y e))

-- a typed rule and the set's rule that is built of it
pub record Pair (p : Program) (t : ℕ) (set : SiteSet) (i : ℕ) : Type 0 where
  pub typed : BuiltRule
  pub built : SetRule
  pub here : slice_get (built_rules p t) i ≡ Some typed
  pub there : slice_get set.rules i ≡ Some built
  pub one : AreOneRule p t set typed built

module _ (p : Program) (t : ℕ) (set : SiteSet) (h : IsBuilt p t set) where
  pub of_set_rule : (i : ℕ) (r : SetRule) → slice_get set.rules i ≡ Some r → (x : Pair p t set i) × (x.built ≡ r)
  of_set_rule i r e =
      let b = other_at (built_rules p t) set.rules (as_many_rules p set.sites (built_rules p t) set.rules h.rules) i r e in
      (record { typed = b.0; built = r; here = b.1; there = e; one = record { place = i; typed = b.1; built = e } }, refl)

  -- where each typed rule is built
  pub of_typed_rule : map (λ (b : BuiltRule). b.rule) (built_rules p t) ≡ rules_of p t → (i : ℕ) (r : TypedRule) → slice_get (rules_of p t) i ≡ Some r → (x : Pair p t set i) × (x.typed.rule ≡ r)
  of_typed_rule all i r e =
      let k = mapped_some (λ (b : BuiltRule). b.rule) (slice_get (built_rules p t) i) r
      (sym (slice_get-map (λ (b : BuiltRule). b.rule) (built_rules p t) i) ∙ ap (λ l. slice_get l i) all ∙ e) in
      let q = other_at set.rules (built_rules p t) (sym (as_many_rules p set.sites (built_rules p t) set.rules h.rules)) i k.0 k.1 in
      (record { typed = k.0; built = q.0; here = k.1; there = q.1; one = record { place = i; typed = k.1; built = q.1 } }, k.2)

  pub typed_here : map (λ (b : BuiltRule). b.rule) (built_rules p t) ≡ rules_of p t → (i : ℕ) (x : Pair p t set i) → slice_get (rules_of p t) i ≡ Some x.typed.rule
  typed_here all i x = grind (arith, common_steps, slice_get-map)

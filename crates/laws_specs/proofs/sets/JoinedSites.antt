-- Under what the condition of a source rule assumes, completed: sites that must be equal stand for one thing, and two such sites for a value;
-- so what follows from the rule's demands is met.
use Rattle.std.proofs.Common.{◌≡◌, ◌⊎◌, ℕ, zero, suc, ◌+◌, ◌<◌, List, [], ◌∷◌, length, Some, slice_get, Contains, refl, sym, ap, ◌∙◌, inl, inr, arith}
use Rattle.std.proofs.lemmas.Grind.{common_steps}
use Rattle.model.specs.rules.Program.{Program}
use Rattle.model.specs.rules.Typed.{TypedRule}
use Rattle.model.specs.sites.Sites.{Constraint, is_variant, is_struct, SiteTerm, variant_field, struct_field, fields_from, field_terms}
use Rattle.model.specs.sites.Closure.{Joined, given, itself, turned, chained, at_field, HasConstraint, IsClosedEquality}
use Rattle.model.specs.sites.DemandedGates.{DemandsGates}
use Rattle.model.specs.visits.Demands.{Demands, demands_of, result_of}
use Rattle.model.proofs.Elements.{in_slice, in_from_contains, some_is, none_some}
use Rattle.laws_typing.specs.WellTypedPrograms.{IsWellTypedRule, IsWellTypedProgram}
use Rattle.laws_typing.proofs.WellTypedPrograms.{pure_iflets}
use Rattle.laws_sites.proofs.Patterns.{by_field}
use Rattle.laws_sites.proofs.Rules.{formed_rules_demand_gates_lem}
use Rattle.laws_specs.specs.Words.{Denoted, variant_of, struct_of, DenotedList, denoted_list}
use Rattle.laws_specs.specs.Specs.{Specs}
use Rattle.laws_specs.specs.Conditions.{ToldContent, told, Valuation, IsMetAs, condition, IsAssumed}
use Rattle.laws_specs.proofs.sets.CompletedSites.{part_told, variant_part, struct_part, completed, variant_there, stays, met_more}
use Rattle.laws_specs.proofs.sets.CallsMade.{CallsAre, IsMadeBy, AreMadeBelow, MakesCalls, rule_makes_calls, calls_pure}
use Rattle.laws_specs.proofs.sets.ShapedSites.{Assuming, IsKnown, AreAsked, rule_asked, variant_fields_there, struct_fields_there}

-- 1. fields by their places
pub field_at : (f : ℕ → SiteTerm) (j n i : ℕ) (x : SiteTerm) → slice_get (fields_from f j n) i ≡ Some x → (i < n) × (x ≡ f (j + i))
field_at f j (suc n) (suc i) x e = grind (arith, common_steps, field_at f (suc j) n i x e)
field_at f j n i x e = grind (arith, common_steps, none_some, some_is)

first_field : (f : ℕ → SiteTerm) (n i : ℕ) (x : SiteTerm) → slice_get (fields_from f 0 n) i ≡ Some x → (i < n) × (x ≡ f i)
first_field f n i x e = let r = field_at f 0 n i x e in let same : 0 + i ≡ i = omega arith in (r.0, r.1 ∙ ap f same)

there_within : (xs : List Denoted) (i n : ℕ) → length xs ≡ n → i < n → (x : Denoted) × (slice_get xs i ≡ Some x)
there_within [] i n e l = absurd (omega (arith, e, l))
there_within (x ∷ xs) zero n e l = (x, refl)
there_within (x ∷ xs) (suc i) n e l = there_within xs i (length xs) refl (omega (arith, e, l))

-- 2. the calls below sites that must be equal
module _ (d : Demands) (made : MakesCalls d) where
  field_calls : (P : SiteTerm → Type 0) (k : Constraint) (a : SiteTerm) (i : ℕ) (x : SiteTerm) → slice_get (field_terms k a) i ≡ Some x → (CallsAre P a → CallsAre P x) × (CallsAre P x → CallsAre P a)
  field_calls P k a i x e = by_field (λ u. (CallsAre P a → CallsAre P u) × (CallsAre P u → CallsAre P a)) a (λ v j. (λ h. h, λ h. h)) (λ j. (λ h. h, λ h. h)) k x (in_slice (field_terms k a) i x e)

  pub joined_calls : {a b : SiteTerm} → Joined d a b → (AreMadeBelow d a → AreMadeBelow d b) × (AreMadeBelow d b → AreMadeBelow d a)
  joined_calls (given {a = a} {b = b} c) = let m = made.equal (a, b) (in_from_contains d.equalities (a, b) c) in (λ h. m.1, λ h. m.0)
  joined_calls itself = (λ h. h, λ h. h)
  joined_calls (turned j) = let r = joined_calls j in (r.1, r.0)
  joined_calls (chained j l) = let r = joined_calls j in let q = joined_calls l in (λ h. q.0 (r.0 h), λ h. r.1 (q.1 h))
  joined_calls (at_field {a = a} {b = b} {x = x} {y = y} {k = k} i j l c e g) = grind (arith, common_steps, joined_calls j, field_calls)

  -- of different sites that must be equal both have their calls made
  pub joined_made : {a b : SiteTerm} → Joined d a b → (a ≡ b) ⊎ (AreMadeBelow d a × AreMadeBelow d b)
  joined_made (given {a = a} {b = b} c) = inr (made.equal (a, b) (in_from_contains d.equalities (a, b) c))
  joined_made itself = inl refl
  joined_made (turned j) = elim (joined_made j) [ inl e ↦ inl (sym e) | inr m ↦ inr (m.1, m.0) ]
  joined_made (chained {a = a} {b = b} {c = c} j l) = grind (arith, common_steps, joined_made j, joined_made l)
  joined_made (at_field {a = a} {b = b} {x = x} {y = y} {k = k} i j l c e g) = grind (arith, common_steps, joined_made j, some_is, field_calls)

-- 3. what is assumed of a source rule
module _ (p : Program) (r : TypedRule) (specs : Specs) (args : DenotedList) (f : Valuation) (a : IsAssumed p specs (condition p r) args f) (well : IsWellTypedProgram p) (typed : IsWellTypedRule p r) where
  abbrev k : Assuming
  k = record { program = p; specs = specs; condition = condition p r; args = args; valuation = f; assumed = a; well = well }

  abbrev d : Demands
  d = demands_of p r

  abbrev g : Valuation
  g = completed f

  made : MakesCalls d × AreMadeBelow d (result_of p r)
  made = rule_makes_calls p r

  gates : DemandsGates p r
  gates = formed_rules_demand_gates_lem p r typed.formed (pure_iflets typed)

  asked : AreAsked k d
  asked = rule_asked k r typed.formed refl

  more : (s : SiteTerm) (h : ToldContent) → f s ≡ Some h → g s ≡ Some h
  more s h e = stays specs args f a.held s h e

  known : (s : SiteTerm) (c : Constraint) → Contains d.constraints (s, c) → CallsAre (IsKnown k) s
  known s c i = calls_pure (IsMadeBy d) d.constraints d.iterators s (gates.tested.asked s c i) (made.0.asked (s, c) (in_from_contains d.constraints (s, c) i))

  pub joined_same : {s u : SiteTerm} → Joined d s u → g s ≡ g u
  joined_same (given {a = s} {b = u} c) = let e = a.equalities s u c in more s (told e.0) e.1 ∙ sym (more u (told e.0) e.2)
  joined_same itself = refl
  joined_same (turned j) = sym (joined_same j)
  joined_same (chained j l) = joined_same j ∙ joined_same l
  joined_same (at_field {a = s} {b = u} {x = x} {y = y} {k = c} i j l m e q) = grind (arith, joined_same j, first_field, none_some)

  -- a field that a demanded site has is there
  field_told : (c : Constraint) (t s : SiteTerm) (i : ℕ) (x : SiteTerm) → Contains d.constraints (t, c) → g t ≡ g s → slice_get (field_terms c s) i ≡ Some x → (y : Denoted) × (g x ≡ Some (told y))
  field_told (is_variant ty v n) t s i x m e q =
      let h = a.constraints t (is_variant ty v n) m in
      let l = first_field (variant_field s v) n i x q in
      let many = variant_fields_there k t ty v n (asked (t, is_variant ty v n) (in_from_contains d.constraints (t, is_variant ty v n) m)) (known t (is_variant ty v n) m) ty h.0 h.1 in
      let y = there_within (denoted_list h.0) i n many l.0 in
      (y.0, ap g l.1 ∙ ap (variant_part v i) (sym e ∙ more t (told (variant_of ty v h.0)) h.1) ∙ variant_there ty v h.0 i ∙ ap part_told y.1)
  field_told (is_struct ty n) t s i x m e q =
      let h = a.constraints t (is_struct ty n) m in
      let l = first_field (struct_field s) n i x q in
      let many = struct_fields_there k t ty n (asked (t, is_struct ty n) (in_from_contains d.constraints (t, is_struct ty n) m)) (known t (is_struct ty n) m) ty h.0 h.1 in
      let y = there_within (denoted_list h.0) i n many l.0 in
      (y.0, ap g l.1 ∙ ap (struct_part i) (sym e ∙ more t (told (struct_of ty h.0)) h.1) ∙ ap part_told y.1)
  field_told c t s i x m e q = grind (arith, common_steps, none_some)

  pub joined_told : {s u : SiteTerm} → Joined d s u → (s ≡ u) ⊎ ((y : Denoted) × (g s ≡ Some (told y)))
  joined_told (given {a = s} {b = u} c) = let e = a.equalities s u c in inr (e.0, more s (told e.0) e.1)
  joined_told itself = inl refl
  joined_told (turned j) = elim (joined_told j) [ inl e ↦ inl (sym e) | inr h ↦ inr (h.0, sym (joined_same j) ∙ h.1) ]
  joined_told (chained {a = s} {b = u} {c = w} j l) = grind (arith, common_steps, joined_told j, joined_told l)
  joined_told (at_field {a = s} {t = t} {x = x} {k = c} i j l m e q) = inr (field_told c t s i x m (joined_same l) e)

  -- so the closed demands are met
  pub closed_met : (s : SiteTerm) (c : Constraint) → HasConstraint d s c → IsMetAs specs g s c
  closed_met s c h = grind (arith, common_steps, joined_same h.joined, met_more f g more specs h.source c (a.constraints h.source c h.asked))

  pub closed_equal : (s u : SiteTerm) → IsClosedEquality d s u → (y : Denoted) × (g s ≡ Some (told y)) × (g u ≡ Some (told y))
  closed_equal s u h = grind (arith, common_steps, joined_told h.joined, joined_same h.joined, joined_told, joined_same)

  -- and the calls below what they speak of are made
  pub constrained_made : (s : SiteTerm) (c : Constraint) → HasConstraint d s c → AreMadeBelow d s
  constrained_made s c h = (joined_calls d made.0 h.joined).0 (made.0.asked (h.source, c) (in_from_contains d.constraints (h.source, c) h.asked))

  pub equated_made : (s u : SiteTerm) → IsClosedEquality d s u → AreMadeBelow d s
  equated_made s u h = elim (joined_made d made.0 h.joined) [ inl e ↦ absurd (h.different e) | inr m ↦ m.0 ]

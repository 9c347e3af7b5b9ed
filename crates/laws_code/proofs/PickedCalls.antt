-- What a pick is made of is a multi call: picks alone are made of multi calls, and no rule constrains, equates or returns one.
use Rattle.std.proofs.Common.{◌≡◌, ◌⊎◌, ◌<◌, ℕ, true, false, List, [], ◌∷◌, length, Option, Some, None, slice_get, Contains, refl, sym, ap, subst, ◌∙◌, inl, inr, arith}
use Rattle.std.proofs.lemmas.Grind.{common_steps}
use Rattle.std.proofs.lemmas.Option.{slice_get_within}
use Rattle.model.specs.rules.Program.{Program, arg_types, rules_of}
use Rattle.model.specs.rules.Typed.{TypedRule}
use Rattle.model.specs.sites.Sites.{Site, extractor_site, constructor_site, iterator_site, make_variant_site, match_variant_site, make_struct_site, extract_struct_site, make_some_site, match_some_site, match_tuple_site, Constraint, SetRule, SiteTerm, each_term, layer, unfold_site, sources_of, field_terms}
use Rattle.model.specs.sites.Closure.{Joined, given, itself, turned, chained, at_field}
use Rattle.model.specs.sites.DemandedGates.{IsMultiCall, HasNoPartialMulti}
use Rattle.model.specs.sites.Overlap.{BuiltRule, built_rule}
use Rattle.model.specs.sites.RuleSets.{IsRuleOf}
use Rattle.model.specs.visits.Demands.{Demands, demands_of, result_of}
use Rattle.model.specs.trees.Places.{waits, joins_in}
use Rattle.model.proofs.Elements.{in_from_contains, in_slice}
use Rattle.model.proofs.Members.{nothing_in, in_cases, in_alone}
use Rattle.laws_typing.specs.WellTypedPrograms.{IsWellTypedProgram}
use Rattle.laws_sites.proofs.Patterns.{by_field}
use Rattle.laws_sites.proofs.WithSites.{by_leaf, KeptWithSites, rule_given}
use Rattle.laws_sites.proofs.Closing.{closing_is_sound_lem}
use Rattle.laws_sites.proofs.built.BuiltGates.{set_rule, WasBuilt, was_built}
use Rattle.laws_sites.proofs.built.BuiltSets.{BuiltSet, RuleOfSet}
use Rattle.laws_sites.proofs.built.DistinctSites.{one_number}
use Rattle.laws_sites.proofs.built.MultiCalls.{multi_calls_are_gone_over_lem}
use Rattle.laws_trees.proofs.runs.Contents.{unfolded_layer}
use Rattle.laws_trees.proofs.taken.BuiltSites.{sites_stand}
use Rattle.laws_trees.proofs.taken.Forms.{Form, form, a_value, IsOfForm, AreValues}
use Rattle.laws_code.specs.CodeMoves.{HasLoopOver, CallsAreGoneOver, CallsAreGoneOverInBuiltSets}

abbrev IsOther : Program → SiteTerm → Type 0
IsOther p u = IsMultiCall p u → ⊥

-- 1. multi calls, and nothing else, have several answers
module _ (p : Program) (n : ℕ) where
  multi_call : (u : SiteTerm) (q : Form) → IsOfForm p n u q → q.multi ≡ true → IsMultiCall p u
  multi_call u q f m = grind (arith, common_steps)

  values_at : (f : ℕ → SiteTerm) (ss : List ℕ) (c : ℕ) → AreValues p n (each_term f ss) → Contains ss c → IsOfForm p n (f c) a_value
  values_at f [] c v i = absurd (nothing_in c i)
  values_at f (s ∷ ss) c v i = elim (in_cases s c ss i) [ inl e ↦ subst (λ y. IsOfForm p n (f y) a_value) e v.0 | inr d ↦ values_at f ss c v.1 d ]

-- 2. what a visit values is no multi call
module _ (p : Program) where
  abbrev AnyDemands : Demands → Type 0
  AnyDemands d = Unit {0}

  abbrev OtherIn : Demands → SiteTerm → Type 0
  OtherIn d u = IsOther p u

  other_kept : KeptWithSites AnyDemands OtherIn p
  other_kept = grind (arith, common_steps, by_leaf (IsOther p) (λ i m. m) (λ b ty m. m) (λ z ty m. m) (λ name m. m), by_field (IsOther p))

  result_other : (r : TypedRule) → IsOther p (result_of p r)
  result_other r = (rule_given p AnyDemands OtherIn other_kept r tt).1

-- 3. two sites that must be equal are one, or no multi calls
module _ (p : Program) (neither : HasNoPartialMulti p) (r : TypedRule) where
  field_other : (c : Constraint) (s : SiteTerm) (i : ℕ) (u : SiteTerm) → slice_get (field_terms c s) i ≡ Some u → IsOther p u
  field_other c s i u e = by_field (IsOther p) s (λ variant j m. m) (λ j m. m) c u (in_slice (field_terms c s) i u e)

  joined_apart : {a b : SiteTerm} → Joined (demands_of p r) a b → (a ≡ b) ⊎ (IsOther p a × IsOther p b)
  joined_apart (given {a = a} {b = b} c) = inr ((multi_calls_are_gone_over_lem p r neither).equal a b c)
  joined_apart itself = inl refl
  joined_apart (turned j) = elim (joined_apart j) [ inl e ↦ inl (sym e) | inr o ↦ inr (o.1, o.0) ]
  joined_apart (chained {a = a} {b = b} {c = c} j k) =
      elim (joined_apart j) [
        | inl e ↦ elim (joined_apart k) [ inl f ↦ inl (e ∙ f) | inr o ↦ inr (subst (IsOther p) (sym e) o.0, o.1) ]
        | inr o ↦ elim (joined_apart k) [ inl f ↦ inr (o.0, subst (IsOther p) f o.1) | inr q ↦ inr (o.0, q.1) ]
      ]
  joined_apart (at_field {a = a} {b = b} {x = x} {y = y} {k = k} i j l c e f) = inr (field_other k a i x e, field_other k b i y f)

abbrev made_of : Option Site → List ℕ
made_of o = elim o as (λ _. List ℕ) [ None ↦ [] | Some b ↦ sources_of b ]

-- 4. sets
module _ (b : BuiltSet) (h : IsWellTypedProgram b.program) where
  abbrev p : Program
  p = b.program

  abbrev sites : List Site
  sites = b.set.sites

  abbrev n : ℕ
  n = length (arg_types p b.term)

  abbrev U : ℕ → SiteTerm
  U s = unfold_site sites s

  -- what a site is made of, by its form
  form_there : (s : ℕ) (x : Site) → slice_get sites s ≡ Some x → (q : Form) × IsOfForm p n (layer U x) q
  form_there s x at = grind (arith, sites_stand b h s (slice_get_within sites s x at), slice_get_within sites s x at, unfolded_layer sites b.built.sources s x at)

  pub called_is_multi : (c : ℕ) → HasLoopOver sites c → IsMultiCall p (U c)
  called_is_multi c k = let f = form_there k.0 (iterator_site c) k.1 in multi_call p n (U c) (form true f.1.0 f.1.1) f.1.2 refl

  waits_not : (c : ℕ) (o : Option Site) → slice_get sites c ≡ o → IsMultiCall p (U c) → waits o ≡ false
  waits_not c o at m = grind (arith, common_steps, unfolded_layer)

  from_values : (c : ℕ) (ss : List ℕ) → IsMultiCall p (U c) → Contains ss c → AreValues p n (each_term U ss) → ⊥
  from_values c ss m i v = grind (arith, common_steps, values_at p n U ss c v i)

  picked : (c t : ℕ) (o : Option Site) → slice_get sites t ≡ o → IsMultiCall p (U c) → Contains (made_of o) c → slice_get sites t ≡ Some (iterator_site c)
  picked c t (Some (iterator_site source)) at m i = at ∙ ap (λ y. Some (iterator_site y)) (in_alone source c i)
  picked c t (Some (extractor_site term source)) at m i = absurd (let f = form_there t (extractor_site term source) at in (grind (arith, common_steps)))
  picked c t (Some (constructor_site term sources instance)) at m i = absurd (let f = form_there t (constructor_site term sources instance) at in from_values c sources m i f.1.1)
  picked c t (Some (make_variant_site ty variant fields)) at m i = absurd (let f = form_there t (make_variant_site ty variant fields) at in from_values c fields m i f.1.3)
  picked c t (Some (match_variant_site source variant field)) at m i = absurd (let f = form_there t (match_variant_site source variant field) at in (grind (arith, common_steps)))
  picked c t (Some (make_struct_site ty fields)) at m i = absurd (let f = form_there t (make_struct_site ty fields) at in from_values c fields m i f.1.3)
  picked c t (Some (extract_struct_site source field)) at m i = absurd (let f = form_there t (extract_struct_site source field) at in (grind (arith, common_steps)))
  picked c t (Some (make_some_site source)) at m i = absurd (let f = form_there t (make_some_site source) at in (grind (arith, common_steps)))
  picked c t (Some (match_some_site source)) at m i = absurd (let f = form_there t (match_some_site source) at in (grind (arith, common_steps)))
  picked c t (Some (match_tuple_site source field)) at m i = absurd (let f = form_there t (match_tuple_site source field) at in (grind (arith, common_steps)))
  picked c t _ at m i = absurd (nothing_in c i)

  -- a rule of the set, with the rule that it stands for
  module _ (r : SetRule) (i : Contains b.set.rules r) where
    abbrev here : RuleOfSet b
    here = set_rule b r (in_from_contains b.set.rules r i)

    abbrev w : WasBuilt p (rules_of p b.term) here.typed
    w = was_built p [] (rules_of p b.term) here.typed here.listed

    stands : IsRuleOf p sites (built_rule p w.before w.rule) r
    stands = subst (λ (y : BuiltRule). IsRuleOf p sites y r) (sym w.same) here.is

    unconstrained : (c : ℕ) (k : Constraint) → IsMultiCall p (U c) → Contains r.constraints (c, k) → ⊥
    unconstrained c k m j =
        let x = (closing_is_sound_lem w.before (demands_of p w.rule)).constraints (U c) k (stands.constraints.asked c k j).1 in
        elim (joined_apart p h.not_both w.rule x.joined) [
          | inl e ↦ (multi_calls_are_gone_over_lem p w.rule h.not_both).asked x.source k x.asked (subst (IsMultiCall p) (sym e) m)
          | inr o ↦ o.1 m
        ]

    apart : (a c : ℕ) → a < c → joins_in r.classes a c ≡ true → IsOther p (U a) × IsOther p (U c)
    apart a c l j =
        let x = stands.classes.joined a c j in
        elim (joined_apart p h.not_both w.rule ((closing_is_sound_lem w.before (demands_of p w.rule)).classes x.2 (U a) (U c) x.3 x.4 x.5)) [
          | inl e ↦ absurd (let same = one_number p b.term b.set b.built a c x.0 x.1 e in omega (arith, l, same))
          | inr o ↦ o
        ]

    unreturned : IsOther p (U r.result)
    unreturned = subst (IsOther p) (sym stands.result.1) (result_other p w.rule)

  pub gone_over : CallsAreGoneOver b.set
  gone_over = record {
    waits_not = λ c k. waits_not c (slice_get sites c) refl (called_is_multi c k);
    made = λ c t k i. picked c t (slice_get sites t) refl (called_is_multi c k) i;
    equated = λ r a c i l j. let o = apart r i a c l j in (λ k. o.0 (called_is_multi a k), λ k. o.1 (called_is_multi c k));
    constrained = λ r c k i d j. unconstrained r i c k (called_is_multi c j) d;
    returned = λ r i k. unreturned r i (called_is_multi r.result k);
  }

pub calls_are_gone_over_in_built_sets_lem : CallsAreGoneOverInBuiltSets
calls_are_gone_over_in_built_sets_lem p t set h b = gone_over (record { program = p; term = t; set = set; built = b }) h

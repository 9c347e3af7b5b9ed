-- What the sites of fields hold under a pick, where a content meets a constraint; and that an arm binds them.
use Rattle.std.proofs.Common.{◌≡◌, ◌⊎◌, ℕ, zero, suc, ◌+◌, ◌==◌, Bool, List, [], ◌∷◌, length, Option, Some, None, slice_get, Contains, refl, sym, ap, ◌∙◌, subst, inl, inr, arith, eq-eqb}
use Rattle.std.proofs.lemmas.Bool.{cond-true, and_parts}
use Rattle.std.proofs.lemmas.Option.{none-some, same_Some}
use Rattle.std.proofs.lemmas.Grind.{common_steps}
use Rattle.model.specs.rules.Values.{Value, Values, of_variant, of_struct, listed}
use Rattle.model.specs.rules.Meaning.{Content, one, just, Meaning}
use Rattle.model.specs.rules.Outcome.{then_option}
use Rattle.model.specs.sites.Sites.{Site, match_variant_site, extract_struct_site, match_some_site, Constraint, is_variant, is_struct, is_bool, is_int, is_prim, is_present, sources_at}
use Rattle.model.specs.trees.Places.{is_variant_field, is_struct_field, is_part_of, site_from, each_field, fields_of, field_sites}
use Rattle.model.specs.trees.Run.{World, Env, as_value, from_value, all_one, content_fields, bind_fields}
use Rattle.model.specs.rules.Picks.{Pick, field_of_variant, field_of_struct, part_of_some}
use Rattle.model.specs.trees.Collects.{content_at, IsPureAt}
use Rattle.model.proofs.Members.{nothing_in, in_head, in_tail, in_cases}
use Rattle.laws_trees.proofs.runs.Contents.{SourcesBefore, sources_in, content_layer}
use Rattle.laws_trees.proofs.runs.Binding.{Held, held_as, keeps_bound}
use Rattle.laws_trees.proofs.runs.FieldSites.{site_passes, variant_field_same, struct_field_same, part_same}

-- 1. what a content that meets a constraint is made of
variant_met : (m : Meaning) (ty v n : ℕ) (x : Content) (cs : List Content) → content_fields m (is_variant ty v n) x ≡ Some cs → (t : ℕ) × (vs : Values) × (x ≡ one (of_variant t v vs)) × (cs ≡ all_one (listed vs))
variant_met m ty v n x cs e = grind (arith, common_steps, and_parts, same_Some, none-some)

struct_met : (m : Meaning) (ty n : ℕ) (x : Content) (cs : List Content) → content_fields m (is_struct ty n) x ≡ Some cs → (t : ℕ) × (vs : Values) × (x ≡ one (of_struct t vs)) × (cs ≡ all_one (listed vs))
struct_met m ty n x cs e = grind (arith, common_steps, same_Some, none-some)

pub present_met : (m : Meaning) (x : Content) (cs : List Content) → content_fields m is_present x ≡ Some cs → (c : Content) × (x ≡ just c) × (cs ≡ c ∷ [])
present_met m x cs e = grind (arith, common_steps, same_Some, none-some)

-- 2. the sites of fields hold them
module _ (w : World) (pick : Pick) (before : SourcesBefore w.sites) where
  abbrev pub FieldsHold : ℕ → List (Option ℕ) → List Content → Type 0
  FieldsHold s [] [] = Unit {0}
  FieldsHold s (None ∷ rest) (c ∷ cs) = FieldsHold s rest cs
  FieldsHold s (Some x ∷ rest) (c ∷ cs) = (content_at w pick x ≡ Some c) × (sources_at w.sites x ≡ s ∷ []) × IsPureAt w.sites x × FieldsHold s rest cs
  FieldsHold s _ _ = ⊥

  abbrev FieldIs : ℕ → ℕ → Option Content → Type 0
  FieldIs s x o = (content_at w pick x ≡ o) × (sources_at w.sites x ≡ s ∷ []) × IsPureAt w.sites x

  each_holds : (s : ℕ) (p : ℕ → Site → Bool) (vs : List Value) (i n : ℕ) → length (all_one vs) ≡ length (each_field p w.sites i n)
      → ((k j x : ℕ) → j ≡ i + k → site_from 0 (p j) w.sites ≡ Some x → FieldIs s x (from_value (slice_get vs k))) → FieldsHold s (each_field p w.sites i n) (all_one vs)
  each_holds s p [] i zero l h = tt
  each_holds s p [] i (suc n) l h = absurd (omega arith)
  each_holds s p (v ∷ vs) i zero l h = absurd (omega arith)
  each_holds s p (v ∷ vs) i (suc n) l h = by (site_from 0 (p i) w.sites) refl (each_holds s p vs (suc i) n (omega arith) (λ k j x e. h (suc k) j x (omega (arith, e))))
    where
      by : (o : Option ℕ) → site_from 0 (p i) w.sites ≡ o → FieldsHold s (each_field p w.sites (suc i) n) (all_one vs) → FieldsHold s (o ∷ each_field p w.sites (suc i) n) (one v ∷ all_one vs)
      by None e rest = rest
      by (Some x) e rest = (let g = h 0 i x (omega arith) e in (g.0, g.1, g.2, rest))

  site_is : (s x : ℕ) (b : Site) → slice_get w.sites x ≡ Some b → sources_in (Some b) ≡ s ∷ [] → sources_at w.sites x ≡ s ∷ []
  site_is s x b e q = ap sources_in e ∙ q

  no_fields : (s : ℕ) (cs : List Content) → length cs ≡ 0 → FieldsHold s [] cs
  no_fields s cs l = grind (arith, common_steps)

  pub fields_hold : (s : ℕ) (c : Constraint) (x : Content) (cs : List Content) → content_at w pick s ≡ Some x → content_fields w.meaning c x ≡ Some cs → length cs ≡ length (fields_of w.sites s c) → FieldsHold s (fields_of w.sites s c) cs
  fields_hold s (is_variant ty v n) x cs e met l =
      let m = variant_met w.meaning ty v n x cs met in
      subst (FieldsHold s (fields_of w.sites s (is_variant ty v n))) (sym m.3)
      (each_holds s (is_variant_field s v) (listed m.1) 0 n (ap length (sym m.3) ∙ l) (λ k j y q at.
      let r = site_passes (is_variant_field s v j) w.sites y at in
      let b = ap Some (variant_field_same s v j r.0 r.2) in
      let here = r.1 ∙ b in
      let same : j ≡ k = (let z = q in omega arith) in (
        content_layer w pick before y (match_variant_site s v j) here
            ∙ ap (λ o. then_option (then_option o as_value) (field_of_variant v j)) (e ∙ ap Some m.2)
            ∙ cond-true (v == v) (from_value (slice_get (listed m.1) j)) None (eq-eqb v v refl)
            ∙ ap (λ i. from_value (slice_get (listed m.1) i)) same,
        site_is s y (match_variant_site s v j) here refl,
        (match_variant_site s v j, here, tt),
      )))
  fields_hold s (is_struct ty n) x cs e met l =
      let m = struct_met w.meaning ty n x cs met in
      subst (FieldsHold s (fields_of w.sites s (is_struct ty n))) (sym m.3)
      (each_holds s (is_struct_field s) (listed m.1) 0 n (ap length (sym m.3) ∙ l) (λ k j y q at.
      let r = site_passes (is_struct_field s j) w.sites y at in
      let b = ap Some (struct_field_same s j r.0 r.2) in
      let here = r.1 ∙ b in
      let same : j ≡ k = (let z = q in omega arith) in (
        content_layer w pick before y (extract_struct_site s j) here
            ∙ ap (λ o. then_option (then_option o as_value) (field_of_struct j)) (e ∙ ap Some m.2)
            ∙ ap (λ i. from_value (slice_get (listed m.1) i)) same,
        site_is s y (extract_struct_site s j) here refl,
        (extract_struct_site s j, here, tt),
      )))
  fields_hold s is_present x cs e met l =
      let m = present_met w.meaning x cs met in
      subst (FieldsHold s (site_from 0 (is_part_of s) w.sites ∷ [])) (sym m.2) (by m.0 m.1 (site_from 0 (is_part_of s) w.sites) refl)
    where
      by : (c : Content) → x ≡ just c → (o : Option ℕ) → site_from 0 (is_part_of s) w.sites ≡ o → FieldsHold s (o ∷ []) (c ∷ [])
      by c q None at = tt
      by c q (Some y) at =
          let r = site_passes (is_part_of s) w.sites y at in
          let here = r.1 ∙ ap Some (part_same s r.0 r.2) in (
            content_layer w pick before y (match_some_site s) here ∙ ap (λ o. then_option o part_of_some) (e ∙ ap Some q),
            site_is s y (match_some_site s) here refl,
            (match_some_site s, here, tt),
            tt,
          )
  fields_hold s (is_bool b ty) x cs e met l = no_fields s cs l
  fields_hold s (is_int z ty) x cs e met l = no_fields s cs l
  fields_hold s (is_prim name) x cs e met l = no_fields s cs l

  -- and are kept once an arm binds them
  pub fields_bound : (s : ℕ) (fields : List (Option ℕ)) (cs : List Content) (env : Env) (Kept : ℕ → Type 0) → Held w pick env Kept → Kept s → FieldsHold s fields cs
      → (env' : Env) × (bind_fields fields cs env ≡ Some env') × Held w pick env' (λ t. Kept t ⊎ Contains (field_sites fields) t)
  fields_bound s [] [] env Kept held k h =
      (env, refl, held_as w pick env Kept (λ t. Kept t ⊎ Contains [] t) (λ t a. inl a) (λ t a. elim a [ inl x ↦ x | inr c ↦ absurd (nothing_in t c) ]) held)
  fields_bound s (None ∷ rest) (c ∷ cs) env Kept held k h = fields_bound s rest cs env Kept held k h
  fields_bound s (Some x ∷ rest) (c ∷ cs) env Kept held k h =
      let now = keeps_bound w pick before env Kept held x c h.0 (λ u m. elim (in_cases s u [] (subst (λ l. Contains l u) h.1 m)) [ inl e ↦ subst Kept e k | inr n ↦ absurd (nothing_in u n) ]) in
      let r = fields_bound s rest cs ((x, c) ∷ env) (λ t. Kept t ⊎ (x ≡ t)) now (inl k) h.3 in
      (r.0, r.1, held_as w pick r.0 (λ t. (Kept t ⊎ (x ≡ t)) ⊎ Contains (field_sites rest) t) (λ t. Kept t ⊎ Contains (x ∷ field_sites rest) t) to from r.2)
    where
      to : (t : ℕ) → (Kept t ⊎ (x ≡ t)) ⊎ Contains (field_sites rest) t → Kept t ⊎ Contains (x ∷ field_sites rest) t
      to t (inl (inl a)) = inl a
      to t (inl (inr e)) = inr (subst (Contains (x ∷ field_sites rest)) e (in_head x (field_sites rest)))
      to t (inr c) = inr (in_tail x t (field_sites rest) c)

      from : (t : ℕ) → Kept t ⊎ Contains (x ∷ field_sites rest) t → (Kept t ⊎ (x ≡ t)) ⊎ Contains (field_sites rest) t
      from t (inl a) = inl (inl a)
      from t (inr m) = elim (in_cases x t (field_sites rest) m) [ inl e ↦ inl (inr e) | inr c ↦ inr c ]
  fields_bound s [] (c ∷ cs) env Kept held k h = absurd h
  fields_bound s (o ∷ rest) [] env Kept held k h = grind (arith, common_steps)

  -- and make no impure call
  pub fields_pure : (s : ℕ) (fields : List (Option ℕ)) (cs : List Content) → FieldsHold s fields cs → (t : ℕ) → Contains (field_sites fields) t → IsPureAt w.sites t
  fields_pure s [] cs h t m = absurd (nothing_in t m)
  fields_pure s (None ∷ rest) (c ∷ cs) h t m = fields_pure s rest cs h t m
  fields_pure s (Some x ∷ rest) (c ∷ cs) h t m = grind (arith, common_steps, fields_pure s rest cs h.3 t, in_cases)
  fields_pure s (None ∷ rest) [] h t m = absurd h
  fields_pure s (Some x ∷ rest) [] h t m = absurd h

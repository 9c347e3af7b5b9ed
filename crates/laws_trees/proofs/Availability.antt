-- What a rule tests is available once what brings it was tested.
use Rattle.std.proofs.Common.{◌≡◌, ℕ, zero, suc, ◌+◌, ◌<◌, ◌==◌, Bool, true, false, not, ◌&&◌, List, [], ◌∷◌, length, Option, Some, None, slice_get, Contains, flat_map, refl, sym, ap, ◌∙◌, subst, inl, inr, arith, eq-eqb}
use Rattle.std.specs.List.{list_all}
use Rattle.std.proofs.lemmas.Bool.{and_parts, and_from, or_cases, or_left, or_right, false≢true, cases_lt}
use Rattle.std.proofs.lemmas.Option.{slice_get_within}
use Rattle.std.proofs.Math.Nat.{zero-add}
use Rattle.std.proofs.lemmas.Grind.{common_steps}
use Rattle.model.specs.sites.Sites.{Site, iterator_site, match_variant_site, extract_struct_site, match_some_site, Constraint, is_variant, is_struct, is_present, SetRule, SiteSet, sources_of, sources_at}
use Rattle.model.specs.trees.Places.{Around, is_in, waits, is_available, available, below, is_variant_field, is_struct_field, is_part_of, site_from, fields_of, field_sites}
use Rattle.model.specs.trees.WellBuilt.{IsWellBuilt}
use Rattle.laws_trees.proofs.runs.FieldSites.{site_found, field_listed, variant_field_same, struct_field_same, part_same}
use Rattle.model.proofs.Members.{nothing_in, in_head, in_tail, in_cases, member_found, each_passes, all_pass, in_flat_map, from_flat_map, member_is_in}
use Rattle.laws_trees.proofs.Gates.{variant_gate, struct_gate, answer_gate}
use Rattle.model.specs.sites.Gates.{gate_demanded}

-- 1. more layers change nothing
module _ (sites : List Site) (brought : List ℕ) where
  available_more : (n s : ℕ) → is_available n sites brought s ≡ true → is_available (suc n) sites brought s ≡ true
  available_more zero s h = absurd (false≢true h)
  available_more (suc n) s h =
      let more = not (waits (slice_get sites s)) && list_all (is_available n sites brought) (sources_at sites s) in
      let more' = not (waits (slice_get sites s)) && list_all (is_available (suc n) sites brought) (sources_at sites s) in
      elim (or_cases (is_in s brought) more h) [
        | inl a ↦ or_left (is_in s brought) more' a
        | inr b ↦
            let p = and_parts (not (waits (slice_get sites s))) (list_all (is_available n sites brought) (sources_at sites s)) b in
            or_right (is_in s brought) more'
            (and_from (not (waits (slice_get sites s))) (list_all (is_available (suc n) sites brought) (sources_at sites s)) p.0
            (all_pass (is_available (suc n) sites brought) (sources_at sites s) (λ u c. available_more n u (each_passes (is_available n sites brought) (sources_at sites s) p.1 u c))))
      ]

  available_at : (n s : ℕ) → s < n → is_available (suc s) sites brought s ≡ true → is_available n sites brought s ≡ true
  available_at zero s l h = absurd (omega arith)
  available_at (suc n) s l h = grind (arith, common_steps, available_at n s, cases_lt, available_more)

module _ (sites : List Site) where
  below_more : (n s u : ℕ) → Contains (below n sites s) u → Contains (below (suc n) sites s) u
  below_more zero s u c = absurd (nothing_in u c)
  below_more (suc n) s u c =
      elim (in_cases s u (flat_map (below n sites) (sources_at sites s)) c) [
        | inl e ↦ subst (Contains (below (suc (suc n)) sites s)) e (in_head s (flat_map (below (suc n) sites) (sources_at sites s)))
        | inr d ↦
            let r = from_flat_map (below n sites) (sources_at sites s) u d in
            in_tail s u (flat_map (below (suc n) sites) (sources_at sites s)) (in_flat_map (below (suc n) sites) (sources_at sites s) r.0 u r.1 (below_more n r.0 u r.2))
      ]

  below_at : (n s u : ℕ) → s < n → Contains (below (suc s) sites s) u → Contains (below n sites s) u
  below_at zero s u l c = absurd (omega arith)
  below_at (suc n) s u l c = grind (arith, common_steps, below_at n s u, cases_lt s n, below_more n s u)

  pub below_source : (s x u : ℕ) → Contains (sources_at sites s) x → x < s → Contains (below (suc x) sites x) u → Contains (below (suc s) sites s) u
  below_source s x u c l d = in_tail s u (flat_map (below s sites) (sources_at sites s)) (in_flat_map (below s sites) (sources_at sites s) x u c (below_at s x u l d))

-- 2. what is around a place brings what it tested, and every test of a rule whose site is available was made
pub record Brings (sites : List Site) (ar : Around) : Type 0 where
  pub fields : (s : ℕ) (c : Constraint) (x : ℕ) → Contains ar.tested (s, c) → Contains (field_sites (fields_of sites s c)) x → Contains ar.brought x
  pub picks : (s x : ℕ) → Contains ar.looped s → slice_get sites x ≡ Some (iterator_site s) → Contains ar.brought x

pub record Made (sites : List Site) (ar : Around) (r : SetRule) : Type 0 where
  pub matched : (s : ℕ) (c : Constraint) → s < length sites → Contains r.constraints (s, c) → available sites ar s ≡ true → Contains ar.tested (s, c)
  pub looped : (s : ℕ) → s < length sites → Contains r.iterators s → available sites ar s ≡ true → Contains ar.looped s

-- a place of a tree of a well-built set: what is around it brings what it tested
pub record TreePlace (set : SiteSet) : Type 0 where
  pub built : IsWellBuilt set
  pub around : Around
  pub brings : Brings set.sites around

module _ (set : SiteSet) (place : TreePlace set) (r : SetRule) (made : Made set.sites place.around r) where
  abbrev sites : List Site
  sites = set.sites

  abbrev pub Gated : ℕ → Type 0
  Gated s = (u : ℕ) → Contains (below (suc s) sites s) u → gate_demanded r (slice_get sites u) ≡ true

  within_of : (s : ℕ) (o : Option Site) → slice_get sites s ≡ o → gate_demanded r o ≡ true → s < length sites
  within_of s None e d = absurd (false≢true d)
  within_of s (Some b) e d = slice_get_within sites s b e

  pub within : (s : ℕ) → Gated s → s < length sites
  within s g = within_of s (slice_get sites s) refl (g s (in_head s (flat_map (below s sites) (sources_at sites s))))

  abbrev sources_in : Option Site → List ℕ
  sources_in o = elim o [ None ↦ [] | Some b ↦ sources_of b ]

  brought_by : (s : ℕ) → Contains place.around.brought s → available sites place.around s ≡ true
  brought_by s c = or_left (is_in s place.around.brought) (not (waits (slice_get sites s)) && list_all (is_available s sites place.around.brought) (sources_at sites s)) (member_is_in s place.around.brought c)

  not_waiting : (s : ℕ) → waits (slice_get sites s) ≡ false → ((u : ℕ) → Contains (sources_at sites s) u → available sites place.around u ≡ true) → available sites place.around s ≡ true
  not_waiting s w all =
      or_right (is_in s place.around.brought) (not (waits (slice_get sites s)) && list_all (is_available s sites place.around.brought) (sources_at sites s))
      (and_from (not (waits (slice_get sites s))) (list_all (is_available s sites place.around.brought) (sources_at sites s)) (ap not w)
      (all_pass (is_available s sites place.around.brought) (sources_at sites s) (λ u c. available_at sites place.around.brought s u (place.built.sources s u c) (all u c))))

  -- the one site that is this one
  only_site : (s : ℕ) (b : Site) → slice_get sites s ≡ Some b → (p : Site → Bool) → p b ≡ true → ((x : Site) → p x ≡ true → x ≡ b) → site_from 0 p sites ≡ Some s
  only_site s b e p h only = site_found p sites 0 s b e h (λ j x at t. place.built.sites_once j s b (at ∙ ap Some (only x t)) e) ∙ ap Some (zero-add s)

  abbrev AllSources : ℕ → Type 0
  AllSources s = (u : ℕ) → Contains (sources_at sites s) u → (available sites place.around u ≡ true) × (u < length sites)

  source_there : (s : ℕ) (b : Site) (u : ℕ) → slice_get sites s ≡ Some b → Contains (sources_of b) u → Contains (sources_at sites s) u
  source_there s b u e c = subst (λ o. Contains (sources_in o) u) (sym e) c

  up : (f n : ℕ) → f < n → f < 0 + n
  up f n l = omega arith

  reach_site : (s : ℕ) (o : Option Site) → slice_get sites s ≡ o → gate_demanded r o ≡ true → AllSources s → available sites place.around s ≡ true
  reach_site s None e d all = absurd (false≢true d)
  reach_site s (Some (match_variant_site source variant field)) e h all =
      let d = variant_gate r.constraints source variant field h in
      let b = match_variant_site source variant field in
      let a = all source (source_there s b source e (in_head source [])) in
      let tested = made.matched source (is_variant d.0 variant d.1) a.1 d.2 a.0 in
      let here = and_from ((source == source) && (variant == variant)) (field == field) (and_from (source == source) (variant == variant) (eq-eqb source source refl) (eq-eqb variant variant refl)) (eq-eqb field field refl) in
      let found = only_site s b e (is_variant_field source variant field) here (variant_field_same source variant field) in
      brought_by s (place.brings.fields source (is_variant d.0 variant d.1) s tested (field_listed (is_variant_field source variant) sites 0 d.1 field s (omega arith) (up field d.1 d.3) found))
  reach_site s (Some (extract_struct_site source field)) e h all =
      let d = struct_gate r.constraints source field h in
      let b = extract_struct_site source field in
      let a = all source (source_there s b source e (in_head source [])) in
      let tested = made.matched source (is_struct d.0 d.1) a.1 d.2 a.0 in
      let here = and_from (source == source) (field == field) (eq-eqb source source refl) (eq-eqb field field refl) in
      let found = only_site s b e (is_struct_field source field) here (struct_field_same source field) in
      brought_by s (place.brings.fields source (is_struct d.0 d.1) s tested (field_listed (is_struct_field source) sites 0 d.1 field s (omega arith) (up field d.1 d.3) found))
  reach_site s (Some (match_some_site source)) e d all =
      let b = match_some_site source in
      let a = all source (source_there s b source e (in_head source [])) in
      let tested = made.matched source is_present a.1 (answer_gate r.constraints source d) a.0 in
      let found = only_site s b e (is_part_of source) (eq-eqb source source refl) (part_same source) in
      brought_by s (place.brings.fields source is_present s tested (subst (λ o. Contains (field_sites (o ∷ [])) s) (sym found) (in_head s [])))
  reach_site s (Some (iterator_site source)) e d all =
      let a = all source (source_there s (iterator_site source) source e (in_head source [])) in
      brought_by s (place.brings.picks source s (made.looped source a.1 (member_found source r.iterators d) a.0) e)
  reach_site s (Some b) e d all = not_waiting s (ap waits e) (λ u c. (all u c).0)

  reach_below : (n s : ℕ) → s < n → Gated s → available sites place.around s ≡ true
  reach_below zero s l g = absurd (omega arith)
  reach_below (suc n) s l g =
      reach_site s (slice_get sites s) refl (g s (in_head s (flat_map (below s sites) (sources_at sites s))))
      (λ u c.
      let m = place.built.sources s u c in
      let gu : Gated u = λ x k. g x (below_source sites s u x c m k) in
      (reach_below n u (omega arith) gu, within u gu))

  -- a site whose gates the rule demands is available
  pub reach : (s : ℕ) → Gated s → available sites place.around s ≡ true
  reach s g = reach_below (suc s) s (omega arith) g

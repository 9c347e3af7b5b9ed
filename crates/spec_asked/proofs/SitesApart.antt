-- No two numbers stand for one site of a set, and each stands for its layer.
use Rattle.std.proofs.Common.{◌≡◌, ◌==◌, ◌<◌, ℕ, Bool, true, false, List, [], length, Option, Some, None, slice_get, refl, sym, ap, subst, ◌∙◌, inl, inr, arith, eqb-true, eq-eqb}
use Rattle.std.proofs.lemmas.Grind.{common_steps}
use Rattle.std.proofs.lemmas.Option.{slice_get_within, slice_get_cases}
use Rattle.model.specs.rules.Program.{Program}
use Rattle.model.specs.sites.RuleSets.{IsBuilt}
use Rattle.model.specs.sites.Sites.{Site, extract_struct_site, sources_of, sources_at, SiteSet, SiteTerm, struct_field, no_site, layer, layer_at, unfolded, unfold_site}
use Rattle.model.specs.visits.Demands.{site_term_eq}
use Rattle.model.proofs.Elements.{In, contains_from_in}
use Rattle.model.proofs.SameSites.{term_means, same_term}
use Rattle.laws_sites.proofs.built.DistinctSites.{one_number}
use Rattle.laws_sites.proofs.built.Unfolding.{SourcesFirst, layer_same, unfolds}
use Rattle.spec_asked.specs.Sites.{site_of, site_or}

-- 1. tests and facts
pub same_truth : (a b : Bool) → (a ≡ true → b ≡ true) → (b ≡ true → a ≡ true) → a ≡ b
same_truth true b f g = sym (f refl)
same_truth false true f g = g refl
same_truth false false f g = refl

-- 2. the sources of what may be a site
abbrev pub sources_or : Option Site → List ℕ
sources_or o = elim o [ None ↦ [] | Some b ↦ sources_of b ]

-- 3. a layer isn't what stands for no site
no_layer : (f : ℕ → SiteTerm) (b : Site) → layer f b ≡ no_site → ⊥
no_layer f b e = grind (arith, common_steps)

field_below : (f : ℕ → SiteTerm) (b : Site) (m : ℕ) → layer f b ≡ struct_field no_site m → (a : ℕ) × In (sources_of b) a × (f a ≡ no_site)
field_below f (extract_struct_site s i) m e = (s, inl refl, grind (arith, common_steps))
field_below f b m e = grind (arith, common_steps)

module _ (sites : List Site) (first : SourcesFirst sites) where
  is_source : (n : ℕ) (b : Site) → slice_get sites n ≡ Some b → (a : ℕ) → In (sources_of b) a → a < n
  is_source n b e a i = first n a (contains_from_in (sources_at sites n) a (subst (λ o. In (sources_or o) a) (sym e) i))

  there : (n : ℕ) → n < length sites → (b : Site) × (slice_get sites n ≡ Some b)
  there n l = elim (slice_get_cases sites n).1 [ inl h ↦ (h.0, h.2) | inr h ↦ absurd (omega (arith, l, h.0)) ]

  pub within : (n : ℕ) → n < length sites → site_of sites n ≡ unfold_site sites n
  within n l = (let b = there n l in ap (site_or sites n) b.1)

  unfolded_layer : (n : ℕ) (b : Site) → slice_get sites n ≡ Some b → unfold_site sites n ≡ layer (unfold_site sites) b
  unfolded_layer n b e = unfolds sites first n ∙ ap (layer_at (unfold_site sites)) e

  pub layered : (n : ℕ) (b : Site) → slice_get sites n ≡ Some b → site_of sites n ≡ layer (site_of sites) b
  layered n b e =
      ap (site_or sites n) e ∙ unfolded_layer n b e
      ∙ layer_same (unfold_site sites) (site_of sites) b
      (λ a i. let l = is_source n b e a i in let m = slice_get_within sites n b e in sym (within a (omega (arith, l, m))))

  -- a site's tree isn't what stands for a number past the sites
  not_past : (n m : ℕ) (b : Site) → slice_get sites n ≡ Some b → unfold_site sites n ≡ struct_field no_site m → ⊥
  not_past n m b e h =
      let s = field_below (unfold_site sites) b m (sym (unfolded_layer n b e) ∙ h) in
      let l = is_source n b e s.0 s.1 in
      let k = slice_get_within sites n b e in
      let c = there s.0 (omega (arith, l, k)) in
      no_layer (unfold_site sites) c.0 (sym (unfolded_layer s.0 c.0 c.1) ∙ s.2)

  module _ (one : (j k : ℕ) → j < length sites → k < length sites → unfold_site sites j ≡ unfold_site sites k → j ≡ k) where
    one_site : (j k : ℕ) (a b : Option Site) → slice_get sites j ≡ a → slice_get sites k ≡ b → site_or sites j a ≡ site_or sites k b → j ≡ k
    one_site j k None None e f h = grind (arith, common_steps)
    one_site j k (Some a) None e f h = absurd (not_past j k a e h)
    one_site j k None (Some b) e f h = absurd (not_past k j b f (sym h))
    one_site j k (Some a) (Some b) e f h = one j k (slice_get_within sites j a e) (slice_get_within sites k b f) h

    pub apart_by : (j k : ℕ) → site_term_eq (site_of sites j) (site_of sites k) ≡ (j == k)
    apart_by j k =
        same_truth (site_term_eq (site_of sites j) (site_of sites k)) (j == k)
        (λ h. eq-eqb j k (one_site j k (slice_get sites j) (slice_get sites k) refl refl (term_means (site_of sites j) (site_of sites k) h)))
        (λ h. same_term (site_of sites j) (site_of sites k) (ap (site_of sites) (eqb-true j k h)))

module _ (p : Program) (t : ℕ) (set : SiteSet) (built : IsBuilt p t set) where
  pub apart : (j k : ℕ) → site_term_eq (site_of set.sites j) (site_of set.sites k) ≡ (j == k)
  apart = apart_by set.sites built.sources (one_number p t set built)

  -- a site's tree is that of no other number
  pub one_tree : (m n : ℕ) → n < length set.sites → unfold_site set.sites m ≡ unfold_site set.sites n → m ≡ n
  one_tree m n l e =
      elim (slice_get_cases set.sites m).1 [
        | inl h ↦ one_number p t set built m n h.1 l e
        | inr h ↦
            let b = there set.sites built.sources n l in
            absurd (no_layer (unfold_site set.sites) b.0 (sym (unfolded_layer set.sites built.sources n b.0 b.1) ∙ sym e ∙ ap (layer_at (unfolded m set.sites)) h.1))
      ]

-- What a site's number stands for, layer by layer, where sources have smaller numbers.
use Rattle.std.proofs.Common.{◌≡◌, ℕ, suc, ◌<◌, List, [], ◌∷◌, Option, Some, None, slice_get, Contains, inl, inr, refl, sym, ap, ap₂, ◌∙◌, arith}
use Rattle.std.proofs.lemmas.Grind.{common_steps}
use Rattle.model.specs.sites.Sites.{Site, sources_of, sources_at, SiteTerm, site_term_and, each_term, layer, layer_at, unfolded, unfold_site}
use Rattle.model.proofs.Elements.{In, contains_from_in}

-- sources have smaller numbers
abbrev pub SourcesFirst : List Site → Type 0
SourcesFirst sites = (s a : ℕ) → Contains (sources_at sites s) a → a < s

each_same : (f g : ℕ → SiteTerm) (xs : List ℕ) → ((a : ℕ) → In xs a → f a ≡ g a) → each_term f xs ≡ each_term g xs
each_same f g [] h = refl
each_same f g (x ∷ xs) h = ap₂ site_term_and (h x (inl refl)) (each_same f g xs (λ a i. h a (inr i)))

pub layer_same : (f g : ℕ → SiteTerm) (b : Site) → ((a : ℕ) → In (sources_of b) a → f a ≡ g a) → layer f b ≡ layer g b
layer_same f g b h = grind (arith, common_steps, each_same)

-- the sources of what may be a site
abbrev sources_in : Option Site → List ℕ
sources_in o = elim o [ None ↦ [] | Some b ↦ sources_of b ]

pub layer_at_same : (f g : ℕ → SiteTerm) (o : Option Site) → ((a : ℕ) → In (sources_in o) a → f a ≡ g a) → layer_at f o ≡ layer_at g o
layer_at_same f g None h = refl
layer_at_same f g (Some b) h = layer_same f g b h

module _ (sites : List Site) (first : SourcesFirst sites) where
  -- deep enough is deep enough
  pub enough : (n m s : ℕ) → s < n → s < m → unfolded n sites s ≡ unfolded m sites s
  enough (suc n) (suc m) s l k =
      layer_at_same (unfolded n sites) (unfolded m sites) (slice_get sites s)
      (λ a i. let b : a < s = first s a (contains_from_in (sources_at sites s) a i) in enough n m a (omega (arith, b, l)) (omega (arith, b, k)))
  enough _ _ s l k = absurd (omega arith)

  -- a site stands for its layer over what its sources stand for
  pub unfolds : (s : ℕ) → unfold_site sites s ≡ layer_at (unfold_site sites) (slice_get sites s)
  unfolds s =
      layer_at_same (unfolded s sites) (unfold_site sites) (slice_get sites s)
      (λ a i. let b : a < s = first s a (contains_from_in (sources_at sites s) a i) in enough s (suc a) a b (omega arith))

  pub one_site : (j k : ℕ) → slice_get sites j ≡ slice_get sites k → unfold_site sites j ≡ unfold_site sites k
  one_site j k e = unfolds j ∙ ap (layer_at (unfold_site sites)) e ∙ sym (unfolds k)

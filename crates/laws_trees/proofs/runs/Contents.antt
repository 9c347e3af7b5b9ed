-- The content of a site under a pick, from the contents of its sources.
use Rattle.std.proofs.Common.{◌≡◌, ℕ, zero, suc, ◌<◌, List, [], ◌∷◌, length, Option, Some, None, slice_get, Contains, refl, ap, ◌∙◌, arith}
use Rattle.std.proofs.lemmas.Bool.{cases_lt}
use Rattle.std.proofs.lemmas.Grind.{common_steps}
use Rattle.model.specs.sites.Sites.{Site, bool_site, int_site, prim_site, argument_site, extractor_site, constructor_site, iterator_site, make_variant_site, match_variant_site, make_struct_site, extract_struct_site, make_some_site, match_some_site, match_tuple_site, SiteTerm, extractor_call, constructor_call, pick_of, variant_made, variant_field, struct_made, struct_field, some_made, some_part, tuple_part, each_term, layer, layer_at, unfolded, unfold_site, sources_of, sources_at}
use Rattle.model.specs.trees.Run.{World}
use Rattle.model.specs.rules.Picks.{Pick, site_content}
use Rattle.model.specs.trees.Collects.{content_at}
use Rattle.model.proofs.Members.{in_head, in_tail}

abbrev pub SourcesBefore : List Site → Type 0
SourcesBefore sites = (s a : ℕ) → Contains (sources_at sites s) a → a < s

-- different sites stand for different terms
abbrev pub StandApart : List Site → Type 0
StandApart sites = (a b : ℕ) → a < length sites → b < length sites → unfold_site sites a ≡ unfold_site sites b → a ≡ b

abbrev pub sources_in : Option Site → List ℕ
sources_in o = elim o as (λ _. List ℕ) [ None ↦ [] | Some b ↦ sources_of b ]

-- 1. a layer is made of what the sources stand for
same_terms : (f g : ℕ → SiteTerm) (ss : List ℕ) → ((u : ℕ) → Contains ss u → f u ≡ g u) → each_term f ss ≡ each_term g ss
same_terms f g [] h = refl
same_terms f g (s ∷ ss) h = grind (arith, common_steps, same_terms f g ss (λ u c. h u (in_tail s u ss c)), in_head, in_tail)

same_layer : (f g : ℕ → SiteTerm) (b : Site) → ((u : ℕ) → Contains (sources_of b) u → f u ≡ g u) → layer f b ≡ layer g b
same_layer f g (bool_site b ty) h = refl
same_layer f g (int_site z ty) h = refl
same_layer f g (prim_site name) h = refl
same_layer f g (argument_site i) h = refl
same_layer f g (extractor_site term source) h = ap (extractor_call term) (h source (in_head source []))
same_layer f g (constructor_site term sources instance) h = ap (λ ts. constructor_call term ts instance) (same_terms f g sources h)
same_layer f g (iterator_site source) h = ap pick_of (h source (in_head source []))
same_layer f g (make_variant_site ty variant fields) h = ap (variant_made ty variant) (same_terms f g fields h)
same_layer f g (match_variant_site source variant field) h = ap (λ t. variant_field t variant field) (h source (in_head source []))
same_layer f g (make_struct_site ty fields) h = ap (struct_made ty) (same_terms f g fields h)
same_layer f g (extract_struct_site source field) h = ap (λ t. struct_field t field) (h source (in_head source []))
same_layer f g (make_some_site source) h = ap some_made (h source (in_head source []))
same_layer f g (match_some_site source) h = ap some_part (h source (in_head source []))
same_layer f g (match_tuple_site source field) h = ap (λ t. tuple_part t field) (h source (in_head source []))

same_layer_at : (f g : ℕ → SiteTerm) (o : Option Site) → ((u : ℕ) → Contains (sources_in o) u → f u ≡ g u) → layer_at f o ≡ layer_at g o
same_layer_at f g None h = refl
same_layer_at f g (Some b) h = same_layer f g b h

-- 2. more layers than a site's number change nothing
module _ (sites : List Site) (before : SourcesBefore sites) where
  unfolded_more : (n u : ℕ) → u < n → unfolded (suc n) sites u ≡ unfolded n sites u
  unfolded_more zero u l = absurd (omega arith)
  unfolded_more (suc n) u l =
      same_layer_at (unfolded (suc n) sites) (unfolded n sites) (slice_get sites u)
      (λ x c. let m = before u x c in unfolded_more n x (omega arith))

  pub unfolded_enough : (n u : ℕ) → u < n → unfolded n sites u ≡ unfold_site sites u
  unfolded_enough zero u l = absurd (omega arith)
  unfolded_enough (suc n) u l = grind (arith, common_steps, unfolded_enough n u, cases_lt, unfolded_more)

  pub unfolded_layer : (s : ℕ) (b : Site) → slice_get sites s ≡ Some b → unfold_site sites s ≡ layer (unfold_site sites) b
  unfolded_layer s b e =
      same_layer_at (unfolded s sites) (unfold_site sites) (slice_get sites s) (λ u c. unfolded_enough s u (before s u c))
      ∙ ap (layer_at (unfold_site sites)) e

-- 3. so is its content
pub content_layer : (w : World) (pick : Pick) → SourcesBefore w.sites → (s : ℕ) (b : Site) → slice_get w.sites s ≡ Some b
    → content_at w pick s ≡ site_content w.meaning w.args pick (layer (unfold_site w.sites) b)
content_layer w pick before s b e = ap (site_content w.meaning w.args pick) (unfolded_layer w.sites before s b e)

-- The sites of fields, one by one.
use Rattle.std.proofs.Common.{◌≡◌, ℕ, zero, suc, ◌+◌, List, [], ◌∷◌, ◌++◌, ap, sym, ◌∙◌, arith, add-one}
use Rattle.std.proofs.lemmas.List.{map-append}
use Rattle.std.proofs.lemmas.Grind.{common_steps}
use Rattle.model.specs.sites.Sites.{Site}
use Rattle.model.specs.sites.SetRules.{each_place}
use Rattle.core_rule_sets.specs.SiteViews.{site_view, site_views}
use Rattle.core_rule_sets.specs.declared.trie_again.Binding.{Binding}

place_push : (f : ℕ → Site) (i n : ℕ) → each_place f i n ++ f (i + n) ∷ [] ≡ each_place f i (suc n)
place_push f i zero = let e : i + 0 ≡ i = omega arith in ap (λ k. f k ∷ []) e
place_push f i (suc n) = grind (arith, common_steps, place_push f (suc i) n)

pub place_more : (f : ℕ → Site) (i : ℕ) → each_place f 0 (i + 1) ≡ each_place f 0 i ++ f i ∷ []
place_more f i = let z : 0 + i ≡ i = omega arith in ap (each_place f 0) (add-one i) ∙ sym (place_push f 0 i) ∙ ap (λ k. each_place f 0 i ++ f k ∷ []) z

-- one field more
pub field_more : (f : ℕ → Site) (old new : List Binding) (b : Binding) (i : ℕ) → new ≡ old ++ b ∷ [] → site_view b ≡ f i → site_views old ≡ each_place f 0 i → site_views new ≡ each_place f 0 (i + 1)
field_more f old new b i n e h = grind (arith, common_steps, map-append site_view old (b ∷ []), place_more f i)

-- Where a site of a set is found.
use Rattle.std.proofs.Common.{◌≡◌, ℕ, ◌+◌, ◌<◌, ◌≤◌, ◌==◌, List, length, get_or, Some, None, slice_get, refl, sym, ap, ◌∙◌, inl, inr, arith, eqb-true, eq-eqb}
use Rattle.std.specs.Prelude.{Option, Result}
use Rattle.std.specs.Result.{OkIff, result_ok}
use Rattle.std.proofs.lemmas.Bool.{cases_Bool, both_ways}
use Rattle.std.proofs.lemmas.List.{length-map}
use Rattle.std.proofs.lemmas.Option.{none-some, same_Some, slice_get_within, slice_get_read, slice_get-map}
use Rattle.std.proofs.lemmas.Grind.{common_steps}
use Rattle.model.specs.lists.Names.{IsDistinct}
use Rattle.model.specs.sites.Sites.{Site}
use Rattle.core_rule_sets.specs.SiteViews.{site_view, site_views}
use Rattle.core_rule_sets.specs.declared.trie_again.Binding.{Binding}

module _ (bs : List Binding) (v : Site) where
  -- no site before n is this one
  abbrev pub NotBefore : ℕ → Type 0
  NotBefore n = (k : ℕ) → k < n → slice_get (site_views bs) k ≡ Some v → ⊥

  module _ (cs : List Binding) (n : ℕ) (x : Binding) (same : cs ≡ bs) (l : n < length cs) (e : x ≡ get_or cs n x) where
    pub seen_here : slice_get (site_views bs) n ≡ Some (site_view x)
    seen_here = grind (arith, common_steps, slice_get-map site_view cs n, slice_get_read cs (length cs) n x refl l e)

    pub not_before_next : NotBefore n → (site_view x ≡ v → ⊥) → NotBefore (n + 1)
    not_before_next before other k m at =
        elim (cases_Bool (k == n)) [
          | inl t ↦ other (same_Some (site_view x) v (sym seen_here ∙ ap (slice_get (site_views bs)) (sym (eqb-true k n t)) ∙ at))
          | inr f ↦ before k (let d : k ≡ n → ⊥ = λ (d : k ≡ n). both_ways (k == n) f (eq-eqb k n d) in omega arith) at
        ]

    pub found_here : site_view x ≡ v → IsDistinct (site_views bs) → (o : Option ℕ) → o ≡ Some n → (s : ℕ)
        → (o ≡ Some s → slice_get (site_views bs) s ≡ Some v) × (slice_get (site_views bs) s ≡ Some v → o ≡ Some s)
    found_here is distinct o found s = grind (arith, common_steps, seen_here, same_Some n s)

  pub found_nowhere : (n : ℕ) (cs : List Binding) → cs ≡ bs → length cs ≤ n → NotBefore n → (s : ℕ)
      → (◌≡◌ {A = Option ℕ} None (Some s) → slice_get (site_views bs) s ≡ Some v) × (slice_get (site_views bs) s ≡ Some v → ◌≡◌ {A = Option ℕ} None (Some s))
  found_nowhere n cs same l none s = grind (arith, common_steps, none-some s, slice_get_within (site_views bs) s v, length-map bs site_view)

pub number_fits : {E : Type 0} (r : Result ℕ E) (n : ℕ) → OkIff r (n < 65536) n → n < 65536 → result_ok r ≡ Some n
number_fits r n h l = grind (arith, common_steps)

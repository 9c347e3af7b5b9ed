-- A table of sites with one more.
use Rattle.std.proofs.Common.{◌≡◌, ℕ, ◌<◌, true, false, cond, List, [], ◌∷◌, ◌++◌, length, Option, Some, Contains, inl, inr, sym, ap, ◌∙◌, subst, arith}
use Rattle.std.specs.HashMap.{get}
use Rattle.std.proofs.lemmas.Bool.{cases_Bool}
use Rattle.std.proofs.lemmas.List.{length_push, map-append}
use Rattle.std.proofs.lemmas.Option.{same_Some}
use Rattle.std.proofs.lemmas.Grind.{common_steps}
use Rattle.model.specs.sites.Sites.{Site, sources_at, sources_of}
use Rattle.model.proofs.Positions.{get_front, get_middle, get_push_cases}
use Rattle.core_rule_sets.specs.SiteViews.{site_view, site_views}
use Rattle.core_rule_sets.specs.SiteTables.{table_sites, IsSiteNumber, IsTable, IsAbsent}
use Rattle.core_rule_sets.specs.contracts.trie_again.BindingPartialEq.TheImpl.{ghosts}
use Rattle.core_rule_sets.specs.declared.trie_again.Binding.{Binding}
use Rattle.core_rule_sets.specs.declared.site_table.SiteTable.{SiteTable}
use Rattle.core_rule_sets.proofs.SameBindings.{one_view, one_binding}
use Rattle.core_rule_sets.proofs.SitesGrown.{sources_first_grown}

module _ (sites : List Site) (f g : Binding → Option ℕ) (copy : Binding) (b : Site) (n : ℕ) (e : site_view copy ≡ b) (len : n ≡ length sites) (absent : IsAbsent sites b)
    (found : (q : Binding) → IsSiteNumber sites (site_view q) (f q)) (updates : (q : Binding) → g q ≡ cond (ghosts.eq copy q) (Some n) (f q)) where
  abbrev IsFound : Binding → Type 0
  IsFound q = IsSiteNumber (sites ++ b ∷ []) (site_view q) (g q)

  found_new : (q : Binding) → ghosts.eq copy q ≡ true → IsFound q
  found_new q t s = grind (arith, common_steps, one_view copy q t, get_middle sites b [], same_Some n s, get_push_cases sites b (site_view q) s)

  found_old : (q : Binding) → ghosts.eq copy q ≡ false → IsFound q
  found_old q t s = grind (arith, common_steps, get_front sites (b ∷ []) s (site_view q), get_push_cases sites b (site_view q) s, one_binding copy q)

  pub found_grown : (q : Binding) → IsFound q
  found_grown q = elim (cases_Bool (ghosts.eq copy q)) [ inl t ↦ found_new q t | inr t ↦ found_old q t ]

pub table_grown : (old new : SiteTable) (binding copy : Binding) (n : ℕ) → IsTable old
    → ((a : ℕ) → Contains (sources_of (site_view binding)) a → a < length (table_sites old)) → IsAbsent (table_sites old) (site_view binding)
    → site_view copy ≡ site_view binding → n ≡ length (table_sites old) → n < 65536 → new.bindings.items ≡ old.bindings.items ++ binding ∷ []
    → ((q : Binding) → get ghosts.eq new.numbers q ≡ cond (ghosts.eq copy q) (Some n) (get ghosts.eq old.numbers q)) → IsTable new
table_grown old new binding copy n t below absent same len fits items updates =
    let sites : table_sites new ≡ table_sites old ++ site_view binding ∷ [] = ap site_views items ∙ map-append site_view old.bindings.items (binding ∷ []) in
    let longer = length_push (table_sites old) (site_view binding) in
    let count = ap length sites in
    record {
      found = λ q.
          subst (λ l. IsSiteNumber l (site_view q) (get ghosts.eq new.numbers q)) (sym sites)
          (found_grown (table_sites old) (get ghosts.eq old.numbers) (get ghosts.eq new.numbers) copy (site_view binding) n same len absent t.found updates q);
      few = omega arith;
      sources = subst (λ l. (s a : ℕ) → Contains (sources_at l s) a → a < s) (sym sites) (sources_first_grown (table_sites old) (site_view binding) t.sources below);
    }

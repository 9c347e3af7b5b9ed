-- The terms that sites call, site by site.
use Rattle.std.proofs.Common.{◌≡◌, ℕ, Bool, true, false, ◌==◌, ◌||◌, ◌+◌, ◌<◌, ◌≤◌, List, [], ◌∷◌, ◌++◌, map, refl, length, get_or, drop, sym, ap, ◌∙◌}
use Rattle.std.proofs.lemmas.List.{at_drop_more, at_drop_all, map-append}
use Rattle.std.specs.Prelude.{if◌then◌else◌}
use Rattle.std.specs.List.{list_any}
use Rattle.core_types.specs.declared.ids.TermId.{TermId}
use Rattle.core_rule_sets.specs.declared.trie_again.Binding.{Binding}
use Rattle.cranelift_isle.specs.SiteViews.{site_view, site_views}
use Rattle.report_traces.specs.EchoedTerms.{with_site, with_sites, with_term}

-- among the numbers of terms is one, or among the terms
pub among_numbers : (terms : List TermId) (n : ℕ) → list_any (λ other. other == n) (map (λ t. t.0) terms) ≡ list_any (λ other. other.0 == n) terms
among_numbers [] n = refl
among_numbers (t ∷ ts) n = ap (λ (b : Bool). (t.0 == n) || b) (among_numbers ts n)

-- a term that is among these adds nothing
pub no_term_more : (terms : List TermId) (t : TermId) (is_there : Bool)
    → is_there ≡ list_any (λ other. other.0 == t.0) terms → is_there ≡ true
    → map (λ other. other.0) terms ≡ with_term (map (λ other. other.0) terms) t.0
no_term_more terms t is_there asked there =
    sym (ap (λ (b : Bool). if b then map (λ other. other.0) terms else (map (λ other. other.0) terms ++ t.0 ∷ []))
    (among_numbers terms t.0 ∙ sym asked ∙ there))

-- a term that isn't among these, behind them
pub one_term_more : (before after : List TermId) (t : TermId) (is_there : Bool)
    → is_there ≡ list_any (λ other. other.0 == t.0) before → is_there ≡ false → after ≡ before ++ t ∷ []
    → map (λ other. other.0) after ≡ with_term (map (λ other. other.0) before) t.0
one_term_more before after t is_there asked absent added =
    ap (map (λ (other : TermId). other.0)) added
    ∙ map-append (λ (other : TermId). other.0) before (t ∷ [])
    ∙ sym (ap (λ (b : Bool). if b then map (λ other. other.0) before else (map (λ other. other.0) before ++ t.0 ∷ []))
    (among_numbers before t.0 ∙ sym asked ∙ absent))

module _ (sites : List Binding) (i : ℕ) where
  pub called_more : (x : Binding) (before after all : List ℕ) → i < length sites → x ≡ get_or sites i x → after ≡ with_site before (site_view x)
      → with_sites before (site_views (drop i sites)) ≡ all → with_sites after (site_views (drop (i + 1) sites)) ≡ all
  called_more x before after all h at added inv =
      let rest = drop (i + 1) sites in
      ap (λ (ts : List ℕ). with_sites ts (site_views rest)) added
      ∙ ap (λ (y : Binding). with_sites before (site_views (y ∷ rest))) at
      ∙ sym (at_drop_more (λ (ss : List Binding). with_sites before (site_views ss)) sites i x h)
      ∙ inv

  pub called_all : (before all : List ℕ) → length sites ≤ i → with_sites before (site_views (drop i sites)) ≡ all → before ≡ all
  called_all before all h inv = sym (at_drop_all (λ (ss : List Binding). with_sites before (site_views ss)) sites i h) ∙ inv

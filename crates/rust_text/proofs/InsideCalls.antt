-- The first call of an internal extractor, site by site.
use Rattle.std.proofs.Common.{◌≡◌, ◌∙◌, ◌++◌, ◌∷◌, [], ℕ, ◌+◌, ◌<◌, ◌≤◌, List, Option, Some, None, length, get_or, drop, map, option_map, refl, sym, ap}
use Rattle.std.proofs.lemmas.List.{at_drop_all, at_drop_more}
use Rattle.model.specs.lists.Tables.{TermEntry}
use Rattle.model.specs.sites.Sites.{Site}
use Rattle.core_rule_sets.specs.SiteViews.{site_view, site_views}
use Rattle.core_types.specs.declared.ids.TermId.{TermId}
use Rattle.core_rule_sets.specs.declared.trie_again.Binding.{Binding}
use Rattle.core_rule_sets.specs.declared.trie_again.Binding.TheVariants as B
use Rattle.cranelift_isle.specs.declared.lower.LoweredTerm.{LoweredTerm}
use Rattle.rust_text.specs.Expanded.{called_inside, first_inside, lowered_sites, sites_of, this_or}

-- other sites call none
pub calls_none : (terms : List TermEntry) (site : Binding) → ((t : TermId) (source : ℕ) → site ≡ B.Extractor t source → ⊥) → called_inside terms (site_view site) ≡ None
calls_none terms (B.Extractor t source) h = absurd (h t source refl)
calls_none terms (B.ConstBool b ty) h = refl
calls_none terms (B.ConstInt z ty) h = refl
calls_none terms (B.ConstPrim s) h = refl
calls_none terms (B.Argument i) h = refl
calls_none terms (B.Constructor t sources instance) h = refl
calls_none terms (B.Iterator source) h = refl
calls_none terms (B.MakeVariant ty v fields) h = refl
calls_none terms (B.MatchVariant source v field) h = refl
calls_none terms (B.MakeStruct ty fields) h = refl
calls_none terms (B.ExtractStruct source field) h = refl
calls_none terms (B.MakeSome source) h = refl
calls_none terms (B.MatchSome source) h = refl
calls_none terms (B.MatchTuple source field) h = refl

first_append : (terms : List TermEntry) (xs ys : List Site) → first_inside terms (xs ++ ys) ≡ this_or (first_inside terms xs) (first_inside terms ys)
first_append terms [] ys = refl
first_append terms (x ∷ xs) ys =
    elim (called_inside terms x) as (λ o. this_or o (first_inside terms (xs ++ ys)) ≡ this_or (this_or o (first_inside terms xs)) (first_inside terms ys)) [
      | None ↦ first_append terms xs ys
      | Some name ↦ refl
    ]

-- over things of which each calls one or none, and of which the first counts
module _ {X : Type 0} (left : List X → Option ℕ) (called : X → Option ℕ) (none : left [] ≡ None) (more : (x : X) (xs : List X) → left (x ∷ xs) ≡ this_or (called x) (left xs)) (xs : List X) (i : ℕ) (whole : Option ℕ) where
  here : (x : X) (o : Option ℕ) → i < length xs → x ≡ get_or xs i x → o ≡ called x → left (drop i xs) ≡ whole → this_or o (left (drop (i + 1) xs)) ≡ whole
  here x o h e of is =
      ap (λ y. this_or y (left (drop (i + 1) xs))) of ∙ sym (at_drop_more left xs i x h ∙ ap (λ y. left (y ∷ drop (i + 1) xs)) (sym e) ∙ more x (drop (i + 1) xs)) ∙ is

  pub found_here : (x : X) (name : ℕ) → i < length xs → x ≡ get_or xs i x → Some name ≡ called x → left (drop i xs) ≡ whole → Some name ≡ whole
  found_here x name h e of is = here x (Some name) h e of is

  pub none_here : (x : X) → i < length xs → x ≡ get_or xs i x → None ≡ called x → left (drop i xs) ≡ whole → left (drop (i + 1) xs) ≡ whole
  none_here x h e of is = here x None h e of is

  pub none_left : length xs ≤ i → left (drop i xs) ≡ whole → None ≡ whole
  none_left h is = sym (at_drop_all left xs i h ∙ none) ∙ is

module _ (terms : List TermEntry) where
  abbrev pub inside_of_terms : List LoweredTerm → Option ℕ
  inside_of_terms ts = first_inside terms (lowered_sites ts)

  abbrev pub inside_of_term : LoweredTerm → Option ℕ
  inside_of_term t = first_inside terms (sites_of t)

  pub more_terms : (t : LoweredTerm) (ts : List LoweredTerm) → inside_of_terms (t ∷ ts) ≡ this_or (inside_of_term t) (inside_of_terms ts)
  more_terms t ts = first_append terms (sites_of t) (lowered_sites ts)

  abbrev pub inside_of_sites : List Binding → Option ℕ
  inside_of_sites bs = first_inside terms (site_views bs)

  abbrev pub inside_of_site : Binding → Option ℕ
  inside_of_site b = called_inside terms (site_view b)

-- A site's content under a pick: it is of the places of the calls that the site takes answers of, which all are the pick's
-- own; so it stays under each longer pick.
use Rattle.std.proofs.Common.{◌≡◌, ℕ, List, [], ◌∷◌, ◌++◌, map, Some, None, Contains, refl, sym, ap, ap₂, ◌∙◌, subst, inl, inr, arith}
use Rattle.std.proofs.lemmas.Bool.{cases_Bool, cond-true, cond-false, both_ways}
use Rattle.std.proofs.lemmas.Option.{none-some}
use Rattle.std.proofs.lemmas.List.{map-append}
use Rattle.std.proofs.lemmas.List.Elements.{Contains-append_left, Contains-append_right, Contains-append_cases}
use Rattle.std.proofs.lemmas.Grind.{common_steps}
use Rattle.model.specs.rules.Values.{Value, of_variant, of_struct, Values, value_and}
use Rattle.model.specs.rules.Meaning.{Content, one, just, Meaning, extractor_answer}
use Rattle.model.specs.rules.Outcome.{then_option}
use Rattle.model.specs.trees.Run.{as_value, part_at}
use Rattle.model.specs.sites.Sites.{SiteTerm, bool_term, int_term, prim_term, argument, extractor_call, constructor_call, pick_of, variant_made, variant_field, struct_made, struct_field, some_made, some_part, tuple_part, no_site, SiteTerms, no_site_term, site_term_and}
use Rattle.model.specs.visits.Demands.{site_term_eq}
use Rattle.model.specs.rules.Picks.{Pick, place_of, picked, field_of_variant, field_of_struct, part_of_some, call_answer, site_content, site_values}
use Rattle.model.specs.trees.Collects.{calls_in, calls_in_all}
use Rattle.model.proofs.Members.{nothing_in, in_head, in_tail, in_cases}
use Rattle.laws_trees.specs.Orders.{Within, Covered}
use Rattle.model.proofs.Options.{then_some, then_same}
use Rattle.model.proofs.SameSites.{term_means, term_same}
use Rattle.laws_trees.proofs.picks.VisitOrder.{none_within}

abbrev pub keys : Pick → List SiteTerm
keys k = map (λ e. e.0) k

pub keys_push : (k : Pick) (e : SiteTerm × ℕ) → keys k ++ e.0 ∷ [] ≡ keys (k ++ e ∷ [])
keys_push k e = sym (map-append (λ x. x.0) k (e ∷ []))

-- 1. places
place_named : (k : Pick) (c : SiteTerm) (n : ℕ) → place_of k c ≡ Some n → Contains (keys k) c
place_named [] c n h = absurd (none-some n h)
place_named (e ∷ k) c n h =
    elim (cases_Bool (site_term_eq e.0 c)) [
      | inl t ↦ subst (Contains (keys (e ∷ k))) (term_means e.0 c t) (in_head e.0 (keys k))
      | inr f ↦ in_tail e.0 c (keys k) (place_named k c n (sym (cond-false (site_term_eq e.0 c) (Some e.1) (place_of k c) f) ∙ h))
    ]

place_kept : (k rest : Pick) (c : SiteTerm) → Contains (keys k) c → place_of (k ++ rest) c ≡ place_of k c
place_kept [] rest c h = absurd (nothing_in c h)
place_kept (e ∷ k) rest c h = grind (arith, common_steps, place_kept k rest c, in_cases e.0 c (keys k) h, both_ways (site_term_eq e.0 c), term_same e.0)

-- the place of a call that the pick didn't name
pub place_added : (k : Pick) (c : SiteTerm) (n : ℕ) → (Contains (keys k) c → ⊥) → place_of (k ++ (c, n) ∷ []) c ≡ Some n
place_added [] c n h = cond-true (site_term_eq c c) (Some n) None (term_same c)
place_added (e ∷ k) c n h =
    elim (cases_Bool (site_term_eq e.0 c)) [
      | inl t ↦ absurd (h (subst (Contains (keys (e ∷ k))) (term_means e.0 c t) (in_head e.0 (keys k))))
      | inr f ↦ cond-false (site_term_eq e.0 c) (Some e.1) (place_of (k ++ (c, n) ∷ []) c) f ∙ place_added k c n (λ m. h (in_tail e.0 c (keys k) m))
    ]

picked_named : (k : Pick) (s : SiteTerm) (c d : Content) → picked k s c ≡ Some d → Contains (keys k) s
picked_named k s c d e = grind (arith, common_steps, then_some, place_named, none-some)

-- 2. contents under two picks that give these calls the same places
abbrev pub SamePlacesOf : Pick → Pick → List SiteTerm → Type 0
SamePlacesOf k l calls = (c : SiteTerm) → Contains calls c → place_of k c ≡ place_of l c

pub picked_alike : (k l : Pick) (s : SiteTerm) (c : Content) → place_of k s ≡ place_of l s → picked k s c ≡ picked l s c
picked_alike k l s c h = grind (arith, common_steps)

module _ (m : Meaning) (args : List Value) (k l : Pick) where
  mutual
    pub content_alike : (u : SiteTerm) → SamePlacesOf k l (calls_in u) → site_content m args k u ≡ site_content m args l u
    content_alike (bool_term b ty) h = refl
    content_alike (int_term z ty) h = refl
    content_alike (prim_term name) h = refl
    content_alike (argument i) h = refl
    content_alike (extractor_call t s) h = ap (λ o. then_option (then_option o as_value) (extractor_answer m t)) (content_alike s h)
    content_alike (constructor_call t ss i) h = ap (λ o. then_option o (call_answer m t i)) (values_alike ss h)
    content_alike (pick_of s) h = grind (arith, common_steps, content_alike s (λ c n. h c (in_tail s c (calls_in s) n)), then_same, in_tail, picked_alike, in_head)
    content_alike (variant_made ty variant ss) h = ap (λ o. then_option o (λ vs. Some (one (of_variant ty variant vs)))) (values_alike ss h)
    content_alike (variant_field s variant i) h = ap (λ o. then_option (then_option o as_value) (field_of_variant variant i)) (content_alike s h)
    content_alike (struct_made ty ss) h = ap (λ o. then_option o (λ vs. Some (one (of_struct ty vs)))) (values_alike ss h)
    content_alike (struct_field s i) h = ap (λ o. then_option (then_option o as_value) (field_of_struct i)) (content_alike s h)
    content_alike (some_made s) h = ap (λ o. then_option o (λ c. Some (just c))) (content_alike s h)
    content_alike (some_part s) h = ap (λ o. then_option o part_of_some) (content_alike s h)
    content_alike (tuple_part s i) h = ap (λ o. then_option o (λ c. part_at c i)) (content_alike s h)
    content_alike no_site h = refl

    values_alike : (ss : SiteTerms) → SamePlacesOf k l (calls_in_all ss) → site_values m args k ss ≡ site_values m args l ss
    values_alike no_site_term h = refl
    values_alike (site_term_and s ss) h =
        ap₂ (λ o q. then_option (then_option o as_value) (λ w. then_option q (λ vs. Some (value_and w vs))))
        (content_alike s (λ c n. h c (Contains-append_left (calls_in s) (calls_in_all ss) c n)))
        (values_alike ss (λ c n. h c (Contains-append_right (calls_in s) (calls_in_all ss) c n)))

-- 3. the calls that a content takes answers of
module _ (m : Meaning) (args : List Value) (k : Pick) where
  mutual
    pub content_covered : (u : SiteTerm) (c : Content) → site_content m args k u ≡ Some c → Covered (keys k) u
    content_covered (bool_term b ty) c h = none_within (keys k)
    content_covered (int_term z ty) c h = none_within (keys k)
    content_covered (prim_term name) c h = none_within (keys k)
    content_covered (argument i) c h = none_within (keys k)
    content_covered (extractor_call t s) c h = (let a = then_some (then_option (site_content m args k s) as_value) (extractor_answer m t) c h in let b = then_some (site_content m args k s) as_value a.0 a.1 in content_covered s b.0 b.1)
    content_covered (constructor_call t ss i) c h = (let a = then_some (site_values m args k ss) (call_answer m t i) c h in values_covered ss a.0 a.1)
    content_covered (pick_of s) c h =
        let a = then_some (site_content m args k s) (picked k s) c h in
        let below = content_covered s a.0 a.1 in
        λ d n. elim (in_cases s d (calls_in s) n) [ inl e ↦ subst (Contains (keys k)) e (picked_named k s a.0 c a.2) | inr r ↦ below d r ]
    content_covered (variant_made ty variant ss) c h = (let a = then_some (site_values m args k ss) (λ vs. Some (one (of_variant ty variant vs))) c h in values_covered ss a.0 a.1)
    content_covered (variant_field s variant i) c h = (let a = then_some (then_option (site_content m args k s) as_value) (field_of_variant variant i) c h in let b = then_some (site_content m args k s) as_value a.0 a.1 in content_covered s b.0 b.1)
    content_covered (struct_made ty ss) c h = (let a = then_some (site_values m args k ss) (λ vs. Some (one (of_struct ty vs))) c h in values_covered ss a.0 a.1)
    content_covered (struct_field s i) c h = (let a = then_some (then_option (site_content m args k s) as_value) (field_of_struct i) c h in let b = then_some (site_content m args k s) as_value a.0 a.1 in content_covered s b.0 b.1)
    content_covered (some_made s) c h = (let a = then_some (site_content m args k s) (λ x. Some (just x)) c h in content_covered s a.0 a.1)
    content_covered (some_part s) c h = (let a = then_some (site_content m args k s) part_of_some c h in content_covered s a.0 a.1)
    content_covered (tuple_part s i) c h = (let a = then_some (site_content m args k s) (λ x. part_at x i) c h in content_covered s a.0 a.1)
    content_covered no_site c h = absurd (none-some c h)

    values_covered : (ss : SiteTerms) (vs : Values) → site_values m args k ss ≡ Some vs → Within (calls_in_all ss) (keys k)
    values_covered no_site_term vs h = none_within (keys k)
    values_covered (site_term_and s ss) vs h =
        let a = then_some (then_option (site_content m args k s) as_value) (λ v. then_option (site_values m args k ss) (λ us. Some (value_and v us))) vs h in
        let b = then_some (site_values m args k ss) (λ us. Some (value_and a.0 us)) vs a.2 in
        let x = then_some (site_content m args k s) as_value a.0 a.1 in
        let here = content_covered s x.0 x.1 in
        let rest = values_covered ss b.0 b.1 in
        λ d n. elim (Contains-append_cases (calls_in s) (calls_in_all ss) d n) [ inl x ↦ here d x | inr y ↦ rest d y ]

-- 4. contents under a longer pick
module _ (m : Meaning) (args : List Value) (k rest : Pick) where
  pub content_kept : (u : SiteTerm) → Covered (keys k) u → site_content m args (k ++ rest) u ≡ site_content m args k u
  content_kept u h = content_alike m args (k ++ rest) k u (λ c n. place_kept k rest c (h c n))

  pub content_grown : (u : SiteTerm) (c : Content) → site_content m args k u ≡ Some c → site_content m args (k ++ rest) u ≡ Some c
  content_grown u c e = content_kept u (content_covered m args k u c e) ∙ e

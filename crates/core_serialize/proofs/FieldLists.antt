-- Sites that are listed by their sources: a list grows by one, and the first of a list that passes a test is the set's first.
use Rattle.std.proofs.Common.{◌≡◌, ℕ, zero, suc, ◌+◌, ◌<◌, ◌≤◌, Bool, true, false, cond, List, [], ◌∷◌, ◌++◌, length, map, take, set, get_or, Option, Some, None, option_map, slice_get, Contains, refl, sym, ap, ◌∙◌, subst, inl, inr, arith, eq-eqb}
use Rattle.std.specs.Global.{Vec}
use Rattle.std.specs.Bool.{◌==◌}
use Rattle.std.specs.List.{filter, find}
use Rattle.std.specs.Option.{option_or}
use Rattle.std.proofs.lemmas.Bool.{cases_Bool, cond-false, false≢true, false_from_ne_true, and_parts}
use Rattle.std.proofs.lemmas.List.{append-nil, length-map, map-set, get_or-map, get_or-set_same, get_or-set_other, take_more, take_all, length-take-le}
use Rattle.std.proofs.lemmas.List.Elements.{filter-append}
use Rattle.std.proofs.lemmas.List.Folds.{find-append}
use Rattle.std.proofs.lemmas.Option.{none-some, same_Some, slice_get-map, slice_get-get_or}
use Rattle.std.proofs.lemmas.Grind.{common_steps}
use Rattle.model.specs.sites.Sites.{Site, iterator_site, match_variant_site, extract_struct_site, match_some_site, Constraint, sources_at, sources_of}
use Rattle.model.specs.trees.Places.{site_from}
use Rattle.model.specs.trees.Tests.{up_to}
use Rattle.model.proofs.Members.{in_head}
use Rattle.core_rule_sets.specs.declared.trie_again.Binding.{Binding}
use Rattle.core_rule_sets.specs.SiteViews.{site_view, site_views}
use Rattle.core_serialize.specs.FieldTests.{is_field, is_iterator_of, passes_at, brought_from, is_brought_from, brought_by, list_at}

-- 1. a search of a part that all hits are in
find_kept : {X : Type 0} (q r : X → Bool) → ((x : X) → q x ≡ true → r x ≡ true) → (xs : List X) → find q (filter r xs) ≡ find q xs
find_kept q r h [] = refl
find_kept q r h (x ∷ xs) = grind (arith, common_steps, find_kept q r h xs, false_from_ne_true (q x))

-- 2. the first site that passes a test, by numbers
site_last : (p : Site → Bool) (n : ℕ) (xs : List Site) (b : Site) → site_from n p (xs ++ b ∷ []) ≡ option_or (site_from n p xs) (cond (p b) (Some (n + length xs)) None)
site_last p n [] b = let e : n ≡ n + 0 = omega arith in ap (λ k. cond (p b) (Some k) None) e
site_last p n (x ∷ xs) b = grind (arith, common_steps, site_last p (suc n) xs b)

site_of_first : (p : Site → Bool) (sites : List Site) (m : ℕ) → m ≤ length sites → site_from 0 p (take m sites) ≡ find (passes_at p sites) (up_to m)
site_of_first p sites zero l = refl
site_of_first p sites (suc m) l =
    let d = match_some_site 0 in
    let b = get_or sites m d in
    let next : suc m ≡ m + 1 = omega arith in
    let many : 0 + length (take m sites) ≡ m = (let e = length-take-le m sites (omega (arith, l)) in omega (arith, e)) in
    let passes : p b ≡ passes_at p sites m = ap (λ o. elim o as (λ _. Bool) [ None ↦ false | Some b ↦ p b ]) (sym (slice_get-get_or sites m d (omega (arith, l)))) in
    ap (λ k. site_from 0 p (take k sites)) next
    ∙ ap (site_from 0 p) (take_more sites m d (omega (arith, l)))
    ∙ site_last p 0 (take m sites) b
    ∙ (λ i. option_or (site_of_first p sites m (omega (arith, l)) i) (cond (passes i) (Some (many i)) None))
    ∙ sym (find-append (passes_at p sites) (up_to m) (m ∷ []))

-- among the sites of which one is in a list that has all that pass
pub first_of_list : (p : Site → Bool) (s : ℕ) (sites : List Site) (list : List ℕ) → ((b : Site) → p b ≡ true → is_brought_from s b ≡ true) → list ≡ brought_by sites s
    → find (passes_at p sites) list ≡ site_from 0 p sites
first_of_list p s sites list h e =
    ap (find (passes_at p sites)) e
    ∙ find_kept (passes_at p sites) (passes_at (is_brought_from s) sites) (λ k. at (slice_get sites k)) (up_to (length sites))
    ∙ sym (site_of_first p sites (length sites) (omega arith))
    ∙ ap (site_from 0 p) (take_all (length sites) sites (omega arith))
  where
    at : (o : Option Site) → elim o as (λ _. Bool) [ None ↦ false | Some b ↦ p b ] ≡ true → elim o as (λ _. Bool) [ None ↦ false | Some b ↦ is_brought_from s b ] ≡ true
    at o t = grind (arith, common_steps)

-- 3. what a field or a pick of a site is brought from
pub field_brought : (s : ℕ) (c : Constraint) (i : ℕ) (b : Site) → is_field s c i b ≡ true → is_brought_from s b ≡ true
field_brought s c i b t = grind (arith, and_parts)

pub pick_brought : (s : ℕ) (b : Site) → is_iterator_of s b ≡ true → is_brought_from s b ≡ true
pick_brought s b t = grind (arith, common_steps)

-- 4. the lists grow by one
pub list_more : (lists : List (Vec ℕ)) (source : ℕ) (old new : Vec ℕ) (site s : ℕ) → source < length lists → old ≡ get_or lists source old → new.items ≡ old.items ++ site ∷ []
    → list_at (set lists source new) s ≡ list_at lists s ++ cond (source == s) (site ∷ []) []
list_more lists source old new site s in' here pushed =
    let view : Vec ℕ → List ℕ = λ v. v.items in
    let many = length-map lists view in
    ap (λ l. get_or l s []) (map-set view lists source new)
    ∙ elim (cases_Bool (source == s)) [
      | inl t ↦ grind (arith, common_steps, get_or-map view lists source old [] in', get_or-set_same (map view lists) source new.items [])
      | inr f ↦
          get_or-set_other (map view lists) source s new.items [] (λ q. false≢true (sym f ∙ eq-eqb source s (sym q)))
          ∙ sym (append-nil (list_at lists s))
          ∙ (λ i. list_at lists s ++ sym (cond-false (source == s) (site ∷ []) [] f) i)
    ]

-- where a site is brought from that source
pub field_more : (lists : List (Vec ℕ)) (source : ℕ) (b : Site) (old new : Vec ℕ) (site s : ℕ) → brought_from b ≡ Some source → source < length lists → old ≡ get_or lists source old → new.items ≡ old.items ++ site ∷ []
    → list_at (set lists source new) s ≡ list_at lists s ++ cond (is_brought_from s b) (site ∷ []) []
field_more lists source b old new site s e in' here pushed = grind (arith, common_steps, list_more lists source old new site s in' here pushed)

-- the source of a site comes before it
pub brought_before : (sites : List Site) (n : ℕ) (b : Site) (a : ℕ) → ((s a : ℕ) → Contains (sources_at sites s) a → a < s) → slice_get sites n ≡ Some b → brought_from b ≡ Some a → a < n
brought_before sites n b a h e g = h n a (subst (λ l. Contains l a) (sym (ap (λ o. elim o as (λ _. List ℕ) [ None ↦ [] | Some b ↦ sources_of b ]) e)) (is_source b g))
  where
    alone : (source : ℕ) → Some source ≡ Some a → Contains (source ∷ []) a
    alone source g = subst (λ x. Contains (source ∷ []) x) (same_Some source a g) (in_head source [])

    is_source : (b : Site) → brought_from b ≡ Some a → Contains (sources_of b) a
    is_source (iterator_site source) g = alone source g
    is_source (match_variant_site source variant field) g = alone source g
    is_source (extract_struct_site source field) g = alone source g
    is_source (match_some_site source) g = alone source g
    is_source _ g = absurd (none-some a g)

pub site_here : (bindings : List Binding) (n : ℕ) (b : Binding) → n < length bindings → b ≡ get_or bindings n b → slice_get (site_views bindings) n ≡ Some (site_view b)
site_here bindings n b l e = slice_get-map site_view bindings n ∙ ap (option_map site_view) (slice_get-get_or bindings n b l ∙ ap Some (sym e))

-- what is listed under s of one site more
pub listed_more : (sites : List Site) (s n site : ℕ) (b : Site) (xs : List ℕ) → slice_get sites n ≡ Some b → site ≡ n → xs ≡ filter (passes_at (is_brought_from s) sites) (up_to n)
    → xs ++ cond (is_brought_from s b) (site ∷ []) [] ≡ filter (passes_at (is_brought_from s) sites) (up_to (n + 1))
listed_more sites s n site b xs e q x = grind (arith, common_steps, filter-append)

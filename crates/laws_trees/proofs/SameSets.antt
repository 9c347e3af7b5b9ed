-- Two sets that are built of the rules of one term show the same.
use Rattle.std.proofs.Common.{◌≡◌, ℕ, zero, suc, ◌<◌, true, if◌then◌else◌, List, [], ◌∷◌, map, length, Option, Some, None, slice_get, Contains, refl, sym, ap, ◌∙◌, subst, subst₂, inl, inr, arith}
use Rattle.std.proofs.lemmas.Bool.{cases_Bool, cond-true, cond-false}
use Rattle.std.proofs.lemmas.Option.{none-some, same_Some}
use Rattle.std.proofs.lemmas.Grind.{common_steps}
use Rattle.laws_sites.proofs.overlaps.Overlaps.{bool_same}
use Rattle.model.specs.rules.Program.{Program, rules_of}
use Rattle.model.specs.sites.Sites.{Site, bool_site, int_site, prim_site, argument_site, extractor_site, constructor_site, iterator_site, make_variant_site, match_variant_site, make_struct_site, extract_struct_site, make_some_site, match_some_site, match_tuple_site, Constraint, SetRule, SiteSet, sources_of, sources_at, SiteTerm, bool_term, int_term, prim_term, argument, extractor_call, constructor_call, pick_of, variant_made, variant_field, struct_made, struct_field, some_made, some_part, tuple_part, no_site, SiteTerms, no_site_term, site_term_and, each_term, layer, layer_at, unfold_site}
use Rattle.model.specs.visits.Demands.{site_term_eq}
use Rattle.model.specs.sites.Limits.{sites_after_rules}
use Rattle.model.specs.sites.Overlap.{BuiltRule}
use Rattle.model.specs.sites.RuleSets.{IsRuleOf, AreRulesOfSet, IsBuilt}
use Rattle.model.specs.trees.Places.{is_in, joins_in, constraint_at}
use Rattle.model.proofs.Elements.{In, contains_from_in}
use Rattle.model.proofs.Members.{get_within, in_head, in_tail, member_found, member_is_in, constraint_in}
use Rattle.model.proofs.SameSites.{term_means, same_term}
use Rattle.model.proofs.Options.{options_one}
use Rattle.laws_sites.proofs.built.DistinctSites.{once_of_term, one_number}
use Rattle.laws_sites.proofs.built.Unfolding.{unfolds}
use Rattle.laws_trees.specs.OneAnswer.{EachTwo, ShowSame, BuiltSetsShowSame}
use Rattle.laws_trees.proofs.runs.Contents.{StandApart}
use Rattle.laws_trees.proofs.TreeMeanings.{asked_once}

-- 1. values that answer alike
lists_one : {X : Type 0} (xs ys : List X) → length xs ≡ length ys → ((i : ℕ) → i < length xs → slice_get xs i ≡ slice_get ys i) → xs ≡ ys
lists_one [] [] e f = refl
lists_one [] (y ∷ ys) e f = absurd (omega (arith, e))
lists_one (x ∷ xs) [] e f = absurd (omega (arith, e))
lists_one (x ∷ xs) (y ∷ ys) e f =
    let first : x ≡ y = same_Some x y (f 0 (omega arith)) in
    let rest : xs ≡ ys = lists_one xs ys (omega (arith, e)) (λ i l. f (suc i) (omega (arith, l))) in
    λ k. first k ∷ rest k

abbrev pub head_or : {X : Type 0} → X → List X → X
head_or d [] = d
head_or d (x ∷ xs) = x

abbrev pub rest_of : {X : Type 0} → List X → List X
rest_of [] = []
rest_of (x ∷ xs) = xs

-- 2. a site is read off the tree that it stands for, given the numbers of its parts
abbrev place : List SiteTerm → SiteTerm → ℕ
place [] u = 0
place (t ∷ ts) u = if site_term_eq t u then 0 else suc (place ts u)

at_place : (ts : List SiteTerm) (k : ℕ) (u : SiteTerm) → slice_get ts k ≡ Some u → slice_get ts (place ts u) ≡ Some u
at_place [] k u e = absurd (none-some u e)
at_place (t ∷ ts) zero u e = ap (slice_get (t ∷ ts)) (cond-true (site_term_eq t u) 0 (suc (place ts u)) (same_term t u (same_Some t u e))) ∙ e
at_place (t ∷ ts) (suc k) u e =
    elim (cases_Bool (site_term_eq t u)) [
      | inl h ↦ ap (slice_get (t ∷ ts)) (cond-true (site_term_eq t u) 0 (suc (place ts u)) h) ∙ ap Some (term_means t u h)
      | inr h ↦ ap (slice_get (t ∷ ts)) (cond-false (site_term_eq t u) 0 (suc (place ts u)) h) ∙ at_place ts k u e
    ]

abbrev numbers_of : (SiteTerm → ℕ) → SiteTerms → List ℕ
numbers_of g no_site_term = []
numbers_of g (site_term_and t rest) = g t ∷ numbers_of g rest

abbrev read : (SiteTerm → ℕ) → SiteTerm → Option Site
read g (bool_term b ty) = Some (bool_site b ty)
read g (int_term z ty) = Some (int_site z ty)
read g (prim_term name) = Some (prim_site name)
read g (argument i) = Some (argument_site i)
read g (extractor_call term of) = Some (extractor_site term (g of))
read g (constructor_call term args instance) = Some (constructor_site term (numbers_of g args) instance)
read g (pick_of of) = Some (iterator_site (g of))
read g (variant_made ty variant fields) = Some (make_variant_site ty variant (numbers_of g fields))
read g (variant_field of variant field) = Some (match_variant_site (g of) variant field)
read g (struct_made ty fields) = Some (make_struct_site ty (numbers_of g fields))
read g (struct_field of field) = Some (extract_struct_site (g of) field)
read g (some_made of) = Some (make_some_site (g of))
read g (some_part of) = Some (match_some_site (g of))
read g (tuple_part of field) = Some (match_tuple_site (g of) field)
read g no_site = None

read_each : (f : ℕ → SiteTerm) (g : SiteTerm → ℕ) (xs : List ℕ) → ((a : ℕ) → In xs a → g (f a) ≡ a) → numbers_of g (each_term f xs) ≡ xs
read_each f g [] h = refl
read_each f g (x ∷ xs) h = grind (arith, common_steps, read_each f g xs (λ a i. h a (inr i)))

read_layer : (f : ℕ → SiteTerm) (g : SiteTerm → ℕ) (b : Site) → ((a : ℕ) → In (sources_of b) a → g (f a) ≡ a) → read g (layer f b) ≡ Some b
read_layer f g b h = grind (arith, common_steps, read_each)

abbrev sources_in : Option Site → List ℕ
sources_in o = elim o [ None ↦ [] | Some b ↦ sources_of b ]

module _ (p : Program) (t : ℕ) where
  abbrev made : List SiteTerm
  made = sites_after_rules p [] (rules_of p t)

  module _ (set : SiteSet) (built : IsBuilt p t set) where
    placed : (a : ℕ) → a < length set.sites → place made (unfold_site set.sites a) ≡ a
    placed a l =
        once_of_term p t (place made (unfold_site set.sites a)) a (unfold_site set.sites a)
        (at_place made a (unfold_site set.sites a) (built.sites.exact a l)) (built.sites.exact a l)

    site_read : (s : ℕ) → s < length set.sites → slice_get set.sites s ≡ read (place made) (unfold_site set.sites s)
    site_read s l =
        let b = get_within set.sites s l in
        let whole : unfold_site set.sites s ≡ layer (unfold_site set.sites) b.0 = unfolds set.sites built.sources s ∙ ap (layer_at (unfold_site set.sites)) b.1 in
        let smaller : (a : ℕ) → In (sources_of b.0) a → a < s = λ a i.
        built.sources s a (contains_from_in (sources_at set.sites s) a (subst (λ o. In (sources_in o) a) (sym b.1) i)) in
        b.1
        ∙ sym (read_layer (unfold_site set.sites) (place made) b.0 (λ a i. placed a (let k : a < s = smaller a i in omega (arith, k, l))))
        ∙ ap (read (place made)) (sym whole)

  sites_one : (a b : SiteSet) → IsBuilt p t a → IsBuilt p t b → a.sites ≡ b.sites
  sites_one a b x y = grind (arith, common_steps, lists_one, same_Some, site_read)

-- 3. rules
module _ (p : Program) (sites : List Site) (number : StandApart sites) where
  asked_too : (b : BuiltRule) (r q : SetRule) → IsRuleOf p sites b r → IsRuleOf p sites b q → (s : ℕ) (c : Constraint) → Contains r.constraints (s, c) → Contains q.constraints (s, c)
  asked_too b r q x y s c k =
      let asked = x.constraints.asked s c k in
      let w = y.constraints.all_asked (unfold_site sites s) c asked.1 in
      subst (λ z. Contains q.constraints (z, c)) (number w.0 s (y.constraints.asked w.0 c w.1).0 asked.0 w.2) w.1

  constraint_too : (b : BuiltRule) (r q : SetRule) → IsRuleOf p sites b r → IsRuleOf p sites b q → (s : ℕ) (c : Constraint) → constraint_at r.constraints s ≡ Some c → constraint_at q.constraints s ≡ Some c
  constraint_too b r q x y s c e = asked_once q.constraints y.constraints.once s c (asked_too b r q x y s c (constraint_in r.constraints s c e))

  joined_too : (b : BuiltRule) (r q : SetRule) → IsRuleOf p sites b r → IsRuleOf p sites b q → (i j : ℕ) → joins_in r.classes i j ≡ true → joins_in q.classes i j ≡ true
  joined_too b r q x y i j h =
      let c = x.classes.joined i j h in
      let w = y.classes.all_joined c.2 (unfold_site sites i) (unfold_site sites j) c.3 c.4 c.5 in
      let v = y.classes.joined w.0 w.1 w.2 in
      subst₂ (λ m n. joins_in q.classes m n ≡ true) (number w.0 i v.0 c.0 w.3) (number w.1 j v.1 c.1 w.4) w.2

  gone_over_too : (b : BuiltRule) (r q : SetRule) → IsRuleOf p sites b r → IsRuleOf p sites b q → (s : ℕ) → is_in s r.iterators ≡ true → is_in s q.iterators ≡ true
  gone_over_too b r q x y s h =
      let c = x.iterators.gone_over s (member_found s r.iterators h) in
      let w = y.iterators.all_gone_over (unfold_site sites s) c.1 in
      member_is_in s q.iterators (subst (Contains q.iterators) (number w.0 s (y.iterators.gone_over w.0 w.1).0 c.0 w.2) w.1)

  numbers_one : (is js : List ℕ) → ((i : ℕ) → Contains is i → i < length sites) → ((j : ℕ) → Contains js j → j < length sites)
      → map (unfold_site sites) is ≡ map (unfold_site sites) js → is ≡ js
  numbers_one [] [] f g e = refl
  numbers_one [] (j ∷ js) f g e = (let n : 0 ≡ suc (length (map (unfold_site sites) js)) = ap length e in absurd (omega (arith, n)))
  numbers_one (i ∷ is) [] f g e = (let n : suc (length (map (unfold_site sites) is)) ≡ 0 = ap length e in absurd (omega (arith, n)))
  numbers_one (i ∷ is) (j ∷ js) f g e =
      let first : i ≡ j = number i j (f i (in_head i is)) (g j (in_head j js)) (ap (head_or (unfold_site sites i)) e) in
      let rest : is ≡ js = numbers_one is js (λ k c. f k (in_tail i k is c)) (λ k c. g k (in_tail j k js c)) (ap rest_of e) in
      λ k. first k ∷ rest k

  rule_one : (b : BuiltRule) (r q : SetRule) → IsRuleOf p sites b r → IsRuleOf p sites b q → ShowSame r q
  rule_one b r q x y = grind (arith, common_steps, options_one, constraint_too, bool_same, joined_too, gone_over_too, numbers_one)

  rules_one : (bs : List BuiltRule) (rs qs : List SetRule) → AreRulesOfSet p sites bs rs → AreRulesOfSet p sites bs qs → EachTwo ShowSame rs qs
  rules_one [] [] [] x y = tt
  rules_one [] [] (q ∷ qs) x y = absurd y
  rules_one [] (r ∷ rs) qs x y = absurd x
  rules_one (b ∷ bs) [] qs x y = absurd x
  rules_one (b ∷ bs) (r ∷ rs) [] x y = absurd y
  rules_one (b ∷ bs) (r ∷ rs) (q ∷ qs) x y = (rule_one b r q x.0 y.0, rules_one bs rs qs x.1 y.1)

pub built_sets_show_same_lem : BuiltSetsShowSame
built_sets_show_same_lem p t a b x y = grind (arith, common_steps, sites_one, rules_one, one_number)

-- Which rules a rule may overlap, by what is asked of one site.
use Rattle.std.proofs.Common.{◌≡◌, ℕ, ◌+◌, ◌<◌, ◌≤◌, ◌==◌, Bool, true, false, not, ◌&&◌, ◌||◌, List, [], ◌∷◌, ◌++◌, length, take, get_or, Option, None, Some, MatchOption, slice_get, Contains, if◌then◌else◌, refl, sym, ap, ◌∙◌, subst, ◌⊎◌, inl, inr, arith, eq-eqb}
use Rattle.std.specs.BTreeMap.{BTreeMap, Updates, get, is_at}
use Rattle.std.specs.Global.{Vec}
use Rattle.std.specs.List.{list_any}
use Rattle.std.specs.Map.{lookup}
use Rattle.std.proofs.lemmas.Bool.{cases_Bool, cases_lt, and_from, cond-false, cond-true, or_cases, or_left, or_right, false≢true}
use Rattle.std.proofs.lemmas.List.{append-nil, take_more}
use Rattle.std.proofs.lemmas.List.Elements.{Contains-append_left, Contains-append_right, Contains-push_cases}
use Rattle.std.proofs.lemmas.List.Folds.{Any-from_list_any, list_any_at}
use Rattle.std.proofs.lemmas.Map.Keys.{any_passes_from_place}
use Rattle.std.specs.Cmp.{Equal-is}
use Rattle.std.proofs.lemmas.Cmp.{eq_by_cmp_equiv}
use Rattle.std.proofs.lemmas.Option.{get_or_from_slice_get, none-some, same_Some, slice_get-get_or, slice_get_within}
use Rattle.std.proofs.Math.Bool.{and-false}
use Rattle.model.specs.sites.Sites.{Constraint, SetRule}
use Rattle.model.specs.sites.SetRules.{sites_differ, differs_at, is_subset_of_sites, may_both_match, no_overlap, some_overlap}
use Rattle.model.specs.trees.Places.{constraint_at}
use Rattle.model.specs.visits.Demands.{constraint_eq}
use Rattle.model.proofs.Members.{constraint_in, in_head, passes_any}
use Rattle.model.proofs.SameSites.{constraint_means}
use Rattle.core_rule_sets.specs.Endings.{items_of}
use Rattle.core_rule_sets.specs.SiteViews.{constraint_view, set_rule_view}
use Rattle.core_rule_sets.specs.contracts.trie_again.ConstraintOrd.TheImpl.{ghosts}
use Rattle.core_rule_sets.specs.contracts.trie_again.ConstraintOrd.TheImpl.Laws.{total-law}
use Rattle.core_rule_sets.specs.declared.trie_again.Constraint as C
use Rattle.core_rule_sets.specs.declared.trie_again.Rule.{Rule}
use Rattle.laws_ways.specs.IdlePriorities.{may_meet}
use Rattle.report_warnings.specs.declared.priorities.Groups.{Groups}
use Rattle.report_warnings.specs.IdlePriorities.{meets_some}
use Rattle.report_warnings.proofs.Constraints.{one_said}
use Rattle.report_warnings.specs.RuleGroups.{AddsIfThere, AddsNumber, AreGrouped, AreGroupedAmong, Asks, listed_with, meets_listed, meets_number, numbers_asking}

-- 1. two rules that overlap ask nothing different of a site
differ : (as' bs : List (ℕ × Constraint)) (s : ℕ) (c d : Constraint) → constraint_at as' s ≡ Some c → constraint_at bs s ≡ Some d → constraint_eq c d ≡ false → sites_differ as' bs ≡ true
differ as' bs s c d e f n =
    passes_any (λ a. list_any (differs_at a) bs) as' (s, c) (constraint_in as' s c e)
    (passes_any (differs_at (s, c)) bs (s, d) (constraint_in bs s d f)
    (and_from (s == s) (not (constraint_eq c d)) (eq-eqb s s refl) (ap not n)))

apart : (a b : SetRule) → sites_differ a.constraints b.constraints ≡ true → may_meet a b ≡ false
apart a b h = ap (λ t. not (a.id == b.id) && may_both_match (if t then no_overlap else some_overlap (is_subset_of_sites a b))) h ∙ and-false (not (a.id == b.id))

alike : (a b : SetRule) (s : ℕ) (c d : Constraint) → may_meet a b ≡ true → constraint_at a.constraints s ≡ Some c → constraint_at b.constraints s ≡ Some d → c ≡ d
alike a b s c d m e f = elim (cases_Bool (constraint_eq c d)) [
  | inl t ↦ constraint_means c d t
  | inr n ↦ absurd (false≢true (sym (apart a b (differ a.constraints b.constraints s c d e f n)) ∙ m))
]

-- 2. so a rule overlaps only those that are listed with what it asks, or with nothing
module _ (rules : List Rule) (rule : Rule) where
  listed_met : (ns : List ℕ) (n : ℕ) (other : Rule) → Contains ns n → slice_get rules n ≡ Some other → may_meet (set_rule_view rule) (set_rule_view other) ≡ true → meets_listed rules rule ns ≡ true
  listed_met ns n other c at m =
      list_any_at (meets_number rules rule) ns c.0 n c.1 (ap (meets_number rules rule) c.2 ∙ ap (λ o. elim o [ None ↦ false | Some s ↦ may_meet (set_rule_view rule) (set_rule_view s) ]) at ∙ m)

  met_by_number : (n : ℕ) (o : Option Rule) → slice_get rules n ≡ o → elim o [ None ↦ false | Some s ↦ may_meet (set_rule_view rule) (set_rule_view s) ] ≡ true → meets_some rules rule ≡ true
  met_by_number n None at m = absurd (false≢true m)
  met_by_number n (Some other) at m = any_passes_from_place (λ s. may_meet (set_rule_view rule) (set_rule_view s)) rules n other at m

  pub met_listed : (ns : List ℕ) → meets_listed rules rule ns ≡ true → meets_some rules rule ≡ true
  met_listed ns h = let w = Any-from_list_any (meets_number rules rule) ns h in met_by_number w.1 (slice_get rules w.1) refl w.4

  -- whichever of two lists has it
  abbrev Either : Groups → C.Constraint → Type 0
  Either g asked = (meets_listed rules rule (numbers_asking g.asking asked) || meets_listed rules rule g.bare.items) ≡ true

  module _ (g : Groups) (asked : C.Constraint) (asks : Asks g.site rule (Some asked)) where
    by_asked : (n : ℕ) (other : Rule) (now : Option Constraint) → ((o : Option C.Constraint) → Asks g.site other o → Contains (listed_with g o) n) → slice_get rules n ≡ Some other
        → may_meet (set_rule_view rule) (set_rule_view other) ≡ true → constraint_at (set_rule_view other).constraints g.site ≡ now → Either g asked
    by_asked n other None listed at m e =
        or_right (meets_listed rules rule (numbers_asking g.asking asked)) (meets_listed rules rule g.bare.items) (listed_met g.bare.items n other (listed None (sym e)) at m)
    by_asked n other (Some d) listed at m e =
        let same = alike (set_rule_view rule) (set_rule_view other) g.site (constraint_view asked) d m (sym asks) e in
        or_left (meets_listed rules rule (numbers_asking g.asking asked)) (meets_listed rules rule g.bare.items)
        (listed_met (numbers_asking g.asking asked) n other (listed (Some asked) (ap Some same ∙ sym e)) at m)

    found : AreGrouped rules g → meets_some rules rule ≡ true → Either g asked
    found grouped h =
        let w = Any-from_list_any (λ s. may_meet (set_rule_view rule) (set_rule_view s)) rules h in
        let at = slice_get-get_or rules w.0 w.1 w.2 ∙ ap Some w.3 in
        by_asked w.0 w.1 (constraint_at (set_rule_view w.1).constraints g.site) (λ o. grouped w.0 w.1 o at) at w.4 refl

    -- of those of some numbers
    pub found_among : (ns : List ℕ) → AreGroupedAmong ns rules g → meets_listed rules rule ns ≡ true → Either g asked
    found_among ns grouped h = let w = Any-from_list_any (meets_number rules rule) ns h in of_number w.1 (slice_get rules w.1) refl (w.0, w.2, w.3) w.4
      where
        of_number : (n : ℕ) (o : Option Rule) → slice_get rules n ≡ o → Contains ns n → elim o [ None ↦ false | Some s ↦ may_meet (set_rule_view rule) (set_rule_view s) ] ≡ true → Either g asked
        of_number n None at c m = absurd (false≢true m)
        of_number n (Some other) at c m = by_asked n other (constraint_at (set_rule_view other).constraints g.site) (λ o. grouped n other o c at) at m refl

    pub back : Either g asked → meets_some rules rule ≡ true
    back h = elim (or_cases (meets_listed rules rule (numbers_asking g.asking asked)) (meets_listed rules rule g.bare.items) h) [
      | inl l ↦ met_listed (numbers_asking g.asking asked) l
      | inr r ↦ met_listed g.bare.items r
    ]

    -- where those that ask nothing are looked through in another way
    pub only_listed : AreGrouped rules g → (bare : Bool) → (meets_listed rules rule g.bare.items ≡ true → bare ≡ true) → (bare ≡ true → meets_some rules rule ≡ true)
        → (meets_listed rules rule (numbers_asking g.asking asked) || bare) ≡ meets_some rules rule
    only_listed grouped bare met only = alike_tests (meets_listed rules rule (numbers_asking g.asking asked) || bare) (meets_some rules rule) (λ h. elim (or_cases (meets_listed rules rule (numbers_asking g.asking asked)) bare h) [
      | inl l ↦ met_listed (numbers_asking g.asking asked) l
      | inr r ↦ only r
    ]) (λ h. elim (or_cases (meets_listed rules rule (numbers_asking g.asking asked)) (meets_listed rules rule g.bare.items) (found grouped h)) [
      | inl l ↦ or_left (meets_listed rules rule (numbers_asking g.asking asked)) bare l
      | inr r ↦ or_right (meets_listed rules rule (numbers_asking g.asking asked)) bare (met r)
    ])
      where
        alike_tests : (s t : Bool) → (s ≡ true → t ≡ true) → (t ≡ true → s ≡ true) → s ≡ t
        alike_tests true t f k = sym (f refl)
        alike_tests false true f k = k refl
        alike_tests false false f k = refl

-- 3. a rule is listed with those that ask the same
equal_keys : (m : BTreeMap C.Constraint (Vec ℕ)) (k q : C.Constraint) → is_at (ghosts.cmp k) q ≡ true → numbers_asking m q ≡ numbers_asking m k
equal_keys m k q e = ap items_of (λ i. lookup (is_at (λ x. sym (total-law.congr k q x ((Equal-is (ghosts.cmp k q)).0 e)) i)) m.entries)

pub number_more : (old new : BTreeMap C.Constraint (Vec ℕ)) (k : C.Constraint) (v : Vec ℕ) (n : ℕ) → Updates ghosts.cmp old new k (Some v) → v.items ≡ numbers_asking old k ++ n ∷ []
    → (q : C.Constraint) → numbers_asking new q ≡ numbers_asking old q ++ (if is_at (ghosts.cmp k) q then n ∷ [] else [])
number_more old new k v n u e q = ap items_of (u.0 q) ∙ elim (cases_Bool (is_at (ghosts.cmp k) q)) [
  | inl t ↦
      ap items_of (cond-true (is_at (ghosts.cmp k) q) (Some v) (get ghosts.cmp old q) t) ∙ e
      ∙ ap (λ ns. ns ++ n ∷ []) (sym (equal_keys old k q t))
      ∙ sym (ap (λ b. numbers_asking old q ++ (if b then n ∷ [] else [])) t)
  | inr f ↦
      ap items_of (cond-false (is_at (ghosts.cmp k) q) (Some v) (get ghosts.cmp old q) f)
      ∙ sym (ap (λ b. numbers_asking old q ++ (if b then n ∷ [] else [])) f ∙ append-nil (numbers_asking old q))
]

pub added_asking : (rule : Rule) (n : ℕ) (old new : Groups) (asked : C.Constraint) → Asks old.site rule (Some asked) → new.site ≡ old.site → new.bare.items ≡ old.bare.items
    → ((q : C.Constraint) → numbers_asking new.asking q ≡ numbers_asking old.asking q ++ (if is_at (ghosts.cmp asked) q then n ∷ [] else [])) → AddsNumber rule n old new
added_asking rule n old new asked asks site bare h = record {
  site = site;
  here = λ other e. subst (λ o. Contains (listed_with new o) n) (one_said (Some asked) other (asks ∙ sym e)) (
      subst (λ ns. Contains ns n) (sym (h asked ∙ ap (λ b. numbers_asking old.asking asked ++ (if b then n ∷ [] else [])) (itself asked)))
      (Contains-append_right (numbers_asking old.asking asked) (n ∷ []) n (in_head n [])));
  kept = kept;
}
  where
    itself : (c : C.Constraint) → is_at (ghosts.cmp c) c ≡ true
    itself c = (eq_by_cmp_equiv total-law).refl c

    kept : (o : Option C.Constraint) (m : ℕ) → Contains (listed_with old o) m → Contains (listed_with new o) m
    kept None m c = subst (λ ns. Contains ns m) (sym bare) c
    kept (Some q) m c = subst (λ ns. Contains ns m) (sym (h q)) (Contains-append_left (numbers_asking old.asking q) (if is_at (ghosts.cmp asked) q then n ∷ [] else []) m c)

pub added_bare : (rule : Rule) (n : ℕ) (old new : Groups) → Asks old.site rule None → new.site ≡ old.site → new.bare.items ≡ old.bare.items ++ n ∷ [] → new.asking ≡ old.asking → AddsNumber rule n old new
added_bare rule n old new asks site bare same = record {
  site = site;
  here = λ other e. subst (λ o. Contains (listed_with new o) n) (one_said None other (asks ∙ sym e)) (
      subst (λ ns. Contains ns n) (sym bare) (Contains-append_right old.bare.items (n ∷ []) n (in_head n [])));
  kept = kept;
}
  where
    kept : (o : Option C.Constraint) (m : ℕ) → Contains (listed_with old o) m → Contains (listed_with new o) m
    kept None m c = subst (λ ns. Contains ns m) (sym bare) (Contains-append_left old.bare.items (n ∷ []) m c)
    kept (Some q) m c = subst (λ ns. Contains ns m) (ap (λ a. numbers_asking a q) (sym same)) c

-- so many rules stand with those that ask the same
abbrev pub AreGroupedTo : ℕ → List Rule → Groups → Type 0
AreGroupedTo k rules g = (n : ℕ) (r : Rule) (asked : Option C.Constraint) → n < k → slice_get rules n ≡ Some r → Asks g.site r asked → Contains (listed_with g asked) n

pub grouped_more : (rules : List Rule) (k : ℕ) (rule : Rule) (old new : Groups) → rule ≡ get_or rules k rule → AreGroupedTo k rules old → AddsNumber rule k old new → AreGroupedTo (k + 1) rules new
grouped_more rules k rule old new this h added n r asked l at asks =
    let asked_before = subst (λ s. Asks s r asked) added.site asks in
    elim (cases_lt n k) [
      | inl before ↦ added.kept asked n (h n r asked before at asked_before)
      | inr behind ↦
          let same : n ≡ k = omega (arith, l, behind) in
          let is : rule ≡ r = this ∙ ap (λ i. get_or rules i rule) (sym same) ∙ get_or_from_slice_get rules n r rule at in
          subst (λ i. Contains (listed_with new asked) i) (sym same) (added.here asked (subst (λ x. Asks old.site x asked) (sym is) asked_before))
    ]

pub all_grouped : (rules : List Rule) (k : ℕ) (g : Groups) → length rules ≤ k → AreGroupedTo k rules g → AreGrouped rules g
all_grouped rules k g e h n r asked at = h n r asked (let l = slice_get_within rules n r at in omega (arith, l, e)) at

-- likewise those of the first so many numbers
module _ (rules : List Rule) (ns : List ℕ) (k m : ℕ) (within : k < length ns) (this : m ≡ get_or ns k m) where
  either : (n : ℕ) → Contains (take (k + 1) ns) n → Contains (take k ns) n ⊎ (m ≡ n)
  either n c = elim (Contains-push_cases (take k ns) (get_or ns k m) n (subst (λ l. Contains l n) (take_more ns k m within) c)) [
    | inl before ↦ inl before
    | inr last ↦ inr (this ∙ last)
  ]

  one_more : (o : Option Rule) (old new : Groups) → slice_get rules m ≡ o → AreGroupedAmong (take k ns) rules old → MatchOption o (new ≡ old) (λ rule. AddsNumber rule m old new) → AreGroupedAmong (take (k + 1) ns) rules new
  one_more (Some rule) old new is h added n r asked c at asks =
      let asked_before = subst (λ s. Asks s r asked) added.site asks in
      elim (either n c) [
        | inl before ↦ added.kept asked n (h n r asked before at asked_before)
        | inr same ↦
            let one : rule ≡ r = same_Some rule r (sym is ∙ ap (slice_get rules) same ∙ at) in
            subst (λ i. Contains (listed_with new asked) i) same (added.here asked (subst (λ x. Asks old.site x asked) (sym one) asked_before))
      ]
  one_more None old new is h same n r asked c at asks = elim (either n c) [
    | inl before ↦ subst (λ g. Contains (listed_with g asked) n) (sym same) (h n r asked before at (subst (λ g. Asks g.site r asked) same asks))
    | inr here ↦ absurd (none-some r (sym is ∙ ap (slice_get rules) here ∙ at))
  ]

  pub among_more : (old new : Groups) → AreGroupedAmong (take k ns) rules old → AddsIfThere rules m old new → AreGroupedAmong (take (k + 1) ns) rules new
  among_more old new h added = one_more (slice_get rules m) old new refl h added

-- Calls can be gone over in every order in which each comes after those that its arguments take answers of.
use Rattle.std.proofs.Common.{◌≡◌, List, [], ◌∷◌, ◌++◌, Contains, flat_map, sym, ap, subst, subst₂, inl, inr}
use Rattle.std.specs.Prelude.{IsPermutation}
use Rattle.std.proofs.lemmas.List.Elements.{Contains-append_left, Contains-append_right, Contains-append_cases}
use Rattle.std.proofs.lemmas.List.Sorted.{IsPermutation-refl, IsPermutation-trans}
use Rattle.model.specs.lists.Names.{IsDistinct}
use Rattle.model.specs.rules.Values.{Value}
use Rattle.model.specs.rules.Meaning.{Content, Meaning}
use Rattle.model.specs.rules.Picks.{Pick, site_content, places_in}
use Rattle.model.specs.sites.Sites.{SiteTerm}
use Rattle.model.proofs.Bags.{each_moved}
use Rattle.model.proofs.DistinctJoined.{distinct_cons, distinct_tail, not_in_tail}
use Rattle.model.proofs.Members.{nothing_in, in_head, in_tail, in_cases}
use Rattle.laws_trees.specs.Orders.{Within, OrderedFrom, IsOfPlaces}
use Rattle.laws_trees.proofs.picks.Calls.{ordered_prefix}
use Rattle.laws_trees.proofs.picks.FirstCall.{made_by, made_each, calls_can_come_first_lem}
use Rattle.laws_trees.proofs.picks.LongerPicks.{keys, keys_push}

-- 1. one element of a list, and the others
module _ {X : Type 0} where
  split_at : (c : X) (xs : List X) → Contains xs c → (before after : List X) × (xs ≡ before ++ c ∷ after)
  split_at c [] h = absurd (nothing_in c h)
  split_at c (x ∷ xs) h =
      elim (in_cases x c xs h) [
        | inl e ↦ ([], xs, ap (λ y. y ∷ xs) e)
        | inr d ↦ let r = split_at c xs d in (x ∷ r.0, r.1, ap (λ l. x ∷ l) r.2)
      ]

  other_in : (c : X) (before after : List X) (x : X) → Contains (before ++ after) x → Contains (before ++ c ∷ after) x
  other_in c before after x h =
      elim (Contains-append_cases before after x h) [
        | inl a ↦ Contains-append_left before (c ∷ after) x a
        | inr b ↦ Contains-append_right before (c ∷ after) x (in_tail c x after b)
      ]

  not_among_others : (c : X) (before after : List X) → IsDistinct (before ++ c ∷ after) → Contains (before ++ after) c → ⊥
  not_among_others c [] after d h = not_in_tail c after d h
  not_among_others c (x ∷ before) after d h =
      elim (in_cases x c (before ++ after) h) [
        | inl e ↦
            not_in_tail x (before ++ c ∷ after) d
            (subst (Contains (before ++ c ∷ after)) (sym e) (Contains-append_right before (c ∷ after) c (in_head c after)))
        | inr k ↦ not_among_others c before after (distinct_tail x (before ++ c ∷ after) d) k
      ]

  others_distinct : (c : X) (before after : List X) → IsDistinct (before ++ c ∷ after) → IsDistinct (before ++ after)
  others_distinct c [] after d = distinct_tail c after d
  others_distinct c (x ∷ before) after d =
      distinct_cons x (before ++ after) (λ h. not_in_tail x (before ++ c ∷ after) d (other_in c before after x h))
      (others_distinct c before after (distinct_tail x (before ++ c ∷ after) d))

-- 2. orders
pushed : (ls ms : List SiteTerm) (x : SiteTerm) → Within ls ms → Within (ls ++ x ∷ []) (ms ++ x ∷ [])
pushed ls ms x w c h =
    elim (Contains-append_cases ls (x ∷ []) c h) [ inl a ↦ Contains-append_left ms (x ∷ []) c (w c a) | inr b ↦ Contains-append_right ms (x ∷ []) c b ]

ordered_within : (ls ms xs : List SiteTerm) → Within ls ms → OrderedFrom ls xs → OrderedFrom ms xs
ordered_within ls ms [] w h = tt
ordered_within ls ms (x ∷ xs) w h = ((λ c k. w c (h.0 c k)), ordered_within (ls ++ x ∷ []) (ms ++ x ∷ []) xs (pushed ls ms x w) h.1)

turned : (ls : List SiteTerm) (x c : SiteTerm) → Within ((ls ++ x ∷ []) ++ c ∷ []) ((ls ++ c ∷ []) ++ x ∷ [])
turned ls x c e h =
    elim (Contains-append_cases (ls ++ x ∷ []) (c ∷ []) e h) [
      | inl a ↦ pushed ls (ls ++ c ∷ []) x (λ u k. Contains-append_left ls (c ∷ []) u k) e a
      | inr b ↦ Contains-append_left (ls ++ c ∷ []) (x ∷ []) e (Contains-append_right ls (c ∷ []) e b)
    ]

-- the others, after it
others_ordered : (ls : List SiteTerm) (c : SiteTerm) (before after : List SiteTerm) → OrderedFrom ls (before ++ c ∷ after) → OrderedFrom (ls ++ c ∷ []) (before ++ after)
others_ordered ls c [] after h = h.1
others_ordered ls c (x ∷ before) after h = (
  λ u k. Contains-append_left ls (c ∷ []) u (h.0 u k),
  ordered_within ((ls ++ x ∷ []) ++ c ∷ []) ((ls ++ c ∷ []) ++ x ∷ []) (before ++ after) (turned ls x c) (others_ordered (ls ++ x ∷ []) c before after h.1),
)

-- 3. what is made of all the picks
module _ (m : Meaning) (args : List Value) (f : Pick → List Content) (g : IsOfPlaces f) where
  abbrev made : Pick → List SiteTerm → List Content
  made k calls = made_by m args f g k calls

  -- calls in another such order make the same bag
  abbrev MakesAlike : List SiteTerm → Type 0
  MakesAlike ys = (xs : List SiteTerm) (k : Pick) → OrderedFrom (keys k) xs → OrderedFrom (keys k) ys → IsDistinct xs → IsDistinct ys → Within xs ys → Within ys xs → IsPermutation (made k xs) (made k ys)

  pub reordered : (ys : List SiteTerm) → MakesAlike ys
  reordered [] [] k o q d e v w = IsPermutation-refl (made k [])
  reordered [] (x ∷ xs) k o q d e v w = absurd (nothing_in x (v x (in_head x xs)))
  reordered (c ∷ cs) xs k o q d e v w = by (reordered cs) (split_at c xs (w c (in_head c cs)))
    where
      by : MakesAlike cs → (before after : List SiteTerm) × (xs ≡ before ++ c ∷ after) → IsPermutation (made k xs) (made k (c ∷ cs))
      by again (before, after, same) =
          let order = subst (OrderedFrom (keys k)) same o in
          let apart = subst IsDistinct same d in
          let rest = before ++ after in
          let new = not_among_others c before after apart in
          let moved : IsPermutation (made k xs) (made k (c ∷ rest)) = subst (λ l. IsPermutation (made k l) (made k (c ∷ rest))) (sym same)
          (calls_can_come_first_lem m args f k before after c g (ordered_prefix (keys k) before (c ∷ after) order) q.0 (λ h. new (Contains-append_left before after c h))) in
          let each : IsPermutation (flat_map (λ n. made (k ++ (c, n) ∷ []) rest) (places_in (site_content m args k c))) (flat_map (λ n. made (k ++ (c, n) ∷ []) cs) (places_in (site_content m args k c)))
          = each_moved _ _ (places_in (site_content m args k c)) (λ n.
          again rest (k ++ (c, n) ∷ [])
          (subst (λ l. OrderedFrom l rest) (keys_push k (c, n)) (others_ordered (keys k) c before after order))
          (subst (λ l. OrderedFrom l cs) (keys_push k (c, n)) q.1)
          (others_distinct c before after apart) (distinct_tail c cs e)
          (λ u h. elim (in_cases c u cs (v u (subst (λ l. Contains l u) (sym same) (other_in c before after u h)))) [
            | inl s ↦ absurd (new (subst (Contains rest) (sym s) h))
            | inr i ↦ i
          ])
          (λ u h. elim (Contains-append_cases before (c ∷ after) u (subst (λ l. Contains l u) same (w u (in_tail c u cs h)))) [
            | inl a ↦ Contains-append_left before after u a
            | inr b ↦ elim (in_cases c u after b) [
              | inl s ↦ absurd (not_in_tail c cs e (subst (Contains cs) (sym s) h))
              | inr i ↦ Contains-append_right before after u i
            ]
          ])) in
          IsPermutation-trans (made k xs) (made k (c ∷ rest)) (made k (c ∷ cs)) moved
          (subst₂ IsPermutation (sym (made_each m args f g k c rest)) (sym (made_each m args f g k c cs)) each)

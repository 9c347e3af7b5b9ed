-- The closing of a rule that is built ends: each step lessens the number of pairs of a made site and one of its owners
-- that stands in a class, and there are no more pairs than steps.
use Rattle.std.proofs.Common.{◌≡◌, ◌⊎◌, ◌+◌, ℕ, zero, suc, ◌<◌, ◌≤◌, Bool, true, false, not, ◌&&◌, cond, ◌*◌, List, [], ◌∷◌, length, Option, Some, None, sum_by, count_by, flat_map, refl, sym, ap, ◌∙◌, subst, inl, inr, arith}
use Rattle.std.proofs.lemmas.Bool.{cases_Bool, and_parts, and_from}
use Rattle.std.proofs.lemmas.List.Sums.{sum_by-cons}
use Rattle.std.proofs.lemmas.Grind.{common_steps}
use Rattle.model.specs.sites.Sites.{Constraint, SiteTerm, bool_term, int_term, prim_term, argument, extractor_call, constructor_call, pick_of, variant_made, variant_field, struct_made, struct_field, some_made, some_part, tuple_part, no_site, field_terms}
use Rattle.model.specs.visits.Demands.{Demands, site_term_eq, has_site}
use Rattle.model.specs.sites.Closure.{with_owners, Closed, class_at, without_class_of, merged_all, ascending, is_in_class, next_constrained, field_equalities, taken, closing, before_closing, most_closing_steps}
use Rattle.model.specs.sites.Limits.{most_sites}
use Rattle.laws_sites.specs.ClosureLaws.{HasEnded}
use Rattle.model.proofs.Elements.{In, some_is, none_some, any_in, in_any, in_filter, filter_from, passed_filter}
use Rattle.model.proofs.SameSites.{term_means, term_same}
use Rattle.model.proofs.SitesMade.{in_has, has_in}
use Rattle.laws_sites.proofs.Classes.{in_with_sites}
use Rattle.laws_sites.proofs.Owners.{owner_of, by_owners, owner_of_field}
use Rattle.laws_sites.proofs.FollowingDemands.{IsApart, own_class, class_found, without_in, AllIn, each_apart, each_all_in, equality_members}

-- 1. counting owners
-- one for a test that passes
abbrev bit : Bool → ℕ
bit b = cond b 1 0

-- the owners of a site, itself among them, that pass a test
abbrev owners_by : (SiteTerm → Bool) → SiteTerm → ℕ
owners_by p s = count_by p (with_owners s)

counted_field : (p : SiteTerm → Bool) (s a : SiteTerm) → with_owners s ≡ s ∷ with_owners a → owners_by p s ≡ bit (p s) + owners_by p a
counted_field p s a e = ap (count_by p) e ∙ sum_by-cons (λ x. bit (p x)) s (with_owners a)

-- each site that is taken passed before; each that passes after passed before and isn't taken, or is a field of one that is
record TakesOwners (took after was : SiteTerm → Bool) : Type 0 where
  from : (x : SiteTerm) → took x ≡ true → was x ≡ true
  new : (x : SiteTerm) → after x ≡ true → ((was x ≡ true) × (took x ≡ false)) ⊎ ((a : SiteTerm) × (owner_of x ≡ Some a) × (took a ≡ true))

-- then no site has more such owners after, and one that is taken has fewer
module _ (took after was : SiteTerm → Bool) (of : TakesOwners took after was) where
  lessened : (u : SiteTerm) → bit (took u) + owners_by after u ≤ owners_by was u
  lessened =
      by_owners (λ u. bit (took u) + owners_by after u ≤ owners_by was u)
      (λ s o e. grind (arith, common_steps, none_some))
      (λ s a o e h. grind (arith, common_steps, counted_field, some_is))

-- 2. a site has no more owners among sites than there are
-- how deep a field stands
depth : SiteTerm → ℕ
depth (variant_field a variant i) = suc (depth a)
depth (struct_field a i) = suc (depth a)
depth s = 0

depth_of_field : (s a : SiteTerm) → owner_of s ≡ Some a → depth s ≡ suc (depth a)
unfolding depth
depth_of_field (variant_field b variant i) a e = ap (λ x. suc (depth x)) (some_is b a e)
depth_of_field (struct_field b i) a e = ap (λ x. suc (depth x)) (some_is b a e)
depth_of_field (bool_term b ty) a e = absurd (none_some a e)
depth_of_field (int_term z ty) a e = absurd (none_some a e)
depth_of_field (prim_term n) a e = absurd (none_some a e)
depth_of_field (argument i) a e = absurd (none_some a e)
depth_of_field (extractor_call t b) a e = absurd (none_some a e)
depth_of_field (constructor_call t xs i) a e = absurd (none_some a e)
depth_of_field (pick_of b) a e = absurd (none_some a e)
depth_of_field (variant_made s i xs) a e = absurd (none_some a e)
depth_of_field (struct_made s xs) a e = absurd (none_some a e)
depth_of_field (some_made b) a e = absurd (none_some a e)
depth_of_field (some_part b) a e = absurd (none_some a e)
depth_of_field (tuple_part b f) a e = absurd (none_some a e)
depth_of_field no_site a e = absurd (none_some a e)

depth_same : (y s : SiteTerm) → site_term_eq y s ≡ true → depth y ≡ depth s
depth_same y s t = ap depth (term_means y s t)

module _ (y : SiteTerm) where
  -- a deeper site is no owner
  not_owner : (s : SiteTerm) → depth s < depth y → owners_by (site_term_eq y) s ≡ 0
  not_owner =
      by_owners (λ s. depth s < depth y → owners_by (site_term_eq y) s ≡ 0)
      (λ s o e l. grind (arith, common_steps, depth_same))
      (λ s a o e h l.
      let d = depth_of_field s a o in
      elim (cases_Bool (site_term_eq y s)) [
        | inl t ↦ let m = depth_same y s t in absurd (omega (arith, m, l))
        | inr f ↦ let x = counted_field (site_term_eq y) s a e in let z = ap bit f in let w = h (omega (arith, d, l)) in omega (arith, x, z, w)
      ])

  -- a site is an owner once at most
  owner_once : (s : SiteTerm) → owners_by (site_term_eq y) s ≤ 1
  owner_once =
      by_owners (λ s. owners_by (site_term_eq y) s ≤ 1)
      (λ s o e. grind (arith, common_steps))
      (λ s a o e h.
      let x = counted_field (site_term_eq y) s a e in
      elim (cases_Bool (site_term_eq y s)) [
        | inl t ↦
            let z = ap bit t in
            let d = depth_of_field s a o in
            let m = depth_same y s t in
            let w = not_owner a (omega (arith, d, m)) in
            omega (arith, x, z, w)
        | inr f ↦ let z = ap bit f in omega (arith, x, z, h)
      ])

-- where one of two tests passes, that many pass as pass either
either_passes : (p q r : SiteTerm → Bool) → ((x : SiteTerm) → p x ≡ true → (q x ≡ true) ⊎ (r x ≡ true)) → (s : SiteTerm) → owners_by p s ≤ owners_by q s + owners_by r s
either_passes p q r h =
    by_owners (λ s. owners_by p s ≤ owners_by q s + owners_by r s)
    (λ s o e. grind (arith, common_steps, one s))
    (λ s a o e k. grind (arith, common_steps, one s, counted_field))
  where
    one : (s : SiteTerm) → bit (p s) ≤ bit (q s) + bit (r s)
    one s = grind (arith, common_steps)

none_owned : (p : SiteTerm → Bool) → ((x : SiteTerm) → p x ≡ true → ⊥) → (s : SiteTerm) → owners_by p s ≡ 0
none_owned p h = grind (arith, common_steps, by_owners (λ s. owners_by p s ≡ 0), counted_field p)

owners_among : (us : List SiteTerm) (p : SiteTerm → Bool) → ((x : SiteTerm) → p x ≡ true → In us x) → (s : SiteTerm) → owners_by p s ≤ length us
owners_among [] p h s = let e = none_owned p h s in omega (arith, e)
owners_among (y ∷ us) p h s =
    let a = owners_among us (λ x. p x && not (site_term_eq y x)) rest s in
    let b = owner_once y s in
    let c = either_passes p (λ x. p x && not (site_term_eq y x)) (site_term_eq y) split s in
    omega (arith, a, b, c)
  where
    rest : (x : SiteTerm) → (p x && not (site_term_eq y x)) ≡ true → In us x
    rest x t = grind (arith, common_steps, and_parts (p x) (not (site_term_eq y x)) t, term_same y)

    split : (x : SiteTerm) → p x ≡ true → ((p x && not (site_term_eq y x)) ≡ true) ⊎ (site_term_eq y x ≡ true)
    split x t = grind (arith, common_steps, and_from (p x) (not (site_term_eq y x)) t)

-- 3. pairs of a site of a list and one of its owners that is in the list and in a class
abbrev is_held : List SiteTerm → List (List SiteTerm) → SiteTerm → Bool
is_held us ks x = has_site us x && is_in_class ks x

abbrev pairs_held : List SiteTerm → List (List SiteTerm) → ℕ
pairs_held us ks = sum_by (owners_by (is_held us ks)) us

held_few : (us : List SiteTerm) (ks : List (List SiteTerm)) (n : ℕ) → length us ≤ n → (xs : List SiteTerm) → sum_by (owners_by (is_held us ks)) xs ≤ length xs * n
held_few us ks n l [] = omega arith
held_few us ks n l (x ∷ xs) = grind (arith, common_steps, held_few us ks n l xs, sum_by-cons, owners_among, has_in, and_parts)

less_in_all : (f g : SiteTerm → ℕ) → ((x : SiteTerm) → f x ≤ g x) → (xs : List SiteTerm) → sum_by f xs ≤ sum_by g xs
less_in_all f g h [] = omega arith
less_in_all f g h (x ∷ xs) = grind (arith, common_steps, less_in_all f g h xs, sum_by-cons)

less_in_one : (f g : SiteTerm → ℕ) → ((x : SiteTerm) → f x ≤ g x) → (xs : List SiteTerm) (m : SiteTerm) → In xs m → f m < g m → sum_by f xs < sum_by g xs
less_in_one f g h [] m i l = absurd i
less_in_one f g h (x ∷ xs) m (inl e) l = grind (arith, common_steps, sum_by-cons, less_in_all)
less_in_one f g h (x ∷ xs) m (inr i) l = grind (arith, common_steps, less_in_one f g h xs m i l, sum_by-cons)

-- 4. a step
-- the site that is taken is made, and in a class
record IsNext (ks : List (List SiteTerm)) (made : List SiteTerm) (s : SiteTerm) : Type 0 where
  made_site : In made s
  in_class : is_in_class ks s ≡ true

next_is : (ks : List (List SiteTerm)) (cs : List (SiteTerm × Constraint)) (order : List SiteTerm) (c : SiteTerm × Constraint) → next_constrained ks cs order ≡ Some c → IsNext ks order c.0
next_is ks cs [] c e = absurd (none_some c e)
next_is ks cs (s ∷ ss) c e = grind (arith, common_steps, next_is ks cs ss c, some_is)

-- a step of a closing: the class of the next constraint is taken, where all that is made stands among some sites
record StepAmong (us : List SiteTerm) : Type 0 where
  closing : Closed
  apart : IsApart closing.classes
  within : (x : SiteTerm) → In closing.made x → In us x
  constraint : SiteTerm × Constraint
  next : IsNext closing.classes closing.made constraint.0

module _ (us : List SiteTerm) (step : StepAmong us) where
  abbrev k : Closed
  k = step.closing

  abbrev apart : IsApart k.classes
  apart = step.apart

  abbrev within : (x : SiteTerm) → In k.made x → In us x
  within = step.within

  abbrev c : SiteTerm × Constraint
  c = step.constraint

  abbrev next : IsNext k.classes k.made c.0
  next = step.next

  abbrev class : List SiteTerm
  class = class_at k.classes c.0

  abbrev members : List SiteTerm
  members = ascending k.made (class_at k.classes c.0)

  abbrev left : List (List SiteTerm)
  left = without_class_of k.classes c.0

  abbrev classes_after : List (List SiteTerm)
  classes_after = merged_all (without_class_of k.classes c.0) (field_equalities c.1 (ascending k.made (class_at k.classes c.0)))

  member_held : (x : SiteTerm) → has_site members x ≡ true → is_held us k.classes x ≡ true
  member_held x t =
      let i = has_in members x t in
      and_from (has_site us x) (is_in_class k.classes x) (in_has us x (within x (grind (arith, in_filter))))
      (any_in (λ l. has_site l x) k.classes class (grind (arith, common_steps, in_any, class_found, has_in)) (in_has class x (grind (arith, has_in, passed_filter))))

  -- a site in a class after the step was in one that is left, or is a member's field
  abbrev Comes : SiteTerm → Type 0
  Comes x = ((l : List SiteTerm) × In left l × In l x) ⊎ ((a : SiteTerm) × (owner_of x ≡ Some a) × In members a)

  all_come : AllIn Comes classes_after
  all_come = grind (arith, each_all_in Comes (field_equalities c.1 members) left (λ l x i j. inl (l, i, j)), equality_members c.1 members, owner_of_field c.1)

  held_after : (x : SiteTerm) → is_held us classes_after x ≡ true
      → ((is_held us k.classes x ≡ true) × (has_site members x ≡ false)) ⊎ ((a : SiteTerm) × (owner_of x ≡ Some a) × (has_site members a ≡ true))
  held_after x t =
      let h = and_parts (has_site us x) (is_in_class classes_after x) t in
      let o = in_any (λ l. has_site l x) classes_after h.1 in
      elim (all_come o.0 x o.1 (has_in o.0 x o.2)) [
        | inl w ↦
            let k_in = without_in k.classes c.0 w.0 w.1 in
            inl (
              and_from (has_site us x) (is_in_class k.classes x) h.0 (any_in (λ l. has_site l x) k.classes w.0 k_in.0 (in_has w.0 x w.2)),
              elim (cases_Bool (has_site members x)) [
                | inl y ↦
                    let same = apart w.0 class x k_in.0 (grind (arith, common_steps, in_any, class_found, has_in)) w.2 (grind (arith, common_steps, has_in, passed_filter, has_in members x y)) in
                    absurd (k_in.1 (subst (λ l. In l c.0) (sym same) (own_class k.classes c.0)))
                | inr f ↦ f
              ],
            )
        | inr f ↦ inr (f.0, f.1, in_has members f.0 f.2)
      ]

  step_lessens : pairs_held us classes_after < pairs_held us k.classes
  step_lessens =
      let less = lessened (has_site members) (is_held us classes_after) (is_held us k.classes) (record { from = member_held; new = held_after }) in
      less_in_one (owners_by (is_held us classes_after)) (owners_by (is_held us k.classes))
      (λ u. let l = less u in omega (arith, l)) us c.0 (within c.0 next.made_site)
      (let l = less c.0 in let t = ap bit (in_has members c.0 (filter_from (has_site class) k.made c.0 next.made_site (in_has class c.0 (own_class k.classes c.0)))) in omega (arith, l, t))

-- 5. the closing
-- sites stay made
made_stay : (n : ℕ) (k : Closed) (x : SiteTerm) → In k.made x → In (closing n k).made x
made_stay zero k x i = i
made_stay (suc n) k x i = grind (arith, common_steps, made_stay n, in_with_sites)

-- where there are no more such pairs than steps, the closing ends
ends_within : (us : List SiteTerm) (n : ℕ) (k : Closed) → IsApart k.classes → ((x : SiteTerm) → In (closing n k).made x → In us x) → pairs_held us k.classes ≤ n → HasEnded (closing n k)
ends_within us zero k apart within few = at_end (next_constrained k.classes k.constraints k.made) refl
  where
    at_end : (o : Option (SiteTerm × Constraint)) → next_constrained k.classes k.constraints k.made ≡ o → next_constrained k.classes k.constraints k.made ≡ None
    at_end None e = e
    at_end (Some c) e = let l = step_lessens us (record { closing = k; apart = apart; within = within; constraint = c; next = next_is k.classes k.constraints k.made c e }) in absurd (omega (arith, l, few))
ends_within us (suc n) k apart within few = go_on (next_constrained k.classes k.constraints k.made) refl (ends_within us n) within
  where
    go_on : (o : Option (SiteTerm × Constraint)) → next_constrained k.classes k.constraints k.made ≡ o
        → ((j : Closed) → IsApart j.classes → ((x : SiteTerm) → In (closing n j).made x → In us x) → pairs_held us j.classes ≤ n → HasEnded (closing n j))
        → ((x : SiteTerm) → In (elim o as (λ _. Closed) [ None ↦ k | Some c ↦ closing n (taken k c (ascending k.made (class_at k.classes c.0))) ]).made x → In us x) → HasEnded (elim o as (λ _. Closed) [ None ↦ k | Some c ↦ closing n (taken k c (ascending k.made (class_at k.classes c.0))) ])
    go_on None e later w = e
    go_on (Some c) e later w =
        let after = taken k c (ascending k.made (class_at k.classes c.0)) in
        let next = next_is k.classes k.constraints k.made c e in
        let made : (x : SiteTerm) → In k.made x → In us x = λ x i. w x (made_stay n after x (in_with_sites k.made (flat_map (field_terms c.1) (ascending k.made (class_at k.classes c.0))) x (inl i))) in
        let step : StepAmong us = record { closing = k; apart = apart; within = made; constraint = c; next = next } in
        let l = step_lessens us step in
        later after (grind (arith, each_apart, without_in)) w (omega (arith, l, few))

-- and there are, where no more sites than there may be are made
pub few_made_end : (before : List SiteTerm) (d : Demands) → length (closing most_closing_steps (before_closing before d)).made ≤ most_sites
    → HasEnded (closing most_closing_steps (before_closing before d))
few_made_end before d few =
    ends_within us most_closing_steps (before_closing before d) (each_apart d.equalities [] (λ l m s i. absurd i)) (λ x i. i)
    (let l = held_few us (merged_all [] d.equalities) most_sites few us in omega (arith, l, few))
  where
    us : List SiteTerm
    us = (closing most_closing_steps (before_closing before d)).made

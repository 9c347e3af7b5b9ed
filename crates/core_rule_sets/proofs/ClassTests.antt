-- Which sites are in one class, as a test: once a class is taken away, and once classes become one.
use Rattle.std.proofs.Common.{◌≡◌, ◌⊎◌, Bool, true, false, not, ◌&&◌, ◌||◌, if◌then◌else◌, List, [], ◌∷◌, refl, sym, ◌∙◌, subst, inl, inr, arith}
use Rattle.std.proofs.lemmas.Bool.{cases_Bool, cond-true, cond-false, and_parts, and_from, false_from_ne_true, not_from_false, both_ways, not-true}
use Rattle.std.proofs.lemmas.Grind.{common_steps}
use Rattle.model.specs.sites.Sites.{SiteTerm}
use Rattle.model.specs.visits.Demands.{site_term_eq, has_site}
use Rattle.model.specs.sites.Closure.{class_at, without_class_of, merged_classes, merged_all}
use Rattle.model.proofs.Elements.{In, any_in, in_any, in_either, in_left, in_right, or_split, or_left, or_right}
use Rattle.model.proofs.SameSites.{term_means, same_term}
use Rattle.model.proofs.SitesMade.{in_has, has_in}
use Rattle.laws_sites.proofs.FollowingDemands.{IsApart, InOne, own_class, class_cases, class_is, without_in, in_without, joint, others, each_apart, each_keeps_one}
use Rattle.laws_sites.proofs.overlaps.Overlaps.{bool_same}
use Rattle.core_rule_sets.specs.Closings.{are_in_one_class}

pub in_one : (ks : List (List SiteTerm)) (a b : SiteTerm) → are_in_one_class ks a b ≡ true → InOne ks a b
in_one ks a b h = grind (arith, common_steps, in_any (λ k. has_site k a && has_site k b) ks h, and_parts, has_in)

pub one_in : (ks : List (List SiteTerm)) (a b : SiteTerm) → InOne ks a b → are_in_one_class ks a b ≡ true
one_in ks a b o =
    any_in (λ k. has_site k a && has_site k b) ks o.class o.there
    (and_from (has_site o.class a) (has_site o.class b) (in_has o.class a o.first) (in_has o.class b o.second))

-- a class has its site, and those that are in one with it
pub in_class_means : (ks : List (List SiteTerm)) (s x : SiteTerm) → In (class_at ks s) x → (s ≡ x) ⊎ InOne ks s x
in_class_means ks s x i = grind (arith, common_steps, class_cases ks s, own_class ks s)

pub class_has : (ks : List (List SiteTerm)) → IsApart ks → (s x : SiteTerm) → (s ≡ x) ⊎ InOne ks s x → In (class_at ks s) x
class_has ks apart s x h = grind (arith, common_steps, own_class ks s, class_is ks apart)

-- 1. without the class of a site
pub one_without : (ks : List (List SiteTerm)) → IsApart ks → (s a b : SiteTerm)
    → are_in_one_class (without_class_of ks s) a b ≡ (are_in_one_class ks a b && not (are_in_one_class ks s a))
one_without ks apart s a b =
    bool_same (are_in_one_class (without_class_of ks s) a b) (are_in_one_class ks a b && not (are_in_one_class ks s a))
    (λ h.
    let o = in_one (without_class_of ks s) a b h in
    let w = without_in ks s o.class o.there in
    and_from (are_in_one_class ks a b) (not (are_in_one_class ks s a))
    (one_in ks a b (record { class = o.class; there = w.0; first = o.first; second = o.second }))
    (grind (arith, common_steps, not_from_false (are_in_one_class ks s a), false_from_ne_true (are_in_one_class ks s a), in_one ks s a)))
    (λ h.
    let p = and_parts (are_in_one_class ks a b) (not (are_in_one_class ks s a)) h in
    let o = in_one ks a b p.0 in
    let f = not-true (are_in_one_class ks s a) p.1 in
    let lacks = false_from_ne_true (has_site o.class s) (λ t.
    both_ways (are_in_one_class ks s a) f (one_in ks s a (record { class = o.class; there = o.there; first = has_in o.class s t; second = o.first }))) in
    one_in (without_class_of ks s) a b (record { class = o.class; there = in_without ks s o.class o.there lacks; first = o.first; second = o.second }))

-- 2. once two classes are one
abbrev pub is_or_joins : (SiteTerm → SiteTerm → Bool) → SiteTerm → SiteTerm → Bool
is_or_joins test x a = site_term_eq x a || test x a

abbrev pub joined_too : (SiteTerm → SiteTerm → Bool) → SiteTerm → SiteTerm → SiteTerm → SiteTerm → Bool
joined_too test x y a b =
    if site_term_eq x y
    then test a b
    else (((is_or_joins test x a || is_or_joins test y a) && (is_or_joins test x b || is_or_joins test y b)) || test a b)

abbrev pub joined_each : (SiteTerm → SiteTerm → Bool) → List (SiteTerm × SiteTerm) → SiteTerm → SiteTerm → Bool
joined_each test [] a b = test a b
joined_each test (e ∷ es) a b = joined_each (joined_too test e.0 e.1) es a b

module _ (ks : List (List SiteTerm)) (apart : IsApart ks) (e : SiteTerm × SiteTerm) where
  abbrev Beside : SiteTerm → SiteTerm → Bool
  Beside x a = is_or_joins (are_in_one_class ks) x a

  abbrev HasSecond : Bool
  HasSecond = has_site (class_at ks e.0) e.1

  merged_if : HasSecond ≡ true → merged_classes ks e ≡ ks
  merged_if t = cond-true HasSecond ks (joint ks e ∷ others ks e) t

  merged_else : HasSecond ≡ false → merged_classes ks e ≡ joint ks e ∷ others ks e
  merged_else f = cond-false HasSecond ks (joint ks e ∷ others ks e) f

  in_class_beside : (x a : SiteTerm) → In (class_at ks x) a → Beside x a ≡ true
  in_class_beside x a i =
      elim (in_class_means ks x a i) [
        | inl p ↦ or_left (site_term_eq x a) (are_in_one_class ks x a) (same_term x a p)
        | inr o ↦ or_right (site_term_eq x a) (are_in_one_class ks x a) (one_in ks x a o)
      ]

  beside_in_class : (x a : SiteTerm) → Beside x a ≡ true → In (class_at ks x) a
  beside_in_class x a h =
      elim (or_split (site_term_eq x a) (are_in_one_class ks x a) h) [
        | inl t ↦ class_has ks apart x a (inl (term_means x a t))
        | inr t ↦ class_has ks apart x a (inr (in_one ks x a t))
      ]

  in_joint_beside : (a : SiteTerm) → In (joint ks e) a → (Beside e.0 a || Beside e.1 a) ≡ true
  in_joint_beside a i =
      elim (in_either (class_at ks e.0) (class_at ks e.1) a i) [
        | inl j ↦ or_left (Beside e.0 a) (Beside e.1 a) (in_class_beside e.0 a j)
        | inr j ↦ or_right (Beside e.0 a) (Beside e.1 a) (in_class_beside e.1 a j)
      ]

  beside_in_joint : (a : SiteTerm) → (Beside e.0 a || Beside e.1 a) ≡ true → In (joint ks e) a
  beside_in_joint a h =
      elim (or_split (Beside e.0 a) (Beside e.1 a) h) [
        | inl t ↦ in_left (class_at ks e.0) (class_at ks e.1) a (beside_in_class e.0 a t)
        | inr t ↦ in_right (class_at ks e.0) (class_at ks e.1) a (beside_in_class e.1 a t)
      ]

  -- where the two were in one class
  module _ (two : site_term_eq e.0 e.1 ≡ false) (t : HasSecond ≡ true) where
    together_before : InOne ks e.0 e.1
    together_before =
        elim (in_class_means ks e.0 e.1 (has_in (class_at ks e.0) e.1 t)) [
          | inl p ↦ absurd (both_ways (site_term_eq e.0 e.1) two (same_term e.0 e.1 p))
          | inr o ↦ o
        ]

    in_first : (a : SiteTerm) → In (joint ks e) a → In together_before.class a
    in_first a i = grind (arith, common_steps, together_before, in_either (class_at ks e.0) (class_at ks e.1) a i, class_is ks apart)

  from_merged : (a b : SiteTerm) → InOne (merged_classes ks e) a b
      → (((Beside e.0 a || Beside e.1 a) && (Beside e.0 b || Beside e.1 b)) || are_in_one_class ks a b) ≡ true
  from_merged a b o =
      let left = (Beside e.0 a || Beside e.1 a) && (Beside e.0 b || Beside e.1 b) in
      elim (cases_Bool HasSecond) [
        | inl t ↦ or_right left (are_in_one_class ks a b) (one_in ks a b (subst (λ l. InOne l a b) (merged_if t) o))
        | inr f ↦
            let m = subst (λ l. InOne l a b) (merged_else f) o in
            elim m.there [
              | inl p ↦
                  or_left left (are_in_one_class ks a b)
                  (and_from (Beside e.0 a || Beside e.1 a) (Beside e.0 b || Beside e.1 b)
                  (in_joint_beside a (subst (λ l. In l a) (sym p) m.first)) (in_joint_beside b (subst (λ l. In l b) (sym p) m.second)))
              | inr i ↦
                  let v = without_in (without_class_of ks e.0) e.1 m.class i in
                  let w = without_in ks e.0 m.class v.0 in
                  or_right left (are_in_one_class ks a b) (one_in ks a b (record { class = m.class; there = w.0; first = m.first; second = m.second }))
            ]
      ]

  to_merged : site_term_eq e.0 e.1 ≡ false → (a b : SiteTerm)
      → (((Beside e.0 a || Beside e.1 a) && (Beside e.0 b || Beside e.1 b)) || are_in_one_class ks a b) ≡ true → InOne (merged_classes ks e) a b
  to_merged two a b h =
      elim (or_split ((Beside e.0 a || Beside e.1 a) && (Beside e.0 b || Beside e.1 b)) (are_in_one_class ks a b) h) [
        | inl t ↦
            let p = and_parts (Beside e.0 a || Beside e.1 a) (Beside e.0 b || Beside e.1 b) t in
            let i = beside_in_joint a p.0 in
            let j = beside_in_joint b p.1 in
            elim (cases_Bool HasSecond) [
              | inl u ↦ grind (arith, common_steps, merged_if u, together_before two u, in_first two u a i, in_first two u b j)
              | inr f ↦ subst (λ l. InOne l a b) (sym (merged_else f)) (record { class = joint ks e; there = inl refl; first = i; second = j })
            ]
        | inr t ↦ each_keeps_one (e ∷ []) ks apart a b (in_one ks a b t)
      ]

  pub one_merged : (a b : SiteTerm) → are_in_one_class (merged_classes ks e) a b ≡ joined_too (are_in_one_class ks) e.0 e.1 a b
  one_merged a b =
      let left = are_in_one_class ks a b in
      let right = ((Beside e.0 a || Beside e.1 a) && (Beside e.0 b || Beside e.1 b)) || are_in_one_class ks a b in
      elim (cases_Bool (site_term_eq e.0 e.1)) [
        | inl t ↦ grind (arith, common_steps, in_has (class_at ks e.0) e.1, term_means e.0 e.1 t, own_class ks e.0, merged_if)
        | inr f ↦
            bool_same (are_in_one_class (merged_classes ks e) a b) right
            (λ h. from_merged a b (in_one (merged_classes ks e) a b h)) (λ h. one_in (merged_classes ks e) a b (to_merged f a b h))
            ∙ sym (cond-false (site_term_eq e.0 e.1) left right f)
      ]

pub each_merged : (es : List (SiteTerm × SiteTerm)) (ks : List (List SiteTerm)) → IsApart ks → (a b : SiteTerm)
    → are_in_one_class (merged_all ks es) a b ≡ joined_each (are_in_one_class ks) es a b
each_merged [] ks apart a b = refl
each_merged (e ∷ es) ks apart a b =
    each_merged es (merged_classes ks e) (each_apart (e ∷ []) ks apart) a b
    ∙ (λ i. joined_each (λ x y. one_merged ks apart e x y i) es a b)

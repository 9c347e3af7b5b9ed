-- Tests and constraints over numbers of sites, beside those over what the numbers stand for.
use Rattle.std.proofs.Common.{◌≡◌, ℕ, suc, ◌+◌, ◌<◌, ◌≤◌, Bool, true, false, ◌&&◌, ◌||◌, if◌then◌else◌, List, [], ◌∷◌, ◌++◌, length, map, filter, drop, get_or, All, Option, Some, None, is_some, slice_get, refl, sym, ap, ◌∙◌, subst, inl, inr, arith, eqb-true, eq-eqb}
use Rattle.std.specs.Prelude.{nat_eq}
use Rattle.std.specs.List.{zip, AllByRecursion}
use Rattle.std.specs.Ordering.{nat_cmp}
use Rattle.std.specs.declared.cmp.Ordering.TheVariants.{Less}
use Rattle.std.proofs.lemmas.Cmp.{ranked}
use Rattle.std.proofs.lemmas.Map.Keys.{sorted_head, sorted_tail}
use Rattle.std.specs.List.Sorted.{IsStrictlySortedBy}
use Rattle.std.proofs.lemmas.Bool.{cases_Bool, cond-false, and_parts, and_from}
use Rattle.std.proofs.lemmas.List.Elements.{All-nil, All-cons}
use Rattle.std.proofs.lemmas.Grind.{common_steps}
use Rattle.model.specs.sites.Sites.{Constraint, SiteTerm}
use Rattle.model.specs.visits.Demands.{site_term_eq, has_site}
use Rattle.model.specs.sites.Closure.{constraint_of, with_constraint, with_constraints, is_in_class, next_constrained}
use Rattle.model.proofs.Elements.{In, any_in, in_any, some_is, none_some}
use Rattle.model.proofs.SameSites.{term_means, same_term}
use Rattle.laws_sites.proofs.overlaps.Overlaps.{bool_same}
use Rattle.core_rule_sets.specs.SiteDemands.{first_kept, is_or_equals, equated_too, equated_each}
use Rattle.core_rule_sets.specs.Closings.{are_in_one_class, asked_too, asked_each}
use Rattle.core_rule_sets.proofs.ListTails.{rest_is}
use Rattle.core_rule_sets.proofs.ClassTests.{is_or_joins, joined_too, joined_each}

abbrev pub AreBelow : ℕ → List ℕ → Type 0
AreBelow n xs = (x : ℕ) → In xs x → x < n

pub below_from_all : (n : ℕ) (xs : List ℕ) → All (λ x. x < n) xs → AreBelow n xs
below_from_all n [] w x i = absurd i
below_from_all n (y ∷ ys) w x (inl e) = subst (λ k. k < n) e (w 0 y (omega arith))
below_from_all n (y ∷ ys) w x (inr i) = below_from_all n ys (λ k d l. w (suc k) d (omega arith)) x i

pub all_from_below : (n : ℕ) (xs : List ℕ) → AreBelow n xs → All (λ x. x < n) xs
all_from_below n [] b = All-nil (λ x. x < n)
all_from_below n (y ∷ ys) b = All-cons (λ x. x < n) y ys (b y (inl refl)) (all_from_below n ys (λ x i. b x (inr i)))

-- 1. constraints
-- the constraint of a site once one more is asked of it
more_at : (o : Option Constraint) (cs : List (SiteTerm × Constraint)) (d : SiteTerm × Constraint) (u : SiteTerm) → constraint_of cs u ≡ o
    → constraint_of (cs ++ d ∷ []) u ≡ elim o as (λ _. Option Constraint) [ None ↦ if site_term_eq d.0 u then Some d.1 else None | Some b ↦ Some b ]
more_at o [] d u e = ap (λ (w : Option Constraint). elim w as (λ _. Option Constraint) [ None ↦ if site_term_eq d.0 u then Some d.1 else None | Some b ↦ Some b ]) e
more_at o (c ∷ cs) d u e =
    elim (cases_Bool (site_term_eq c.0 u)) [
      | inl t ↦ grind (arith, common_steps)
      | inr f ↦ grind (arith, common_steps, more_at o cs d u)
    ]

module _ (cs : List (SiteTerm × Constraint)) (d : SiteTerm × Constraint) (u : SiteTerm) where
  abbrev WithOne : List (SiteTerm × Constraint)
  WithOne = cs ++ d ∷ []

  abbrev Wanted : Option Constraint
  Wanted = if site_term_eq d.0 u then Some (first_kept (constraint_of cs d.0) d.1) else constraint_of cs u

  where_had : (b : Constraint) → constraint_of cs d.0 ≡ Some b → constraint_of (with_constraint cs d) u ≡ Wanted
  where_had b e = grind (arith, common_steps, term_means d.0 u)

  other_site : site_term_eq d.0 u ≡ false → (o : Option Constraint) → constraint_of cs u ≡ o → constraint_of WithOne u ≡ o
  other_site f None e = more_at None cs d u e ∙ cond-false (site_term_eq d.0 u) (Some d.1) None f
  other_site f (Some b) e = more_at (Some b) cs d u e

  where_none : constraint_of cs d.0 ≡ None → constraint_of (with_constraint cs d) u ≡ Wanted
  where_none e =
      ap (λ l. constraint_of l u) (ap (λ (o : Option Constraint). if is_some o then cs else WithOne) e)
      ∙ elim (cases_Bool (site_term_eq d.0 u)) [
        | inl t ↦ grind (arith, common_steps, more_at None cs d u (ap (constraint_of cs) (sym (term_means d.0 u t)) ∙ e), term_means d.0 u t)
        | inr f ↦ grind (arith, common_steps, other_site f (constraint_of cs u) refl)
      ]

  pub constraint_with : constraint_of (with_constraint cs d) u ≡ Wanted
  constraint_with = grind (arith, common_steps, where_none, where_had)

-- 2. numbers that are told apart by what they stand for
module _ (n : ℕ) (f : ℕ → SiteTerm) (one : (a b : ℕ) → a < n → b < n → f a ≡ f b → a ≡ b) where
  pub same_numbers : (a b : ℕ) → a < n → b < n → nat_eq a b ≡ site_term_eq (f a) (f b)
  same_numbers a b l m =
      bool_same (nat_eq a b) (site_term_eq (f a) (f b)) (λ h. same_term (f a) (f b) (ap f (eqb-true a b h)))
      (λ h. eq-eqb a b (one a b l m (term_means (f a) (f b) h)))

  -- a test of numbers, and one of what they stand for
  abbrev pub Agree : (ℕ → ℕ → Bool) → (SiteTerm → SiteTerm → Bool) → Type 0
  Agree T U = (a b : ℕ) → a < n → b < n → T a b ≡ U (f a) (f b)

  module _ (T : ℕ → ℕ → Bool) (U : SiteTerm → SiteTerm → Bool) (h : Agree T U) where
    beside_agree : (x a : ℕ) → x < n → a < n → is_or_equals T x a ≡ is_or_joins U (f x) (f a)
    beside_agree x a l m = λ i. same_numbers x a l m i || h x a l m i

    too_agree : (x y : ℕ) → x < n → y < n → Agree (equated_too T x y) (joined_too U (f x) (f y))
    too_agree x y k l a b m o = λ i.
        if same_numbers x y k l i
        then h a b m o i
        else (((beside_agree x a k m i || beside_agree y a l m i) && (beside_agree x b k o i || beside_agree y b l o i)) || h a b m o i)

  pub each_agree : (xs ys : List ℕ) → AreBelow n xs → AreBelow n ys → (T : ℕ → ℕ → Bool) (U : SiteTerm → SiteTerm → Bool) → Agree T U
      → Agree (equated_each T (zip xs ys)) (joined_each U (zip (map f xs) (map f ys)))
  each_agree (x ∷ xs) (y ∷ ys) k l T U h =
      each_agree xs ys (λ z i. k z (inr i)) (λ z i. l z (inr i)) (equated_too T x y) (joined_too U (f x) (f y))
      (too_agree T U h x y (k x (inl refl)) (l y (inl refl)))
  each_agree _ _ k l T U h = h

  pub asked_agree : (xs : List ℕ) → AreBelow n xs → (c : Constraint) (h : ℕ → Option Constraint) (cs : List (SiteTerm × Constraint))
      → ((s : ℕ) → s < n → h s ≡ constraint_of cs (f s)) → (s : ℕ) → s < n
      → asked_each h xs c s ≡ constraint_of (with_constraints cs (map (λ m. (m, c)) (map f xs))) (f s)
  asked_agree [] k c h cs e s l = e s l
  asked_agree (x ∷ xs) k c h cs e s l =
      asked_agree xs (λ z i. k z (inr i)) c (asked_too h x c) (with_constraint cs (f x, c))
      (λ r m. grind (arith, common_steps, same_numbers x r, constraint_with cs (f x, c) (f r), k x (inl refl), e x, e r m, f x, f r))
      s l

-- 3. only the numbers of pairs become equal
pub each_within : (n : ℕ) (xs ys : List ℕ) → AreBelow n xs → AreBelow n ys → (T : ℕ → ℕ → Bool) → ((a b : ℕ) → T a b ≡ true → (a < n) × (b < n))
    → (a b : ℕ) → equated_each T (zip xs ys) a b ≡ true → (a < n) × (b < n)
each_within n [] ys k l T w a b h = w a b h
each_within n (x ∷ xs) [] k l T w a b h = w a b h
each_within n (x ∷ xs) (y ∷ ys) k l T w a b h = each_within n xs ys (λ z i. k z (inr i)) (λ z i. l z (inr i)) (equated_too T x y) too a b h
  where
    beside : (z : ℕ) → z < n → (q : ℕ) → is_or_equals T z q ≡ true → q < n
    beside z m q g = grind (arith, common_steps)

    either : (q : ℕ) → (is_or_equals T x q || is_or_equals T y q) ≡ true → q < n
    either q g = grind (arith, common_steps, beside x (k x (inl refl)) q, beside y (l y (inl refl)) q)

    too : (p q : ℕ) → equated_too T x y p q ≡ true → (p < n) × (q < n)
    too p q g = grind (arith, common_steps, either p, either q, and_parts (is_or_equals T x p || is_or_equals T y p) (is_or_equals T x q || is_or_equals T y q))

pub asked_within : (n : ℕ) (xs : List ℕ) → AreBelow n xs → (c : Constraint) (h : ℕ → Option Constraint) → ((s : ℕ) → is_some (h s) ≡ true → s < n)
    → (s : ℕ) → is_some (asked_each h xs c s) ≡ true → s < n
asked_within n [] k c h w s e = w s e
asked_within n (x ∷ xs) k c h w s e = grind (arith, common_steps, asked_within n xs (λ z i. k z (inr i)) c (asked_too h x c), k x (inl refl), h x)

-- 4. the members of a class, ascending
-- each number is below those after it
abbrev pub Rises : List ℕ → Type 0
Rises [] = Unit {0}
Rises (x ∷ xs) = ((y : ℕ) → In xs y → x < y) × Rises xs

all_above : (x : ℕ) (xs : List ℕ) → AllByRecursion (λ y. nat_cmp x y ≡ Less) xs → (y : ℕ) → In xs y → x < y
all_above x [] a y i = absurd i
all_above x (z ∷ xs) a y (inl e) = subst (λ k. x < k) e (ranked x z Less (sym a.0))
all_above x (z ∷ xs) a y (inr i) = all_above x xs a.1 y i

pub rises : (xs : List ℕ) → IsStrictlySortedBy nat_cmp xs → Rises xs
rises [] s = tt
rises (x ∷ xs) s = (all_above x xs (sorted_head nat_cmp x xs s), rises xs (sorted_tail nat_cmp x xs s))

module _ (f : ℕ → SiteTerm) (p : SiteTerm → Bool) where
  abbrev IsIn : ℕ → ℕ → List ℕ → Type 0
  IsIn i n xs = ((x : ℕ) → In xs x → (i ≤ x) × (x < i + n)) × ((s : ℕ) → i ≤ s → s < i + n → p (f s) ≡ true → In xs s) × ((s : ℕ) → In xs s → p (f s) ≡ true)

  abbrev StandsFrom : ℕ → List SiteTerm → Type 0
  StandsFrom i us = (j : ℕ) → j < length us → slice_get us j ≡ Some (f (i + j))

  -- the first is a member
  with_first : (u : SiteTerm) (us : List SiteTerm) (i : ℕ) (xs : List ℕ) → u ≡ f i → Rises xs → IsIn i (length (u ∷ us)) xs → In xs i
      → ((ys : List ℕ) → Rises ys → IsIn (suc i) (length us) ys → filter p us ≡ map f ys) → u ∷ filter p us ≡ map f xs
  with_first u us i [] first s h m rest = absurd m
  with_first u us i (y ∷ ys) first s h m rest = grind (arith, common_steps)

  -- the first is none
  without_first : (u : SiteTerm) (n i : ℕ) (xs : List ℕ) → u ≡ f i → p u ≡ false → IsIn i (suc n) xs → IsIn (suc i) n xs
  without_first u n i xs first q h = grind (arith, common_steps)

  pub members_same : (us : List SiteTerm) (i : ℕ) (xs : List ℕ) → StandsFrom i us → Rises xs → IsIn i (length us) xs → filter p us ≡ map f xs
  members_same [] i [] at s h = refl
  members_same [] i (x ∷ xs) at s h = absurd (let r = h.0 x (inl refl) in omega (arith, r.0, r.1))
  members_same (u ∷ us) i xs at s h =
      let z : i + 0 ≡ i = omega arith in
      let first : u ≡ f i = some_is u (f i) (at 0 (omega arith) ∙ ap (λ k. Some (f k)) z) in
      let later : StandsFrom (suc i) us = λ j l. let e : i + suc j ≡ suc i + j = omega arith in at (suc j) (omega (arith, l)) ∙ ap (λ k. Some (f k)) e in
      elim (cases_Bool (p u)) [
        | inl t ↦ grind (arith, common_steps, members_same us (suc i), with_first u us i xs first s h)
        | inr q ↦ cond-false (p u) (u ∷ filter p us) (filter p us) q ∙ members_same us (suc i) xs later s (without_first u (length us) i xs first q h)
      ]

-- 5. the class that is next
pub in_class_same : (ks : List (List SiteTerm)) (u : SiteTerm) → is_in_class ks u ≡ are_in_one_class ks u u
in_class_same ks u =
    bool_same (is_in_class ks u) (are_in_one_class ks u u)
    (λ h. let r = in_any (λ k. has_site k u) ks h in any_in (λ k. has_site k u && has_site k u) ks r.0 r.1 (and_from (has_site r.0 u) (has_site r.0 u) r.2 r.2))
    (λ h. let r = in_any (λ k. has_site k u && has_site k u) ks h in any_in (λ k. has_site k u) ks r.0 r.1 (and_parts (has_site r.0 u) (has_site r.0 u) r.2).0)

abbrev next_by : List (List SiteTerm) → SiteTerm → Option (SiteTerm × Constraint) → Option Constraint → Option (SiteTerm × Constraint)
next_by ks v later o = elim o as (λ _. Option (SiteTerm × Constraint)) [ None ↦ later | Some c ↦ if is_in_class ks v then Some (v, c) else later ]

-- a site that isn't due is passed over
passed_over : (ks : List (List SiteTerm)) (v : SiteTerm) (later : Option (SiteTerm × Constraint)) (o : Option Constraint) → (is_some o && is_in_class ks v) ≡ false → next_by ks v later o ≡ later
passed_over ks v later o h = grind (arith, common_steps)

module _ (ks : List (List SiteTerm)) (cs : List (SiteTerm × Constraint)) where
  abbrev pub IsDue : SiteTerm → Bool
  IsDue v = is_some (constraint_of cs v) && is_in_class ks v

  pub next_nowhere : (us : List SiteTerm) → ((j : ℕ) (v : SiteTerm) → slice_get us j ≡ Some v → IsDue v ≡ false) → next_constrained ks cs us ≡ None
  next_nowhere [] h = refl
  next_nowhere (v ∷ us) h = passed_over ks v (next_constrained ks cs us) (constraint_of cs v) (h 0 v refl) ∙ next_nowhere us (λ j w e. h (suc j) w e)

  pub next_is : (us : List SiteTerm) (s : ℕ) (u : SiteTerm) (c : Constraint) → slice_get us s ≡ Some u → constraint_of cs u ≡ Some c → is_in_class ks u ≡ true
      → ((j : ℕ) (v : SiteTerm) → j < s → slice_get us j ≡ Some v → IsDue v ≡ false) → next_constrained ks cs us ≡ Some (u, c)
  next_is (v ∷ us) (suc s) u c at has there before =
      passed_over ks v (next_constrained ks cs us) (constraint_of cs v) (before 0 v (omega arith) refl)
      ∙ next_is us s u c at has there (λ j w l e. before (suc j) w (omega arith) e)
  next_is us s u c at has there before = grind (arith, none_some, some_is)

-- 6. one more site is asked
pub one_more_asked : (held next : ℕ → Option Constraint) (xs : List ℕ) (i x : ℕ) (c : Constraint) → i < length xs → x ≡ get_or xs i x
    → ((s : ℕ) → next s ≡ asked_too held x c s) → (s : ℕ) → asked_each next (drop (i + 1) xs) c s ≡ asked_each held (drop i xs) c s
one_more_asked held next xs i x c l e h s =
    (λ t. asked_each (λ p. h p t) (drop (i + 1) xs) c s) ∙ sym (ap (λ rest. asked_each held rest c s) (rest_is xs i x l e))

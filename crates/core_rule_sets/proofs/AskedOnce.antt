-- What is asked of sites, of each once: what is found at a place, what one more site changes, and that the order tells nothing.
use Rattle.std.proofs.Common.{◌≡◌, ◌==◌, ◌||◌, ℕ, zero, suc, ◌+◌, ◌<◌, Bool, true, false, cond, List, [], ◌∷◌, ◌++◌, length, get_or, Option, Some, None, is_some, slice_get, if◌then◌else◌, refl, sym, ap, ◌∙◌, inl, inr, eqb-true, eq-eqb, arith}
use Rattle.std.specs.Prelude.{nat_eq, nat_lt}
use Rattle.std.specs.List.{AllByRecursion, IsDistinct}
use Rattle.std.specs.List.Sorted.{IsPermutation, IsSortedByKey, IsStrictlyIncreasing, IsStrictlySortedBy}
use Rattle.std.specs.declared.cmp.Ordering.TheVariants.{Less, Equal, Greater}
use Rattle.std.specs.Ordering.{nat_cmp, is_lt}
use Rattle.std.specs.Cmp.{ranks}
use Rattle.std.proofs.lemmas.Cmp.{by_ranked}
use Rattle.std.proofs.lemmas.Bool.{cases_Bool, cond-true, cond-false, and_from, false≢true}
use Rattle.std.proofs.lemmas.List.{get_or-map, length-map}
use Rattle.std.proofs.lemmas.List.Sorted.{Contains-permutation, IsPermutation-map, IsPermutation-sym}
use Rattle.std.proofs.lemmas.Map.Keys.{IsDistinct-IsPermutation, IsDistinct-head, IsDistinct-tail, apart_from_distinct, sorted_from_strictly_increasing, sorted_head, sorted_tail}
use Rattle.std.proofs.lemmas.Option.{get_or_from_slice_get, none-some, same_Some}
use Rattle.std.proofs.lemmas.Grind.{common_steps}
use Rattle.core_containers.specs.Places.{is_in}
use Rattle.model.specs.trees.Places.{constraint_at}
use Rattle.model.specs.sites.Sites as Sites
use Rattle.model.proofs.Elements.{In, contains_from_in, in_from_contains}
use Rattle.core_rule_sets.specs.Listings.{ascends, is_below_first, sites_of}
use Rattle.core_rule_sets.specs.SiteDemands.{first_kept}
use Rattle.core_rule_sets.specs.SiteViews.{constraint_view, constraint_views}
use Rattle.core_rule_sets.specs.declared.trie_again.Constraint.{Constraint}
use Rattle.core_rule_sets.specs.declared.trie_again.Constraint.TheVariants as C

abbrev Asked : Type 0
Asked = ℕ × Constraint

-- what is asked of a site
abbrev at : List Asked → ℕ → Option Sites.Constraint
at cs s = constraint_at (constraint_views cs) s

-- 1. where a site stands
some_or : {X : Type 0} (c : Bool) (x : X) (o : Option X) → is_some (cond c (Some x) o) ≡ (c || is_some o)
some_or c x o = grind (arith, common_steps)

asked_if_in : (cs : List Asked) (s : ℕ) → is_some (at cs s) ≡ is_in s (sites_of cs)
asked_if_in [] s = refl
asked_if_in (c ∷ cs) s = some_or (c.0 == s) (constraint_view c.1) (at cs s) ∙ ap (λ b. (c.0 == s) || b) (asked_if_in cs s)

-- a site of which nothing is asked isn't there
pub not_there : (cs : List Asked) (s : ℕ) → at cs s ≡ None → is_in s (sites_of cs) ≡ false
not_there cs s e = sym (asked_if_in cs s) ∙ ap is_some e

pub none_asked : (cs : List Asked) (s : ℕ) → is_in s (sites_of cs) ≡ false → None ≡ at cs s
none_asked cs s e = grind (arith, common_steps, asked_if_in cs s)

pub within : (cs : List Asked) (i s : ℕ) → slice_get (sites_of cs) i ≡ Some s → i < length cs
within (c ∷ cs) (suc i) s e = let l : i < length cs = within cs i s e in omega arith
within cs i s e = grind (arith, none-some)

pub asked_at : (cs : List Asked) (i s : ℕ) (d : Asked) → IsDistinct nat_eq (sites_of cs) → slice_get (sites_of cs) i ≡ Some s → Some (constraint_view (get_or cs i d).1) ≡ at cs s
asked_at [] i s d once e = absurd (none-some s e)
asked_at (c ∷ cs) zero s d once e = sym (cond-true (c.0 == s) (Some (constraint_view c.1)) (at cs s) (eq-eqb c.0 s (same_Some c.0 s e)))
asked_at (c ∷ cs) (suc i) s d once e =
    let l : i < length cs = within cs i s e in
    let long : length (sites_of cs) ≡ length cs = length-map cs (λ a. a.0) in
    let other : nat_eq c.0 s ≡ false =
    ap (λ n. nat_eq c.0 n) (sym (get_or_from_slice_get (sites_of cs) i s s e)) ∙ apart_from_distinct nat_eq (c.0 ∷ sites_of cs) 0 (suc i) s once (omega arith) (omega arith) in
    asked_at cs i s d (IsDistinct-tail nat_eq c.0 (sites_of cs) once) e
    ∙ sym (cond-false (c.0 == s) (Some (constraint_view c.1)) (at cs s) other)

-- 2. one more
pub nothing_once : IsDistinct nat_eq []
unfolding IsDistinct
nothing_once = tt

apart_more : (m n : ℕ) (ns : List ℕ) → AllByRecursion (λ y. nat_eq m y ≡ false) ns → nat_eq m n ≡ false → AllByRecursion (λ y. nat_eq m y ≡ false) (ns ++ n ∷ [])
apart_more m n [] a e = (e, tt)
apart_more m n (k ∷ ns) a e = (a.0, apart_more m n ns a.1 e)

neither : (a b : Bool) → (a || b) ≡ false → (a ≡ false) × (b ≡ false)
neither a b e = grind (arith, common_steps)

-- a number that isn't there stands once behind the others
pub once_more : (n : ℕ) (ns : List ℕ) → IsDistinct nat_eq ns → is_in n ns ≡ false → IsDistinct nat_eq (ns ++ n ∷ [])
unfolding IsDistinct
once_more n [] o e = (tt, tt)
once_more n (m ∷ ns) o e = let f = neither (m == n) (is_in n ns) e in (apart_more m n ns o.0 f.0, once_more n ns o.1 f.1)

pub asked_more : (cs : List Asked) (s : ℕ) (c : Constraint) → at cs s ≡ None → (t : ℕ) → at (cs ++ (s, c) ∷ []) t ≡ (if nat_eq s t then Some (first_kept (at cs s) (constraint_view c)) else at cs t)
asked_more cs s c none t = grown cs none t ∙ ap (λ o. if nat_eq s t then Some (first_kept o (constraint_view c)) else at cs t) (sym none)
  where
    grown : (ds : List Asked) → at ds s ≡ None → (u : ℕ) → at (ds ++ (s, c) ∷ []) u ≡ (if nat_eq s u then Some (constraint_view c) else at ds u)
    grown [] e u = refl
    grown (d ∷ ds) e u = grind (arith, common_steps, grown ds, none-some (constraint_view d.1))

-- 3. in another order
asked_in : (cs : List Asked) (s : ℕ) (c : Sites.Constraint) → at cs s ≡ Some c → (k : Constraint) × In cs (s, k) × (constraint_view k ≡ c)
asked_in [] s c e = absurd (none-some c e)
asked_in (d ∷ ds) s c e = grind (arith, common_steps, asked_in ds s c, same_Some (constraint_view d.1) c)

site_in : (cs : List Asked) (s : ℕ) (k : Constraint) → In cs (s, k) → is_in s (sites_of cs) ≡ true
site_in [] s k i = absurd i
site_in (d ∷ ds) s k (inl e) = rw (eq-eqb d.0 s (ap (λ a. a.0) e)) refl
site_in (d ∷ ds) s k (inr i) = grind (arith, common_steps, site_in ds s k i)

without_second : (n m : ℕ) (ns : List ℕ) → IsDistinct nat_eq (n ∷ m ∷ ns) → IsDistinct nat_eq (n ∷ ns)
unfolding IsDistinct
without_second n m ns o = (o.0.1, o.1.1)

-- a number that is apart from all isn't there
apart_not_in : (n s : ℕ) (ns : List ℕ) → IsDistinct nat_eq (n ∷ ns) → is_in s ns ≡ true → nat_eq n s ≡ false
apart_not_in n s [] once i = absurd (false≢true i)
apart_not_in n s (m ∷ ns) once i =
    elim (cases_Bool (m == s)) [
      | inl y ↦ ap (nat_eq n) (sym (eqb-true m s y)) ∙ (IsDistinct-head nat_eq n (m ∷ ns) once).0
      | inr f ↦ apart_not_in n s ns (without_second n m ns once) (sym (ap (λ b. b || is_in s ns) f) ∙ i)
    ]

asked_there : (cs : List Asked) (s : ℕ) (k : Constraint) → IsDistinct nat_eq (sites_of cs) → In cs (s, k) → at cs s ≡ Some (constraint_view k)
asked_there [] s k once i = absurd i
asked_there (d ∷ ds) s k once (inl e) = rw (ap (λ a. a.1) e) (cond-true (d.0 == s) (Some (constraint_view k)) (at ds s) (eq-eqb d.0 s (ap (λ a. a.0) e)))
asked_there (d ∷ ds) s k once (inr i) =
    cond-false (d.0 == s) (Some (constraint_view d.1)) (at ds s) (apart_not_in d.0 s (sites_of ds) once (site_in ds s k i))
    ∙ asked_there ds s k (IsDistinct-tail nat_eq d.0 (sites_of ds) once) i

module _ (xs ys : List Asked) (once : IsDistinct nat_eq (sites_of xs)) (mixed : IsPermutation xs ys) where
  pub still_once : IsDistinct nat_eq (sites_of ys)
  still_once = IsDistinct-IsPermutation nat_eq flips (sites_of xs) (sites_of ys) (IsPermutation-map (λ a. a.0) xs ys mixed) once
    where
      flips : (x y : ℕ) → nat_eq x y ≡ nat_eq y x
      flips x y = grind (arith, common_steps)

  -- the order tells nothing
  pub same_asked : (s : ℕ) → at ys s ≡ at xs s
  same_asked s = by (at ys s) (at xs s) refl refl
    where
      to : (c : Sites.Constraint) → at xs s ≡ Some c → at ys s ≡ Some c
      to c e =
          let f = asked_in xs s c e in
          asked_there ys s f.0 still_once (in_from_contains ys (s, f.0) (Contains-permutation xs ys (s, f.0) mixed (contains_from_in xs (s, f.0) f.1))) ∙ ap Some f.2

      back : (c : Sites.Constraint) → at ys s ≡ Some c → at xs s ≡ Some c
      back c e =
          let f = asked_in ys s c e in
          asked_there xs s f.0 once (in_from_contains xs (s, f.0) (Contains-permutation ys xs (s, f.0) (IsPermutation-sym xs ys mixed) (contains_from_in ys (s, f.0) f.1))) ∙ ap Some f.2

      by : (p o : Option Sites.Constraint) → at ys s ≡ p → at xs s ≡ o → p ≡ o
      by None None e f = refl
      by (Some c) o e f = sym (back c e) ∙ f
      by None (Some c) e f = sym e ∙ to c f

-- 4. ascending
is_below : (x y : ℕ) → nat_cmp x y ≡ Less → nat_lt x y ≡ true
is_below x y e =
    elim (cases_Bool (nat_lt x y)) [
      | inl t ↦ t
      | inr f ↦ absurd (false≢true (sym (not_less (x == y)) ∙ ap is_lt (sym (cond-false (nat_lt x y) Less (cond (x == y) Equal Greater) f) ∙ e)))
    ]
  where
    not_less : (b : Bool) → is_lt (cond b Equal Greater) ≡ false
    not_less b = grind (arith, common_steps)

-- numbers that are sorted ascend
pub sorted_ascend : (ns : List ℕ) → IsStrictlySortedBy nat_cmp ns → ascends ns ≡ true
sorted_ascend (n ∷ m ∷ ns) s =
    and_from (is_below_first n (m ∷ ns)) (ascends (m ∷ ns)) (is_below n m (sorted_head nat_cmp n (m ∷ ns) s).0) (sorted_ascend (m ∷ ns) (sorted_tail nat_cmp n (m ∷ ns) s))
sorted_ascend _ s = refl

not_less : (x y : ℕ) → is_lt (nat_cmp x y) ≡ false → nat_eq y x ≡ false → y < x
not_less x y f n = by_ranked (x < y) (x ≡ y) (y < x) (nat_cmp x y) (ranks x y) (λ e l. absurd (false≢true (sym f ∙ ap is_lt e))) (λ e q. absurd (false≢true (sym n ∙ eq-eqb y x (sym q)))) (λ e l. l)

pub listed_ascend : (ys : List Asked) → IsDistinct nat_eq (sites_of ys) → IsSortedByKey (λ a. a.0) nat_cmp ys → ascends (sites_of ys) ≡ true
listed_ascend ys once sorted = sorted_ascend (sites_of ys) (sorted_from_strictly_increasing (sites_of ys) rises)
  where
    rises : IsStrictlyIncreasing (sites_of ys)
    rises k l =
        let long : length (sites_of ys) ≡ length ys = length-map ys (λ a. a.0) in
        let d : Asked = (0, C.Some) in
        let m : k + 1 < length ys = omega arith in
        let here : get_or (sites_of ys) k 0 ≡ (get_or ys k d).0 = get_or-map (λ a. a.0) ys k d 0 (omega arith) in
        let next : get_or (sites_of ys) (k + 1) 0 ≡ (get_or ys (k + 1) d).0 = get_or-map (λ a. a.0) ys (k + 1) d 0 m in
        let no_less : is_lt (nat_cmp (get_or (sites_of ys) (k + 1) 0) (get_or (sites_of ys) k 0)) ≡ false = rw (here, next) (sorted k d (omega arith) m) in
        not_less (get_or (sites_of ys) (k + 1) 0) (get_or (sites_of ys) k 0) no_less (apart_from_distinct nat_eq (sites_of ys) k (k + 1) 0 once (omega arith) l)

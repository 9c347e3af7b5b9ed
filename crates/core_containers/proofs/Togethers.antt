-- What is together, by the numbers of sets.
use Rattle.std.proofs.Common.{◌≡◌, ◌≢◌, ℕ, zero, suc, ◌<◌, ◌==◌, Bool, true, false, cond, List, [], ◌∷◌, length, sum_by, get_or, Option, Some, None, refl, sym, ap, ◌∙◌, ◌≤◌, subst, arith, ◌⊎◌, ◌↔◌, inl, inr, slice_get, IsNone, IsFalse, IsTrue, IfSome, eq-eqb, eqb-true}
use Rattle.std.specs.Cmp.{IsEquivalence}
use Rattle.std.specs.List.{IsDistinct}
use Rattle.std.specs.Map.{lookup}
use Rattle.std.proofs.lemmas.List.{get_or_default}
use Rattle.std.proofs.lemmas.List.Sums.{sum_by-cons}
use Rattle.std.proofs.lemmas.Bool.{false≢true, or_left, or_right}
use Rattle.core_containers.specs.Partition.{in_set, set_of, together, added_by, filled, IsPartition}
use Rattle.core_containers.specs.Numbers.{same_number, IsNumbered, Numbering}
use Rattle.core_containers.proofs.Classes.{same_is, same_at, same_symm, alike}

-- ---- the sets without the empty ones
module _ {T : Type 0} where
  pub total_filled : (sets : List (List T)) → sum_by length (filled sets) ≡ sum_by length sets
  unfolding filled
  total_filled [] = refl
  total_filled ([] ∷ ss) = omega (arith, total_filled ss, sum_by-cons length [] ss)
  total_filled ((x ∷ s) ∷ ss) = omega (arith, total_filled ss, sum_by-cons length (x ∷ s) ss, sum_by-cons length (x ∷ s) (filled ss))

  -- what is said of each place, an empty set included, is said of each set that has an item
  filled_all : (P : List T → Type 0) (sets : List (List T)) → ((k : ℕ) → P (get_or sets k [])) → (k : ℕ) → P (get_or (filled sets) k [])
  unfolding filled
  filled_all P [] h k = h k
  filled_all P ([] ∷ ss) h k = filled_all P ss (λ j. h (suc j)) k
  filled_all P ((x ∷ s) ∷ ss) h zero = h 0
  filled_all P ((x ∷ s) ∷ ss) h (suc k) = filled_all P ss (λ j. h (suc j)) k

  filled_some : (sets : List (List T)) (k : ℕ) → k < length (filled sets) → 1 ≤ length (get_or (filled sets) k [])
  unfolding filled
  filled_some [] k h = absurd (omega (arith, h))
  filled_some ([] ∷ ss) k h = filled_some ss k h
  filled_some ((x ∷ s) ∷ ss) zero h = omega arith
  filled_some ((x ∷ s) ∷ ss) (suc k) h = filled_some ss k (omega (arith, h))

module _ {T : Type 0} (eq : T → T → Bool) where
  pub set_of_filled : (sets : List (List T)) (x : T) → set_of eq (filled sets) x ≡ set_of eq sets x
  unfolding filled set_of
  set_of_filled [] x = refl
  set_of_filled ([] ∷ ss) x = set_of_filled ss x
  set_of_filled ((y ∷ s) ∷ ss) x = ap (cond (in_set eq (y ∷ s) x) (y ∷ s)) (set_of_filled ss x)

  filled_has : (sets : List (List T)) (x : T) (k : ℕ) → in_set eq (get_or (filled sets) k []) x ≡ true → (j : ℕ) × (in_set eq (get_or sets j []) x ≡ true)
  unfolding filled
  filled_has [] x k m = (k, m)
  filled_has ([] ∷ ss) x k m = let r = filled_has ss x k m in (suc r.0, r.1)
  filled_has ((y ∷ s) ∷ ss) x zero m = (0, m)
  filled_has ((y ∷ s) ∷ ss) x (suc k) m = let r = filled_has ss x k m in (suc r.0, r.1)

  -- an item that stands at one place stands at one place among the sets that have an item
  filled_disjoint : (sets : List (List T)) (x : T) → ((j k : ℕ) → in_set eq (get_or sets j []) x ≡ true → in_set eq (get_or sets k []) x ≡ true → j ≡ k)
      → (j k : ℕ) → in_set eq (get_or (filled sets) j []) x ≡ true → in_set eq (get_or (filled sets) k []) x ≡ true → j ≡ k
  unfolding filled
  filled_disjoint [] x one j k m n = one j k m n
  filled_disjoint ([] ∷ ss) x one j k m n = filled_disjoint ss x (λ a b m n. let e = one (suc a) (suc b) m n in omega (arith, e)) j k m n
  filled_disjoint ((y ∷ s) ∷ ss) x one zero zero m n = refl
  filled_disjoint ((y ∷ s) ∷ ss) x one zero (suc k) m n = let r = filled_has ss x k n in let e = one 0 (suc r.0) m r.1 in absurd (omega (arith, e))
  filled_disjoint ((y ∷ s) ∷ ss) x one (suc j) zero m n = let r = filled_has ss x j m in let e = one (suc r.0) 0 r.1 n in absurd (omega (arith, e))
  filled_disjoint ((y ∷ s) ∷ ss) x one (suc j) (suc k) m n =
      let e = filled_disjoint ss x (λ a b m n. let e = one (suc a) (suc b) m n in omega (arith, e)) j k m n in omega (arith, e)

  set_at : (sets : List (List T)) (x : T) (k : ℕ) → in_set eq (get_or sets k []) x ≡ true → ((j : ℕ) → in_set eq (get_or sets j []) x ≡ true → j ≡ k) → set_of eq sets x ≡ get_or sets k []
  unfolding set_of
  set_at [] x k m only = absurd (false≢true m)
  set_at (s ∷ ss) x zero m only = rw m refl
  set_at (s ∷ ss) x (suc k) m only =
      elim (in_set eq s x) as (λ b. in_set eq s x ≡ b → cond b s (set_of eq ss x) ≡ get_or ss k []) [
        | true ↦ λ h. let e = only 0 h in absurd (omega (arith, e))
        | false ↦ λ h. set_at ss x k m (λ j n. let e = only (suc j) n in omega (arith, e))
      ] refl

  set_nowhere : (sets : List (List T)) (x : T) → ((j : ℕ) → in_set eq (get_or sets j []) x ≡ false) → set_of eq sets x ≡ []
  unfolding set_of
  set_nowhere [] x away = refl
  set_nowhere (s ∷ ss) x away = let e : in_set eq s x ≡ false = away 0 in rw e (set_nowhere ss x (λ j. away (suc j)))

  -- two items of a set differ, so each has another beside it
  another_of : IsEquivalence eq → (s : List T) (x : T) → IsDistinct eq s → length s ≢ 1 → in_set eq s x ≡ true → (y : T) × (eq x y ≡ false) × (in_set eq s y ≡ true)
  unfolding IsDistinct
  another_of laws [] x d many m = absurd (false≢true m)
  another_of laws (a ∷ []) x d many m = absurd (many refl)
  another_of laws (a ∷ b ∷ s) x d many m =
      elim (eq x a) as (λ t. eq x a ≡ t → (y : T) × (eq x y ≡ false) × (in_set eq (a ∷ b ∷ s) y ≡ true)) [
        | true ↦ λ e. (b, laws.congr x a b e ∙ d.0.0, or_right (eq b a) (in_set eq (b ∷ s) b) (or_left (eq b b) (in_set eq s b) (laws.refl b)))
        | false ↦ λ e. (a, e, or_left (eq a a) (in_set eq (b ∷ s) a) (laws.refl a))
      ] refl

  -- an item that has a set is in it
  has_own : (sets : List (List T)) (x : T) → (set_of eq sets x ≡ []) ⊎ (together eq sets x x ≡ true)
  unfolding set_of
  has_own [] x = inl refl
  has_own (s ∷ ss) x =
      elim (in_set eq s x) as (λ b. in_set eq s x ≡ b → (cond b s (set_of eq ss x) ≡ []) ⊎ (in_set eq (cond b s (set_of eq ss x)) x ≡ true)) [
        | true ↦ λ m. inr m
        | false ↦ λ m. has_own ss x
      ] refl

  head_none : (s : List T) (x : T) → (s ≡ []) ⊎ (in_set eq s x ≡ true) → IsNone (slice_get s 0) ↔ IsFalse (in_set eq s x)
  head_none [] x h = (λ e. refl, λ e. refl)
  head_none (y ∷ s) x (inl e) = absurd (cc)
  head_none (y ∷ s) x (inr m) = (λ e. absurd (cc), λ e. absurd (false≢true (sym e ∙ m)))

  pub own_none : (sets : List (List T)) (x : T) (r : Option T) → r ≡ slice_get (set_of eq sets x) 0 → IsNone r ↔ IsFalse (together eq sets x x)
  own_none sets x r e = rw e (head_none (set_of eq sets x) x (has_own sets x))

  head_member : ((x : T) → eq x x ≡ true) → (s : List T) → IfSome (slice_get s 0) (λ y. IsTrue (in_set eq s y))
  head_member same [] = tt
  head_member same (y ∷ s) = rw (same y) refl

  pub own_member : ((x : T) → eq x x ≡ true) → (sets : List (List T)) (x : T) (r : Option T) → r ≡ slice_get (set_of eq sets x) 0 → IfSome r (λ y. IsTrue (together eq sets x y))
  own_member same sets x r e = rw e (head_member same (set_of eq sets x))

-- ---- the sets of tables that fit, as their value shows them
module _ {T : Type 0} {eq : T → T → Bool} {n : Numbering T} (p : IsNumbered eq n) where
  pub found : (x : T) (k : ℕ) → n.number x ≡ Some k → set_of eq (filled n.sets) x ≡ get_or n.sets k []
  found x k e =
      set_of_filled eq n.sets x
      ∙ set_at eq n.sets x k (p.numbered x k ∙ same_at (n.number x) k e) (λ j m. eqb-true j k (same_symm (Some j) (Some k) ∙ (ap (λ o. same_number o (Some j)) (sym e) ∙ sym (p.numbered x j) ∙ m)))

  pub not_found : (x : T) → n.number x ≡ None → set_of eq (filled n.sets) x ≡ []
  not_found x e = set_of_filled eq n.sets x ∙ set_nowhere eq n.sets x (λ j. p.numbered x j ∙ ap (λ o. same_number o (Some j)) e)

  pub by_number : (x y : T) → together eq (filled n.sets) x y ≡ same_number (n.number x) (n.number y)
  by_number x y =
      elim (n.number x) as (λ o. n.number x ≡ o → together eq (filled n.sets) x y ≡ same_number o (n.number y)) [
        | None ↦ λ e. ap (λ s. in_set eq s y) (not_found x e)
        | Some k ↦ λ e. ap (λ s. in_set eq s y) (found x k e) ∙ p.numbered y k ∙ same_symm (n.number y) (Some k)
      ] refl

  pub same_set : (x y : T) → together eq (filled n.sets) x y ≡ true → set_of eq (filled n.sets) y ≡ set_of eq (filled n.sets) x
  same_set x y m =
      let e : n.number x ≡ n.number y = same_is (n.number x) (n.number y) (sym (by_number x y) ∙ m) in
      elim (n.number x) as (λ o. n.number x ≡ o → set_of eq (filled n.sets) y ≡ set_of eq (filled n.sets) x) [
        | None ↦ λ h. not_found y (sym e ∙ h) ∙ sym (not_found x h)
        | Some k ↦ λ h. found y k (sym e ∙ h) ∙ sym (found x k h)
      ] refl

  pub another : IsEquivalence eq → (x : T) (k : ℕ) → n.number x ≡ Some k → (y : T) × IsFalse (eq x y) × IsTrue (together eq (filled n.sets) x y)
  another laws x k e =
      let r = another_of eq laws (get_or n.sets k []) x (p.distinct k) (p.plural k) (p.numbered x k ∙ same_at (n.number x) k e) in
      (r.0, r.1, ap (λ s. in_set eq s r.0) (found x k e) ∙ r.2)

  -- the value that the tables show is a partition
  pub partition : IsEquivalence eq → IsPartition eq (filled n.sets)
  partition laws = record {
    equal_first = λ x y z e. by_number x z ∙ ap (λ o. same_number o (n.number z)) (alike p laws x y e) ∙ sym (by_number y z);
    equal_second = λ x y z e. by_number z x ∙ ap (same_number (n.number z)) (alike p laws x y e) ∙ sym (by_number z y);
    symmetric = λ x y. by_number x y ∙ same_symm (n.number x) (n.number y) ∙ sym (by_number y x);
    transitive = λ x y z first second.
        let e : n.number x ≡ n.number y = same_is (n.number x) (n.number y) (sym (by_number x y) ∙ first) in
        by_number x z ∙ ap (λ o. same_number o (n.number z)) e ∙ sym (by_number y z) ∙ second;
    one_set = same_set;
    another = λ x m. elim (n.number x) as (λ o. n.number x ≡ o → (y : T) × IsFalse (eq x y) × IsTrue (together eq (filled n.sets) x y)) [
      | None ↦ λ e. absurd (false≢true (sym (by_number x x ∙ ap (λ o. same_number o (n.number x)) e) ∙ m))
      | Some k ↦ λ e. another laws x k e
    ] refl;
    plural = λ k d h.
        let same = ap length (get_or_default (filled n.sets) k d [] h) in
        let many = filled_all (λ s. length s ≢ 1) n.sets p.plural k in
        omega (arith, same, many, filled_some n.sets k h);
    distinct = λ k d h. subst (IsDistinct eq) (get_or_default (filled n.sets) k [] d h) (filled_all (IsDistinct eq) n.sets p.distinct k);
    disjoint = λ x j k. filled_disjoint eq n.sets x (λ a b first second.
        let e = same_is (n.number x) (Some a) (sym (p.numbered x a) ∙ first) in
        let e' = same_is (n.number x) (Some b) (sym (p.numbered x b) ∙ second) in
        eqb-true a b (ap (λ o. same_number o (Some b)) (sym e) ∙ ap (λ o. same_number o (Some b)) e' ∙ eq-eqb b b refl)) j k;
  }

  -- the same of the value itself, where it is what the tables show
  pub partition_of : IsEquivalence eq → {value : List (List T)} → filled n.sets ≡ value → IsPartition eq value
  partition_of laws e = subst (IsPartition eq) e (partition laws)

  pub added_none : (x : T) → n.number x ≡ None → added_by eq (filled n.sets) x ≡ 1
  added_none x e = ap (λ b. cond b 0 1) (by_number x x ∙ ap (λ o. same_number o o) e)

  pub added_some : (x : T) (k : ℕ) → n.number x ≡ Some k → added_by eq (filled n.sets) x ≡ 0
  added_some x k e = ap (λ b. cond b 0 1) (by_number x x ∙ ap (λ o. same_number o o) e ∙ eq-eqb k k refl)

  pub total : sum_by length (filled n.sets) ≡ n.count
  total = total_filled n.sets ∙ sym p.counted

-- ---- what each partition has
module _ {T : Type 0} {eq : T → T → Bool} {sets : List (List T)} (p : IsPartition eq sets) where
  -- an item that is in no set is together with none
  pub first_apart : (x y : T) → IsFalse (together eq sets x x) → IsFalse (together eq sets x y)
  first_apart x y off =
      elim (together eq sets x y) as (λ b. together eq sets x y ≡ b → b ≡ false) [
        | true ↦ λ m. absurd (false≢true (sym off ∙ p.transitive x y x m (p.symmetric y x ∙ m)))
        | false ↦ λ m. refl
      ] refl

  pub second_apart : (x y : T) → IsFalse (together eq sets y y) → IsFalse (together eq sets x y)
  second_apart x y off = p.symmetric x y ∙ first_apart y x off

  -- the first member of a set is that of each member's set
  pub one_name : (x : T) (r : Option T) → r ≡ slice_get (set_of eq sets x) 0 → (y : T) → IsTrue (together eq sets x y) → slice_get (set_of eq sets y) 0 ≡ r
  one_name x r e y m = ap (λ s. slice_get s 0) (p.one_set x y m) ∙ sym e

-- no item has a number exactly where there is none in the map
module _ {T : Type 0} {eq : T → T → Bool} (laws : IsEquivalence eq) (free : List ℕ) (sets : List (List T)) where
  pub empty_map : (entries : List (T × ℕ)) → IsNumbered eq (record { number = λ x. lookup (eq x) entries; count = length entries; free = free; sets = sets })
      → ((length entries == 0) ≡ true) ↔ ((x : T) → together eq (filled sets) x x ≡ false)
  empty_map [] p = (λ e x. by_number p x x, λ h. refl)
  empty_map (e ∷ es) p = (
    λ h. absurd (omega (arith, eqb-true (length (e ∷ es)) 0 h)),
    λ h.
        let some : lookup (eq e.0) (e ∷ es) ≡ Some e.1 = ap (λ b. cond b (Some e.1) (lookup (eq e.0) es)) (laws.refl e.0) in
        absurd (false≢true (sym (h e.0) ∙ by_number p e.0 e.0 ∙ ap (λ o. same_number o o) some ∙ eq-eqb e.1 e.1 refl)),
  )

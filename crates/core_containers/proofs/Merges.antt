-- What is together once two sets are one, or one is gone.
use Rattle.std.proofs.Common.{◌≡◌, ℕ, ◌==◌, Bool, true, false, cond, not, ◌||◌, ◌&&◌, Option, Some, None, refl, sym, ap, ◌∙◌, inl, inr, eq-eqb, ne_eqb}
use Rattle.std.specs.Cmp.{IsEquivalence}
use Rattle.std.proofs.lemmas.Bool.{false≢true, or_left, or_right, or_cases, and_right, cases_eq, false_from_ne_true}
use Rattle.std.proofs.Math.Bool.{and-true}
use Rattle.core_containers.specs.Partition.{together, together_after, filled}
use Rattle.core_containers.specs.Numbers.{same_number, IsNumbered, IsMerge, Numbering, touches}
use Rattle.core_containers.proofs.Classes.{same_is, same_at, same_symm, alike}
use Rattle.core_containers.proofs.Togethers.{by_number}

module _ {T : Type 0} (eq : T → T → Bool) (number : T → Option ℕ) where
  -- ---- the new numbers as each case of `merge` makes them
  module _ (changed : T → Option ℕ) (x y : T) where
    pub merge_flip : IsMerge eq number changed x y → IsMerge eq number changed y x
    merge_flip m =
        let turn : (q : T) → touches eq number x y q ≡ touches eq number y x q = λ q. or_swap (eq x q || same_number (number x) (number q)) (eq y q || same_number (number y) (number q)) in
        record { class = m.class; moved = λ q. m.moved q ∙ ap (λ b. cond b (Some m.class) (number q)) (turn q); own = λ q e. sym (turn q) ∙ m.own q e }
      where
        or_swap : (a b : Bool) → (a || b) ≡ (b || a)
        or_swap true true = refl
        or_swap true false = refl
        or_swap false true = refl
        or_swap false false = refl

    pub merge_begin : (c : ℕ) → number x ≡ None → number y ≡ None → ((q : T) → same_number (number q) (Some c) ≡ false)
        → ((q : T) → changed q ≡ cond (eq y q) (Some c) (cond (eq x q) (Some c) (number q))) → IsMerge eq number changed x y
    merge_begin c nx ny unused moved = record {
      class = c;
      moved = λ q. rw (moved q, nx, ny) (at c (number q) (eq x q) (eq y q));
      own = λ q e. absurd (false≢true (sym (unused q) ∙ same_at (number q) c e));
    }
      where
        at : (c : ℕ) (o : Option ℕ) (a b : Bool) → cond b (Some c) (cond a (Some c) o) ≡ cond ((a || false) || (b || false)) (Some c) o
        at c o true true = refl
        at c o true false = refl
        at c o false true = refl
        at c o false false = refl

    pub merge_admit : IsEquivalence eq → ((a b : T) → eq a b ≡ true → number a ≡ number b) → (c : ℕ) → number x ≡ Some c → number y ≡ None
        → ((q : T) → changed q ≡ cond (eq y q) (Some c) (number q)) → IsMerge eq number changed x y
    merge_admit laws respects c nx ny moved = record {
      class = c;
      moved = λ q. rw (moved q, nx, ny) (at c (number q) (eq x q) (eq y q) (λ e. sym (respects x q e) ∙ nx));
      own = λ q e. or_left (eq x q || same_number (number x) (number q)) (eq y q || same_number (number y) (number q)) (or_right (eq x q) (same_number (number x) (number q)) (rw (nx, e) (eq-eqb c c refl)));
    }
      where
        at : (c : ℕ) (o : Option ℕ) (a b : Bool) → (a ≡ true → o ≡ Some c) → cond b (Some c) o ≡ cond ((a || same_number (Some c) o) || (b || false)) (Some c) o
        at c o true true h = refl
        at c o true false h = h refl
        at c o false true h = elim (same_number (Some c) o) as (λ t. Some c ≡ cond (t || true) (Some c) o) [ true ↦ refl | false ↦ refl ]
        at c o false false h = elim (same_number (Some c) o) as (λ t. same_number (Some c) o ≡ t → o ≡ cond (t || false) (Some c) o) [ true ↦ λ e. sym (same_is (Some c) o e) | false ↦ λ e. refl ] refl

    pub merge_unite : ((a b : T) → eq a b ≡ true → number a ≡ number b) → (a b : ℕ) → number x ≡ Some a → number y ≡ Some b
        → ((q : T) → changed q ≡ cond (same_number (Some b) (number q)) (Some a) (number q)) → IsMerge eq number changed x y
    merge_unite respects a b nx ny moved = record {
      class = a;
      moved = λ q. rw (moved q, nx, ny) (at a b (number q) (eq x q) (eq y q) (λ e. sym (respects x q e) ∙ nx) (λ e. sym (respects y q e) ∙ ny));
      own = λ q e. or_left (eq x q || same_number (number x) (number q)) (eq y q || same_number (number y) (number q)) (or_right (eq x q) (same_number (number x) (number q)) (rw (nx, e) (eq-eqb a a refl)));
    }
      where
        at : (a b : ℕ) (o : Option ℕ) (s t : Bool) → (s ≡ true → o ≡ Some a) → (t ≡ true → o ≡ Some b)
            → cond (same_number (Some b) o) (Some a) o ≡ cond ((s || same_number (Some a) o) || (t || same_number (Some b) o)) (Some a) o
        at a b o s true h k = rw (k refl, eq-eqb b b refl) (last (s || (a == b)) (Some a) (Some b))
          where
            last : (u : Bool) (v w : Option ℕ) → v ≡ cond (u || true) v w
            last true v w = refl
            last false v w = refl
        at a b o true false h k = elim (same_number (Some b) o) as (λ u. cond u (Some a) o ≡ Some a) [ true ↦ refl | false ↦ h refl ]
        at a b o false false h k =
            elim (same_number (Some b) o) as (λ u. cond u (Some a) o ≡ cond (same_number (Some a) o || u) (Some a) o) [
              | true ↦ elim (same_number (Some a) o) as (λ u. Some a ≡ cond (u || true) (Some a) o) [ true ↦ refl | false ↦ refl ]
              | false ↦ elim (same_number (Some a) o) as (λ u. same_number (Some a) o ≡ u → o ≡ cond (u || false) (Some a) o) [ true ↦ λ e. sym (same_is (Some a) o e) | false ↦ λ e. refl ] refl
            ]

    pub merge_same : ((a b : T) → eq a b ≡ true → number a ≡ number b) → (a : ℕ) → number x ≡ Some a → number y ≡ Some a → ((q : T) → changed q ≡ number q) → IsMerge eq number changed x y
    merge_same respects a nx ny moved =
        merge_unite respects a a nx ny (λ q. moved q ∙ at (number q))
      where
        at : (o : Option ℕ) → o ≡ cond (same_number (Some a) o) (Some a) o
        at o = elim (same_number (Some a) o) as (λ u. same_number (Some a) o ≡ u → o ≡ cond u (Some a) o) [ true ↦ λ e. sym (same_is (Some a) o e) | false ↦ λ e. refl ] refl

  -- what the sets of x and of y hold is closed: with an item all that is in its set
  closed_one : ((a b : T) → eq a b ≡ true → number a ≡ number b) → (x a b : T) → (eq x a || same_number (number x) (number a)) ≡ true → same_number (number a) (number b) ≡ true → (eq x b || same_number (number x) (number b)) ≡ true
  closed_one respects x a b h m =
      let one : number x ≡ number a = elim (or_cases (eq x a) (same_number (number x) (number a)) h) [ inl e ↦ respects x a e | inr s ↦ same_is (number x) (number a) s ] in
      or_right (eq x b) (same_number (number x) (number b)) (rw one m)

  closed : ((a b : T) → eq a b ≡ true → number a ≡ number b) → (x y a b : T) → touches eq number x y a ≡ true → same_number (number a) (number b) ≡ true → touches eq number x y b ≡ true
  closed respects x y a b h m =
      elim (or_cases (eq x a || same_number (number x) (number a)) (eq y a || same_number (number y) (number a)) h) [
        | inl e ↦ or_left (eq x b || same_number (number x) (number b)) (eq y b || same_number (number y) (number b)) (closed_one respects x a b e m)
        | inr e ↦ or_right (eq x b || same_number (number x) (number b)) (eq y b || same_number (number y) (number b)) (closed_one respects y a b e m)
      ]

  pub merged_numbers : ((a b : T) → eq a b ≡ true → number a ≡ number b) → (changed : T → Option ℕ) (x y : T) → IsMerge eq number changed x y
      → (a b : T) → same_number (changed a) (changed b) ≡ ((touches eq number x y a && touches eq number x y b) || same_number (number a) (number b))
  merged_numbers respects changed x y m a b =
      rw (m.moved a, m.moved b)
      (elim (touches eq number x y a) as (λ s. touches eq number x y a ≡ s → same_number (cond s (Some m.class) (number a)) (cond (touches eq number x y b) (Some m.class) (number b)) ≡ ((s && touches eq number x y b) || same_number (number a) (number b))) [
        | true ↦ λ s. elim (touches eq number x y b) as (λ t. touches eq number x y b ≡ t → same_number (Some m.class) (cond t (Some m.class) (number b)) ≡ (t || same_number (number a) (number b))) [
          | true ↦ λ t. eq-eqb m.class m.class refl
          | false ↦ λ t.
              let left : same_number (Some m.class) (number b) ≡ false = false_from_ne_true (same_number (Some m.class) (number b)) (λ e. false≢true (sym t ∙ m.own b (sym (same_is (Some m.class) (number b) e)))) in
              let right : same_number (number a) (number b) ≡ false = false_from_ne_true (same_number (number a) (number b)) (λ e. false≢true (sym t ∙ closed respects x y a b s e)) in
              left ∙ sym right
        ] refl
        | false ↦ λ s. elim (touches eq number x y b) as (λ t. touches eq number x y b ≡ t → same_number (number a) (cond t (Some m.class) (number b)) ≡ same_number (number a) (number b)) [
          | true ↦ λ t.
              let left : same_number (number a) (Some m.class) ≡ false = false_from_ne_true (same_number (number a) (Some m.class)) (λ e. false≢true (sym s ∙ m.own a (same_is (number a) (Some m.class) e))) in
              let right : same_number (number a) (number b) ≡ false = false_from_ne_true (same_number (number a) (number b)) (λ e. false≢true (sym s ∙ closed respects x y b a t (same_symm (number b) (number a) ∙ e))) in
              left ∙ sym right
          | false ↦ λ t. refl
        ] refl
      ] refl)

  pub removed_numbers : (changed : T → Option ℕ) (x : T) (c : ℕ) → number x ≡ Some c → ((q : T) → changed q ≡ cond (same_number (number q) (Some c)) None (number q))
      → (a b : T) → same_number (changed a) (changed b) ≡ (same_number (number a) (number b) && not (same_number (number x) (number a)))
  removed_numbers changed x c nx moved a b = rw (moved a, moved b, nx) (at c (number a) (number b))
    where
      at : (c : ℕ) (o p : Option ℕ) → same_number (cond (same_number o (Some c)) None o) (cond (same_number p (Some c)) None p) ≡ (same_number o p && not (same_number (Some c) o))
      at c None None = refl
      at c None (Some k) = refl
      at c (Some j) None = elim (j == c) as (λ s. same_number (cond s None (Some j)) None ≡ false) [ true ↦ refl | false ↦ refl ]
      at c (Some j) (Some k) = elim (cases_eq j c) [
        | inl e ↦ rw (eq-eqb j c e, eq-eqb c j (sym e)) (sym (and_right (j == k) false refl))
        | inr ne ↦ elim (cases_eq k c) [
          | inl e ↦ rw (ne_eqb j c ne, eq-eqb k c e, ne_eqb j k (λ d. ne (d ∙ e))) refl
          | inr far ↦ rw (ne_eqb j c ne, ne_eqb k c far, ne_eqb c j (λ e. ne (sym e))) (sym (and-true (j == k)))
        ]
      ]

-- ---- as values show it
module _ {T : Type 0} {eq : T → T → Bool} (laws : IsEquivalence eq) {n m : Numbering T} (p : IsNumbered eq n) (p' : IsNumbered eq m) where
  pub together_merged : (x y : T) → IsMerge eq n.number m.number x y → (a b : T) → together eq (filled m.sets) a b ≡ together_after eq (filled n.sets) x y a b
  together_merged x y merge a b =
      rw (by_number p' a b, by_number p x a, by_number p x b, by_number p y a, by_number p y b, by_number p a b)
      (merged_numbers eq n.number (alike p laws) m.number x y merge a b)

  pub together_removed : (x : T) (c : ℕ) → n.number x ≡ Some c → ((q : T) → m.number q ≡ cond (same_number (n.number q) (Some c)) None (n.number q))
      → (a b : T) → together eq (filled m.sets) a b ≡ (together eq (filled n.sets) a b && not (together eq (filled n.sets) x a))
  together_removed x c nx moved a b =
      rw (by_number p' a b, by_number p x a, by_number p a b)
      (removed_numbers eq n.number m.number x c nx moved a b)

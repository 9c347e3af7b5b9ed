-- Tests of lists in which nothing stands twice, and of what stands among others, are exact.
use Rattle.std.proofs.Common.{◌≡◌, ℕ, suc, Bool, true, false, not, ◌&&◌, ◌||◌, List, [], ◌∷◌, Contains, Decides, refl, sym, ◌∙◌, arith}
use Rattle.std.proofs.lemmas.Grind.{common_steps}
use Rattle.std.specs.Str.{bytes_eq}
use Rattle.std.proofs.lemmas.Bool.{false≢true}
use Rattle.std.proofs.lemmas.Bool.Decides.{Decides-at, Decides-like, Decides-and, Decides-or, Decides-not}
use Rattle.std.proofs.lemmas.Slice.Eq.{bytes_eq-Decides}
use Rattle.model.specs.lists.Names.{has_name, IsDistinct, all_different}
use Rattle.model.specs.lists.ListJudge.{has_pair, all_pairs_different}
use Rattle.model.specs.trees.Best.{are_distinct}
use Rattle.model.specs.trees.Places.{is_in}
use Rattle.model.proofs.Positions.{distinct_nil}
use Rattle.model.proofs.Members.{nothing_in, in_head, in_tail, in_cases, member_from_get, get_from_member, member_found, member_is_in}

-- a test whether something stands among others, by recursion
record AmongTest (X : Type 0) : Type 0 where
  eq : X → X → Bool
  has : List X → X → Bool
  same : (a b : X) → Decides (eq a b) (a ≡ b)
  none : (x : X) → has [] x ≡ false
  more : (y : X) (ys : List X) (x : X) → has (y ∷ ys) x ≡ (eq y x || has ys x)

stands : {X : Type 0} (t : AmongTest X) (xs : List X) (x : X) → Decides (t.has xs x) (Contains xs x)
stands t (y ∷ ys) x = grind (arith, common_steps, stands t ys x, Decides-at, Decides-like, in_head, in_tail, in_cases, Decides-or)
stands t [] x = (λ h. absurd (false≢true (sym (t.none x) ∙ h)), λ c. absurd (nothing_in x c))

-- a test whether no element stands among those after it, by recursion
record DistinctTest (X : Type 0) : Type 0 where
  has : List X → X → Bool
  differ : List X → Bool
  stands_there : (xs : List X) (x : X) → Decides (has xs x) (Contains xs x)
  none : differ [] ≡ true
  more : (x : X) (xs : List X) → differ (x ∷ xs) ≡ (not (has xs x) && differ xs)

module _ {X : Type 0} where
  joined : (x : X) (xs : List X) → (Contains xs x → ⊥) × IsDistinct xs → IsDistinct (x ∷ xs)
  joined x xs h i j y p q = grind (arith, common_steps, member_from_get)

  taken : (x : X) (xs : List X) → IsDistinct (x ∷ xs) → (Contains xs x → ⊥) × IsDistinct xs
  taken x xs d = (
    (λ c. (let at = get_from_member xs x c in let e = d 0 (suc at.0) x refl at.1 in cc)),
    λ j k y p q. (let e = d (suc j) (suc k) y p q in cc),
  )

  differ_decides : (t : DistinctTest X) (xs : List X) → Decides (t.differ xs) (IsDistinct xs)
  differ_decides t [] = (λ _. distinct_nil, λ _. t.none)
  differ_decides t (x ∷ xs) =
      Decides-at (t.differ (x ∷ xs)) (not (t.has xs x) && t.differ xs) (t.more x xs)
      (Decides-like (not (t.has xs x) && t.differ xs) (joined x xs) (taken x xs)
      (Decides-and (not (t.has xs x)) (t.differ xs) (Decides-not (t.has xs x) (t.stands_there xs x)) (differ_decides t xs)))

-- names
pub has_name_decides : (xs : List (List ℕ)) (x : List ℕ) → Decides (has_name xs x) (Contains xs x)
has_name_decides = stands (record { eq = bytes_eq; has = has_name; same = bytes_eq-Decides; none = λ _. refl; more = λ _ _ _. refl })

pub names_differ : (xs : List (List ℕ)) → Decides (all_different xs) (IsDistinct xs)
names_differ = differ_decides (record { has = has_name; differ = all_different; stands_there = has_name_decides; none = refl; more = λ _ _. refl })

-- pairs of names
abbrev pair_eq : List ℕ × List ℕ → List ℕ × List ℕ → Bool
pair_eq p q = bytes_eq p.0 q.0 && bytes_eq p.1 q.1

pair_eq_decides : (p q : List ℕ × List ℕ) → Decides (pair_eq p q) (p ≡ q)
pair_eq_decides p q = grind (arith, common_steps, Decides-like, Decides-and, bytes_eq-Decides)

has_pair_decides : (ps : List (List ℕ × List ℕ)) (p : List ℕ × List ℕ) → Decides (has_pair ps p) (Contains ps p)
has_pair_decides = stands (record { eq = pair_eq; has = has_pair; same = pair_eq_decides; none = λ _. refl; more = λ _ _ _. refl })

pub pairs_differ : (ps : List (List ℕ × List ℕ)) → Decides (all_pairs_different ps) (IsDistinct ps)
pairs_differ = differ_decides (record { has = has_pair; differ = all_pairs_different; stands_there = has_pair_decides; none = refl; more = λ _ _. refl })

-- numbers
pub numbers_differ : (xs : List ℕ) → Decides (are_distinct xs) (IsDistinct xs)
numbers_differ = differ_decides (record { has = λ xs x. is_in x xs; differ = are_distinct; stands_there = λ xs x. (member_found x xs, member_is_in x xs); none = refl; more = λ _ _. refl })

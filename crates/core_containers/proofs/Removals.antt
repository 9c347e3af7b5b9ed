-- Lists that are taken out of a map, and lists in order.
use Rattle.std.proofs.Common.{◌≡◌, ℕ, zero, suc, ◌+◌, ◌<◌, Bool, true, false, cond, ◌||◌, List, [], ◌∷◌, length, get_or, take, Option, Some, None, is_some, if◌then◌else◌, refl, sym, ap, ◌∙◌, arith}
use Rattle.std.specs.declared.cmp.Ordering.{Ordering}
use Rattle.std.specs.declared.cmp.Ordering.TheVariants.{Less, Equal, Greater}
use Rattle.std.specs.Ordering.{ordering_reverse, is_lt, is_eq, eq_by_cmp}
use Rattle.std.specs.Cmp.{IsEquivalence, IsTotalOrder}
use Rattle.std.specs.List.{IsDistinct}
use Rattle.std.specs.List.Sorted.{IsSorted, IsStrictlySortedBy}
use Rattle.std.proofs.lemmas.Bool.{false≢true, true≢false, or_from}
use Rattle.std.proofs.lemmas.Map.Keys.{apart_from_distinct, IsDistinct-tail, sorted_from_all_adjacent}
use Rattle.core_containers.specs.Partition.{in_set}
use Rattle.core_containers.specs.Numbers.{same_number}

pub same_some : (o : Option ℕ) (k : ℕ) → same_number o (Some k) ≡ true → is_some o ≡ true
same_some None k e = absurd (false≢true e)
same_some (Some j) k e = refl

pub gone_more : (a b : Bool) (o : Option ℕ) → cond a None (cond b None o) ≡ cond (b || a) None o
gone_more true true o = refl
gone_more true false o = refl
gone_more false true o = refl
gone_more false false o = refl

pub one_less : (b : Bool) (m n k i : ℕ) → m + (if b then 1 else 0) ≡ n → b ≡ true → n + i ≡ k → m + (i + 1) ≡ k
one_less true m n k i e t f = omega (arith, e, f)
one_less false m n k i e t f = absurd (false≢true t)

module _ {T : Type 0} (eq : T → T → Bool) where
  -- an item isn't among those before it
  pub not_before : IsEquivalence eq → (xs : List T) (i : ℕ) (d : T) → IsDistinct eq xs → i < length xs → in_set eq (take i xs) (get_or xs i d) ≡ false
  not_before laws [] i d apart h = absurd (omega arith)
  not_before laws (x ∷ xs) zero d apart h = refl
  not_before laws (x ∷ xs) (suc i) d apart h =
      let far : eq x (get_or xs i d) ≡ false = apart_from_distinct eq (x ∷ xs) 0 (suc i) d apart (omega arith) h in
      or_from (eq (get_or xs i d) x) (in_set eq (take i xs) (get_or xs i d)) (laws.symm (get_or xs i d) x ∙ far) (not_before laws xs i d (IsDistinct-tail eq x xs apart) (omega arith))

less_from : (r s : Ordering) → r ≡ ordering_reverse s → is_lt s ≡ false → is_eq r ≡ false → r ≡ Less
less_from r Less e l n = absurd (true≢false l)
less_from r Equal e l n = absurd (true≢false (sym (ap is_eq e) ∙ n))
less_from r Greater e l n = e

-- in order and with no two equal: each is below the next
pub strictly_ascending : {T : Type 0} {R : T → T → Ordering} (o : IsTotalOrder R) (eq : T → T → Bool) → ((x y : T) → eq x y ≡ eq_by_cmp R x y)
    → (xs : List T) → IsSorted R xs → IsDistinct eq xs → IsStrictlySortedBy R xs
unfolding IsStrictlySortedBy
strictly_ascending o eq ties [] sorted apart = tt
strictly_ascending {R = R} o eq ties (x ∷ xs) sorted apart =
    sorted_from_all_adjacent o (x ∷ xs) x (λ k h.
    less_from (R (get_or (x ∷ xs) k x) (get_or (x ∷ xs) (k + 1) x)) (R (get_or (x ∷ xs) (k + 1) x) (get_or (x ∷ xs) k x))
    (o.antisymm (get_or (x ∷ xs) k x) (get_or (x ∷ xs) (k + 1) x)) (sorted k x (omega arith) h)
    (sym (ties (get_or (x ∷ xs) k x) (get_or (x ∷ xs) (k + 1) x)) ∙ apart_from_distinct eq (x ∷ xs) k (k + 1) x apart (omega arith) h))

-- A loop over a map whose keys are places: each place is done, or what the map has of it is left.
use Rattle.std.proofs.Common.{◌≡◌, ◌⊎◌, ℕ, true, Option, Some, None, List, [], ◌∷◌, length, unwrap_or, sym, ap, ◌∙◌, inl, inr, arith}
use Rattle.std.specs.BTreeMap.{BTreeMap, IsEmpty, Updates, get}
use Rattle.std.specs.BTreeSet as sorted
use Rattle.std.specs.BTreeSet.{BTreeSet}
use Rattle.std.specs.Cmp.{IsTotalOrder}
use Rattle.std.specs.Global.{Vec}
use Rattle.std.specs.Map.{lookup}
use Rattle.std.specs.Ordering.{is_eq}
use Rattle.std.proofs.lemmas.Cmp.{nat_cmp_total, on_total, then_total}
use Rattle.std.proofs.lemmas.Grind.{common_steps}
use Rattle.core_syntax.specs.declared.syntax.Pos.{Pos}
use Rattle.core_syntax.specs.contracts.syntax.PosOrd.TheImpl.{ghosts}
use Rattle.core_rule_sets.specs.Endings.{items_of}
use Rattle.core_overlap.specs.Graphs.{unreported_at, neighbours_at, entry_cmp, AreQueued, IsQueued}
use Rattle.core_overlap.proofs.Queues.{pos_eq, pos_means, queued_with, is_queued}

pub places_total : IsTotalOrder ghosts.cmp
places_total = then_total (on_total (λ (p : Pos). p.file) nat_cmp_total) (on_total (λ (p : Pos). p.offset) nat_cmp_total)

place_means : (p q : Pos) → is_eq (ghosts.cmp p q) ≡ true → p ≡ q
place_means p q h = pos_means p q (sym (pos_eq p q) ∙ h)

abbrev found_in : {X : Type 0} → Pos → List (Pos × X) → Option X
found_in q es = lookup (λ k. is_eq (ghosts.cmp q k)) es

-- 1. each place is done, or what the map has of it is found in what is left
abbrev pub IsDoneOrLeft : {X : Type 0} → (Pos → Type 0) → BTreeMap Pos X → List (Pos × X) → Pos → Type 0
IsDoneOrLeft done m left q = done q ⊎ (found_in q left ≡ get ghosts.cmp m q)

pub all_left : {X : Type 0} (done : Pos → Type 0) (m : BTreeMap Pos X) (left : List (Pos × X)) → left ≡ m.entries → (q : Pos) → IsDoneOrLeft done m left q
all_left done m left e q = inr (ap (found_in q) e)

one_done : {X : Type 0} (before after : Pos → Type 0) (m : BTreeMap Pos X) (left rest : List (Pos × X)) (k : Pos) (v : X) → left ≡ (k, v) ∷ rest
    → after k → ((q : Pos) → before q → after q) → ((q : Pos) → IsDoneOrLeft before m left q) → (q : Pos) → IsDoneOrLeft after m rest q
one_done before after m left rest k v e this keep all q = grind (arith, common_steps, place_means q k)

all_done : {X : Type 0} (done : Pos → Type 0) (m : BTreeMap Pos X) (left : List (Pos × X)) → left ≡ [] → ((q : Pos) → IsDoneOrLeft done m left q)
    → (q : Pos) → done q ⊎ (get ghosts.cmp m q ≡ None)
all_done done m left e all q = elim (all q) [ inl d ↦ inl d | inr l ↦ inr (sym l ∙ ap (found_in q) e) ]

-- 2. counts by the lists of others
abbrev IsCounted : BTreeMap Pos (Vec Pos) → BTreeMap Pos ℕ → Pos → Type 0
IsCounted others counts q = unreported_at counts q ≡ length (neighbours_at others q)

pub record AreCounted (others : BTreeMap Pos (Vec Pos)) (counts : BTreeMap Pos ℕ) (left : List (Pos × Vec Pos)) : Type 0 where
  pub each : (q : Pos) → IsDoneOrLeft (λ p. unreported_at counts p ≡ length (neighbours_at others p)) others left q
  pub none : (q : Pos) → get ghosts.cmp others q ≡ None → unreported_at counts q ≡ 0

pub none_counted : (others : BTreeMap Pos (Vec Pos)) (counts : BTreeMap Pos ℕ) (left : List (Pos × Vec Pos)) → IsEmpty counts → left ≡ others.entries → AreCounted others counts left
none_counted others counts left empty e = grind (arith, common_steps, all_left (IsCounted others counts) others left e)

pub one_counted : (others : BTreeMap Pos (Vec Pos)) (counts now : BTreeMap Pos ℕ) (left rest : List (Pos × Vec Pos)) (k : Pos) (v : Vec Pos) (n : ℕ) → left ≡ (k, v) ∷ rest
    → get ghosts.cmp others k ≡ Some v → n ≡ length v.items → Updates ghosts.cmp counts now k (Some n) → AreCounted others counts left → AreCounted others now rest
one_counted others counts now left rest k v n e found many u s = record {
  each = one_done (IsCounted others counts) (IsCounted others now) others left rest k v e this keep s.each;
  none = grind (arith, common_steps, place_means k);
}
  where
    this : IsCounted others now k
    this = ap (λ o. unwrap_or o 0) u.1 ∙ many ∙ sym (ap (λ o. length (items_of o)) found)

    keep : (q : Pos) → IsCounted others counts q → IsCounted others now q
    keep q d = grind (arith, common_steps, place_means k q)

pub all_counted : (others : BTreeMap Pos (Vec Pos)) (counts : BTreeMap Pos ℕ) (left : List (Pos × Vec Pos)) → left ≡ [] → AreCounted others counts left → (q : Pos) → IsCounted others counts q
all_counted others counts left e s q = grind (arith, common_steps, all_done (IsCounted others counts) others left e s.each q)

-- 3. entries by the counts
pub one_queued : (counts : BTreeMap Pos ℕ) (queue now : BTreeSet (ℕ × Pos)) (left rest : List (Pos × ℕ)) (k : Pos) (n : ℕ) → left ≡ (k, n) ∷ rest → get ghosts.cmp counts k ≡ Some n
    → sorted.Updates entry_cmp queue now (n, k) true → ((q : Pos) → IsDoneOrLeft (IsQueued counts queue) counts left q) → (q : Pos) → IsDoneOrLeft (IsQueued counts now) counts rest q
one_queued counts queue now left rest k n e found u all =
    one_done (IsQueued counts queue) (IsQueued counts now) counts left rest k n e
    (is_queued counts queue now n k (sym (ap (λ o. unwrap_or o 0) found)) u) (λ q i. queued_with counts queue now (n, k) u q i) all

pub all_queued : (counts : BTreeMap Pos ℕ) (queue : BTreeSet (ℕ × Pos)) (left : List (Pos × ℕ)) → left ≡ [] → ((q : Pos) → IsDoneOrLeft (IsQueued counts queue) counts left q) → AreQueued counts queue
all_queued counts queue left e all q h = grind (arith, common_steps, all_done (IsQueued counts queue) counts left e all q)

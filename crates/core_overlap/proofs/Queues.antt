-- Entries of rules by how many overlaps they have unreported: what the last one says, and what stays where one is made anew.
use Rattle.std.proofs.Common.{◌≡◌, ◌==◌, ◌&&◌, ◌||◌, ℕ, ◌+◌, ◌<◌, ◌≤◌, Bool, true, false, cond, nat_lt, List, [], ◌∷◌, ◌++◌, length, sym, ap, ◌∙◌, subst, inl, inr, arith}
use Rattle.std.specs.Ordering.{ordering_then, is_lt, is_eq}
use Rattle.std.specs.declared.cmp.Ordering.{Ordering}
use Rattle.std.specs.declared.cmp.Ordering.TheVariants.{Less, Equal, Greater}
use Rattle.std.specs.BTreeMap.{BTreeMap}
use Rattle.std.specs.BTreeSet.{BTreeSet, contains, insert_key, Updates, IsUpperBound}
use Rattle.std.proofs.lemmas.Bool.{cases_Bool}
use Rattle.std.proofs.lemmas.Bool.Decides.{nat_tests}
use Rattle.std.proofs.lemmas.Grind.{common_steps}
use Rattle.model.specs.sites.Overlap.{position_lt}
use Rattle.laws_sites.proofs.overlaps.ListedOverlaps.{position_means}
use Rattle.core_syntax.specs.SyntaxViews.{position}
use Rattle.core_syntax.specs.declared.syntax.Pos.{Pos}
use Rattle.core_syntax.specs.contracts.syntax.PosOrd.TheImpl.{ghosts}
use Rattle.core_overlap.specs.Graphs.{unreported_at, same_pos, counts_before, count_left, entry_cmp, AreQueued, IsQueued}

-- 1. the order of entries
lt_of : (x y u v : Bool) → is_lt (ordering_then (cond x Less (cond y Equal Greater)) (cond u Less (cond v Equal Greater))) ≡ (x || (y && u))
lt_of x y u v = grind (arith, common_steps)

eq_of : (x y u v : Bool) → (x ≡ true → y ≡ false) → (u ≡ true → v ≡ false) → is_eq (ordering_then (cond x Less (cond y Equal Greater)) (cond u Less (cond v Equal Greater))) ≡ (y && v)
eq_of x y u v h k = grind arith

apart : (a b : ℕ) → nat_lt a b ≡ true → (a == b) ≡ false
apart a b h = grind (arith, nat_tests)

pos_lt : (p q : Pos) → is_lt (ghosts.cmp p q) ≡ position_lt (position p) (position q)
pos_lt p q = lt_of (nat_lt p.file q.file) (p.file == q.file) (nat_lt p.offset q.offset) (p.offset == q.offset)

pub pos_eq : (p q : Pos) → is_eq (ghosts.cmp p q) ≡ same_pos p q
pos_eq p q = eq_of (nat_lt p.file q.file) (p.file == q.file) (nat_lt p.offset q.offset) (p.offset == q.offset) (apart p.file q.file) (apart p.offset q.offset)

then_lt : (x y : Bool) (o : Ordering) → is_lt (ordering_then (cond x Less (cond y Equal Greater)) o) ≡ (x || (y && is_lt o))
then_lt x y o = grind (arith, common_steps)

then_eq : (x y : Bool) (o : Ordering) → is_eq (ordering_then (cond x Less (cond y Equal Greater)) o) ≡ true → is_eq o ≡ true
then_eq x y o h = grind arith

pub entry_lt : (m n : ℕ) (p q : Pos) → is_lt (entry_cmp (m, p) (n, q)) ≡ (nat_lt m n || ((m == n) && position_lt (position p) (position q)))
entry_lt m n p q = then_lt (nat_lt m n) (m == n) (ghosts.cmp p q) ∙ ap (λ b. nat_lt m n || ((m == n) && b)) (pos_lt p q)

pub pos_means : (p q : Pos) → same_pos p q ≡ true → p ≡ q
pos_means p q h = ap {B = Pos} (λ x. record { file = x.file; offset = x.offset }) (position_means (position p) (position q) h)

entry_means : (m n : ℕ) (p q : Pos) → is_eq (entry_cmp (m, p) (n, q)) ≡ true → p ≡ q
entry_means m n p q h = pos_means p q (sym (pos_eq p q) ∙ then_eq (nat_lt m n) (m == n) (ghosts.cmp p q) h)

-- 2. the last entry, where it says no more than its rule has
not_before : (most left n up : ℕ) (x : Bool) → most ≤ left → up ≤ n → (nat_lt most n || ((most == n) && x)) ≡ false → (nat_lt left up || ((up == left) && x)) ≡ false
not_before most left n up x h k l = grind (arith, nat_tests)

pub last_is_first : (m : BTreeMap Pos ℕ) (queue : BTreeSet (ℕ × Pos)) (most : ℕ) (place : Pos) → IsUpperBound entry_cmp queue (most, place) → most ≤ unreported_at m place
    → (q : Pos) → IsQueued m queue q → counts_before m q place ≡ false
last_is_first m queue most place greatest few q i =
    not_before most (unreported_at m place) i.0 (unreported_at m q) (position_lt (position place) (position q)) few i.1
    (sym (entry_lt most i.0 place q) ∙ greatest (i.0, q) i.2)

-- 3. an entry that is made anew
pub queued_with : (m : BTreeMap Pos ℕ) (queue now : BTreeSet (ℕ × Pos)) (e : ℕ × Pos) → Updates entry_cmp queue now e true → (q : Pos) → IsQueued m queue q → IsQueued m now q
queued_with m queue now e u q i = grind (arith, common_steps)

pub is_queued : (m : BTreeMap Pos ℕ) (queue now : BTreeSet (ℕ × Pos)) (n : ℕ) (q : Pos) → n ≡ unreported_at m q → Updates entry_cmp queue now (n, q) true → IsQueued m now q
is_queued m queue now n q is u = (n, omega (arith, is), u.1)

pub queued_anew : (m : BTreeMap Pos ℕ) (queue mid now : BTreeSet (ℕ × Pos)) (most left : ℕ) (place : Pos) → Updates entry_cmp queue mid (most, place) false
    → left ≡ unreported_at m place → Updates entry_cmp mid now (left, place) true → (q : Pos) → IsQueued m queue q → IsQueued m now q
queued_anew m queue mid now most left place out is back q i =
    elim (cases_Bool (is_eq (entry_cmp (most, place) (i.0, q)))) [
      | inl t ↦ subst (IsQueued m now) (entry_means most i.0 place q t) (is_queued m mid now left place is back)
      | inr f ↦ grind (arith, common_steps, queued_with m mid now (left, place) back q)
    ]

-- 4. counts that fall
still_queued : (m after : BTreeMap Pos ℕ) (queue : BTreeSet (ℕ × Pos)) (at : Pos) (found : List Pos) → ((q : Pos) → unreported_at after q ≡ count_left m at found q)
    → (q : Pos) → IsQueued m queue q → IsQueued after queue q
still_queued m after queue at found left q i = grind (arith, common_steps)

pub are_still_queued : (m after : BTreeMap Pos ℕ) (queue now : BTreeSet (ℕ × Pos)) (at : Pos) (found : List Pos) → ((q : Pos) → unreported_at after q ≡ count_left m at found q)
    → ((q : Pos) → IsQueued m queue q → IsQueued m now q) → AreQueued m queue → AreQueued after now
are_still_queued m after queue now at found left kept all q h = grind (arith, common_steps, still_queued m after now at found left q)

-- 5. what all entries say together, which falls with each that is made anew
abbrev pub said : List (ℕ × Pos) → ℕ
said [] = 0
said (e ∷ es) = e.0 + said es

pub said_with_last : (es : List (ℕ × Pos)) (e : ℕ × Pos) → said (es ++ e ∷ []) ≡ said es + e.0
said_with_last [] e = omega arith
said_with_last (x ∷ es) e = grind (arith, common_steps, said_with_last es e)

pub said_with : (es : List (ℕ × Pos)) (e : ℕ × Pos) → said (insert_key entry_cmp es e) ≤ said es + e.0
said_with [] e = omega arith
said_with (x ∷ es) e = grind (arith, common_steps, said_with es e)

pub falls : (old mid now : BTreeSet (ℕ × Pos)) (most left : ℕ) (place : Pos) → old.keys ≡ mid.keys ++ (most, place) ∷ [] → now.keys ≡ insert_key entry_cmp mid.keys (left, place)
    → left < most → said now.keys < said old.keys
falls old mid now most left place out back less = grind (arith, common_steps, said_with_last mid.keys (most, place), said_with mid.keys (left, place))

-- 6. no entry
some_in : (ks : List (ℕ × Pos)) (e : ℕ × Pos) → contains entry_cmp (record { keys = ks }) e ≡ true → 0 < length ks
some_in ks e h = grind (arith, common_steps)

pub none_queued : (m : BTreeMap Pos ℕ) (queue : BTreeSet (ℕ × Pos)) (q : Pos) → (0 < length queue.keys → ⊥) → IsQueued m queue q → ⊥
none_queued m queue q none i = none (some_in queue.keys (i.0, q) i.2)

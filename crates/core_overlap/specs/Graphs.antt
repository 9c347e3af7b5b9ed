-- The graph of wrong overlaps, by the positions of rules: which rules each one overlaps, and how many of these are unreported.
use Rattle.std.specs.Prelude.{ℕ, ◌-◌, ◌<◌, ◌≤◌, Bool, ◌&&◌, ◌||◌, IsTrue, List, length, map, nat_lt, unwrap_or, if◌then◌else◌}
use Rattle.std.specs.Bool.{◌==◌}
use Rattle.std.specs.List.{filter}
use Rattle.std.specs.Global.{Vec}
use Rattle.std.specs.BTreeMap.{BTreeMap, get}
use Rattle.std.specs.BTreeSet.{BTreeSet, contains}
use Rattle.std.specs.Ordering.{nat_cmp, ordering_then}
use Rattle.std.specs.declared.cmp.Ordering.{Ordering}
use Rattle.model.specs.lists.Syntax.{Position}
use Rattle.model.specs.sites.Overlap.{position_eq, position_lt, has_end, other_end}
use Rattle.core_syntax.specs.SyntaxViews.{position}
use Rattle.core_syntax.specs.declared.syntax.Pos.{Pos}
use Rattle.core_syntax.specs.contracts.syntax.PosOrd.TheImpl.{ghosts}
use Rattle.core_rule_sets.specs.Endings.{items_of}

-- the rules that overlap one, in the order of the overlaps
abbrev pub neighbours : List (Position × Position) → Position → List Position
neighbours pairs at = map (other_end at) (filter (has_end at) pairs)

-- what a map has of a rule: how many of its overlaps are unreported, and which rules it overlaps
abbrev pub unreported_at : BTreeMap Pos ℕ → Pos → ℕ
unreported_at m q = unwrap_or (get ghosts.cmp m q) 0

abbrev pub neighbours_at : BTreeMap Pos (Vec Pos) → Pos → List Pos
neighbours_at m q = items_of (get ghosts.cmp m q)

-- whether two places are one
abbrev pub same_pos : Pos → Pos → Bool
same_pos p q = position_eq (position p) (position q)

-- how often a place stands in a list
abbrev pub position_count : Pos → List Pos → ℕ
position_count q ps = length (filter (λ p. same_pos p q) ps)

-- of two rules, whether the first has more overlaps unreported, or as many and a later position
abbrev pub counts_before : BTreeMap Pos ℕ → Pos → Pos → Bool
counts_before m p q = nat_lt (unreported_at m q) (unreported_at m p) || ((unreported_at m p == unreported_at m q) && position_lt (position q) (position p))

-- the rules that a rule overlaps and that have overlaps unreported
abbrev pub unreported : BTreeMap Pos (Vec Pos) → BTreeMap Pos ℕ → Pos → List Pos
unreported others m at = filter (λ o. nat_lt 0 (unreported_at m o)) (neighbours_at others at)

-- what is unreported of a rule once one is reported with these
abbrev pub count_left : BTreeMap Pos ℕ → Pos → List Pos → Pos → ℕ
count_left m at found q = if same_pos at q then 0 else unreported_at m q - position_count q found

-- the order of entries, each a number of overlaps and the place of a rule
abbrev pub entry_cmp : ℕ × Pos → ℕ × Pos → Ordering
entry_cmp x y = ordering_then (nat_cmp x.0 y.0) (ghosts.cmp x.1 y.1)

-- a rule has an entry, which says at least how many of its overlaps are unreported
abbrev pub IsQueued : BTreeMap Pos ℕ → BTreeSet (ℕ × Pos) → Pos → Type 0
IsQueued m queue q = (n : ℕ) × (unreported_at m q ≤ n) × IsTrue (contains entry_cmp queue (n, q))

-- so does each rule that has overlaps unreported
abbrev pub AreQueued : BTreeMap Pos ℕ → BTreeSet (ℕ × Pos) → Type 0
AreQueued m queue = (q : Pos) → 0 < unreported_at m q → IsQueued m queue q

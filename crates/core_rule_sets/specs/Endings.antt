-- Classes that are parts of classes, at any depth, over the numbers of sites.
use Rattle.std.specs.Prelude.{◌≡◌, ◌⊎◌, ℕ, ◌+◌, ◌-◌, ◌<◌, ◌≤◌, List, [], length, map, Contains, Option, Some, None, nat_eq, if◌then◌else◌}
use Rattle.std.specs.BTreeMap.{BTreeMap, get}
use Rattle.std.specs.Global.{Vec}
use Rattle.std.specs.List.{filter}
use Rattle.std.specs.Option.{unwrap_or}
use Rattle.std.specs.Ordering.{nat_cmp}
use Rattle.core_rule_sets.specs.Verdicts.{class_head}
use Rattle.core_rule_sets.specs.declared.closure_classes.Part.{Part}

-- a class whose parts, their parts and so on come to an end
pub data ClassEnds (ks : List (List ℕ)) (parts : List Part) : ℕ → Type 0 where
  class_ends : {class : ℕ} → ((p : Part) → Contains parts p → class_head ks p.source ≡ class → ClassEnds ks parts (class_head ks p.field)) → ClassEnds ks parts class

-- some parts that never end: the class of each has parts among them
pub record GoOnForEver (ks : List (List ℕ)) (parts left : List Part) : Type 0 where
  pub within : (p : Part) → Contains left p → Contains parts p
  pub one : Part
  pub there : Contains left one
  pub next : (p : Part) → Contains left p → (q : Part) × Contains left q × (class_head ks q.source ≡ class_head ks p.field)

-- how many parts of a class are among these
abbrev pub count_in : List (List ℕ) → List Part → ℕ → ℕ
count_in ks parts class = length (filter (λ p. nat_eq (class_head ks p.source) class) parts)

-- the classes that a class is a part of, once for each of these parts
abbrev pub wholes_in : List (List ℕ) → List Part → ℕ → List ℕ
wholes_in ks parts class = map (λ p. class_head ks p.source) (filter (λ p. nat_eq (class_head ks p.field) class) parts)

-- what maps have of a class: a number, and a list
abbrev pub count_at : BTreeMap ℕ ℕ → ℕ → ℕ
count_at m class = unwrap_or (get nat_cmp m class) 0

abbrev pub items_of : {X : Type 0} → Option (Vec X) → List X
items_of None = []
items_of (Some v) = v.items

abbrev pub listed_at : {X : Type 0} → BTreeMap ℕ (Vec X) → ℕ → List X
listed_at m class = items_of (get nat_cmp m class)

-- how often a class stands in a list
abbrev pub number_count : ℕ → List ℕ → ℕ
number_count class ks = length (filter (λ k. nat_eq k class) ks)

-- one part of each of some classes is left out, and classes of which none is left are now among those that end
pub record PartsAreTaken (before after : ℕ → ℕ) (wholes ended now : List ℕ) : Type 0 where
  pub counts : (k : ℕ) → after k ≡ before k - number_count k wholes
  pub kept : (k : ℕ) → Contains ended k → Contains now k
  pub met : (k : ℕ) → 0 < before k → after k ≡ 0 → Contains now k
  pub only : (k : ℕ) → Contains now k → Contains ended k ⊎ (after k ≡ 0)
  pub few : length now ≤ length ended + length wholes

-- a class that ends is left out, as a part of so many
pub record ClassIsTaken (wholes others : ℕ → List ℕ) (before after : ℕ → ℕ) (class : ℕ) (ended now : List ℕ) (number : ℕ) : Type 0 where
  pub many : number ≡ length (wholes class)
  pub rest : (k : ℕ) → others k ≡ (if nat_eq class k then [] else wholes k)
  pub parts : PartsAreTaken before after (wholes class) ended now

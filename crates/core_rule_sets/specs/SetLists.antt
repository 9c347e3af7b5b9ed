-- Disjoint sets of sites, as they are listed one after another.
use Rattle.std.specs.Prelude.{◌≡◌, ℕ, ◌||◌, List, nat_eq, nat_lt, take, IsTrue}
use Rattle.std.specs.List.{flat_map, list_all}
use Rattle.std.specs.Ordering.{nat_cmp}
use Rattle.std.specs.BTreeSet.{BTreeSet, contains}
use Rattle.core_containers.specs.Partition.{IsPartition, together}
use Rattle.model.specs.trees.Places.{is_in, joins_in}
use Rattle.core_rule_sets.specs.Listings.{are_listed, ascends}

-- all sites that are in a set are noted
abbrev pub AreNoted : List (List ℕ) → BTreeSet ℕ → Type 0
AreNoted sets noted = (a b : ℕ) → IsTrue (together nat_eq sets a b) → IsTrue (contains nat_cmp noted b)

-- some of the sets of a whole are listed; the rest have sites among those that come later, which ascend, and above the
-- least sites of those listed
pub record IsListedBefore (whole rest listed : List (List ℕ)) (later : List ℕ) : Type 0 where
  pub partition : IsPartition nat_eq rest
  pub parts : (a b : ℕ) → together nat_eq whole a b ≡ (joins_in listed a b || together nat_eq rest a b)
  pub in_order : IsTrue (are_listed listed)
  pub ascending : IsTrue (ascends later)
  pub left : (a : ℕ) → IsTrue (together nat_eq rest a a) → IsTrue (is_in a later)
  pub above : (a : ℕ) → IsTrue (together nat_eq rest a a) → IsTrue (list_all (λ n. nat_lt n a) (flat_map (take 1) listed))

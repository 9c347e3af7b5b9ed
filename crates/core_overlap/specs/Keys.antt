-- Keys of rules: numbers that tell rules apart, and where the next rule of a key stands.
use Rattle.std.specs.Prelude.{false, ◌≡◌, ◌≢◌, ◌≤◌, ◌<◌, ◌+◌, ℕ, List, Option, Some, None, length, slice_get, nat_lt, unsigned_abs, if◌then◌else◌}
use Rattle.std.specs.BTreeMap.{BTreeMap, get}
use Rattle.model.specs.sites.Sites.{SetRule}
use Rattle.model.specs.sites.SetRules.{equates_none, is_mask_of, overlap_wrongly}
use Rattle.model.specs.trees.Places.{constraint_at}
use Rattle.core_rule_sets.specs.SiteViews.{constraint_view}
use Rattle.core_rule_sets.specs.contracts.trie_again.ConstraintOrd.TheImpl.{ghosts}
use Rattle.core_rule_sets.specs.declared.trie_again.Constraint.{Constraint}
use Rattle.core_overlap.specs.declared.keys.Keys.{Keys}
use Rattle.core_overlap.specs.declared.overlap.Ahead.{Ahead}

-- two rules neither overlap wrongly nor mask one another
pub record AreApart (a b : SetRule) : Type 0 where
  pub wrong : overlap_wrongly a b ≡ false
  pub masks : is_mask_of a b ≡ false
  pub masked : is_mask_of b a ≡ false

-- each rule has a key, if only one that says nothing; rules whose keys say different things are apart
pub record TellApart (rules : List SetRule) (keys : List (Option ℕ)) : Type 0 where
  pub each : length keys ≡ length rules
  pub apart : (i j : ℕ) (a b : SetRule) (k l : ℕ) → slice_get rules i ≡ Some a → slice_get rules j ≡ Some b
      → slice_get keys i ≡ Some (Some k) → slice_get keys j ≡ Some (Some l) → k ≢ l → AreApart a b

-- a number is that of what a rule asks of a site
pub record IsAskedNumber (numbers : BTreeMap Constraint ℕ) (site : ℕ) (r : SetRule) (k : ℕ) : Type 0 where
  pub asked : Constraint
  pub here : constraint_at r.constraints site ≡ Some (constraint_view asked)
  pub number : get ghosts.cmp numbers asked ≡ Some k

-- a number is the priority, without its sign, of a rule that demands an equality
pub record IsPriorityNumber (r : SetRule) (k : ℕ) : Type 0 where
  pub equates : equates_none r ≡ false
  pub number : unsigned_abs r.prio ≡ k

-- each rule has a key, and one that says something says this of its rule
pub record AreKeyed (says : SetRule → ℕ → Type 0) (rules : List SetRule) (keys : List (Option ℕ)) : Type 0 where
  pub each : length keys ≡ length rules
  pub keyed : (i : ℕ) (r : SetRule) (k : ℕ) → slice_get rules i ≡ Some r → slice_get keys i ≡ Some (Some k) → says r k

-- the first place, from one on, at which a key stands, or the end
pub record IsFirst (keys : List (Option ℕ)) (from : ℕ) (key : Option ℕ) (at : ℕ) : Type 0 where
  pub behind : from ≤ at
  pub within : at ≤ length keys
  pub none_between : (m : ℕ) → from ≤ m → m < at → slice_get keys m ≢ Some key
  pub there : at < length keys → slice_get keys at ≡ Some key

-- behind each place, the next one of its key
pub record AreNext (keys : List (Option ℕ)) (next : List ℕ) : Type 0 where
  pub each : length next ≡ length keys
  pub behind : (i j : ℕ) (k : Option ℕ) → slice_get keys i ≡ Some k → slice_get next i ≡ Some j → IsFirst keys (i + 1) k j

-- the keys of rules, with where the next one of each stands
pub record AreKeys (rules : List SetRule) (keys : Keys) : Type 0 where
  pub apart : TellApart rules keys.of_rules.items
  pub next : AreNext keys.of_rules.items keys.next.items

-- the nearer one of two places
abbrev pub nearer : Ahead → ℕ
nearer a = if nat_lt a.alike a.bare then a.alike else a.bare

-- from a place on, the first of a key, and the first that has none
pub record IsAhead (keys : List (Option ℕ)) (key from : ℕ) (a : Ahead) : Type 0 where
  pub alike : IsFirst keys from (Some key) a.alike
  pub bare : IsFirst keys from None a.bare

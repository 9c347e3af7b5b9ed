-- Rules that are passed over behind one of another key, and how places of the next key are found.
use Rattle.std.proofs.Common.{◌≡◌, ◌≢◌, ℕ, zero, suc, ◌+◌, ◌-◌, ◌<◌, ◌≤◌, Bool, true, List, [], ◌++◌, length, drop, set, Option, Some, None, cond, slice_get, get_or, unwrap_or, inl, inr, sym, ap, ◌∙◌, subst, arith}
use Rattle.std.specs.BTreeMap.{BTreeMap, get, is_at}
use Rattle.std.specs.Map.{lookup}
use Rattle.std.specs.Option.{option_cmp}
use Rattle.std.specs.Ordering.{nat_cmp}
use Rattle.std.proofs.lemmas.Bool.{cases_eq}
use Rattle.std.proofs.lemmas.List.{length-map, length-set, get_or-set_same, get_or-set_other}
use Rattle.std.proofs.lemmas.Option.{same_Some, get_or_from_slice_get, slice_get-get_or, slice_get_within}
use Rattle.std.proofs.Math.Seq.{drop-cons}
use Rattle.std.proofs.lemmas.Grind.{common_steps}
use Rattle.model.specs.sites.Sites.{SetRule}
use Rattle.model.proofs.Mapped.{get_map}
use Rattle.core_rule_sets.specs.SiteViews.{set_rule_view, set_rule_views}
use Rattle.core_rule_sets.specs.declared.trie_again.Rule.{Rule}
use Rattle.core_overlap.specs.Comparisons.{masked_behind, wrong_behind}
use Rattle.core_overlap.specs.Keys.{AreApart, AreNext, IsAhead, IsFirst, TellApart, nearer}
use Rattle.core_overlap.specs.declared.overlap.Ahead.{Ahead}
use Rattle.core_overlap.proofs.DistinctKeys.{apart_masked, apart_wrong}

-- 1. the first place of a key
-- it stands later where the place before isn't of that key
pub later_first : (keys : List (Option ℕ)) (from at : ℕ) (key : Option ℕ) → IsFirst keys from key at → at ≢ from → IsFirst keys (from + 1) key at
later_first keys from at key h n = grind (arith, common_steps)

-- the first one from a place on is the first one from any place between
pub between_first : (keys : List (Option ℕ)) (from to at : ℕ) (key : Option ℕ) → IsFirst keys from key at → from ≤ to → to ≤ at → IsFirst keys to key at
between_first keys from to at key h l u = grind (arith, common_steps)

-- the place itself, where it has the key
pub here_first : (keys : List (Option ℕ)) (i : ℕ) (key : Option ℕ) → slice_get keys i ≡ Some key → IsFirst keys i key i
here_first keys i key e = grind (arith, common_steps, slice_get_within keys i key e)

-- one place earlier, which has another key
pub earlier_first : (keys : List (Option ℕ)) (i at : ℕ) (key other : Option ℕ) → slice_get keys i ≡ Some other → other ≢ key → IsFirst keys (i + 1) key at → IsFirst keys i key at
earlier_first keys i at key other e n h = grind (arith, common_steps, same_Some other key, cases_eq)

-- nothing is found at the end
pub none_first : (keys : List (Option ℕ)) (key : Option ℕ) → IsFirst keys (length keys) key (length keys)
none_first keys key = grind (arith, common_steps)

-- 2. two places ahead
nearer_is : (a : Ahead) → (nearer a ≤ a.alike) × (nearer a ≤ a.bare)
nearer_is a = grind arith

pub nearer_behind : (keys : List (Option ℕ)) (key from : ℕ) (a : Ahead) → IsAhead keys key from a → from ≤ nearer a
nearer_behind keys key from a h = grind (arith, common_steps)

-- from the nearer one on
pub from_nearer : (keys : List (Option ℕ)) (key from : ℕ) (a : Ahead) → IsAhead keys key from a → IsAhead keys key (nearer a) a
from_nearer keys key from a h =
    let l = nearer_behind keys key from a h in
    record {
      alike = between_first keys from (nearer a) a.alike (Some key) h.alike l (nearer_is a).0;
      bare = between_first keys from (nearer a) a.bare None h.bare l (nearer_is a).1;
    }

-- a place has one key
pub same_key : (keys : List (Option ℕ)) (i k key from : ℕ) (a : Ahead) → slice_get keys i ≡ Some (Some k) → slice_get keys i ≡ Some (Some key) → IsAhead keys key from a → IsAhead keys k from a
same_key keys i k key from a e f h = subst (λ x. IsAhead keys x from a) (same_Some key k (same_Some (Some key) (Some k) (sym f ∙ e))) h

-- one step of the nearer one
module _ (keys : List (Option ℕ)) (next : List ℕ) (key from : ℕ) (a : Ahead) (l : nearer a < length next) (n : AreNext keys next) (h : IsAhead keys key from a) where
  next_at : (i : ℕ) (k : Option ℕ) → i < length next → slice_get keys i ≡ Some k → IsFirst keys (i + 1) k (get_or next i 0)
  next_at i k u e = n.behind i (get_or next i 0) k e (slice_get-get_or next i 0 u)

  pub go_alike : a.alike < a.bare → IsAhead keys key (nearer a + 1) (record { alike = get_or next a.alike 0; bare = a.bare })
  go_alike before = grind (arith, common_steps, from_nearer keys key from a h, next_at a.alike (Some key), later_first keys (nearer a) a.bare None)

  pub go_bare : a.bare ≤ a.alike → IsAhead keys key (nearer a + 1) (record { alike = a.alike; bare = get_or next a.bare 0 })
  go_bare before = grind (arith, common_steps, from_nearer keys key from a h, later_first keys (nearer a) a.alike (Some key), next_at a.bare None)

-- 3. the row of a rule
-- the next rule without a key, behind one without
pub bare_behind : (keys : List (Option ℕ)) (next : List ℕ) (i bare alike : ℕ) → AreNext keys next → IsFirst keys i None bare → i < length keys → bare ≡ i → slice_get next i ≡ Some alike → IsFirst keys (i + 1) None alike
bare_behind keys next i bare alike n h l same at = grind (arith, common_steps, n.behind i alike None, h.there (subst (λ p. p < length keys) (sym same) l))

-- what stands ahead of a rule with a key
pub ahead_behind : (keys : List (Option ℕ)) (next : List ℕ) (i bare alike : ℕ) → AreNext keys next → IsFirst keys i None bare → i < length keys → bare ≢ i → slice_get next i ≡ Some alike
    → (key : ℕ) × (slice_get keys i ≡ Some (Some key)) × IsAhead keys key (i + 1) (record { alike = alike; bare = bare })
ahead_behind keys next i bare alike n h l other at = of_key (get_or keys i None) (slice_get-get_or keys i None l)
  where
    of_key : (k : Option ℕ) → slice_get keys i ≡ Some k → (key : ℕ) × (slice_get keys i ≡ Some (Some key)) × IsAhead keys key (i + 1) (record { alike = alike; bare = bare })
    of_key k e = grind (arith, common_steps, later_first keys i bare None h other, h.none_between i, h.behind, n.behind i alike)

-- 4. what is passed over
module _ (rules : List Rule) (keys : List (Option ℕ)) (apart : TellApart (set_rule_views rules) keys) (i : ℕ) (left : Rule) (key : ℕ)
    (here : slice_get (set_rule_views rules) i ≡ Some (set_rule_view left)) (own : slice_get keys i ≡ Some (Some key)) where
  abbrev own_view : SetRule
  own_view = set_rule_view left

  -- a rule that has another key
  apart_at : (m : ℕ) → m < length rules → slice_get keys m ≢ Some (Some key) → slice_get keys m ≢ Some None → AreApart own_view (set_rule_view (get_or rules m left))
  apart_at m l n none =
      let many = length-map rules set_rule_view in
      let e = apart.each in
      of_key (get_or keys m None) (slice_get-get_or keys m None (omega (arith, many, e, l)))
    where
      of_key : (k : Option ℕ) → slice_get keys m ≡ Some k → AreApart own_view (set_rule_view (get_or rules m left))
      of_key None e = absurd (none e)
      of_key (Some other) e =
          apart.apart i m own_view (set_rule_view (get_or rules m left)) key other here (get_map set_rule_view rules m (get_or rules m left) (slice_get-get_or rules m left l)) own e
          (λ same. n (e ∙ ap (λ k. Some (Some k)) (sym same)))

  passed : (d from to : ℕ) → to ≡ d + from → to ≤ length rules → ((m : ℕ) → from ≤ m → m < to → slice_get keys m ≢ Some (Some key)) → ((m : ℕ) → from ≤ m → m < to → slice_get keys m ≢ Some None)
      → (wrong_behind own_view (set_rule_views (drop from rules)) ≡ wrong_behind own_view (set_rule_views (drop to rules)))
      × (masked_behind i own_view from (set_rule_views (drop from rules)) ≡ masked_behind i own_view to (set_rule_views (drop to rules)))
  passed zero from to e l n none = grind (arith, common_steps)
  passed (suc d) from to e l n none =
      let inside : from < length rules = omega (arith, e, l) in
      let x = get_or rules from left in
      let first = drop-cons rules from left inside in
      let one : suc from ≡ from + 1 = omega arith in
      let a = apart_at from inside (n from (omega arith) (omega (arith, e))) (none from (omega arith) (omega (arith, e))) in
      let rest = passed d (suc from) to (omega (arith, e)) l (λ m a b. n m (omega (arith, a)) b) (λ m a b. none m (omega (arith, a)) b) in (
        ap (λ xs. wrong_behind own_view (set_rule_views xs)) first
            ∙ ap (λ p. p ++ wrong_behind own_view (set_rule_views (drop (suc from) rules))) (apart_wrong own_view (set_rule_view x) a)
            ∙ rest.0,
        ap (λ xs. masked_behind i own_view from (set_rule_views xs)) first
            ∙ ap (λ p. p ++ masked_behind i own_view (from + 1) (set_rule_views (drop (suc from) rules))) (apart_masked i own_view from (set_rule_view x) a)
            ∙ ap (λ j. masked_behind i own_view j (set_rule_views (drop (suc from) rules))) (sym one)
            ∙ rest.1,
      )

  -- up to the nearer one of two places ahead
  pub passed_over : (from : ℕ) (a : Ahead) → IsAhead keys key from a
      → (wrong_behind own_view (set_rule_views (drop from rules)) ≡ wrong_behind own_view (set_rule_views (drop (nearer a) rules)))
      × (masked_behind i own_view from (set_rule_views (drop from rules)) ≡ masked_behind i own_view (nearer a) (set_rule_views (drop (nearer a) rules)))
  passed_over from a h =
      let many = length-map rules set_rule_view in
      let e = apart.each in
      let w = h.alike.within in
      let l = nearer_behind keys key from a h in
      let near = nearer_is a in
      let near0 = near.0 in
      let near1 = near.1 in
      passed (nearer a - from) from (nearer a) (omega (arith, l)) (omega (arith, near0, w, e, many))
      (λ m b u. h.alike.none_between m b (omega (arith, u, near0))) (λ m b u. h.bare.none_between m b (omega (arith, u, near1)))

-- 5. the places of the next keys, from the end on
abbrev Found : Type 0
Found = BTreeMap (Option ℕ) ℕ

abbrev same_as : Option ℕ → Option ℕ → Bool
same_as c q = is_at (option_cmp nat_cmp c) q

at_same : (c q : Option ℕ) → same_as c q ≡ true → c ≡ q
at_same c q e = grind arith

at_itself : (c q : Option ℕ) → c ≡ q → same_as c q ≡ true
at_itself c q e = grind (arith, common_steps)

-- a map has where each key stands first, from a place on
abbrev pub FirstsFrom : List (Option ℕ) → ℕ → Found → Type 0
FirstsFrom keys i found = (key : Option ℕ) → IsFirst keys i key (unwrap_or (get (option_cmp nat_cmp) found key) (length keys))

pub firsts_more : (keys : List (Option ℕ)) (i : ℕ) (c : Option ℕ) (old new : Found) → slice_get keys i ≡ Some c
    → ((q : Option ℕ) → get (option_cmp nat_cmp) new q ≡ cond (same_as c q) (Some i) (get (option_cmp nat_cmp) old q))
    → FirstsFrom keys (i + 1) old → FirstsFrom keys i new
firsts_more keys i c old new e updates h q = grind (arith, common_steps, at_same c q, here_first keys i c e, earlier_first keys i, at_itself c q)

-- the next ones are there, from a place on
abbrev pub NextFrom : List (Option ℕ) → ℕ → List ℕ → Type 0
NextFrom keys i next = (j at : ℕ) (k : Option ℕ) → i ≤ j → slice_get keys j ≡ Some k → slice_get next j ≡ Some at → IsFirst keys (j + 1) k at

pub next_more : (keys : List (Option ℕ)) (next : List ℕ) (i v : ℕ) (c : Option ℕ) → i < length next → slice_get keys i ≡ Some c → IsFirst keys (i + 1) c v → NextFrom keys (i + 1) next → NextFrom keys i (set next i v)
next_more keys next i v c l e first h j at k b kj nj =
    elim (cases_eq j i) [
      | inl same ↦
          let is_v : at ≡ v = same_Some at v (sym nj ∙ ap (slice_get (set next i v)) same ∙ slice_get-get_or (set next i v) i 0 (subst (λ n. i < n) (sym (length-set next i v)) l) ∙ ap Some (get_or-set_same next i v 0 l)) in
          let is_c : k ≡ c = same_Some k c (sym kj ∙ ap (slice_get keys) same ∙ e) in
          subst (λ p. IsFirst keys (p + 1) k at) (sym same) (subst (λ q. IsFirst keys (i + 1) q at) (sym is_c) (subst (IsFirst keys (i + 1) c) (sym is_v) first))
      | inr other ↦
          let inside : j < length next = subst (λ n. j < n) (length-set next i v) (slice_get_within (set next i v) j at nj) in
          let same : slice_get next j ≡ Some at = slice_get-get_or next j 0 inside ∙ ap Some (sym (get_or-set_other next i j v 0 other)) ∙ ap Some (get_or_from_slice_get (set next i v) j at 0 nj) in
          h j at k (omega (arith, b, other)) kj same
    ]

pub all_next : (keys : List (Option ℕ)) (next : List ℕ) → length next ≡ length keys → NextFrom keys 0 next → AreNext keys next
all_next keys next e h = record { each = e; behind = λ i j k ki nj. h i j k (omega arith) ki nj }

pub none_next : (keys : List (Option ℕ)) (next : List ℕ) → NextFrom keys (length keys) next
none_next keys next j at k l e n = absurd (let in' = slice_get_within keys j k e in omega (arith, l, in'))

-- nothing is noted at first
pub no_firsts : (keys : List (Option ℕ)) (found : Found) → found.entries ≡ [] → FirstsFrom keys (length keys) found
no_firsts keys found e key = subst (IsFirst keys (length keys) key) (sym (ap (λ es. unwrap_or (lookup (is_at (option_cmp nat_cmp key)) es) (length keys)) e)) (none_first keys key)

-- Best trees: at each place the greatest test is made, for exactly the rules that it covers.
use Rattle.std.specs.Prelude.{◌≡◌, ◌≢◌, ℕ, suc, ◌+◌, ◌≤◌, Bool, true, false, not, ◌&&◌, nat_lt, List, [], ◌∷◌, ◌++◌, length, Option, Some, None, slice_get, IsTrue, sum_by}
use Rattle.std.specs.List.{list_all}
use Rattle.std.specs.Ordering.{int_eq}
use Rattle.model.specs.sites.Sites.{iterator_site, Constraint, SetRule, SiteSet}
use Rattle.model.specs.trees.Trees.{Tree, no_step, step, Check, match_at, equal_at, loop_at, return_at, Arms, no_arm, arm, Marked, m_no_step, m_step, MarkedCheck, m_match, m_equal, m_loop, m_return, MarkedArms, m_no_arm, m_arm, marks, marks_arms}
use Rattle.model.specs.trees.Places.{Around, nothing_around, is_in, joins, uses, bind_order, fields_of, in_arm, in_equal, in_loop, after_step}
use Rattle.model.specs.trees.Sound.{or_later, AllAsk, is_return, IsAfter, ReturnsEach}
use Rattle.model.specs.trees.Tests.{Test, match_test, equal_test, loop_test, priority, is_lower, cover, IsOpen, score, is_greater}

-- the test is open, and no open test has a greater score
pub record IsGreatest (set : SiteSet) (ar : Around) (here : List ℕ) (t : Test) : Type 0 where
  pub open_here : IsOpen set ar t
  pub greatest : (u : Test) → IsOpen set ar u → is_greater (score set ar here u) (score set ar here t) ≡ false

-- the greatest test of a place is made, and its step holds exactly the rules that it covers; these are some
pub record IsMade (set : SiteSet) (ar : Around) (held later : List ℕ) (t : Test) : Type 0 where
  pub test : IsGreatest set ar (held ++ later) t
  pub rules : cover set.rules (held ++ later) t ≡ held
  pub some_rule : held ≢ []

-- of two rules, i stands first: it has the greater priority, or one priority and the smaller number
abbrev pub comes_first : List SetRule → ℕ → ℕ → Bool
comes_first rules i j = or_later (is_lower rules j i) (int_eq (priority (slice_get rules j)) (priority (slice_get rules i))) (nat_lt i j)

-- by descending priority, then rule order
abbrev pub descend : List SetRule → List ℕ → Bool
descend rules [] = true
descend rules (i ∷ is) = list_all (comes_first rules i) is && descend rules is

-- these rules return at the end of a block: no open test covers a rule, and they stand in order
pub record IsEnd (set : SiteSet) (ar : Around) (here : List ℕ) : Type 0 where
  pub over : (u : Test) → IsOpen set ar u → cover set.rules here u ≡ []
  pub ordered : IsTrue (descend set.rules here)

-- the steps of a block from a place on; `closing` says that a return of the block stands before them, and then no
-- test follows. A place's rules are those that return in it or later in its block
abbrev mutual
  pub BestSteps : SiteSet → Around → Bool → Marked → Type 0
  BestSteps set ar closing m_no_step = Unit {0}
  BestSteps set ar closing (m_step binds check rest) =
      (binds ≡ bind_order set.sites ar (uses set check))
      × BestCheck set ar closing (marks rest) check
      × BestSteps set (after_step set ar check) (is_return check) rest

  pub BestCheck : SiteSet → Around → Bool → List ℕ → MarkedCheck → Type 0
  BestCheck set ar closing later (m_match source arms) =
      (closing ≡ false) × IsMade set ar (marks_arms arms) later (match_test source) × BestArms set ar source None arms
  BestCheck set ar closing later (m_equal a b body) =
      (closing ≡ false) × IsMade set ar (marks body) later (equal_test a b) × BestSteps set (in_equal set ar a b) false body
  BestCheck set ar closing later (m_loop result body) =
      (closing ≡ false)
      × ((source : ℕ) × (slice_get set.sites result ≡ Some (iterator_site source)) × IsMade set ar (marks body) later (loop_test source))
      × BestSteps set (in_loop set ar result) false body
  BestCheck set ar closing later (m_return rule) = closing ≡ false → IsEnd set ar (rule ∷ later)

  -- arms ascend by their constraints, each that of its rules, which are some, and bring exactly the sites of its fields
  pub BestArms : SiteSet → Around → ℕ → Option Constraint → MarkedArms → Type 0
  BestArms set ar source before m_no_arm = Unit {0}
  BestArms set ar source before (m_arm constraint fields body rest) =
      IsAfter before constraint
      × (marks body ≢ [])
      × AllAsk set.rules (marks body) source constraint
      × (fields ≡ fields_of set.sites source constraint)
      × BestSteps set (in_arm set ar source constraint fields) false body
      × BestArms set ar source (Some constraint) rest

-- no number stands twice
abbrev pub are_distinct : List ℕ → Bool
are_distinct [] = true
are_distinct (x ∷ xs) = not (is_in x xs) && are_distinct xs

-- no pair of these is joined by the others, `others` included
abbrev pub are_apart : List (ℕ × ℕ) → List (ℕ × ℕ) → Bool
are_apart others [] = true
are_apart others (p ∷ ps) = not (joins (others ++ ps) p.0 p.1) && are_apart (p ∷ others) ps

-- among the tests around a return, these and those of the tree, no site is matched twice and no equality tests two
-- sites that the others join
abbrev mutual
  pub no_site_twice : List ℕ → List (ℕ × ℕ) → Tree → Bool
  no_site_twice matched joined no_step = true
  no_site_twice matched joined (step binds check rest) = no_site_twice_in matched joined check && no_site_twice matched joined rest

  pub no_site_twice_in : List ℕ → List (ℕ × ℕ) → Check → Bool
  no_site_twice_in matched joined (match_at source arms) = no_site_twice_among (source ∷ matched) joined arms
  no_site_twice_in matched joined (equal_at a b body) = no_site_twice matched ((a, b) ∷ joined) body
  no_site_twice_in matched joined (loop_at result body) = no_site_twice matched joined body
  no_site_twice_in matched joined (return_at at result) = are_distinct matched && are_apart [] joined

  pub no_site_twice_among : List ℕ → List (ℕ × ℕ) → Arms → Bool
  no_site_twice_among matched joined no_arm = true
  no_site_twice_among matched joined (arm constraint fields body rest) = no_site_twice matched joined body && no_site_twice_among matched joined rest

-- the same of a whole tree
abbrev pub NoSiteTwice : Tree → Type 0
NoSiteTwice tree = IsTrue (no_site_twice [] [] tree)

-- the number of steps of all blocks
abbrev mutual
  pub steps_of : Tree → ℕ
  steps_of no_step = 0
  steps_of (step binds check rest) = suc (steps_in check + steps_of rest)

  pub steps_in : Check → ℕ
  steps_in (match_at source arms) = steps_among arms
  steps_in (equal_at a b body) = steps_of body
  steps_in (loop_at result body) = steps_of body
  steps_in (return_at at result) = 0

  pub steps_among : Arms → ℕ
  steps_among no_arm = 0
  steps_among (arm constraint fields body rest) = steps_of body + steps_among rest

-- the constraints of a rule, and the sites that it equates with others
abbrev pub total_constraints : SetRule → ℕ
total_constraints r = length r.constraints + sum_by length r.classes

-- a step for each demand of a rule, and its return
abbrev pub most_steps : SetRule → ℕ
most_steps r = suc (total_constraints r + length r.iterators)

-- all blocks together hold at most so many steps as all rules may take
abbrev pub HasFewSteps : SiteSet → Tree → Type 0
HasFewSteps set tree = steps_of tree ≤ sum_by most_steps set.rules

-- no step of a tree goes over calls
abbrev mutual
  pub goes_over_none : Tree → Bool
  goes_over_none no_step = true
  goes_over_none (step binds check rest) = goes_over_none_in check && goes_over_none rest

  pub goes_over_none_in : Check → Bool
  goes_over_none_in (match_at source arms) = goes_over_none_among arms
  goes_over_none_in (equal_at a b body) = goes_over_none body
  goes_over_none_in (loop_at result body) = false
  goes_over_none_in (return_at at result) = true

  pub goes_over_none_among : Arms → Bool
  goes_over_none_among no_arm = true
  goes_over_none_among (arm constraint fields body rest) = goes_over_none body && goes_over_none_among rest

-- a tree has no loop
abbrev pub HasNoLoop : Tree → Type 0
HasNoLoop tree = IsTrue (goes_over_none tree)

-- a best tree of a set: its returns are the set's rules, each once; each test is the greatest of its place, for exactly
-- the rules that it covers; and what follows from that
pub record IsBestTree (set : SiteSet) (tree : Tree) : Type 0 where
  pub marked : Marked
  pub returns : ReturnsEach set tree marked
  pub steps : BestSteps set nothing_around false marked
  pub no_site_twice : NoSiteTwice tree
  pub few_steps : HasFewSteps set tree

-- no open test of a place covers more of these rules than so many
abbrev pub NoneCoversMore : SiteSet → Around → List ℕ → ℕ → Type 0
NoneCoversMore set ar here most = (u : Test) → IsOpen set ar u → length (cover set.rules here u) ≤ most

-- nor than the test that is made there, whatever rules its step holds
abbrev pub CoversMost : SiteSet → Around → List ℕ → Test → Type 0
CoversMost set ar here t = NoneCoversMore set ar here (length (cover set.rules here t))

-- nowhere would an open test cover more rules than the test made: not at a test, and at the end of a block, where none
-- is made, it would cover none
abbrev mutual
  pub SharesMost : SiteSet → Around → Bool → Marked → Type 0
  SharesMost set ar closing m_no_step = Unit {0}
  SharesMost set ar closing (m_step binds check rest) = SharesMostIn set ar closing (marks rest) check × SharesMost set (after_step set ar check) (is_return check) rest

  pub SharesMostIn : SiteSet → Around → Bool → List ℕ → MarkedCheck → Type 0
  SharesMostIn set ar closing later (m_match source arms) = CoversMost set ar (marks_arms arms ++ later) (match_test source) × SharesMostAmong set ar source arms
  SharesMostIn set ar closing later (m_equal a b body) = CoversMost set ar (marks body ++ later) (equal_test a b) × SharesMost set (in_equal set ar a b) false body
  SharesMostIn set ar closing later (m_loop result body) =
      ((source : ℕ) × (slice_get set.sites result ≡ Some (iterator_site source)) × CoversMost set ar (marks body ++ later) (loop_test source))
      × SharesMost set (in_loop set ar result) false body
  SharesMostIn set ar closing later (m_return rule) = closing ≡ false → NoneCoversMore set ar (rule ∷ later) 0

  pub SharesMostAmong : SiteSet → Around → ℕ → MarkedArms → Type 0
  SharesMostAmong set ar source m_no_arm = Unit {0}
  SharesMostAmong set ar source (m_arm constraint fields body rest) = SharesMost set (in_arm set ar source constraint fields) false body × SharesMostAmong set ar source rest

-- Sound trees: what a tree must keep so that its run is a choice by priority, however its tests are shared.
use Rattle.std.specs.Prelude.{◌≡◌, ◌≢◌, ℕ, ◌<◌, Bool, true, false, not, ◌&&◌, ◌||◌, List, [], length, Option, Some, None, slice_get, All, Contains, count_by, IsTrue, ◌≤ℤ◌, nat_lt}
use Rattle.std.specs.Bool.{◌==◌}
use Rattle.std.specs.Ordering.{int_cmp, int_eq, is_lt}
use Rattle.model.specs.sites.Sites.{iterator_site, Constraint, is_variant, is_struct, is_bool, is_int, is_prim, is_present, SetRule, SiteSet}
use Rattle.model.specs.trees.Trees.{Tree, Marked, m_no_step, m_step, MarkedCheck, m_match, m_equal, m_loop, m_return, MarkedArms, m_no_arm, m_arm, marks, marks_check, marks_arms, plain}
use Rattle.model.specs.trees.Places.{Around, nothing_around, is_in, joins, joins_in, constraint_at, available, uses, bind_order, fields_of, in_arm, in_equal, in_loop, after_step}

-- the order of constraints: by their form, then by their parts
abbrev pub form : Constraint → ℕ
form (is_variant ty variant fields) = 0
form (is_struct ty fields) = 1
form (is_bool b ty) = 2
form (is_int z ty) = 3
form (is_prim name) = 4
form is_present = 5

-- the first difference decides
abbrev pub or_later : Bool → Bool → Bool → Bool
or_later below same later = below || (same && later)

abbrev pub as_number : Bool → ℕ
as_number false = 0
as_number true = 1

abbrev pub comes_before : Constraint → Constraint → Bool
comes_before (is_variant s i n) (is_variant t j m) = or_later (nat_lt s t) (s == t) (or_later (nat_lt i j) (i == j) (nat_lt n m))
comes_before (is_struct s n) (is_struct t m) = or_later (nat_lt s t) (s == t) (nat_lt n m)
comes_before (is_bool a s) (is_bool b t) = or_later (nat_lt (as_number a) (as_number b)) (as_number a == as_number b) (nat_lt s t)
comes_before (is_int y s) (is_int z t) = or_later (is_lt (int_cmp y z)) (int_eq y z) (nat_lt s t)
comes_before (is_prim a) (is_prim b) = nat_lt a b
comes_before c d = nat_lt (form c) (form d)

-- no rule of a later step is higher than a rule of this one
abbrev pub NoneHigher : List SetRule → List ℕ → List ℕ → Type 0
NoneHigher rules here later =
    (i j : ℕ) (r s : SetRule) → Contains here i → Contains later j → slice_get rules i ≡ Some r → slice_get rules j ≡ Some s → s.prio ≤ℤ r.prio

-- each rule of these asks for that constraint on the site, joins the two sites, goes over the call
abbrev pub AllAsk : List SetRule → List ℕ → ℕ → Constraint → Type 0
AllAsk rules here s c = (i : ℕ) (r : SetRule) → Contains here i → slice_get rules i ≡ Some r → constraint_at r.constraints s ≡ Some c

abbrev pub AllJoin : List SetRule → List ℕ → ℕ → ℕ → Type 0
AllJoin rules here a b = (i : ℕ) (r : SetRule) → Contains here i → slice_get rules i ≡ Some r → IsTrue (joins_in r.classes a b)

abbrev pub AllGoOver : List SetRule → List ℕ → ℕ → Type 0
AllGoOver rules here s = (i : ℕ) (r : SetRule) → Contains here i → slice_get rules i ≡ Some r → Contains r.iterators s

-- every demand of a rule was tested on the path
pub record IsTested (ar : Around) (r : SetRule) : Type 0 where
  pub constraints : (s : ℕ) (c : Constraint) → Contains r.constraints (s, c) → Contains ar.tested (s, c)
  pub equalities : (a b : ℕ) → IsTrue (joins_in r.classes a b) → IsTrue (joins ar.joined a b)
  pub iterators : (s : ℕ) → Contains r.iterators s → Contains ar.looped s

abbrev pub is_return : MarkedCheck → Bool
is_return (m_return rule) = true
is_return _ = false

-- the constraint comes after that of the arm before it
abbrev pub IsAfter : Option Constraint → Constraint → Type 0
IsAfter None c = Unit {0}
IsAfter (Some d) c = IsTrue (comes_before d c)

-- where a run reaches the step
abbrev pub Reached : Bool → Type 0 → Type 0
Reached reached P = reached ≡ true → P

-- a step is reached where no return stands before it in its block, nor before a step around it in that one's
-- block; in a multi term every step is
abbrev mutual
  pub SoundSteps : SiteSet → Bool → Around → Bool → Marked → Type 0
  SoundSteps set multi ar reached m_no_step = Unit {0}
  SoundSteps set multi ar reached (m_step binds check rest) =
      Reached reached (binds ≡ bind_order set.sites ar (uses set check))
      × SoundCheck set multi ar reached check
      × NoneHigher set.rules (marks_check check) (marks rest)
      × SoundSteps set multi (after_step set ar check) (reached && (multi || not (is_return check))) rest

  pub SoundCheck : SiteSet → Bool → Around → Bool → MarkedCheck → Type 0
  SoundCheck set multi ar reached (m_match source arms) =
      Reached reached (IsTrue (available set.sites ar source))
      × (marks_arms arms ≢ [])
      × SoundArms set multi ar reached source None arms
  SoundCheck set multi ar reached (m_equal a b body) =
      Reached reached (IsTrue (available set.sites ar a) × IsTrue (available set.sites ar b))
      × (marks body ≢ [])
      × AllJoin set.rules (marks body) a b
      × SoundSteps set multi (in_equal set ar a b) reached body
  SoundCheck set multi ar reached (m_loop result body) =
      ((source : ℕ) × (slice_get set.sites result ≡ Some (iterator_site source)) × AllGoOver set.rules (marks body) source
      × (is_in source ar.looped ≡ false) × Reached reached (IsTrue (available set.sites ar source)))
      × (marks body ≢ [])
      × SoundSteps set multi (in_loop set ar result) reached body
  SoundCheck set multi ar reached (m_return rule) =
      Reached reached ((r : SetRule) → slice_get set.rules rule ≡ Some r → IsTested ar r)

  pub SoundArms : SiteSet → Bool → Around → Bool → ℕ → Option Constraint → MarkedArms → Type 0
  SoundArms set multi ar reached source before m_no_arm = Unit {0}
  SoundArms set multi ar reached source before (m_arm constraint fields body rest) =
      IsAfter before constraint
      × (marks body ≢ [])
      × AllAsk set.rules (marks body) source constraint
      × (fields ≡ fields_of set.sites source constraint)
      × SoundSteps set multi (in_arm set ar source constraint fields) reached body
      × SoundArms set multi ar reached source (Some constraint) rest

-- each rule of the set has one return in the tree, which agrees with it in position and result
pub record ReturnsEach (set : SiteSet) (tree : Tree) (m : Marked) : Type 0 where
  pub same : plain set.rules m ≡ tree
  pub once : (i : ℕ) → i < length set.rules → count_by (λ j. j == i) (marks m) ≡ 1
  pub known : All (λ i. i < length set.rules) (marks m)

-- a sound tree of a set, in a multi term or not
pub record IsSound (set : SiteSet) (multi : Bool) (tree : Tree) : Type 0 where
  pub marked : Marked
  pub returns : ReturnsEach set tree marked
  pub steps : SoundSteps set multi nothing_around true marked

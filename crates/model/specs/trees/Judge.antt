-- The judge of a finished tree: whether it is a best tree, by computing.
use Rattle.std.specs.Prelude.{ℕ, suc, Bool, true, false, not, ◌&&◌, ◌||◌, nat_lt, nat_le, List, [], ◌∷◌, ◌++◌, length, Option, Some, None, if◌then◌else◌, slice_get, count_by, sum_by}
use Rattle.std.specs.Bool.{◌==◌}
use Rattle.std.specs.Cmp.Lexicographic.{pointwise}
use Rattle.std.specs.List.{list_all}
use Rattle.model.specs.lists.Syntax.{Position}
use Rattle.model.specs.sites.Sites.{Constraint, SetRule, SiteSet}
use Rattle.model.specs.trees.Trees.{Tree, no_step, step, Check, match_at, equal_at, loop_at, return_at, Arms, no_arm, arm, Marked, m_no_step, m_step, MarkedCheck, m_match, m_equal, m_loop, m_return, MarkedArms, m_no_arm, m_arm, marks, marks_arms, plain}
use Rattle.model.specs.trees.Places.{Around, nothing_around, uses, bind_order, constraint_at, fields_of, in_arm, in_equal, in_loop, after_step}
use Rattle.model.specs.trees.Run.{iterated}
use Rattle.model.specs.rules.Outcome.{then_option}
use Rattle.model.specs.trees.Sound.{comes_before, is_return}
use Rattle.model.specs.visits.Demands.{constraint_eq}
use Rattle.model.specs.trees.Tests.{Test, match_test, equal_test, loop_test, cover, is_open, up_to, open_tests, Score, score, is_greater}
use Rattle.model.specs.trees.Best.{descend, no_site_twice, steps_of, most_steps}

-- no open test has a greater score than this one
abbrev pub none_greater : SiteSet → Around → List ℕ → Score → Bool
none_greater set ar here top = list_all (λ u. not (is_greater (score set ar here u) top)) (open_tests set ar)

-- whether a list has no number
abbrev pub is_empty : List ℕ → Bool
is_empty [] = true
is_empty (x ∷ xs) = false

-- the greatest test is made, and its step holds exactly the rules that it covers
abbrev pub is_made : SiteSet → Around → List ℕ → List ℕ → Test → Bool
is_made set ar held later t =
    is_open set ar t && none_greater set ar (held ++ later) (score set ar (held ++ later) t)
    && pointwise ◌==◌ (cover set.rules (held ++ later) t) held && not (is_empty held)

-- the same of a loop over that call
abbrev pub is_loop_made : SiteSet → Around → List ℕ → List ℕ → Option ℕ → Bool
is_loop_made set ar held later None = false
is_loop_made set ar held later (Some source) = is_made set ar held later (loop_test source)

-- no open test covers a rule, and the rules stand in order
abbrev pub is_end : SiteSet → Around → List ℕ → Bool
is_end set ar here = list_all (λ u. is_empty (cover set.rules here u)) (open_tests set ar) && descend set.rules here

-- whether there is a constraint, and it is this one
abbrev pub is_that : Option Constraint → Constraint → Bool
is_that None c = false
is_that (Some d) c = constraint_eq d c

-- whether the rule, if there is one, asks for that constraint on the site
abbrev pub asks_for : ℕ → Constraint → Option SetRule → Bool
asks_for s c None = true
asks_for s c (Some r) = is_that (constraint_at r.constraints s) c

abbrev pub asks_at : List SetRule → ℕ → Constraint → ℕ → Bool
asks_at rules s c i = asks_for s c (slice_get rules i)

-- whether the constraint comes after that of the arm before it
abbrev pub is_after : Option Constraint → Constraint → Bool
is_after None c = true
is_after (Some d) c = comes_before d c

-- whether two fields have one site, or none
abbrev pub site_eq : Option ℕ → Option ℕ → Bool
site_eq None None = true
site_eq (Some s) (Some t) = s == t
site_eq _ _ = false

abbrev pub sites_eq : List (Option ℕ) → List (Option ℕ) → Bool
sites_eq [] [] = true
sites_eq (x ∷ xs) (y ∷ ys) = site_eq x y && sites_eq xs ys
sites_eq _ _ = false

-- the facts of a best tree's steps, checks and arms
abbrev mutual
  pub best_steps : SiteSet → Around → Bool → Marked → Bool
  best_steps set ar closing m_no_step = true
  best_steps set ar closing (m_step binds check rest) =
      pointwise ◌==◌ binds (bind_order set.sites ar (uses set check))
      && best_check set ar closing (marks rest) check
      && best_steps set (after_step set ar check) (is_return check) rest

  pub best_check : SiteSet → Around → Bool → List ℕ → MarkedCheck → Bool
  best_check set ar closing later (m_match source arms) =
      not closing && is_made set ar (marks_arms arms) later (match_test source) && best_arms set ar source None arms
  best_check set ar closing later (m_equal a b body) =
      not closing && is_made set ar (marks body) later (equal_test a b) && best_steps set (in_equal set ar a b) false body
  best_check set ar closing later (m_loop result body) =
      not closing && is_loop_made set ar (marks body) later (then_option (slice_get set.sites result) iterated) && best_steps set (in_loop set ar result) false body
  best_check set ar closing later (m_return rule) = closing || is_end set ar (rule ∷ later)

  pub best_arms : SiteSet → Around → ℕ → Option Constraint → MarkedArms → Bool
  best_arms set ar source before m_no_arm = true
  best_arms set ar source before (m_arm constraint fields body rest) =
      is_after before constraint
      && not (is_empty (marks body))
      && list_all (asks_at set.rules source constraint) (marks body)
      && sites_eq fields (fields_of set.sites source constraint)
      && best_steps set (in_arm set ar source constraint fields) false body
      && best_arms set ar source (Some constraint) rest

-- the rule is marked once
abbrev pub is_marked_once : Marked → ℕ → Bool
is_marked_once m i = count_by (λ j. j == i) (marks m) == 1

-- each rule of the set is marked once, and no other
abbrev pub marks_each : List SetRule → Marked → Bool
marks_each rules m = list_all (is_marked_once m) (up_to (length rules)) && list_all (λ i. nat_lt i (length rules)) (marks m)

-- whether a marked tree is a best tree of the set
abbrev pub is_best : SiteSet → Marked → Bool
is_best set m =
    marks_each set.rules m && best_steps set nothing_around false m
    && no_site_twice [] [] (plain set.rules m) && nat_le (steps_of (plain set.rules m)) (sum_by most_steps set.rules)

-- whether a rule returns at that position with that result
abbrev pub returns_as : SetRule → Position → ℕ → Bool
returns_as r at result = (r.at.file == at.file) && (r.at.offset == at.offset) && (r.result == result)

-- a return's mark: the first rule with its position and result, or one past the rules
abbrev pub rule_returned : List SetRule → Position → ℕ → ℕ
rule_returned [] at result = 0
rule_returned (r ∷ rules) at result = if returns_as r at result then 0 else suc (rule_returned rules at result)

-- a tree with its returns marked
abbrev mutual
  pub marking : List SetRule → Tree → Marked
  marking rules no_step = m_no_step
  marking rules (step binds check rest) = m_step binds (marking_check rules check) (marking rules rest)

  pub marking_check : List SetRule → Check → MarkedCheck
  marking_check rules (match_at source arms) = m_match source (marking_arms rules arms)
  marking_check rules (equal_at a b body) = m_equal a b (marking rules body)
  marking_check rules (loop_at result body) = m_loop result (marking rules body)
  marking_check rules (return_at at result) = m_return (rule_returned rules at result)

  pub marking_arms : List SetRule → Arms → MarkedArms
  marking_arms rules no_arm = m_no_arm
  marking_arms rules (arm constraint fields body rest) = m_arm constraint fields (marking rules body) (marking_arms rules rest)

-- whether a tree is a best tree of the set, where no two rules return at one position with one result
abbrev pub is_best_tree : SiteSet → Tree → Bool
is_best_tree set tree = is_best set (marking set.rules tree)

-- no two rules return at one position with one result
abbrev pub returns_apart : List SetRule → Bool
returns_apart [] = true
returns_apart (r ∷ rules) = list_all (λ q. not (returns_as r q.at q.result)) rules && returns_apart rules

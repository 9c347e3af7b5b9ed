-- A tree's marks are found again from its returns, where no two rules return at one position with one result.
use Rattle.std.proofs.Common.{◌≡◌, ℕ, zero, suc, ◌<◌, true, List, [], ◌∷◌, length, Some, slice_get, refl, ap, arith}
use Rattle.std.proofs.lemmas.Bool.{and_parts, and_from}
use Rattle.std.proofs.lemmas.Option.{none-some, same_Some}
use Rattle.std.proofs.lemmas.Grind.{common_steps}
use Rattle.model.specs.lists.Syntax.{Position}
use Rattle.model.specs.sites.Sites.{SetRule, SiteSet}
use Rattle.model.specs.trees.Trees.{Tree, no_step, step, Check, match_at, equal_at, loop_at, return_at, Arms, no_arm, arm, Marked, m_no_step, m_step, MarkedCheck, m_match, m_equal, m_loop, m_return, MarkedArms, m_no_arm, m_arm, marks, marks_check, marks_arms, return_of, plain, plain_check, plain_arms}
use Rattle.model.specs.trees.Sound.{ReturnsEach}
use Rattle.model.specs.trees.Judge.{returns_as, rule_returned, marking, marking_check, marking_arms, returns_apart}
use Rattle.model.proofs.Members.{in_head, get_within, member_from_get, each_passes}
use Rattle.laws_trees.specs.BestLaws.{TreeJudgeIsExact}
use Rattle.laws_trees.proofs.JudgeExactness.{judge_exact, not_exact}
use Rattle.model.proofs.SameSites.{parts_mean}
use Rattle.laws_trees.proofs.runs.Claims.{Known, known_left, known_right}

returns_itself : (r : SetRule) → returns_as r r.at r.result ≡ true
returns_itself r = grind (arith, common_steps, and_from)

returns_same : (r : SetRule) (at : Position) (result : ℕ) → returns_as r at result ≡ true → return_at r.at r.result ≡ return_at at result
returns_same r at result h = grind (arith, common_steps, parts_mean)

rule_found : (rules : List SetRule) (at : Position) (result : ℕ) → rule_returned rules at result < length rules → return_of (slice_get rules (rule_returned rules at result)) ≡ return_at at result
rule_found [] at result l = absurd (omega arith)
rule_found (r ∷ rules) at result l = grind (arith, common_steps, rule_found rules at result, returns_same)

rule_again : (rules : List SetRule) → returns_apart rules ≡ true → (i : ℕ) (r : SetRule) → slice_get rules i ≡ Some r → rule_returned rules r.at r.result ≡ i
rule_again [] h i r e = absurd (none-some r e)
rule_again (q ∷ rules) h zero r e = grind (arith, common_steps, same_Some, returns_itself)
rule_again (q ∷ rules) h (suc i) r e = grind (arith, common_steps, rule_again rules, and_parts, not_exact, each_passes, member_from_get)

module _ (rules : List SetRule) where
  mutual
    pub plain_marking : (t : Tree) → Known rules (marks (marking rules t)) → plain rules (marking rules t) ≡ t
    plain_marking no_step k = refl
    plain_marking (step binds check rest) k =
        let a = plain_marking_check check (known_left rules (marks_check (marking_check rules check)) (marks (marking rules rest)) k) in
        let b = plain_marking rest (known_right rules (marks_check (marking_check rules check)) (marks (marking rules rest)) k) in
        λ j. step binds (a j) (b j)

    plain_marking_check : (c : Check) → Known rules (marks_check (marking_check rules c)) → plain_check rules (marking_check rules c) ≡ c
    plain_marking_check (match_at source arms) k = ap (match_at source) (plain_marking_arms arms k)
    plain_marking_check (equal_at a b body) k = ap (equal_at a b) (plain_marking body k)
    plain_marking_check (loop_at result body) k = ap (loop_at result) (plain_marking body k)
    plain_marking_check (return_at at result) k = rule_found rules at result (k (rule_returned rules at result) (in_head (rule_returned rules at result) []))

    plain_marking_arms : (a : Arms) → Known rules (marks_arms (marking_arms rules a)) → plain_arms rules (marking_arms rules a) ≡ a
    plain_marking_arms no_arm k = refl
    plain_marking_arms (arm constraint fields body rest) k =
        let a = plain_marking body (known_left rules (marks (marking rules body)) (marks_arms (marking_arms rules rest)) k) in
        let b = plain_marking_arms rest (known_right rules (marks (marking rules body)) (marks_arms (marking_arms rules rest)) k) in
        λ j. arm constraint fields (a j) (b j)

  module _ (apart : returns_apart rules ≡ true) where
    return_again : (i : ℕ) → i < length rules → marking_check rules (return_of (slice_get rules i)) ≡ m_return i
    return_again i l = grind (arith, common_steps, get_within rules i l, rule_again rules apart i)

    mutual
      pub marking_plain : (m : Marked) → Known rules (marks m) → marking rules (plain rules m) ≡ m
      marking_plain m_no_step k = refl
      marking_plain (m_step binds check rest) k =
          let a = marking_plain_check check (known_left rules (marks_check check) (marks rest) k) in
          let b = marking_plain rest (known_right rules (marks_check check) (marks rest) k) in
          λ j. m_step binds (a j) (b j)

      marking_plain_check : (c : MarkedCheck) → Known rules (marks_check c) → marking_check rules (plain_check rules c) ≡ c
      marking_plain_check (m_match source arms) k = ap (m_match source) (marking_plain_arms arms k)
      marking_plain_check (m_equal a b body) k = ap (m_equal a b) (marking_plain body k)
      marking_plain_check (m_loop result body) k = ap (m_loop result) (marking_plain body k)
      marking_plain_check (m_return rule) k = return_again rule (k rule (in_head rule []))

      marking_plain_arms : (a : MarkedArms) → Known rules (marks_arms a) → marking_arms rules (plain_arms rules a) ≡ a
      marking_plain_arms m_no_arm k = refl
      marking_plain_arms (m_arm constraint fields body rest) k =
          let a = marking_plain body (known_left rules (marks body) (marks_arms rest) k) in
          let b = marking_plain_arms rest (known_right rules (marks body) (marks_arms rest) k) in
          λ j. m_arm constraint fields (a j) (b j)

-- the marks that are found from the returns of a tree are those of each marking of it
pub marks_found : (set : SiteSet) (tree : Tree) (m : Marked) → returns_apart set.rules ≡ true → ReturnsEach set tree m → m ≡ marking set.rules tree
marks_found set tree m apart r = grind (arith, common_steps, marking_plain)

pub tree_judge_is_exact_lem : TreeJudgeIsExact
tree_judge_is_exact_lem set tree apart = grind (arith, common_steps, judge_exact, plain_marking, marks_found)

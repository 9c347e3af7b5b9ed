-- The arms of a match: which comes next, and how they grow by one.
use Rattle.std.proofs.Common.{◌≡◌, ◌≢◌, ℕ, zero, suc, ◌<◌, Bool, true, not, List, [], ◌∷◌, ◌++◌, length, drop, Option, Some, None, is_some, slice_get, Contains, filter, refl, sym, ap, ◌∙◌, subst, inl, inr, arith}
use Rattle.std.proofs.lemmas.Bool.{false≢true}
use Rattle.std.specs.Prelude.{IsPermutation}
use Rattle.std.proofs.lemmas.List.{length-drop, length-map}
use Rattle.std.proofs.lemmas.List.Sorted.{IsPermutation-trans}
use Rattle.std.proofs.lemmas.Grind.{common_steps}
use Rattle.model.specs.sites.Sites.{Constraint, SetRule, SiteSet}
use Rattle.model.specs.trees.Trees.{Tree, Arms, arm, marks_arms}
use Rattle.model.specs.trees.Best.{descend}
use Rattle.model.specs.trees.Places as Places
use Rattle.model.specs.trees.Places.{constraint_at, field_sites, in_arm}
use Rattle.model.specs.trees.Sound.{IsAfter}
use Rattle.model.specs.trees.Tests.{match_test, is_needed}
use Rattle.model.proofs.Members.{nothing_in, in_filter, from_filter}
use Rattle.laws_trees.proofs.Constraints.{that_exact}
use Rattle.laws_trees.proofs.Covers.{descend_rest}
use Rattle.laws_trees.proofs.ConstraintsTotal.{before_total}
use Rattle.core_rule_sets.specs.SiteViews.{constraint_view}
use Rattle.core_serialize.specs.declared.around.Around.{Around}
use Rattle.core_serialize.specs.declared.arms.NextArm.{NextArm}
use Rattle.core_serialize.specs.declared.serialize.MatchArm.{MatchArm}
use Rattle.core_serialize.specs.AroundViews.{around_view, brings}
use Rattle.core_serialize.specs.Changes.{IsAfterTest}
use Rattle.core_serialize.specs.declared.arms.AskingRule.{AskingRule}
use Rattle.core_serialize.specs.Growing.{IsBestFrom, AreBestArms, IsStepOf}
use Rattle.core_serialize.specs.ArmOrder.{constraint_asked, asked_at, asks, asks_some, asked_constraint, asked_numbers, AreTurns, AreInTurn, IsNextArm}
use Rattle.core_serialize.specs.TreeViews.{arm_view, arms_view}
use Rattle.core_serialize.proofs.Descents.{all_kept, descend_kept}
use Rattle.core_serialize.proofs.Growth as Growth
use Rattle.core_serialize.proofs.ArmRuns.{turns_behind, left_behind}
use Rattle.core_serialize.proofs.Growth.{no_arms, from_alike}
use Rattle.core_serialize.proofs.BodySteps.{arm_inside}
use Rattle.core_serialize.proofs.StepsJoined.{arms_before, arms_end, arm_joined}

module _ (rules : List SetRule) (s : ℕ) where
  -- 1. whether a rule asks a constraint
  abbrev at : ℕ → Option Constraint
  at i = asked_at rules s i

  asks_from : (c : Constraint) (i : ℕ) → at i ≡ Some c → asks rules s c i ≡ true
  asks_from c i e = (that_exact (at i) c).1 e

  from_asks : (c : Constraint) (i : ℕ) → asks rules s c i ≡ true → at i ≡ Some c
  from_asks c i h = (that_exact (at i) c).0 h

  asks_of : (c : Constraint) (i : ℕ) (r : SetRule) → asks rules s c i ≡ true → slice_get rules i ≡ Some r → constraint_at r.constraints s ≡ Some c
  asks_of c i r h e = ap (constraint_asked s) (sym e) ∙ from_asks c i h

-- 2. the arms so far
-- the rules that are left stand in turn, those of one constraint in order, and each asks a constraint behind that of the
-- last arm; and with what may follow, the arms so far are best wherever the match is made
pub record ArmsGrow (set : SiteSet) (now : Places.Around) (s : ℕ) (here : List ℕ) (left : List AskingRule) (arms : List MatchArm) : Type 0 where
  pub turns : AreTurns set.rules s left
  pub ordered : (a : AskingRule) → descend set.rules (filter (asks set.rules s (asked_constraint a)) (asked_numbers left)) ≡ true
  pub last : Option Constraint
  pub later : (i : ℕ) (c : Constraint) → Contains (asked_numbers left) i → asked_at set.rules s i ≡ Some c → IsAfter last c
  pub far : (ar : Places.Around) → IsAfterTest set ar (match_test s) now → (t : Arms) → AreBestArms set ar s last (asked_numbers left) t → AreBestArms set ar s None here (arms_before arms t)

-- rules of one constraint that stand in order do so behind some
ordered_behind : (rules : List SetRule) (p : ℕ → Bool) (k : ℕ) (xs : List AskingRule) → descend rules (filter p (asked_numbers xs)) ≡ true → descend rules (filter p (asked_numbers (drop k xs))) ≡ true
ordered_behind rules p zero xs h = h
ordered_behind rules p (suc k) [] h = refl
ordered_behind rules p (suc k) (a ∷ xs) h = grind (arith, common_steps, ordered_behind rules p k xs, descend_rest rules a.number (filter p (asked_numbers xs)))

module _ (set : SiteSet) (around : Around) (s : ℕ) (here : List ℕ) where
  abbrev now : Places.Around
  now = around_view around

  -- each rule of a match asks something of its source
  all_ask : IsStepOf set now (match_test s) here → filter (asks_some set.rules s) here ≡ here
  all_ask step = all_kept (asks_some set.rules s) here (λ i k. of (slice_get set.rules i) (step.need i k))
    where
      of : (o : Option SetRule) → is_needed (match_test s) o ≡ true → is_some (constraint_asked s o) ≡ true
      of o n = grind (arith, common_steps)

  pub arms_start : (turns : List AskingRule) → descend set.rules here ≡ true → IsStepOf set now (match_test s) here → AreInTurn set.rules s here turns → ArmsGrow set now s here turns []
  arms_start turns o step t = record {
    turns = t.told;
    ordered = λ a. ap (descend set.rules) (t.kept a) ∙ descend_kept set.rules (asks set.rules s (asked_constraint a)) here o;
    last = None;
    later = λ i c k e. tt;
    far = λ ar after rest a. record {
      marked = a.marked;
      same = a.same;
      rules = IsPermutation-trans here (asked_numbers turns) (marks_arms a.marked) (subst (λ l. IsPermutation l (asked_numbers turns)) (all_ask step) t.same) a.rules;
      best = a.best;
    };
  }

  module _ (left : List AskingRule) (next : NextArm) (h : IsNextArm set s (asked_numbers left) next) where
    abbrev c : Constraint
    c = constraint_view next.constraint

    abbrev mine : ℕ → Bool
    mine = asks set.rules s c

    abbrev rest_of : List AskingRule
    rest_of = drop (length next.asking.items) left

    pub some_asking : next.asking.items ≢ []
    some_asking e =
        let k = subst (λ l. Contains l h.least.0.0) (sym h.asking ∙ e) (in_filter mine (asked_numbers left) h.least.0.0 h.least.0.1 (asks_from set.rules s c h.least.0.0 h.least.0.2)) in
        nothing_in h.least.0.0 k

    pub fewer_left : length rest_of < length left
    fewer_left =
        let e = length-drop (length next.asking.items) left in
        let l = some_length next.asking.items some_asking in
        let m = h.least.0.1.1 in
        let n = length-map left (λ a. a.number) in
        omega (arith, e, l, m, n)
      where
        some_length : (xs : List ℕ) → xs ≢ [] → 0 < length xs
        some_length xs g = grind (arith, common_steps)

    pub asking_ordered : {arms : List MatchArm} → ArmsGrow set now s here left arms → descend set.rules next.asking.items ≡ true
    asking_ordered g = ap (descend set.rules) h.asking ∙ g.ordered (record { number = 0; constraint = next.constraint })

    pub arms_more : (arms more : List MatchArm) (a : MatchArm) (body : Tree) → more ≡ arms ++ a ∷ [] → ((rest : Arms) → arm_view a rest ≡ arm c next.fields.items body rest)
        → IsBestFrom set (brings now s (field_sites next.fields.items)) next.asking.items body → ArmsGrow set now s here left arms → ArmsGrow set now s here rest_of more
    arms_more arms more a body e seen best g = record {
      turns = turns_behind set.rules s (length next.asking.items) left g.turns;
      ordered = λ x. ordered_behind set.rules (asks set.rules s (asked_constraint x)) (length next.asking.items) left (g.ordered x);
      last = Some c;
      later = λ i d k q. elim (before_total c d (h.least.1 i d (other i k).0 q)) [
        | inl same ↦ absurd (false≢true (ap not (sym (asks_from set.rules s c i (q ∙ ap Some (sym same)))) ∙ (other i k).1))
        | inr b ↦ b
      ];
      far = λ ar after t rest. subst (AreBestArms set ar s None here) (sym (ap (λ xs. arms_before xs t) e ∙ arm_joined arms a t ∙ ap (arms_before arms) (seen t)))
          (g.far ar after (arm c next.fields.items body t)
          (Growth.arm_more set ar s g.last c mine (asked_numbers left) next.fields.items body t (g.later h.least.0.0 c h.least.0.1 h.least.0.2) (λ z. some_asking (h.asking ∙ z))
          (λ i r p. asks_of set.rules s c i r p) h.fields
          (from_alike set (brings now s (field_sites next.fields.items)) (in_arm set ar s c next.fields.items) (filter mine (asked_numbers left)) body (arm_inside set ar around s c next.fields.items after)
          (subst (λ l. IsBestFrom set (brings now s (field_sites next.fields.items)) l body) h.asking best))
          (subst (λ l. AreBestArms set ar s (Some c) l t) others rest)));
    }
      where
        others : asked_numbers rest_of ≡ filter (λ i. not (mine i)) (asked_numbers left)
        others = ap (λ l. asked_numbers (drop (length l) left)) h.asking ∙ left_behind set.rules s c left g.turns h.least

        other : (i : ℕ) → Contains (asked_numbers rest_of) i → Contains (asked_numbers left) i × (not (mine i) ≡ true)
        other i k = from_filter (λ i. not (mine i)) (asked_numbers left) i (subst (λ l. Contains l i) others k)

  -- where no rule is left, all arms are made
  pub arms_whole : (left : List AskingRule) (arms : List MatchArm) → asked_numbers left ≡ [] → ArmsGrow set now s here left arms → (ar : Places.Around) → IsAfterTest set ar (match_test s) now → AreBestArms set ar s None here (arms_view arms)
  arms_whole left arms none g ar after = grind (arith, common_steps, arms_end arms, no_arms set ar s g.last)

-- Counting the rules of each term, one rule after another.
use Rattle.std.proofs.Common.{◌≡◌, ◌⊎◌, ◌≢◌, ℕ, ◌+◌, ◌<◌, ◌≤◌, true, false, eqb, List, length, take, set, get_or, Some, None, slice_get, sym, ap, subst, ◌∙◌, inl, inr, arith}
use Rattle.std.specs.Bool.{◌==◌}
use Rattle.std.specs.List.{count_by}
use Rattle.std.proofs.lemmas.Bool.Decides.{eqb_tells}
use Rattle.std.proofs.lemmas.List.{length-set, get_or-set_same, get_or-set_other, length-map, length-take-le, take-map}
use Rattle.std.proofs.lemmas.List.Sums.{count_by-le-length, count_by_more_yes, count_by_more_no}
use Rattle.std.proofs.lemmas.Option.{none-some, same_Some, slice_get-get_or, get_or_from_slice_get, slice_get_within}
use Rattle.std.proofs.lemmas.Grind.{common_steps}
use Rattle.model.specs.rules.Typed.{TypedRule}
use Rattle.core_typed.specs.declared.rules.Rule.{Rule}
use Rattle.core_typed.specs.RuleNaming.{AreCounts}
use Rattle.core_typed.specs.RuleViews.{rule_view, rule_views}
use Rattle.core_typed.proofs.NameSteps.{view_at}

module _ (n : ℕ) (rules : List TypedRule) (i : ℕ) (q : TypedRule) (h : i < length rules) (at : q ≡ get_or rules i q) (counts : List ℕ) (k : AreCounts n (take i rules) counts) where
  of_this : (t : ℕ) → eqb q.root_term t ≡ true → count_by (λ r. r.root_term == t) (take (i + 1) rules) ≡ count_by (λ r. r.root_term == t) (take i rules) + 1
  of_this t e = count_by_more_yes (λ r. r.root_term == t) rules i q h (ap (λ r. r.root_term == t) (sym at) ∙ e)

  of_other : (t : ℕ) → eqb q.root_term t ≡ false → count_by (λ r. r.root_term == t) (take (i + 1) rules) ≡ count_by (λ r. r.root_term == t) (take i rules)
  of_other t e = count_by_more_no (λ r. r.root_term == t) rules i q h (ap (λ r. r.root_term == t) (sym at) ∙ e)

  -- the term of the rule has one more
  one_more : (c : ℕ) → slice_get counts q.root_term ≡ Some c → AreCounts n (take (i + 1) rules) (set counts q.root_term (c + 1))
  one_more c is =
      let here : (t : ℕ) → ((eqb q.root_term t ≡ true) × (q.root_term ≡ t)) ⊎ ((eqb q.root_term t ≡ false) × (q.root_term ≢ t)) → t < n → get_or (set counts q.root_term (c + 1)) t 0 ≡ count_by (λ r. r.root_term == t) (take (i + 1) rules) =
      λ t d l. elim d [
        | inl e ↦ grind (arith, same_Some, get_or-set_same, slice_get_within, of_this)
        | inr e ↦ get_or-set_other counts q.root_term t (c + 1) 0 (λ s. e.1 (sym s)) ∙ get_or_from_slice_get counts t (count_by (λ r. r.root_term == t) (take i rules)) 0 (k.each t l) ∙ sym (of_other t e.0)
      ] in
      let long : length (set counts q.root_term (c + 1)) ≡ n = length-set counts q.root_term (c + 1) ∙ k.len in
      record {
        len = long;
        each = λ t l. slice_get-get_or (set counts q.root_term (c + 1)) t 0 (subst (λ m. t < m) (sym long) l) ∙ ap (λ m. Some m) (here t (eqb_tells q.root_term t) l);
      }

  -- a term that isn't there has no rules to count
  no_more : slice_get counts q.root_term ≡ None → AreCounts n (take (i + 1) rules) counts
  no_more none = grind (arith, common_steps, none-some, of_other, eqb_tells)

  -- no term has more rules than were counted
  at_most : (t c : ℕ) → slice_get counts t ≡ Some c → c ≤ i
  at_most t c is = grind (arith, slice_get_within, same_Some, count_by-le-length, length-take-le)

-- what is read at a place that is there
pub read_at : (counts : List ℕ) (t c : ℕ) → t < length counts → c ≡ get_or counts t c → slice_get counts t ≡ Some c
read_at counts t c h v = slice_get-get_or counts t c h ∙ ap (λ m. Some m) (sym v)

module _ (n : ℕ) (rules : List Rule) (i : ℕ) (d : Rule) (h : i < length rules) (at : d ≡ get_or rules i d) (counts : List ℕ) (k : AreCounts n (rule_views (take i rules)) counts) where
  within : i < length (rule_views rules)
  within = subst (λ m. i < m) (sym (length-map rules rule_view)) h

  view_is : rule_view d ≡ get_or (rule_views rules) i (rule_view d)
  view_is = ap rule_view at ∙ view_at rules i d

  seen : AreCounts n (take i (rule_views rules)) counts
  seen = subst (λ rs. AreCounts n rs counts) (sym (take-map rule_view i rules)) k

  -- t is the place of the rule's term, as the code has it
  pub one_counted : (t c : ℕ) → t ≡ d.root_term.0 → slice_get counts t ≡ Some c → AreCounts n (rule_views (take (i + 1) rules)) (set counts t (c + 1))
  one_counted t c e is =
      subst (λ u. AreCounts n (rule_views (take (i + 1) rules)) (set counts u (c + 1))) (sym e)
      (subst (λ rs. AreCounts n rs (set counts d.root_term.0 (c + 1))) (take-map rule_view (i + 1) rules)
      (one_more n (rule_views rules) i (rule_view d) within view_is counts seen c (ap (slice_get counts) (sym e) ∙ is)))

  pub none_more : (t : ℕ) → t ≡ d.root_term.0 → slice_get counts t ≡ None → AreCounts n (rule_views (take (i + 1) rules)) counts
  none_more t e none = grind (arith, common_steps, take-map, no_more)

  pub few_counted : (t c : ℕ) → slice_get counts t ≡ Some c → c ≤ i
  few_counted t c is = at_most n (rule_views rules) i (rule_view d) within view_is counts seen t c is

-- How many errors say that a rule is left out, where no two rules stand at one position.
use Rattle.std.proofs.Common.{◌≡◌, ◌==◌, ◌+◌, ℕ, zero, suc, Bool, true, false, List, [], ◌∷◌, ◌++◌, length, map, take, filter, Option, Some, None, slice_get, refl, sym, ap, ◌∙◌, inl, inr, arith}
use Rattle.std.proofs.Math.Nat.{zero-add}
use Rattle.std.proofs.lemmas.List.{append-nil, append_assoc, length-map}
use Rattle.std.proofs.lemmas.List.Elements.{All-contains}
use Rattle.std.proofs.lemmas.Option.{none-some, same_Some}
use Rattle.std.proofs.lemmas.Grind.{common_steps}
use Rattle.model.specs.lists.Syntax.{Position}
use Rattle.model.specs.rules.Typed.{TypedRule}
use Rattle.model.specs.rules.Program.{Program}
use Rattle.model.specs.sites.Sites.{SiteTerm}
use Rattle.model.specs.visits.Demands.{demands_of}
use Rattle.model.specs.sites.Closure.{reported}
use Rattle.model.specs.sites.Limits.{RuleLimit, PassesLimit, first_limit, sites_wanted, sites_after_rules}
use Rattle.model.specs.sites.Overlap.{HasDistinctPositions, RuleReport, limit_passed, not_reached, report_position, build_reports_of, build_reports_after, build_reports}
use Rattle.model.specs.claims.Refusals.{refusal_of, sites_before}
use Rattle.model.specs.claims.Layers.{is_left_out, CheckReports}
use Rattle.model.proofs.Elements.{In, contains_from_in, in_slice}
use Rattle.laws_sites.specs.ErrorLaws.{says_left_out, AreSaidOnce}
use Rattle.laws_sites.specs.PairLaws.{one_if, times}
use Rattle.laws_sites.proofs.LimitsPassed.{first_limit_is_passed_lem, passed_limit_is_met_lem}
use Rattle.laws_sites.proofs.overlaps.LeftOut.{reports_of_rule}
use Rattle.laws_sites.proofs.overlaps.ListedOverlaps.{position_means, position_same}
use Rattle.laws_sites.proofs.overlaps.Masks.{Apart, distinct_apart}
use Rattle.laws_sites.proofs.overlaps.Pairs.{none_pass, times_append, times_map}

all_pass : {X : Type 0} (t : X → Bool) (xs : List X) → ((x : X) → In xs x → t x ≡ true) → times t xs ≡ length xs
all_pass t [] f = refl
all_pass t (x ∷ xs) f = ap (λ b. one_if b + times t xs) (f x (inl refl)) ∙ (omega arith) ∙ ap suc (all_pass t xs (λ y i. f y (inr i)))

-- 1. reports of one rule
module _ (at : Position) where
  -- a report says that the rule at the position is left out
  abbrev pub is_of : RuleReport → Bool
  is_of x = says_left_out at (refusal_of x)

  not_counted : (x : RuleReport) → is_left_out x ≡ false → is_of x ≡ true → ⊥
  not_counted x h e = grind (arith, common_steps)

module _ (p : Program) where
  abbrev sites_for : TypedRule → List TypedRule → List SiteTerm
  sites_for r done = sites_after_rules p [] (filter (λ q. q.root_term == r.root_term) done)

  module _ (at : Position) where
    here : (before : List SiteTerm) (r : TypedRule) → r.at ≡ at → times (is_of at) (build_reports_of p before r) ≡ length (build_reports_of p before r)
    here before r e = grind (arith, common_steps, all_pass, reports_of_rule, position_same)

    elsewhere : (before : List SiteTerm) (r : TypedRule) → (r.at ≡ at → ⊥) → times (is_of at) (build_reports_of p before r) ≡ 0
    elsewhere before r n =
        none_pass (is_of at) (build_reports_of p before r)
        (λ k x e t.
        let w = reports_of_rule p before r x (in_slice (build_reports_of p before r) k x e) in
        n (sym w.1 ∙ position_means (report_position x) at (sym (grind (arith, common_steps)) ∙ t)))

    none_after : (done rs : List TypedRule) → ((q : TypedRule) → In rs q → q.at ≡ at → ⊥) → times (is_of at) (build_reports_after p done rs) ≡ 0
    none_after done [] f = refl
    none_after done (q ∷ rs) f =
        let first = elsewhere (sites_for q done) q (f q (inl refl)) in
        let rest = none_after (done ++ q ∷ []) rs (λ y i. f y (inr i)) in
        times_append (is_of at) (build_reports_of p (sites_for q done) q) (build_reports_after p (done ++ q ∷ []) rs) ∙ (λ k. first k + rest k)

  -- 2. of a rule among others
  counted : (done rs : List TypedRule) → Apart (λ q. q.at) rs → (i : ℕ) (r : TypedRule) → slice_get rs i ≡ Some r
      → times (is_of r.at) (build_reports_after p done rs) ≡ length (build_reports_of p (sites_for r (done ++ take i rs)) r)
  counted done [] a i r e = absurd (none-some r e)
  counted done (q ∷ rs) a zero r e = grind (arith, common_steps, same_Some, here, none_after, times_append, append-nil)
  counted done (q ∷ rs) a (suc i) r e =
      let first = elsewhere r.at (sites_for q done) q (λ n. a.0 r (in_slice rs i r e) (sym n)) in
      let rest = counted (done ++ q ∷ []) rs a.1 i r e in
      times_append (is_of r.at) (build_reports_of p (sites_for q done) q) (build_reports_after p (done ++ q ∷ []) rs)
      ∙ (λ k. first k + rest k)
      ∙ zero-add (length (build_reports_of p (sites_for r ((done ++ q ∷ []) ++ take i rs)) r))
      ∙ ap (λ d. length (build_reports_of p (sites_for r d) r)) (append_assoc done (q ∷ []) (take i rs))

-- 3. of all reports
module _ (p : Program) (reports : List RuleReport) (c : CheckReports p reports) (distinct : HasDistinctPositions p) where
  as_reported : (i : ℕ) (r : TypedRule) → slice_get p.rules i ≡ Some r → times (says_left_out r.at) (map refusal_of reports) ≡ length (build_reports_of p (sites_before p i r) r)
  as_reported i r e =
      let first = counted p [] p.rules (distinct_apart (λ q. q.at) p.rules distinct) i r e in
      let rest = none_pass (is_of r.at) c.later
      (λ k x h t. not_counted r.at x (All-contains (λ y. is_left_out y ≡ false) c.later x c.others (contains_from_in c.later x (in_slice c.later k x h))) t) in
      times_map (says_left_out r.at) refusal_of reports
      ∙ ap (times (is_of r.at)) c.all
      ∙ times_append (is_of r.at) (build_reports p) c.later
      ∙ (λ k. first k + rest k)
      ∙ (omega arith)

  abbrev by_limit : ℕ → TypedRule → Option RuleLimit → List RuleReport
  by_limit i r o = elim o [ Some l ↦ limit_passed l r.at ∷ [] | None ↦ map (λ why. not_reached why r.at) (reported (sites_wanted p (sites_before p i r) r) (demands_of p r)) ]

  pub said_once : AreSaidOnce p (map refusal_of reports)
  said_once = record {
    past_limit_once = λ i r l e passes.
        let met = passed_limit_is_met_lem p (sites_before p i r) r l passes in
        as_reported i r e ∙ ap (λ o. length (by_limit i r o)) met.1;
    within_limits = λ i r e within.
        as_reported i r e
        ∙ ap (λ o. length (by_limit i r o)) (no_limit i r within (first_limit p (sites_before p i r) r) refl)
        ∙ length-map (reported (sites_wanted p (sites_before p i r) r) (demands_of p r)) (λ why. not_reached why r.at);
  }
    where
      no_limit : (i : ℕ) (r : TypedRule) → ((l : RuleLimit) → PassesLimit p (sites_before p i r) r l → ⊥) → (o : Option RuleLimit) → first_limit p (sites_before p i r) r ≡ o
          → first_limit p (sites_before p i r) r ≡ None
      no_limit i r within (Some l) e = absurd (within l (first_limit_is_passed_lem p (sites_before p i r) r l e))
      no_limit i r within None e = e

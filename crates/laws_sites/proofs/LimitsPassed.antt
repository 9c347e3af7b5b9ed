-- The limit that is met first is passed, and where a limit is passed one is met.
use Rattle.std.proofs.Common.{◌≡◌, ℕ, nat_lt, List, [], ◌∷◌, length, map, Option, Some, None, refl, sym, ap, ◌∙◌, inl, inr, arith, lt-ltb}
use Rattle.std.proofs.lemmas.Bool.{cases_Bool, cond-true, cond-false, le-ltb}
use Rattle.std.proofs.lemmas.Grind.{common_steps}
use Rattle.model.specs.rules.Typed.{TypedRule}
use Rattle.model.specs.rules.Program.{Program}
use Rattle.model.specs.sites.Sites.{SiteTerm}
use Rattle.model.specs.visits.Demands.{Count, fields_matched, outputs_taken, argument_taken, demands_of}
use Rattle.model.specs.sites.Limits.{most_fields, most_outputs, most_arguments, most_sites, RuleLimit, fields_limit, outputs_limit, arguments_limit, sites_limit, counts_of_rule, PassesLimit, passed_by, passed_or_later, first_passed, passed_in_visit, limit_of_passed, sites_reached, first_limit}
use Rattle.model.proofs.Elements.{In, in_from_contains, contains_from_in, some_is, none_some}

-- 1. counts
-- a count of the rule that passes a limit
count_passes : (p : Program) (before : List SiteTerm) (r : TypedRule) (c : Count) (l : RuleLimit) → In (counts_of_rule p r) c → passed_by c ≡ Some l → PassesLimit p before r l
count_passes p before r c l i e = grind (arith, common_steps, contains_from_in)

-- the first that passes one is among them, and there is one where some count passes a limit
first_among : (cs : List (Count × ℕ)) (x : RuleLimit × ℕ) → first_passed cs ≡ Some x → (c : Count) × In (map (λ d. d.0) cs) c × (passed_by c ≡ Some x.0)
first_among [] x e = absurd (none_some x e)
first_among (c ∷ cs) x e = grind (arith, common_steps, first_among cs x, some_is)

some_passed : (cs : List (Count × ℕ)) (c : Count) (l : RuleLimit) → In (map (λ d. d.0) cs) c → passed_by c ≡ Some l → (x : RuleLimit × ℕ) × (first_passed cs ≡ Some x)
some_passed [] c l i e = absurd i
some_passed (d ∷ cs) c l i e = by (passed_by d.0) refl (λ j. some_passed cs c l j e)
  where
    by : (o : Option RuleLimit) → passed_by d.0 ≡ o → (In (map (λ k. k.0) cs) c → (x : RuleLimit × ℕ) × (first_passed cs ≡ Some x))
        → (x : RuleLimit × ℕ) × (passed_or_later o d.1 (first_passed cs) ≡ Some x)
    by (Some m) q later = ((m, d.1), refl)
    by None q later = elim i [ inl s ↦ absurd (none_some l (sym q ∙ ap passed_by s ∙ e)) | inr j ↦ later j ]

-- 2. the first limit is passed
pub first_limit_is_passed_lem : (p : Program) (before : List SiteTerm) (r : TypedRule) (l : RuleLimit) → first_limit p before r ≡ Some l → PassesLimit p before r l
first_limit_is_passed_lem p before r l e = grind (arith, common_steps, some_is, first_among, count_passes)

-- 3. a limit that is passed is met, or one before
count_met : (p : Program) (before : List SiteTerm) (r : TypedRule) (c : Count) (l : RuleLimit) → In (counts_of_rule p r) c → passed_by c ≡ Some l → (m : RuleLimit) × (first_limit p before r ≡ Some m)
count_met p before r c l i e =
    elim (cases_Bool (nat_lt most_sites (length (sites_reached p before r)))) [
      | inl t ↦ (sites_limit, cond-true (nat_lt most_sites (length (sites_reached p before r))) (Some sites_limit) (limit_of_passed (passed_in_visit p r)) t)
      | inr f ↦
          let x = some_passed (demands_of p r).counted c l i e in
          (x.0.0, cond-false (nat_lt most_sites (length (sites_reached p before r))) (Some sites_limit) (limit_of_passed (passed_in_visit p r)) f ∙ ap limit_of_passed x.1)
    ]

pub passed_limit_is_met_lem : (p : Program) (before : List SiteTerm) (r : TypedRule) (l : RuleLimit) → PassesLimit p before r l → (m : RuleLimit) × (first_limit p before r ≡ Some m)
passed_limit_is_met_lem p before r fields_limit h =
    count_met p before r (fields_matched h.fields) fields_limit (in_from_contains (counts_of_rule p r) (fields_matched h.fields) h.matched)
    (cond-true (nat_lt most_fields h.fields) (Some fields_limit) None (lt-ltb most_fields h.fields h.many))
passed_limit_is_met_lem p before r outputs_limit h =
    count_met p before r (outputs_taken h.outputs) outputs_limit (in_from_contains (counts_of_rule p r) (outputs_taken h.outputs) h.taken)
    (cond-true (nat_lt most_outputs h.outputs) (Some outputs_limit) None (lt-ltb most_outputs h.outputs h.many))
passed_limit_is_met_lem p before r arguments_limit h =
    count_met p before r (argument_taken h.argument) arguments_limit (in_from_contains (counts_of_rule p r) (argument_taken h.argument) h.taken)
    (cond-false (nat_lt h.argument most_arguments) None (Some arguments_limit) (le-ltb h.argument most_arguments h.many))
passed_limit_is_met_lem p before r sites_limit h = grind (arith, common_steps)

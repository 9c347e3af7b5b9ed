-- The sets of all terms go past one more rule of the program, and the reports go on.
use Rattle.std.proofs.Common.{◌≡◌, ◌==◌, ◌||◌, ℕ, Bool, true, false, List, [], ◌∷◌, ◌++◌, Option, Some, None, is_some, refl, sym, ap, ◌∙◌, subst, inl, inr, eqb-true, arith}
use Rattle.std.specs.List.{list_any}
use Rattle.std.proofs.lemmas.Bool.{cases_Bool}
use Rattle.std.proofs.lemmas.List.{append-nil, append_assoc}
use Rattle.std.proofs.lemmas.List.Elements.{filter-append, All-contains}
use Rattle.std.proofs.lemmas.Option.{none-some, same_Some}
use Rattle.std.proofs.Math.Bool.{or-false, or-true}
use Rattle.std.proofs.lemmas.Grind.{common_steps}
use Rattle.model.proofs.Members.{all_members}
use Rattle.model.specs.rules.Typed.{TypedRule}
use Rattle.model.specs.rules.Program.{Program}
use Rattle.model.specs.sites.Sites.{SiteSet}
use Rattle.model.specs.sites.Limits.{sites_after_rules}
use Rattle.model.specs.sites.Overlap.{RuleReport, build_reports_after, build_reports_of}
use Rattle.model.specs.sites.RuleSets.{IsBuilt}
use Rattle.laws_sites.specs.RuleByRule.{AreBuiltSoFar, BuildingEnds, BuildingGoesOn, BuildingStarts, StandsAfter, nothing_built, of_one_term, or_nothing_built}
use Rattle.laws_sites.proofs.building.RulesPassed.{sets_end_built_lem, sets_go_past_rules_lem, sets_start_empty_lem}

-- 1. reports of one more rule
reports_more : (p : Program) (done rs : List TypedRule) (r : TypedRule)
    → build_reports_after p done (rs ++ r ∷ []) ≡ build_reports_after p done rs ++ build_reports_of p (sites_after_rules p [] (of_one_term r.root_term (done ++ rs))) r
reports_more p done [] r = grind (arith, common_steps, append-nil)
reports_more p done (q ∷ rs) r = grind (arith, common_steps, reports_more p (done ++ q ∷ []) rs r, append_assoc)

-- 2. rules of one term
any_more : (t : ℕ) (done : List TypedRule) (r : TypedRule) → (b : Bool) → (r.root_term == t) ≡ b
    → list_any (λ q. q.root_term == t) (done ++ r ∷ []) ≡ list_any (λ q. q.root_term == t) done || b
any_more t [] r true e = ap (λ x. x || false) e
any_more t [] r false e = ap (λ x. x || false) e
any_more t (q ∷ done) r b e = grind (arith, common_steps, any_more t done r b e)

-- a term without rules has none among them
none_of_term : (t : ℕ) (done : List TypedRule) → list_any (λ q. q.root_term == t) done ≡ false → of_one_term t done ≡ []
none_of_term t [] e = refl
none_of_term t (q ∷ done) e = grind (arith, common_steps, none_of_term t done)

-- the set of a term, or nothing, stands where its rules are
pub stands : (p : Program) (done : List TypedRule) (old : ℕ → Option SiteSet) (reports : List RuleReport) → AreBuiltSoFar p done old reports → (t : ℕ) → StandsAfter p (of_one_term t done) (or_nothing_built (old t))
stands p done old reports h t = by (old t) refl
  where
    by : (o : Option SiteSet) → old t ≡ o → StandsAfter p (of_one_term t done) (or_nothing_built o)
    by None e = subst (λ rs. StandsAfter p rs nothing_built) (sym (none_of_term t done (sym (h.terms t) ∙ ap is_some e))) (sets_start_empty_lem p)
    by (Some set) e = h.each t set e

pub building_starts_lem : BuildingStarts
building_starts_lem p = record { terms = λ t. refl; each = λ t set e. absurd (none-some set e); reported = refl }

pub building_goes_on_lem : BuildingGoesOn
building_goes_on_lem p done r old new reports said h b = record {
  terms = grind (arith, common_steps, any_more, or-true, or-false);
  each = λ t set e. elim (cases_Bool (r.root_term == t)) [
    | inl y ↦
        let same = eqb-true r.root_term t y in
        subst (λ rs. StandsAfter p rs set) (sym (grind (arith, filter-append)))
        (subst (λ u. StandsAfter p (of_one_term u done ++ r ∷ []) set) same
        (subst (StandsAfter p (of_one_term r.root_term done ++ r ∷ [])) (same_Some b.set set (sym b.here ∙ subst (λ u. new u ≡ Some set) (sym same) e)) past.0))
    | inr n ↦ subst (λ rs. StandsAfter p rs set) (sym (grind (arith, filter-append, append-nil))) (h.each t set (sym (b.others t (grind arith)) ∙ e))
  ];
  reported =
      (λ i. h.reported i ++ past.1 i) ∙ sym (reports_more p [] done r);
}
  where
    past : StandsAfter p (of_one_term r.root_term done ++ r ∷ []) b.set × (said ≡ build_reports_of p (sites_after_rules p [] (of_one_term r.root_term done)) r)
    past = sets_go_past_rules_lem p (of_one_term r.root_term done) r (or_nothing_built (old r.root_term)) b.set said (stands p done old reports h r.root_term) b.goes

pub building_ends_lem : BuildingEnds
building_ends_lem p set_of sets reports h found = (
  all_members (λ s. IsBuilt p s.0 s.1) sets (λ s i. (sets_end_built_lem p s.0 s.1).0 (h.each s.0 s.1 (All-contains (λ (x : ℕ × SiteSet). set_of x.0 ≡ Some x.1) sets s found i))),
  h.reported,
)

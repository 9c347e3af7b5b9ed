-- Building goes on by one rule after another, and what there is after the last.
use Rattle.std.proofs.Common.{◌≡◌, ◌≢◌, ◌==◌, ℕ, zero, suc, ◌+◌, ◌<◌, ◌≤◌, Bool, List, [], ◌∷◌, ◌++◌, length, take, Some, slice_get, get_or, option_map, refl, sym, ap, ◌∙◌, subst, inl, inr, arith, eqb-true, eq-eqb, add-one}
use Rattle.std.specs.BTreeMap.{BTreeMap, IsOrdered, get}
use Rattle.std.specs.Ordering.{nat_cmp}
use Rattle.std.proofs.lemmas.Bool.{cases_Bool, false≢true}
use Rattle.std.proofs.lemmas.List.{length-map, map-append, take_all}
use Rattle.std.proofs.lemmas.Option.{same_Some, slice_get-map, slice_get_read}
use Rattle.model.specs.claims.Environments.{TypesRead, IsElaborated, program_of}
use Rattle.model.specs.claims.Layers.{BuildAnswers}
use Rattle.model.specs.claims.Refusals.{refusal_of}
use Rattle.model.specs.lists.Elaborated.{TypedRules}
use Rattle.model.specs.lists.Syntax.{Definition}
use Rattle.model.specs.lists.Tables.{TermEntry}
use Rattle.model.specs.rules.Program.{Program}
use Rattle.model.specs.rules.Typed.{TypedRule}
use Rattle.model.specs.sites.Limits.{sites_after_rules}
use Rattle.model.specs.sites.Overlap.{build_reports}
use Rattle.model.specs.sites.RuleSets.{StandFor}
use Rattle.model.specs.sites.Sites.{SiteSet}
use Rattle.model.proofs.Elements.{contains_from_in, in_slice, none_some}
use Rattle.model.proofs.Positions.{distinct_nil}
use Rattle.laws_sites.specs.RuleByRule.{GoesPast, of_one_term, or_nothing_built}
use Rattle.laws_trees.specs.AnswerLaws.{BuiltSetsAreAnswered}
use Rattle.laws_sites.proofs.building.SetsSoFar.{building_ends_lem, building_goes_on_lem, stands}
use Rattle.laws_sites.proofs.overlaps.JudgedLists.{well_typed_rules_have_terms_lem}
use Rattle.laws_sites.proofs.built.DistinctSites.{once_after}
use Rattle.laws_typing.specs.WellTypedPrograms.{ElaboratedProgramsAreWellTyped}
use Rattle.core_syntax.specs.declared.syntax.Error.{Error}
use Rattle.core_types.specs.declared.ids.TermId.{TermId}
use Rattle.core_terms.specs.TermViews.{term_views}
use Rattle.core_typed.specs.RuleViews.{rule_view, rule_views}
use Rattle.core_typed.specs.declared.rules.Rule.{Rule}
use Rattle.core_rules.specs.declared.term_env.TermEnv.{TermEnv}
use Rattle.core_rule_sets.specs.declared.trie_again.RuleSet.{RuleSet}
use Rattle.core_builder.specs.AddedRules.{HasTable, MayAddRule, SetGoesOn, report_views, set_so_far}
use Rattle.cranelift_isle.specs.SetsSoFar.{MayGoOn, StandAfter, term_set_at, sets_so_far}
use Rattle.cranelift_isle.specs.BuiltSets.{ShowsElaborated, WereBuilt, term_set_views}
use Rattle.core_builder.specs.declared.term_sets.TermSet.{TermSet}
use Rattle.cranelift_isle.proofs.TermsAscending.{looked_up, terms_listed}

-- 1. one more rule
module _ (known : List TermEntry) (p : Program) (done : List TypedRule) (r : TypedRule) (sets : BTreeMap ℕ TermSet) (errors : List Error) (h : MayGoOn known r p done sets errors)
    (taken : TermSet) (start : set_so_far taken ≡ or_nothing_built (term_set_at sets r.root_term)) where
  -- the set of its term may go past it
  pub may_add : HasTable taken → MayAddRule known r taken.builder p (sites_after_rules p [] (of_one_term r.root_term done))
  may_add table = record {
    terms = h.terms;
    formed = h.formed;
    table = table;
    once = once_after p [] (of_one_term r.root_term done) distinct_nil;
    stand = subst (λ (s : SiteSet). StandFor s.sites (sites_after_rules p [] (of_one_term r.root_term done))) (sym start) (stands p done (term_set_at sets) h.stand.reports h.stand.built r.root_term).sites;
  }

  -- and then the sets stand after it
  pub goes_on_next : (mid new : BTreeMap ℕ TermSet) (set : TermSet) (more : List Error) → ((t : ℕ) → t ≢ r.root_term → get nat_cmp mid t ≡ get nat_cmp sets t)
      → SetGoesOn p (sites_after_rules p [] (of_one_term r.root_term done)) r taken set errors more → get nat_cmp new r.root_term ≡ Some set → ((t : ℕ) → t ≢ r.root_term → get nat_cmp new t ≡ get nat_cmp mid t)
      → StandAfter p (done ++ r ∷ []) new more
  goes_on_next mid new set more left g at others = record {
    reports = h.stand.reports ++ g.said;
    built = building_goes_on_lem p done r (term_set_at sets) (term_set_at new) h.stand.reports g.said h.stand.built (record {
      set = set_so_far set;
      here = ap (option_map set_so_far) at;
      others = λ t n. ap (option_map set_so_far) (others t n ∙ left t n);
      goes = subst (λ s. GoesPast p (sites_after_rules p [] (of_one_term r.root_term done)) r s (set_so_far set) g.said) start g.goes;
    });
    tables = λ t s e.
        elim (cases_Bool (t == r.root_term)) [
          | inl y ↦ subst (λ x. HasTable x) (same_Some set s (sym at ∙ subst (λ u. get nat_cmp new u ≡ Some s) (eqb-true t r.root_term y) e)) g.table
          | inr n ↦ let apart : t ≢ r.root_term = λ q. false≢true (sym n ∙ eq-eqb t r.root_term q) in h.stand.tables t s (sym (others t apart ∙ left t apart) ∙ e)
        ];
    reported = g.reports ∙ ap (λ l. l ++ report_views g.said) h.stand.reported ∙ sym (map-append refusal_of h.stand.reports g.said);
  }

-- 2. before the first
-- a rule of the list, by its place
pub rule_at : (rs : List Rule) (i : ℕ) (r : Rule) → i < length rs → r ≡ get_or rs i r → slice_get (rule_views rs) i ≡ Some (rule_view r)
rule_at rs i r l e = slice_get-map rule_view rs i ∙ ap (option_map rule_view) (slice_get_read rs (length rs) i r refl l e)

take_next : (xs : List TypedRule) (i : ℕ) (x : TypedRule) → slice_get xs i ≡ Some x → take (suc i) xs ≡ take i xs ++ x ∷ []
take_next [] i x e = absurd (none_some x e)
take_next (y ∷ xs) zero x e = ap (λ z. z ∷ []) (same_Some y x e)
take_next (y ∷ xs) (suc i) x e = ap (λ l. y ∷ l) (take_next xs i x e)

-- 3. of a list that elaborates
module _ (e : TypesRead) (defs : List Definition) (expand : Bool) (rules : TypedRules) (h : IsElaborated e defs expand rules) (env : TermEnv) (shown : ShowsElaborated e defs rules env) where
  abbrev pub whole : Program
  whole = program_of e defs rules.rules

  -- its next rule may be read
  pub may_go_on : ElaboratedProgramsAreWellTyped → (i : ℕ) (r : Rule) (sets : BTreeMap ℕ TermSet) (errors : List Error) → slice_get (rule_views env.rules.items) i ≡ Some (rule_view r)
      → StandAfter whole (take i rules.rules) sets errors → MayGoOn (term_views env.terms.items) (rule_view r) whole (take i rules.rules) sets errors
  may_go_on typed i r sets errors at s = record {
    terms = sym shown.terms;
    formed = ((typed e defs expand rules h).rules (rule_view r) (contains_from_in rules.rules (rule_view r) (in_slice rules.rules i (rule_view r) (ap (λ l. slice_get l i) (sym shown.rules) ∙ at)))).formed;
    stand = s;
  }

  -- and then they stand after one more
  pub one_more_read : (i : ℕ) (r : Rule) (sets : BTreeMap ℕ TermSet) (errors : List Error) → slice_get (rule_views env.rules.items) i ≡ Some (rule_view r)
      → StandAfter whole (take i rules.rules ++ rule_view r ∷ []) sets errors → StandAfter whole (take (i + 1) rules.rules) sets errors
  one_more_read i r sets errors at s =
      subst (λ done. StandAfter whole done sets errors) (sym (ap (λ n. take n rules.rules) (add-one i) ∙ take_next rules.rules i (rule_view r) (ap (λ l. slice_get l i) (sym shown.rules) ∙ at))) s

  pub all_read : (i : ℕ) (sets : BTreeMap ℕ TermSet) (errors : List Error) → length env.rules.items ≤ i → StandAfter whole (take i rules.rules) sets errors → StandAfter whole rules.rules sets errors
  all_read i sets errors past s =
      let same : length rules.rules ≡ length env.rules.items = sym (ap length shown.rules) ∙ length-map env.rules.items rule_view in
      subst (λ done. StandAfter whole done sets errors) (take_all i rules.rules (omega (arith, same, past))) s

  -- after the last, all is built
  pub all_built : ElaboratedProgramsAreWellTyped → BuiltSetsAreAnswered → (sets : BTreeMap ℕ TermSet) (errors : List Error) (listed : List (TermId × RuleSet)) → IsOrdered nat_cmp sets
      → term_set_views listed ≡ sets_so_far sets.entries → StandAfter whole rules.rules sets errors → WereBuilt env whole listed errors (build_reports whole)
  all_built typed answered sets errors listed ordered same s =
      let views = sets_so_far sets.entries in
      let known = well_typed_rules_have_terms_lem whole (typed e defs expand rules h) in
      let built = building_ends_lem whole (term_set_at sets) views s.reports s.built (looked_up sets ordered) in
      record {
        terms = sym shown.terms;
        known = known;
        answers = subst (λ v. BuildAnswers whole v (build_reports whole)) (sym same) (answered whole views (typed e defs expand rules h) (terms_listed sets ordered whole known s.built.terms) built.0);
        errors_are = s.reported ∙ ap report_views built.1;
      }

-- Tables that are made of what a rule demands are of its condition: there is what they mean.
use Rattle.std.proofs.Common.{◌≡◌, ◌<◌, ◌&&◌, ℕ, Bool, true, nat_lt, List, [], ◌∷◌, length, map, Some, option_map, slice_get, refl, sym, ap, ap₂, subst, ◌∙◌, ltb-true}
use Rattle.std.proofs.lemmas.Bool.{and_parts}
use Rattle.std.proofs.lemmas.Option.{slice_get-map, slice_get_within}
use Rattle.model.specs.rules.Program.{Program}
use Rattle.model.specs.sites.RuleSets.{IsBuilt}
use Rattle.model.specs.sites.Sites.{Constraint, SetRule, Site, SiteSet, SiteTerm, layer, unfold_site}
use Rattle.model.specs.trees.Places.{is_in, all_below}
use Rattle.model.specs.visits.Demands.{has_site, site_term_eq}
use Rattle.model.proofs.Elements.{In, in_map, map_in}
use Rattle.model.proofs.SitesMade.{has_in, in_has}
use Rattle.laws_sites.proofs.built.Unfolding.{layer_same}
use Rattle.laws_specs.specs.Conditions.{Condition}
use Rattle.laws_specs.specs.SetConditions.{set_condition}
use Rattle.laws_specs.specs.Specs as L
use Rattle.core_rule_sets.specs.declared.trie_again.Binding.{Binding}
use Rattle.core_rule_sets.specs.SiteViews.{site_view, site_views}
use Rattle.core_types.specs.TypeViews.{type_views}
use Rattle.spec_cases.specs.Expressions.{Saying}
use Rattle.spec_cases.specs.Namings.{Naming}
use Rattle.spec_cases.specs.Places.{AreApart}
use Rattle.spec_cases.specs.Sorts.{type_sorts}
use Rattle.spec_cases.specs.Steps.{constant_views, constraint_view}
use Rattle.spec_steps.specs.declared.demands.Demands.{Demands}
use Rattle.spec_steps.specs.declared.demands.Same.{Same}
use Rattle.spec_steps.specs.declared.demands.Tested.{Tested}
use Rattle.spec_steps.specs.Demands.{args_of, provided_of, required_of, results_of, is_marked, same_views, tested_views, Demand, Meant}
use Rattle.spec_steps.specs.Listing.{sites as listed_sites}
use Rattle.spec_asked.specs.declared.demanded.RuleDemands.{RuleDemands}
use Rattle.spec_asked.specs.declared.tables.ProgramTables.{ProgramTables}
use Rattle.spec_asked.specs.declared.tables.SpecTables.{SpecTables}
use Rattle.spec_asked.specs.Asking.{AreTablesBy, IsOfSites}
use Rattle.spec_asked.specs.Demanded.{numbers_within, roots_of, same_numbers, sames_within, test_numbers, tests_within, AreRuleDemands}
use Rattle.spec_asked.specs.Listed.{with_classes}
use Rattle.spec_asked.specs.Sites.{site_of}
use Rattle.spec_asked.specs.Tables.{specs_of, AreOfProgram}
use Rattle.spec_asked.proofs.ListedRules.{is_there, there_is}
use Rattle.spec_asked.proofs.SitesApart.{apart, layered, one_tree, same_truth, within}
use Rattle.spec_asked.proofs.TablesOf.{args_there, provided_there, required_there, results_there}

-- 1. lists of numbers, by two functions that agree below a count
module _ (count : ℕ) (f g : ℕ → SiteTerm) (agree : (n : ℕ) → n < count → f n ≡ g n) where
  pub tests_agree : (ts : List Tested) → tests_within count ts ≡ true → map {B = SiteTerm × Constraint} (λ c. (g c.0, c.1)) (test_numbers ts) ≡ map {B = SiteTerm × Constraint} (λ t. (f t.site, constraint_view t.constraint)) ts
  tests_agree [] h = refl
  tests_agree (t ∷ ts) h =
      let k = and_parts (nat_lt t.site count) (tests_within count ts) h in
      ap₂ (λ (s : SiteTerm) (l : List (SiteTerm × Constraint)). (s, constraint_view t.constraint) ∷ l) (sym (agree t.site (ltb-true t.site count k.0))) (tests_agree ts k.1)

  sames_agree : (ss : List Same) → sames_within count ss ≡ true → map {B = SiteTerm × SiteTerm} (λ e. (g e.0, g e.1)) (same_numbers ss) ≡ map {B = SiteTerm × SiteTerm} (λ s. (f s.first, f s.second)) ss
  sames_agree [] h = refl
  sames_agree (s ∷ ss) h =
      let k = and_parts (nat_lt s.first count && nat_lt s.second count) (sames_within count ss) h in
      let l = and_parts (nat_lt s.first count) (nat_lt s.second count) k.0 in
      ap₂ (λ (e : SiteTerm × SiteTerm) (r : List (SiteTerm × SiteTerm)). e ∷ r)
      (ap₂ (λ (a b : SiteTerm). (a, b)) (sym (agree s.first (ltb-true s.first count l.0))) (sym (agree s.second (ltb-true s.second count l.1)))) (sames_agree ss k.1)

  numbers_agree : (ns : List ℕ) → numbers_within count ns ≡ true → map g ns ≡ map f ns
  numbers_agree [] h = refl
  numbers_agree (n ∷ ns) h =
      let k = and_parts (nat_lt n count) (numbers_within count ns) h in
      ap₂ (λ (s : SiteTerm) (l : List SiteTerm). s ∷ l) (sym (agree n (ltb-true n count k.0))) (numbers_agree ns k.1)

-- 2. the condition of a rule
module _ (program : ProgramTables) (specs : SpecTables) (t : ℕ) (bindings : List Binding) (rules : List SetRule) (r : SetRule) (demands : RuleDemands) (are : AreRuleDemands (site_views bindings) r demands) (d : Demands) (by : AreTablesBy d program specs t bindings demands) where
  abbrev these : List Site
  these = site_views bindings

  abbrev set : SiteSet
  set = record { rules = rules; sites = these }

  abbrev q : SetRule
  q = with_classes r are.classes

  abbrev tree : ℕ → SiteTerm
  tree s = unfold_site these s

  abbrev c : Condition
  c = set_condition t set q

  module _ (p : Program) (of : AreOfProgram program p) (built : IsBuilt p t set) (v : Naming) (named : IsOfSites v these) (w : Saying) (unknowns : L.Unknowns) where
    agree : (n : ℕ) → n < length these → v.site n ≡ tree n
    agree n l = named n ∙ within these built.sources n l

    seen : (n : ℕ) (b : Binding) → slice_get d.bindings.now n ≡ Some b → slice_get these n ≡ Some (site_view b)
    seen n b e = slice_get-map site_view bindings n ∙ ap (λ l. option_map site_view (slice_get l n)) (sym by.bound) ∙ ap (option_map site_view) e

    bound : (n : ℕ) (b : Binding) → slice_get d.bindings.now n ≡ Some b → v.site n ≡ layer v.site (site_view b)
    bound n b e =
        named n ∙ layered these built.sources n (site_view b) (seen n b e)
        ∙ layer_same (site_of these) v.site (site_view b) (λ a i. sym (named a))

    below : ℕ → Bool
    below n = is_in n (all_below these (roots_of q))

    made : (n : ℕ) (b : Binding) → slice_get d.bindings.now n ≡ Some b → has_site c.made (v.site n) ≡ is_marked (slice_get d.made.now n)
    made n b e =
        let there = seen n b e in
        let l = slice_get_within these n (site_view b) there in
        let members = all_below these (roots_of q) in
        ap (has_site c.made) (agree n l)
        ∙ same_truth (has_site c.made (tree n)) (is_in n members)
        (λ h. let m = in_map tree members (tree n) (has_in c.made (tree n) h) in is_there n members (subst (In members) (one_tree p t set built m.0 n l m.2) m.1))
        (λ h. in_has c.made (tree n) (map_in tree members n (there_is n members h)))
        ∙ sym (are.listed.made built.sources n l)
        ∙ ap (λ l. is_marked (slice_get l n)) (sym by.made)

    parts : (tests_within (length these) demands.constraints.items ≡ true) × (sames_within (length these) demands.equalities.items ≡ true)
        × (numbers_within (length these) demands.impure.items ≡ true) × (nat_lt demands.result (length these) ≡ true)
    parts =
        let a = and_parts (tests_within (length these) demands.constraints.items) (sames_within (length these) demands.equalities.items && (numbers_within (length these) demands.impure.items && nat_lt demands.result (length these))) are.within in
        let b = and_parts (sames_within (length these) demands.equalities.items) (numbers_within (length these) demands.impure.items && nat_lt demands.result (length these)) a.1 in
        let e = and_parts (numbers_within (length these) demands.impure.items) (nat_lt demands.result (length these)) b.1 in
        (a.0, b.0, e.0, e.1)

    pub demand_of : Demand v w d p (specs_of specs w unknowns) c
    demand_of = record {
      types = ap type_views by.types ∙ of.types;
      args = λ n. args_there program.signatures.now p.terms of.signatures n ∙ ap (λ l. args_of (slice_get l n)) (sym by.signatures);
      results = λ n. results_there program.signatures.now p.terms of.signatures n ∙ ap (λ l. results_of (slice_get l n)) (sym by.signatures);
      models = ap type_sorts (sym by.sorts);
      constants = ap constant_views (sym by.constants);
      required = λ n. required_there specs w unknowns n ∙ ap (λ l. map (λ e. w.expr e.0) (required_of (slice_get l n))) (sym by.said);
      provided = λ n. provided_there specs w unknowns n ∙ ap (λ l. map (λ e. w.expr e.0) (provided_of (slice_get l n))) (sym by.said);
      bound = bound;
      made = made;
      term = sym by.term;
      constraints =
          ap (map (λ (e : ℕ × Constraint). (tree e.0, e.1))) (sym are.listed.constraints)
          ∙ tests_agree (length these) v.site tree agree demands.constraints.items parts.0 ∙ ap (tested_views v) (sym by.constraints);
      equalities =
          ap (map (λ (e : ℕ × ℕ). (tree e.0, tree e.1))) (sym are.listed.equalities)
          ∙ sames_agree (length these) v.site tree agree demands.equalities.items parts.1 ∙ ap (same_views v) (sym by.equalities);
      impure =
          ap (map tree) (sym are.listed.impure)
          ∙ numbers_agree (length these) v.site tree agree demands.impure.items parts.2 ∙ ap (listed_sites v) (sym by.impure);
      result = ap tree (sym are.listed.result) ∙ sym (agree demands.result (ltb-true demands.result (length these) parts.3)) ∙ ap v.site (sym by.result);
    }

    pub apart_here : AreApart v
    apart_here j k = ap₂ site_term_eq (named j) (named k) ∙ apart p t set built j k

    -- there is what the tables mean: this program, these specs and this condition
    abbrev pub meant : Meant v d
    meant = record { w = w; p = p; specs = specs_of specs w unknowns; c = c; apart = apart_here; demand = demand_of }

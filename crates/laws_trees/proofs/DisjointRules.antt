-- Built rules of a term that isn't multi are told apart by their closed demands: they never match together where they don't
-- overlap, and where one is shadowed it matches only where its mask does.
use Rattle.std.proofs.Common.{◌≡◌, ◌+◌, ◌≤◌, ℕ, List, [], length, sum_by, Option, is_some, Contains, sym, ap, subst, ◌∙◌, inl, inr, arith}
use Rattle.std.proofs.lemmas.Grind.{common_steps}
use Rattle.model.specs.rules.Values.{Value}
use Rattle.model.specs.rules.Meaning.{Meaning}
use Rattle.model.specs.rules.Matching.{matches}
use Rattle.model.specs.rules.Program.{Program, rules_of}
use Rattle.model.specs.rules.Typed.{TypedRule}
use Rattle.model.specs.rules.Picks.{picks, SitedVars, matches_under}
use Rattle.model.specs.visits.Demands.{demands_of}
use Rattle.model.specs.sites.Closure.{Closed, ClosedDemandsHold}
use Rattle.model.specs.sites.Overlap.{BuiltRule, built_rules, AreAmong}
use Rattle.model.proofs.Elements.{in_from_contains, contains_from_in}
use Rattle.laws_trees.specs.WithoutMulti.{without_sites}
use Rattle.laws_trees.proofs.picks.NoIterators.{calls_no_multi}
use Rattle.laws_trees.proofs.picks.OnePick.{bag_as_plain_lem}
use Rattle.laws_trees.proofs.picks.PlainMatching.{matches_as_plain_lem}
use Rattle.laws_sites.specs.BuiltLaws.{BuiltDemandsAreWhole}
use Rattle.laws_trees.specs.MatchLaws.{IsTried, BuiltRulesAreToldApart}
use Rattle.laws_sites.proofs.Closing.{FollowsSoFar, closed_follows}
use Rattle.laws_sites.proofs.built.BuiltGates.{was_built}
use Rattle.laws_trees.proofs.BuiltMatches.{built_demands_hold_alike_lem, built_listed}
use Rattle.laws_sites.proofs.ConstrainedOnce.{StandOnce, closed_once, all_among}
use Rattle.laws_trees.proofs.Contents.{content_of}
use Rattle.laws_trees.proofs.FormedDemands.{rule_formed}
use Rattle.laws_trees.proofs.NoMulti.{rules_without_multi_go_over_no_calls_lem}
use Rattle.laws_trees.proofs.Unreachable.{IsMetRule, shape_there, same_shape}
use Rattle.laws_trees.proofs.Visits.{given, tried, visits_match_lem}

-- 1. without calls, under the empty pick
pub still_there : (o : Option SitedVars) → is_some (without_sites o) ≡ is_some o
still_there o = grind (arith, common_steps)

pub empty_pick : (p : Program) (m : Meaning) (args : List Value) (r : TypedRule) → (demands_of p r).iterators ≡ [] → Contains (picks p m args r) []
empty_pick p m args r h = grind (arith, common_steps, bag_as_plain_lem, calls_no_multi, contains_from_in)

pub same_match : (p : Program) (m : Meaning) (args : List Value) (r : TypedRule) → (demands_of p r).iterators ≡ [] → is_some (matches_under p m [] r args) ≡ is_some (matches p m r args)
same_match p m args r h = sym (still_there (matches_under p m [] r args)) ∙ ap is_some (matches_as_plain_lem p m [] r args (calls_no_multi p r h))

-- 2. the closed demands of built rules
pub built_follows : (p : Program) (t : ℕ) (b : BuiltRule) → Contains (built_rules p t) b → FollowsSoFar (demands_of p b.rule) b.demands
built_follows p t b i =
    let w = was_built p [] (rules_of p t) b (in_from_contains (built_rules p t) b i) in
    subst (λ (x : BuiltRule). FollowsSoFar (demands_of p x.rule) x.demands) w.same (closed_follows (demands_of p w.rule) w.before)

built_once : (p : Program) (t : ℕ) (b : BuiltRule) → Contains (built_rules p t) b → StandOnce b.demands.constraints
built_once p t b i =
    let w = was_built p [] (rules_of p t) b (in_from_contains (built_rules p t) b i) in
    subst (λ (x : BuiltRule). StandOnce x.demands.constraints) w.same (closed_once w.before (demands_of p w.rule))

-- fewer demands hold too
fewer_hold : (m : Meaning) (args : List Value) (a b : Closed) → a.classes ≡ [] → AreAmong a.constraints b.constraints → ClosedDemandsHold m args [] b → ClosedDemandsHold m args [] a
fewer_hold m args a b none among h = grind (arith, common_steps, in_from_contains)

-- of closed demands without classes, as many constraints among others are all of them
among_back : (a b : Closed) → StandOnce b.constraints → a.classes ≡ [] → b.classes ≡ [] → length a.constraints + sum_by length a.classes ≤ length b.constraints + sum_by length b.classes
    → AreAmong b.constraints a.constraints → AreAmong a.constraints b.constraints
among_back a b once na nb few among s c i =
    let x : sum_by length a.classes ≡ 0 = ap (sum_by length) na in
    let y : sum_by length b.classes ≡ 0 = ap (sum_by length) nb in
    let l : length a.constraints ≤ length b.constraints = omega (arith, x, y, few) in
    contains_from_in b.constraints (s, c)
    (all_among b.constraints a.constraints once (λ w j. in_from_contains a.constraints w (among w.0 w.1 (contains_from_in b.constraints w j))) l (s, c) (in_from_contains a.constraints (s, c) i))

pub built_rules_are_told_apart_lem : BuiltDemandsAreWhole → BuiltRulesAreToldApart
built_rules_are_told_apart_lem whole p t h = record {
  overlap = λ m args typed served apart a b without no ma mb.
      (let i = without.one_of in
      let j = without.other_of in
      let na = rules_without_multi_go_over_no_calls_lem p t h without.one_result a.rule (built_listed p t a i) in
      let nb = rules_without_multi_go_over_no_calls_lem p t h without.one_result b.rule (built_listed p t b j) in
      let g = given p m args [] in
      let ta : IsTried p t m args a.rule [] = record { typed = typed; served = served; rule = built_listed p t a i; pick = empty_pick p m args a.rule na } in
      let tb : IsTried p t m args b.rule [] = record { typed = typed; served = served; rule = built_listed p t b j; pick = empty_pick p m args b.rule nb } in
      let ka = tried p t m args a.rule [] h ta in
      let kb = tried p t m args b.rule [] h tb in
      let xa = ka.matches.met (same_match p m args a.rule na ∙ ma) in
      let xb = kb.matches.met (same_match p m args b.rule nb ∙ mb) in
      let first_met : IsMetRule g (rules_of p t) a.rule = record { here = ta.rule; served = served; types = h.types; formed = rule_formed p h.parts a.rule ka.rule.formed; met = xa } in
      let second_met : IsMetRule g (rules_of p t) b.rule = record { here = tb.rule; served = served; types = h.types; formed = rule_formed p h.parts b.rule kb.rule.formed; met = xb } in
      no (λ s c d u v.
      same_shape g (rules_of p t) h.types apart (content_of g s) c d
      (shape_there g (rules_of p t) a.rule first_met apart s c ((built_follows p t a i).constraints (s, c) (in_from_contains a.demands.constraints (s, c) u)))
      (shape_there g (rules_of p t) b.rule second_met apart s d ((built_follows p t b j).constraints (s, d) (in_from_contains b.demands.constraints (s, d) v)))));
  shadow = λ m args typed served apart mask b without x mb.
      (let i = without.one_of in
      let j = without.other_of in
      let na = rules_without_multi_go_over_no_calls_lem p t h without.one_result mask.rule (built_listed p t mask i) in
      let nb = rules_without_multi_go_over_no_calls_lem p t h without.one_result b.rule (built_listed p t b j) in
      let ta : IsTried p t m args mask.rule [] = record { typed = typed; served = served; rule = built_listed p t mask i; pick = empty_pick p m args mask.rule na } in
      let tb : IsTried p t m args b.rule [] = record { typed = typed; served = served; rule = built_listed p t b j; pick = empty_pick p m args b.rule nb } in
      let va = visits_match_lem p t m args mask.rule [] h ta in
      let vb = visits_match_lem p t m args b.rule [] h tb in
      let ca = built_demands_hold_alike_lem whole p t m args mask [] h i ta in
      let cb = built_demands_hold_alike_lem whole p t m args b [] h j tb in
      let among : AreAmong mask.demands.constraints b.demands.constraints = elim x.subset.among [
        | inl k ↦ k
        | inr k ↦ among_back mask.demands b.demands (built_once p t b j) x.subset.first_has_none x.subset.second_has_none x.no_more k
      ] in
      let holds = fewer_hold m args mask.demands b.demands x.subset.first_has_none among (cb.0 (vb.matching.0 (same_match p m args b.rule nb ∙ mb))) in
      sym (same_match p m args mask.rule na) ∙ va.matching.1 (ca.1 holds));
}

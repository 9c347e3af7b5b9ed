-- What a rule without multi calls comes to, where it matches, by what its sites hold; and what a meaning that serves its term's
-- rules answers to the calls that it makes.
use Rattle.std.proofs.Common.{◌≡◌, ℕ, suc, Bool, true, false, Option, Some, List, [], is_some, take, All, Contains, flat_map, IsSomeAnd, IsTrue, sym, ap, subst, ◌∙◌, inr, arith}
use Rattle.std.proofs.lemmas.Grind.{common_steps}
use Rattle.model.specs.rules.Values.{Value, Values, args_well_typed}
use Rattle.model.specs.rules.Meaning.{Content, one, Meaning, constant_value, extractor_answer, pure_answer, impure_answer}
use Rattle.model.specs.rules.Matching.{Vars, matches}
use Rattle.model.specs.rules.RightSide.{right_side}
use Rattle.model.specs.rules.CallsNoMulti.{CallsNoMulti}
use Rattle.model.specs.rules.Program.{Program, kind, is_multi, arg_types, rules_of}
use Rattle.model.specs.rules.Typed.{TypedRule}
use Rattle.model.specs.rules.Picks.{Pick, matches_under, site_content, site_values, HasContent}
use Rattle.model.specs.sites.Sites.{Constraint, SiteTerm, prim_term, extractor_call, constructor_call, SiteTerms}
use Rattle.model.specs.sites.Closure.{DemandsHold}
use Rattle.model.specs.sites.Serves.{asked_by, asked, constant_site, constant_type, typed_as, fits_extractor, fits_constructor, Serves}
use Rattle.model.specs.visits.Demands.{Demands, demands_of, result_of, visit_rule}
use Rattle.model.proofs.CalledTerms.{calls_such}
use Rattle.model.proofs.Elements.{In, in_from_contains, contains_from_in, in_left, in_flat_map}
use Rattle.model.proofs.Members.{in_head}
use Rattle.laws_trees.proofs.picks.OnePick.{bag_as_plain_lem}
use Rattle.laws_trees.proofs.picks.PlainMatching.{matches_as_plain_lem, ends_as_plain_lem}
use Rattle.laws_trees.proofs.taking.CallsIn.{InOrder}
use Rattle.laws_trees.proofs.taking.FollowedCalls.{follow, result_after}
use Rattle.laws_trees.specs.MatchLaws.{IsTried}
use Rattle.laws_trees.proofs.DisjointRules.{still_there}
use Rattle.laws_trees.proofs.Shapes.{holds_there}
use Rattle.laws_trees.proofs.Visits.{given, tried, visits_match_lem}
use Rattle.laws_trees.proofs.outcomes.Evals.{IsServedCall, MayBeCalled}
use Rattle.laws_trees.proofs.outcomes.Outcomes.{with_its_sites}
use Rattle.laws_trees.proofs.outcomes.RightSides.{right_follows}
use Rattle.laws_typing.specs.WellTypedPrograms.{IsWellTypedProgram}
use Rattle.laws_typing.proofs.WellTypedPrograms.{pure_iflets}

-- 1. answers to the extractors and pure constructors that a rule calls fit, and the constants that it names are of their types
pub record Served (p : Program) (m : Meaning) (args : List Value) (k : Pick) (made : List SiteTerm) : Type 0 where
  pub extractors : (t : ℕ) (s : SiteTerm) (v : Value) (c : Content) → In made (extractor_call t s) → site_content m args k s ≡ Some (one v) → extractor_answer m t v ≡ Some c → fits_extractor p t (kind p t) c ≡ true
  pub prims : (name : ℕ) (v : Value) → In made (prim_term name) → constant_value m name ≡ Some v → typed_as p (constant_type p name) v ≡ true
  pub pures : (t : ℕ) (ss : SiteTerms) (vs : Values) (c : Content) → In made (constructor_call t ss 0) → site_values m args k ss ≡ Some vs → pure_answer m t vs ≡ Some c → fits_constructor p t (kind p t) c ≡ true

pub made_asked : (p : Program) (rs : List TypedRule) (r : TypedRule) (u : SiteTerm) → Contains rs r → In (demands_of p r).made u → Contains (asked p rs) u
made_asked p rs r u c i =
    contains_from_in (asked p rs) u
    (in_flat_map (λ (q : TypedRule). asked_by (demands_of p q)) rs r u (in_from_contains rs r c)
    (in_left (demands_of p r).made (flat_map (λ (x : SiteTerm × Constraint). constant_site x.1) (demands_of p r).constraints) u i))

pub served : (p : Program) (m : Meaning) (args : List Value) (k : Pick) (rs : List TypedRule) (r : TypedRule) → Serves p m args rs → Contains rs r → Served p m args k (demands_of p r).made
served p m args k rs r h c = record {
  prims = λ name v i q. holds_there (constant_value m name) (typed_as p (constant_type p name)) v q (h.prims name (made_asked p rs r (prim_term name) c i));
  extractors = λ t s v x i e q. holds_there (extractor_answer m t v) (fits_extractor p t (kind p t)) x q (h.extractors k t s v (made_asked p rs r (extractor_call t s) c i) e);
  pures = λ t ss vs x i e q. holds_there (pure_answer m t vs) (fits_constructor p t (kind p t)) x q (h.pures k t ss vs (made_asked p rs r (constructor_call t ss 0) c i) e);
}

-- so do answers to impure ones, of a rule that matches, where those before it gave something
abbrev pub AreServed : Program → Meaning → List Value → Pick → Demands → Type 0
AreServed p m args k d =
    (t n : ℕ) (ss : SiteTerms) (vs : Values) (c : Content) → In d.made (constructor_call t ss (suc n)) → All (HasContent m args k) (take n d.impure) → site_values m args k ss ≡ Some vs → impure_answer m t n ≡ Some c
    → fits_constructor p t (kind p t) c ≡ true

-- 2. a rule
module _ (p : Program) (t : ℕ) (m : Meaning) (args : List Value) (r : TypedRule) (h : IsWellTypedProgram p) (typed : args_well_typed p.types (arg_types p t) args ≡ true) (serves : Serves p m args (rules_of p t)) (listed : Contains (rules_of p t) r) (single : CallsNoMulti p r) where
  pub is_tried : IsTried p t m args r []
  is_tried = record { typed = typed; served = serves; rule = listed; pick = subst (λ l. Contains l []) (sym (bag_as_plain_lem p m args r single).0) (in_head [] []) }

  -- its demands hold, and its outcome is its impure calls in order, then its result
  pub record IsPlain (v : Vars) : Type 0 where
    pub holds : DemandsHold m args [] (demands_of p r)
    pub right : right_side p m r v ≡ result_after (site_content m args [] (result_of p r)) (follow m args [] (demands_of p r).impure [])
    pub order : InOrder (demands_of p r).made [] (demands_of p r).impure
    pub answered : Served p m args [] (demands_of p r).made
    pub impures : AreServed p m args [] (demands_of p r)

  pub holds_matches : DemandsHold m args [] (demands_of p r) → is_some (matches p m r args) ≡ true
  holds_matches a = ap is_some (sym (matches_as_plain_lem p m [] r args single)) ∙ still_there (matches_under p m [] r args) ∙ (visits_match_lem p t m args r [] h is_tried).matching.1 a

  impure_there : is_some (matches p m r args) ≡ true → (u n : ℕ) (ss : SiteTerms) (vs : Values) → In (demands_of p r).made (constructor_call u ss (suc n)) → All (HasContent m args []) (take n (demands_of p r).impure) → site_values m args [] ss ≡ Some vs
      → IsSomeAnd (impure_answer m u n) (λ c. IsTrue (fits_constructor p u (kind p u) c))
  impure_there matched u n ss vs i gave e = serves.impures [] r u n ss vs listed matched (contains_from_in (demands_of p r).made (constructor_call u ss (suc n)) i) gave e

  pub plain_outcome : (v : Vars) → matches p m r args ≡ Some v → IsPlain v
  plain_outcome v matched =
      let g = given p m args [] in
      let tr = tried p t m args r [] h is_tried in
      let ev = with_its_sites (matches_under p m [] r args) v (matches_as_plain_lem p m [] r args single ∙ matched) in
      let impures = impure_there (ap is_some matched) in
      let answers : (u : ℕ) → IsServedCall g (visit_rule p r).visit u = λ u ss n vs made gave held. (let a = some_there (impure_answer m u n) (λ c. fits_constructor p u (kind p u) c) (impures u n ss vs made gave held) in record { answer = a.0; there = a.1; right = a.2 }) in
      let f = right_follows g r tr.rule.formed (pure_iflets tr.rule) tr.typed h tr.answered
      (calls_such (λ n. is_multi p n ≡ false) (MayBeCalled g (visit_rule p r).visit) (λ n k. inr (k, answers n)) r.rhs single.right) ev.0 ev.1 in
      record {
        holds = (visits_match_lem p t m args r [] h is_tried).matching.0 (ap is_some ev.1);
        right = ap (right_side p m r) (sym ev.2) ∙ sym (ends_as_plain_lem p m [] r ev.0 single) ∙ f.right;
        order = f.order;
        answered = served p m args [] (rules_of p t) r serves listed;
        impures = λ u n ss vs c i gave e q. holds_there (impure_answer m u n) (fits_constructor p u (kind p u)) c q (impures u n ss vs i gave e);
      }
    where
      some_there : (o : Option Content) (f : Content → Bool) → IsSomeAnd o (λ c. IsTrue (f c)) → (c : Content) × (o ≡ Some c) × (f c ≡ true)
      some_there o f i = grind (arith, common_steps)

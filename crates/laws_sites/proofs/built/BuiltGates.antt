-- Rules of a built set demand the gates of the sites that they test and return.
use Rattle.std.proofs.Common.{◌≡◌, ◌⊎◌, ℕ, zero, suc, ◌==◌, ◌<◌, Bool, true, false, ◌&&◌, nat_lt, List, [], ◌∷◌, length, Option, Some, None, slice_get, Contains, IsTrue, flat_map, refl, sym, ap, ◌∙◌, subst, inl, inr, arith, eq-eqb, lt-ltb}
use Rattle.std.proofs.lemmas.Bool.{and_from}
use Rattle.std.proofs.lemmas.Grind.{common_steps}
use Rattle.model.specs.rules.Typed.{TypedRule}
use Rattle.model.specs.rules.Program.{Program, rules_of}
use Rattle.model.specs.sites.Sites.{Site, bool_site, int_site, prim_site, argument_site, extractor_site, constructor_site, iterator_site, make_variant_site, match_variant_site, make_struct_site, extract_struct_site, make_some_site, match_some_site, match_tuple_site, Constraint, is_variant, is_struct, is_present, SetRule, SiteSet, sources_of, sources_at, SiteTerm, each_term, layer, layer_at, unfold_site}
use Rattle.model.specs.visits.Demands.{demands_of, result_of}
use Rattle.model.specs.trees.Places.{is_in, below}
use Rattle.model.specs.sites.Gates.{asks_variant, asks_struct, asks_answer, gate_demanded}
use Rattle.model.specs.trees.Collects.{IsPureSite}
use Rattle.model.specs.trees.SetRuns.{IsUnwrap}
use Rattle.model.specs.sites.Closure.{IsUnreachable, closed}
use Rattle.model.specs.sites.Limits.{sites_after_rule}
use Rattle.model.specs.sites.Overlap.{BuiltRule, is_built, built_rule, built_from, built_rules}
use Rattle.model.specs.sites.RuleSets.{IsRuleOf, AreRulesOfSet, IsBuilt}
use Rattle.model.specs.claims.SetMeanings.{AreOneRule}
use Rattle.model.proofs.Elements.{In, in_from_contains, contains_from_in, none_some, some_is, in_either, in_slice, any_in, from_flat_map}
use Rattle.laws_sites.proofs.BuiltRules.{reachable}
use Rattle.model.specs.sites.DemandedGates.{AsksAnswer, GatesDemanded, AllGatesDemanded, ClosedCanBeTested, DemandsGates}
use Rattle.laws_sites.proofs.built.Unfolding.{unfolds}
use Rattle.laws_typing.specs.WellTypedPrograms.{IsWellTypedRule, IsWellTypedProgram}
use Rattle.laws_typing.proofs.WellTypedPrograms.{pure_iflets}
use Rattle.laws_sites.proofs.built.BuiltSets.{BuiltSet, RuleOfSet, of_term, typed_rule}
use Rattle.laws_sites.proofs.built.DistinctSites.{one_number}
use Rattle.laws_sites.proofs.Gates.{asking_of, gates_stay}
use Rattle.laws_sites.proofs.ClosingGates.{closing_keeps_gates_lem}
use Rattle.laws_sites.proofs.Rules.{formed_rules_demand_gates_lem}

-- 1. the rules of a set
pub rule_at : (p : Program) (sites : List Site) (bs : List BuiltRule) (rs : List SetRule) → AreRulesOfSet p sites bs rs → (r : SetRule) → In rs r → (b : BuiltRule) × In bs b × IsRuleOf p sites b r
rule_at p sites [] [] h r i = absurd i
rule_at p sites (b ∷ bs) (q ∷ rs) h r (inl e) = (b, inl refl, subst (IsRuleOf p sites b) e h.0)
rule_at p sites (b ∷ bs) (q ∷ rs) h r (inr i) = let k = rule_at p sites bs rs h.1 r i in (k.0, inr k.1, k.2)
rule_at p sites _ _ h r i = absurd h

-- each stands for a built rule
abbrev pub set_rule : (s : BuiltSet) (r : SetRule) → In s.set.rules r → RuleOfSet s
set_rule s r i =
    let a = rule_at s.program s.set.sites (built_rules s.program s.term) s.set.rules s.built.rules r i in
    record { typed = a.0; listed = a.1; rule = r; is = a.2 }

pub rule_at_place : (p : Program) (sites : List Site) (bs : List BuiltRule) (rs : List SetRule) → AreRulesOfSet p sites bs rs → (k : ℕ) (b : BuiltRule) (r : SetRule)
    → slice_get bs k ≡ Some b → slice_get rs k ≡ Some r → IsRuleOf p sites b r
rule_at_place p sites (a ∷ bs) (q ∷ rs) h (suc k) b r x y = rule_at_place p sites bs rs h.1 k b r x y
rule_at_place p sites i rs h k b r x y = grind (arith, common_steps, none_some, some_is)

-- a built rule and the rule of a set at one place
pub one_rule : (p : Program) (t : ℕ) (set : SiteSet) (b : BuiltRule) (r : SetRule) → IsBuilt p t set → AreOneRule p t set b r → IsRuleOf p set.sites b r
one_rule p t set b r h a = rule_at_place p set.sites (built_rules p t) set.rules h.rules a.place b r a.typed a.built

-- so do a built rule and a rule of the set at one place
abbrev pub stands_for : (s : BuiltSet) (b : BuiltRule) (r : SetRule) → AreOneRule s.program s.term s.set b r → RuleOfSet s
stands_for s b r same = record {
  typed = b;
  listed = in_slice (built_rules s.program s.term) same.place b same.typed;
  rule = r;
  is = rule_at_place s.program s.set.sites (built_rules s.program s.term) s.set.rules s.built.rules same.place b r same.typed same.built;
}

-- a built rule is one of these, after some sites
pub record WasBuilt (p : Program) (rs : List TypedRule) (b : BuiltRule) : Type 0 where
  pub rule : TypedRule
  pub before : List SiteTerm
  pub listed : In rs rule
  pub built : is_built p before rule ≡ true
  pub same : built_rule p before rule ≡ b

pub was_built : (p : Program) (before : List SiteTerm) (rs : List TypedRule) (b : BuiltRule) → In (built_from p before rs) b → WasBuilt p rs b
was_built p before [] b i = absurd i
was_built p before (r ∷ rs) b i = grind (arith, was_built p (sites_after_rule p before r) rs b, in_either)

-- the rules of a term are built of its typed rules
pub root_of_built : (p : Program) (t : ℕ) (b : BuiltRule) → In (built_rules p t) b → b.rule.root_term ≡ t
root_of_built p t b i =
    let w = was_built p [] (rules_of p t) b i in
    subst (λ (k : BuiltRule). k.rule.root_term ≡ t) w.same (of_term p t w.rule (contains_from_in (rules_of p t) w.rule w.listed)).1

pub typed_built : (p : Program) (t : ℕ) (b : BuiltRule) → IsWellTypedProgram p → In (built_rules p t) b → IsWellTypedRule p b.rule
typed_built p t b h i = grind (arith, common_steps, was_built p [] (rules_of p t) b i, typed_rule p t, contains_from_in (rules_of p t))

-- the gates of a built rule
pub record BuiltGates (p : Program) (b : BuiltRule) : Type 0 where
  pub tested : ClosedCanBeTested (demands_of p b.rule).iterators b.demands
  pub impure : (u : SiteTerm) → In (demands_of p b.rule).impure u → GatesDemanded false false b.demands.constraints (demands_of p b.rule).iterators u
  pub result : GatesDemanded false false b.demands.constraints (demands_of p b.rule).iterators (result_of p b.rule)

pub built_gates : (p : Program) (t : ℕ) (b : BuiltRule) → IsWellTypedProgram p → In (built_rules p t) b → BuiltGates p b
built_gates p t b h i =
    let typed = typed_rule p t w.rule h (contains_from_in (rules_of p t) w.rule w.listed) in
    subst (BuiltGates p) w.same (of w.rule w.before (formed_rules_demand_gates_lem p w.rule typed.formed (pure_iflets typed)) (reachable p w.before w.rule w.built))
  where
    w : WasBuilt p (rules_of p t) b
    w = was_built p [] (rules_of p t) b i

    of : (r : TypedRule) (before : List SiteTerm) → DemandsGates p r → (IsUnreachable (demands_of p r) → ⊥) → BuiltGates p (built_rule p before r)
    of r before g n =
        let c = closing_keeps_gates_lem before (demands_of p r) n g.tested in
        let stays = gates_stay (asking_of (demands_of p r)) (record { constraints = (closed before (demands_of p r)).constraints; calls = (demands_of p r).iterators })
        (record { constraints = λ x k. c.0 x.0 x.1 k; calls = λ x k. k }) false false in
        record {
          tested = c.1;
          impure = λ u k. stays u (g.impure u (contains_from_in (demands_of p r).impure u k));
          result = stays (result_of p r) g.result;
        }

-- 2. sites
-- the gate of a site is demanded, or it is an unwrap whose answer needn't be asked for
abbrev pub HasGate : Bool → SetRule → Option Site → Type 0
HasGate true r o = IsTrue (gate_demanded r o)
HasGate false r o = IsTrue (gate_demanded r o) ⊎ IsUnwrap o

-- the site isn't an impure call, where that matters
abbrev pub IsPureWhere : Bool → Site → Type 0
IsPureWhere true b = IsPureSite b
IsPureWhere false b = Unit {0}

-- a site whose gate is demanded
pub record IsGood (asked pure : Bool) (sites : List Site) (r : SetRule) (s : ℕ) : Type 0 where
  pub site : Site
  pub there : slice_get sites s ≡ Some site
  pub gate : HasGate asked r (Some site)
  pub pure_site : IsPureWhere pure site

gate_there : (asked : Bool) (r : SetRule) (o : Option Site) → gate_demanded r o ≡ true → HasGate asked r o
gate_there asked r o h = grind (arith, common_steps)

pub site_there : {X : Type 0} (xs : List X) (k : ℕ) → k < length xs → (x : X) × (slice_get xs k ≡ Some x)
site_there [] k l = absurd (omega arith)
site_there (x ∷ xs) zero l = (x, refl)
site_there (x ∷ xs) (suc k) l = site_there xs k (omega arith)

module _ (s : BuiltSet) (x : RuleOfSet s) (asked pure : Bool) where
  abbrev p : Program
  p = s.program

  abbrev set : SiteSet
  set = s.set

  abbrev b : BuiltRule
  b = x.typed

  abbrev r : SetRule
  r = x.rule

  abbrev q : IsRuleOf p set.sites b r
  q = x.is

  abbrev Good : SiteTerm → Type 0
  Good u = GatesDemanded asked pure b.demands.constraints (demands_of p b.rule).iterators u

  abbrev at : ℕ → SiteTerm
  at s = unfold_site set.sites s

  -- the constraint of a site stands at its number
  constrained : (s : ℕ) (c : Constraint) → s < length set.sites → Contains b.demands.constraints (at s, c) → In r.constraints (s, c)
  constrained n c l k =
      let a = q.constraints.all_asked (at n) c k in
      let m = q.constraints.asked a.0 c a.1 in
      subst (λ m. In r.constraints (m, c)) (one_number p s.term set s.built a.0 n m.0 l a.2) (in_from_contains r.constraints (a.0, c) a.1)

  gone_over : (s : ℕ) → s < length set.sites → Contains (demands_of p b.rule).iterators (at s) → is_in s r.iterators ≡ true
  gone_over n l k =
      let a = q.iterators.all_gone_over (at n) k in
      let m = q.iterators.gone_over a.0 a.1 in
      any_in (λ y. y == n) r.iterators a.0 (in_from_contains r.iterators a.0 a.1) (eq-eqb a.0 n (one_number p s.term set s.built a.0 n m.0 l a.2))

  layer_gate : (s : Site) → ((a : ℕ) → In (sources_of s) a → a < length set.sites) → Good (layer at s) → HasGate asked r (Some s)
  layer_gate (bool_site x ty) f g = gate_there asked r (Some (bool_site x ty)) refl
  layer_gate (int_site z ty) f g = gate_there asked r (Some (int_site z ty)) refl
  layer_gate (prim_site name) f g = gate_there asked r (Some (prim_site name)) refl
  layer_gate (argument_site i) f g = gate_there asked r (Some (argument_site i)) refl
  layer_gate (extractor_site term source) f g = gate_there asked r (Some (extractor_site term source)) refl
  layer_gate (constructor_site term sources instance) f g = gate_there asked r (Some (constructor_site term sources instance)) refl
  layer_gate (iterator_site source) f g = gate_there asked r (Some (iterator_site source)) (gone_over source (f source (inl refl)) g.0)
  layer_gate (make_variant_site ty variant fields) f g = gate_there asked r (Some (make_variant_site ty variant fields)) refl
  layer_gate (match_variant_site source variant field) f g =
      gate_there asked r (Some (match_variant_site source variant field))
      (any_in (asks_variant source variant field) r.constraints (source, is_variant g.0.ty variant g.0.fields)
      (constrained source (is_variant g.0.ty variant g.0.fields) (f source (inl refl)) g.0.asked)
      (and_from ((source == source) && (variant == variant)) (nat_lt field g.0.fields) (and_from (source == source) (variant == variant) (eq-eqb source source refl) (eq-eqb variant variant refl)) (lt-ltb field g.0.fields g.0.many)))
  layer_gate (make_struct_site ty fields) f g = gate_there asked r (Some (make_struct_site ty fields)) refl
  layer_gate (extract_struct_site source field) f g =
      gate_there asked r (Some (extract_struct_site source field))
      (any_in (asks_struct source field) r.constraints (source, is_struct g.0.ty g.0.fields)
      (constrained source (is_struct g.0.ty g.0.fields) (f source (inl refl)) g.0.asked)
      (and_from (source == source) (nat_lt field g.0.fields) (eq-eqb source source refl) (lt-ltb field g.0.fields g.0.many)))
  layer_gate (make_some_site source) f g = gate_there asked r (Some (make_some_site source)) refl
  layer_gate (match_some_site source) f g = by asked g.0
    where
      by : (w : Bool) → AsksAnswer w b.demands.constraints (at source) → HasGate w r (Some (match_some_site source))
      by true k = any_in (asks_answer source) r.constraints (source, is_present) (constrained source is_present (f source (inl refl)) k) (eq-eqb source source refl)
      by false k = inr tt
  layer_gate (match_tuple_site source field) f g = gate_there asked r (Some (match_tuple_site source field)) refl

  layer_pure : (s : Site) → Good (layer at s) → IsPureWhere pure s
  layer_pure s g = grind (arith, common_steps)

  each_good : (ss : List ℕ) → AllGatesDemanded asked pure b.demands.constraints (demands_of p b.rule).iterators (each_term at ss) → (a : ℕ) → In ss a → Good (at a)
  each_good [] g a i = absurd i
  each_good (s ∷ ss) g a (inl e) = subst (λ n. Good (at n)) e g.0
  each_good (s ∷ ss) g a (inr i) = each_good ss g.1 a i

  only : (s a : ℕ) → Good (at s) → In (s ∷ []) a → Good (at a)
  only s a g h = grind (arith, common_steps)

  layer_sources : (s : Site) → Good (layer at s) → (a : ℕ) → In (sources_of s) a → Good (at a)
  layer_sources (extractor_site term source) g a i = only source a g i
  layer_sources (constructor_site term sources n) g a i = each_good sources g.1 a i
  layer_sources (iterator_site source) g a i = only source a g.1 i
  layer_sources (make_variant_site ty variant fields) g a i = each_good fields g a i
  layer_sources (match_variant_site source variant field) g a i = only source a g.1 i
  layer_sources (make_struct_site ty fields) g a i = each_good fields g a i
  layer_sources (extract_struct_site source field) g a i = only source a g.1 i
  layer_sources (make_some_site source) g a i = only source a g i
  layer_sources (match_some_site source) g a i = only source a g.1 i
  layer_sources (match_tuple_site source field) g a i = only source a g i
  layer_sources _ g a i = absurd i

  -- a site, and all below it
  pub below_good : (n a : ℕ) → a < length set.sites → Good (at a) → (u : ℕ) → In (below n set.sites a) u → IsGood asked pure set.sites r u
  below_good zero a l g u i = absurd i
  below_good (suc n) a l g u i = by (below_good n) i
    where
      here : (y : Site) × (slice_get set.sites a ≡ Some y)
      here = site_there set.sites a l

      layered : Good (layer at here.0)
      layered = subst Good (unfolds set.sites s.built.sources a ∙ ap (layer_at at) here.1) g

      listed : (c : ℕ) → In (sources_of here.0) c → In (sources_at set.sites a) c
      listed c j = subst (λ (o : Option Site). In (elim o as (λ _. List ℕ) [ None ↦ [] | Some k ↦ sources_of k ]) c) (sym here.1) j

      unlisted : (c : ℕ) → In (sources_at set.sites a) c → In (sources_of here.0) c
      unlisted c j = subst (λ (o : Option Site). In (elim o as (λ _. List ℕ) [ None ↦ [] | Some k ↦ sources_of k ]) c) here.1 j

      known : (c : ℕ) → In (sources_at set.sites a) c → c < length set.sites
      known c j = let k : c < a = s.built.sources a c (contains_from_in (sources_at set.sites a) c j) in omega (arith, k, l)

      by : ((c : ℕ) → c < length set.sites → Good (at c) → (w : ℕ) → In (below n set.sites c) w → IsGood asked pure set.sites r w) → In (a ∷ flat_map (below n set.sites) (sources_at set.sites a)) u → IsGood asked pure set.sites r u
      by deeper (inl e) = subst (IsGood asked pure set.sites r) e (record { site = here.0; there = here.1; gate = layer_gate here.0 (λ c j. known c (listed c j)) layered; pure_site = layer_pure here.0 layered })
      by deeper (inr j) =
          let m = from_flat_map (below n set.sites) (sources_at set.sites a) u j in
          deeper m.0 (known m.0 m.1) (layer_sources here.0 layered m.0 (unlisted m.0 m.1)) u m.2

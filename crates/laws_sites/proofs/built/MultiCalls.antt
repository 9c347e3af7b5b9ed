-- A visit goes over calls of multi terms, and constrains no such call, nor does the closing of its demands.
use Rattle.std.proofs.Common.{◌≡◌, ℕ, Bool, true, false, List, [], ◌∷◌, Contains, sym, ap, subst, inr, ◌∙◌, arith}
use Rattle.std.proofs.lemmas.Bool.{false≢true}
use Rattle.std.proofs.lemmas.Grind.{common_steps}
use Rattle.model.specs.lists.Tables.{Flags}
use Rattle.model.specs.rules.Program.{Program, a_call, kind, flags_of, is_multi, rules_of}
use Rattle.model.specs.sites.Sites.{Constraint, is_present, SiteTerm, SiteTerms, unfold_site, field_terms}
use Rattle.model.specs.sites.Overlap.{BuiltRule, built_rule}
use Rattle.model.specs.sites.RuleSets.{IsRuleOf}
use Rattle.model.specs.rules.Typed.{TypedRule}
use Rattle.model.specs.visits.Demands.{Demands, demands_of, Visit, making, asking, equating, calling, unwraps, unwraps_all, asking_all, counting}
use Rattle.model.specs.sites.Closure.{Joined, given, itself, turned, chained, at_field, closed}
use Rattle.model.proofs.Elements.{In, in_from_contains, in_either, in_slice}
use Rattle.laws_sites.specs.GateLaws.{NoRuleAsksAndGoesOver}
use Rattle.laws_sites.proofs.built.BuiltGates.{set_rule, was_built}
use Rattle.laws_sites.proofs.Closing.{closing_is_sound_lem}
use Rattle.model.specs.sites.DemandedGates.{IsMultiCall, HasNoPartialMulti, GoesOverMultiCalls}
use Rattle.laws_sites.proofs.Patterns.{by_field}
use Rattle.laws_sites.proofs.WithSites.{by_leaf, by_equating, Onward, AtEach, KeptWithSites, unwrapped_at_each, rule_given}

module _ (p : Program) (neither : HasNoPartialMulti p) where
  -- no multi call
  abbrev IsOther : SiteTerm → Type 0
  IsOther u = IsMultiCall p u → ⊥

  -- nor is any call that it unwraps
  abbrev IsPlain : SiteTerm → Type 0
  IsPlain u = IsOther u × ((s : SiteTerm) → In (unwraps u) s → IsOther s)

  -- where a visit stands
  record MultiCallsApart (d : Demands) : Type 0 where
    asked : (e : SiteTerm × Constraint) → In d.constraints e → IsOther e.0
    equal : (e : SiteTerm × SiteTerm) → In d.equalities e → IsOther e.0 × IsOther e.1
    calls : (u : SiteTerm) → In d.iterators u → IsMultiCall p u

  -- what a site is doesn't change
  abbrev StaysPlain : Demands → SiteTerm → Type 0
  StaysPlain d u = IsPlain u

  abbrev OnwardApart : Demands → Demands → Type 0
  OnwardApart = Onward MultiCallsApart StaysPlain

  onward : (d e : Demands) → MultiCallsApart e → OnwardApart d e
  onward d e h = record { holds = h; stays = λ s o. o }

  after_asking_all : (ss : List SiteTerm) (v : Visit) → MultiCallsApart v.demands → ((s : SiteTerm) → In ss s → IsOther s) → MultiCallsApart (asking_all ss v).demands
  after_asking_all [] v h f = h
  after_asking_all (s ∷ ss) v h f = after_asking_all ss (asking s is_present v) (grind (arith, common_steps, in_either)) (λ t i. f t (inr i))

  -- none of these unwraps a multi call, nor does the answer of another call
  all_unwrapped : (d : Demands) (us : SiteTerms) → AtEach MultiCallsApart StaysPlain d us → (s : SiteTerm) → In (unwraps_all us) s → IsOther s
  all_unwrapped d = unwrapped_at_each MultiCallsApart StaysPlain IsOther d (λ u m. m.1)

  not_multi : (t : ℕ) (flags : Flags) (infallible : Bool) → kind p t ≡ a_call flags infallible → flags.multi ≡ false → is_multi p t ≡ true → ⊥
  not_multi t flags infallible e f m = false≢true (sym ((ap (λ k. (flags_of k).multi) e) ∙ f) ∙ m)

  apart_kept : KeptWithSites MultiCallsApart StaysPlain p
  apart_kept = record {
    unbound = λ d. (λ m. m, λ s i. absurd i);
    leaf = λ d s l n. by_leaf IsPlain (λ i. (λ m. m, λ s k. absurd k)) (λ b ty. (λ m. m, λ s k. absurd k)) (λ z ty. (λ m. m, λ s k. absurd k)) (λ name. (λ m. m, λ s k. absurd k)) s l;
    variant = λ d ty variant us n m. (λ k. k, all_unwrapped d us m);
    struct = λ d ty us n m. (λ k. k, all_unwrapped d us m);
    result = λ d s n m. (λ k. k, m.1);
    tuple = λ d s i n m. (λ k. k, m.1);
    field = λ d c s x n a i m. by_field IsPlain s (λ variant j. (λ k. k, m.1)) (λ j. (λ k. k, m.1)) c x i;
    extracted = λ d t s flags e f n m. (not_multi t flags true e f, m.1);
    answer = grind (arith, common_steps, all_unwrapped);
    pick = λ d t i us c n m. (λ k. k, all_unwrapped d us m);
    call = λ d t i us flags b e f g n m. (not_multi t flags b e g, all_unwrapped d us m);
    counts = λ c v h. onward v.demands (counting c v).demands (record { asked = h.asked; equal = h.equal; calls = h.calls });
    makes = λ ts v h. onward v.demands (making ts v).demands (record { asked = h.asked; equal = h.equal; calls = h.calls });
    calls = λ s v h m. onward v.demands (calling s v).demands (record { asked = h.asked; equal = h.equal; calls = h.calls });
    equates = λ a b v h m n. onward v.demands (equating a b v).demands (by_equating (λ w. MultiCallsApart w.demands) a b v h (grind (arith, common_steps, in_either)));
    asks = λ s c v f h m. onward v.demands (asking s c v).demands (grind (arith, common_steps, in_either));
    asks_all = λ s v h m. onward v.demands (asking_all (unwraps s) v).demands (after_asking_all (unwraps s) v h m.1);
    asks_call = grind (arith, common_steps, not_multi, onward, in_either);
    iterates_extractor = grind (arith, common_steps, onward, in_either);
    iterates_constructor = grind (arith, common_steps, onward, in_either);
  }

  rule_apart : (r : TypedRule) → MultiCallsApart (demands_of p r)
  rule_apart r = (rule_given p MultiCallsApart StaysPlain apart_kept r (record { asked = λ e i. absurd i; equal = λ e i. absurd i; calls = λ u i. absurd i })).0

  -- fields are no calls
  field_other : (c : Constraint) (s u : SiteTerm) → In (field_terms c s) u → IsOther u
  field_other c s = by_field IsOther s (λ variant i. λ m. m) (λ i. λ m. m) c

  -- what must equal what is no multi call is none
  joined_other : (r : TypedRule) {a b : SiteTerm} → Joined (demands_of p r) a b → (IsOther a → IsOther b) × (IsOther b → IsOther a)
  joined_other r (given {a = a} {b = b} c) = let k = (rule_apart r).equal (a, b) (in_from_contains (demands_of p r).equalities (a, b) c) in (λ h. k.1, λ h. k.0)
  joined_other r itself = (λ h. h, λ h. h)
  joined_other r (turned j) = let k = joined_other r j in (k.1, k.0)
  joined_other r (chained j l) = let k = joined_other r j in let m = joined_other r l in (λ h. m.0 (k.0 h), λ h. k.1 (m.1 h))
  joined_other r (at_field {a = a} {b = b} {x = x} {y = y} {k = k} i j l c e f) =
      (λ h. field_other k b y (in_slice (field_terms k b) i y f), λ h. field_other k a x (in_slice (field_terms k a) i x e))

pub none_asked_and_gone_over_lem : (p : Program) (r : TypedRule) (before : List SiteTerm) → HasNoPartialMulti p
    → (u : SiteTerm) (c : Constraint) → Contains (closed before (demands_of p r)).constraints (u, c) → Contains (demands_of p r).iterators u → ⊥
none_asked_and_gone_over_lem p r before n u c i j =
    let h = (closing_is_sound_lem before (demands_of p r)).constraints u c i in
    let a = (rule_apart p n r).asked (h.source, c) (in_from_contains (demands_of p r).constraints (h.source, c) h.asked) in
    (joined_other p n r h.joined).0 a ((rule_apart p n r).calls u (in_from_contains (demands_of p r).iterators u j))

pub multi_calls_are_gone_over_lem : (p : Program) (r : TypedRule) → HasNoPartialMulti p → GoesOverMultiCalls p (demands_of p r)
multi_calls_are_gone_over_lem p r n = record {
  calls = λ u i. (rule_apart p n r).calls u (in_from_contains (demands_of p r).iterators u i);
  asked = λ u c i. (rule_apart p n r).asked (u, c) (in_from_contains (demands_of p r).constraints (u, c) i);
  equal = λ u w i. (rule_apart p n r).equal (u, w) (in_from_contains (demands_of p r).equalities (u, w) i);
}

pub no_rule_asks_and_goes_over_lem : NoRuleAsksAndGoesOver
no_rule_asks_and_goes_over_lem p t set h b r i n c k j =
    let x = set_rule (record { program = p; term = t; set = set; built = b }) r (in_from_contains set.rules r i) in
    let w = was_built p [] (rules_of p t) x.typed x.listed in
    let q : IsRuleOf p set.sites (built_rule p w.before w.rule) r = subst (λ (y : BuiltRule). IsRuleOf p set.sites y r) (sym w.same) x.is in
    none_asked_and_gone_over_lem p w.rule w.before h.not_both (unfold_site set.sites n) c (q.constraints.asked n c k).1 (q.iterators.gone_over n j).1

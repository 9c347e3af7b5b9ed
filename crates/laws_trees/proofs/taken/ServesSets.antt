-- A meaning that serves the rules of a term has what collecting from the built set rests on, where no rule of the set makes an
-- impure call.
use Rattle.std.proofs.Common.{◌≡◌, ◌⊎◌, ℕ, zero, suc, Bool, true, List, [], map, Some, Contains, refl, sym, ap, ◌∙◌, inl, inr, arith}
use Rattle.std.proofs.lemmas.List.Elements.{All-contains}
use Rattle.std.proofs.lemmas.Grind.{common_steps}
use Rattle.model.specs.rules.Values.{Value}
use Rattle.model.specs.rules.Meaning.{Content, many, Contents, Meaning, extractor_answer, pure_answer}
use Rattle.model.specs.rules.Outcome.{then_option}
use Rattle.model.specs.rules.Program.{Program, Kind, kind, flags_of, rules_of}
use Rattle.model.specs.rules.Picks.{Pick, call_answer, site_content, site_values}
use Rattle.model.specs.rules.Typed.{TypedRule}
use Rattle.model.specs.sites.Sites.{SetRule, SiteSet, SiteTerm, extractor_call, constructor_call, unfold_site}
use Rattle.model.specs.visits.Demands.{demands_of}
use Rattle.model.specs.sites.DemandedGates.{IsMultiCall}
use Rattle.model.specs.sites.Serves.{asked, fits_answer, fits_extractor, fits_constructor, Serves}
use Rattle.model.specs.trees.Run.{as_value, world_of}
use Rattle.model.specs.trees.Collects.{content_at}
use Rattle.model.proofs.Elements.{in_from_contains}
use Rattle.model.proofs.Options.{then_some as from_then}
use Rattle.laws_typing.specs.WellTypedPrograms.{IsWellTypedProgram}
use Rattle.laws_trees.specs.ServeLaws.{ServedMultiSetsServe}
use Rattle.laws_sites.proofs.built.MultiCalls.{multi_calls_are_gone_over_lem}
use Rattle.laws_sites.proofs.built.BuiltGates.{set_rule}
use Rattle.laws_sites.proofs.built.BuiltSets.{BuiltSet, ServingMeaning}
use Rattle.laws_trees.proofs.Contents.{is_value}
use Rattle.laws_trees.proofs.taken.BuiltSites.{sites_stand}
use Rattle.laws_trees.proofs.taken.Fits.{IsField}
use Rattle.laws_trees.proofs.taken.ServesRuns.{is_asked, fields_counted, one_constraint, equal_value, found_there}
use Rattle.laws_sites.proofs.PureCalls.{IsNoImpureCall, rule_goes_over_none}
use Rattle.laws_trees.proofs.Shapes.{holds_there}

-- 1. multi calls
many_fit : (p : Program) (multi optional : Bool) (tys : List ℕ) (c : Content) → multi ≡ true → fits_answer p multi optional tys c ≡ true → (cs : Contents) × (c ≡ many cs)
many_fit p multi optional tys c e h = grind (arith, common_steps)

extractor_lists : (p : Program) (t : ℕ) (k : Kind) (c : Content) → (flags_of k).multi ≡ true → fits_extractor p t k c ≡ true → (cs : Contents) × (c ≡ many cs)
extractor_lists p t k c e h = grind (arith, common_steps, many_fit)

constructor_lists : (p : Program) (t : ℕ) (k : Kind) (c : Content) → (flags_of k).multi ≡ true → fits_constructor p t k c ≡ true → (cs : Contents) × (c ≡ many cs)
constructor_lists p t k c e h = grind (arith, common_steps, many_fit)

-- 2. built sets
module _ (b : BuiltSet) (h : IsWellTypedProgram b.program) (serving : ServingMeaning b.program b.term) (k : Pick) where
  abbrev p : Program
  p = b.program

  abbrev set : SiteSet
  set = b.set

  abbrev m : Meaning
  m = serving.meaning

  abbrev args : List Value
  args = serving.args

  abbrev rs : List TypedRule
  rs = rules_of p b.term

  abbrev served : Serves p m args rs
  served = serving.serves

  -- a multi call that isn't impure answers a list
  lists_here : (u : SiteTerm) → IsMultiCall p u → IsNoImpureCall u → Contains (asked p rs) u ⊎ IsField u → (c : Content) → site_content m args k u ≡ Some c → (cs : Contents) × (c ≡ many cs)
  lists_here (extractor_call t' x) multi pure (inr f) c q = absurd f
  lists_here (extractor_call t' x) multi pure (inl ask) c q =
      let a = from_then (then_option (site_content m args k x) as_value) (extractor_answer m t') c q in
      extractor_lists p t' (kind p t') c multi (holds_there (extractor_answer m t' a.0) (fits_extractor p t' (kind p t')) c a.2 (served.extractors k t' x a.0 ask (is_value (site_content m args k x) a.0 a.1)))
  lists_here (constructor_call t' ss i) multi pure (inr f) c q = absurd f
  lists_here (constructor_call t' ss (suc i)) multi pure (inl ask) c q = absurd pure
  lists_here (constructor_call t' ss zero) multi pure (inl ask) c q =
      let a = from_then (site_values m args k ss) (call_answer m t' 0) c q in
      constructor_lists p t' (kind p t') c multi (holds_there (pure_answer m t' a.0) (fits_constructor p t' (kind p t')) c a.2 (served.pures k t' ss a.0 ask a.1))
  lists_here _ multi pure ask c q = absurd multi

  a_list : (r : SetRule) → Contains set.rules r → r.impure ≡ [] → (s : ℕ) (c : Content) → Contains r.iterators s → content_at (world_of p b.term set.sites m args) k s ≡ Some c → (cs : Contents) × (c ≡ many cs)
  a_list r i quiet s c j q =
      let o = set_rule b r (in_from_contains set.rules r i) in
      let g = o.is.iterators.gone_over s j in
      let none : (demands_of p o.typed.rule).impure ≡ [] = sym o.is.impure.1 ∙ ap (map (unfold_site set.sites)) quiet in
      let multi = (multi_calls_are_gone_over_lem p o.typed.rule h.not_both).calls (unfold_site set.sites s) g.1 in
      let pure = rule_goes_over_none p o.typed.rule none (unfold_site set.sites s) (in_from_contains (demands_of p o.typed.rule).iterators (unfold_site set.sites s) g.1) in
      lists_here (unfold_site set.sites s) multi pure (sites_stand b h s g.0).asks c q

pub served_multi_sets_serve_lem : ServedMultiSetsServe
served_multi_sets_serve_lem p t set h built quiet m args typed served apart = record {
  sites = refl;
  found = found_there b h serving;
  lists = λ k r s c i j q. a_list b h serving k r i (All-contains (λ x. x.impure ≡ []) set.rules r quiet i) s c j q;
  values = λ k r a c x i j z. equal_value b h serving k r i a c j x z;
  fields = λ k r s d c cs i j x y. fields_counted b h serving k s d (is_asked b h serving k r i s d j) c cs x y;
  apart = λ k r q s d f i j x y u v. one_constraint b h serving k s d f (is_asked b h serving k r i s d x) (is_asked b h serving k q j s f y) u v;
}
  where
    b : BuiltSet
    b = record { program = p; term = t; set = set; built = built }

    serving : ServingMeaning p t
    serving = record { meaning = m; args = args; typed = typed; serves = served; apart = apart }

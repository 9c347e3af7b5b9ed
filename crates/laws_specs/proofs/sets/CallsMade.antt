-- The calls and the named constants at and below what a rule demands, calls impurely or gives are made by its visit.
use Rattle.std.proofs.Common.{◌≡◌, true, false, List, [], ◌∷◌, refl, subst, inl, inr, arith}
use Rattle.std.proofs.lemmas.Grind.{common_steps}
use Rattle.model.specs.rules.Program.{Program}
use Rattle.model.specs.rules.Typed.{TypedRule}
use Rattle.model.specs.sites.Sites.{Constraint, SiteTerm, bool_term, int_term, prim_term, argument, extractor_call, constructor_call, pick_of, variant_made, variant_field, struct_made, struct_field, some_made, some_part, tuple_part, no_site, SiteTerms, no_site_term, site_term_and}
use Rattle.model.specs.visits.Demands.{Demands, demands_of, result_of, Visit, asking, iterating, unwraps, unwraps_all, asking_all}
use Rattle.model.specs.sites.DemandedGates.{GatesDemanded, AllGatesDemanded}
use Rattle.model.proofs.Elements.{In, in_left, in_either}
use Rattle.laws_sites.proofs.Patterns.{by_field}
use Rattle.laws_sites.proofs.WithSites.{by_leaf, by_equating, Onward, AtEach, KeptWithSites, no_step, then_onward, rule_given}
use Rattle.laws_specs.specs.Conditions.{is_impure_call}

-- 1. the calls and the named constants at and below a site
abbrev mutual
  pub CallsAre : (SiteTerm → Type 0) → SiteTerm → Type 0
  CallsAre P (bool_term b ty) = Unit {0}
  CallsAre P (int_term z ty) = Unit {0}
  CallsAre P (prim_term name) = P (prim_term name)
  CallsAre P (argument i) = Unit {0}
  CallsAre P (extractor_call t a) = P (extractor_call t a) × CallsAre P a
  CallsAre P (constructor_call t args i) = P (constructor_call t args i) × AllCallsAre P args
  CallsAre P (pick_of a) = CallsAre P a
  CallsAre P (variant_made ty variant fields) = AllCallsAre P fields
  CallsAre P (variant_field a variant i) = CallsAre P a
  CallsAre P (struct_made ty fields) = AllCallsAre P fields
  CallsAre P (struct_field a i) = CallsAre P a
  CallsAre P (some_made a) = CallsAre P a
  CallsAre P (some_part a) = CallsAre P a
  CallsAre P (tuple_part a i) = CallsAre P a
  CallsAre P no_site = Unit {0}

  pub AllCallsAre : (SiteTerm → Type 0) → SiteTerms → Type 0
  AllCallsAre P no_site_term = Unit {0}
  AllCallsAre P (site_term_and a rest) = CallsAre P a × AllCallsAre P rest

module _ (P Q : SiteTerm → Type 0) (more : (s : SiteTerm) → P s → Q s) where
  mutual
    calls_weaken : (s : SiteTerm) → CallsAre P s → CallsAre Q s
    calls_weaken (extractor_call t a) h = (more (extractor_call t a) h.0, calls_weaken a h.1)
    calls_weaken (constructor_call t args i) h = (more (constructor_call t args i) h.0, all_weaken args h.1)
    calls_weaken (pick_of a) h = calls_weaken a h
    calls_weaken (variant_made ty variant fields) h = all_weaken fields h
    calls_weaken (variant_field a variant i) h = calls_weaken a h
    calls_weaken (struct_made ty fields) h = all_weaken fields h
    calls_weaken (struct_field a i) h = calls_weaken a h
    calls_weaken (some_made a) h = calls_weaken a h
    calls_weaken (some_part a) h = calls_weaken a h
    calls_weaken (tuple_part a i) h = calls_weaken a h
    calls_weaken s h = grind (arith, common_steps)

    all_weaken : (ss : SiteTerms) → AllCallsAre P ss → AllCallsAre Q ss
    all_weaken no_site_term h = tt
    all_weaken (site_term_and a rest) h = (calls_weaken a h.0, all_weaken rest h.1)

-- those below a site that may be tested are pure
module _ (P : SiteTerm → Type 0) (cs : List (SiteTerm × Constraint)) (calls : List SiteTerm) where
  abbrev pub IsPure : SiteTerm → Type 0
  IsPure u = P u × (is_impure_call u ≡ false)

  mutual
    pub calls_pure : (s : SiteTerm) → GatesDemanded true true cs calls s → CallsAre P s → CallsAre IsPure s
    calls_pure (extractor_call t a) g h = ((h.0, refl), calls_pure a g h.1)
    calls_pure (constructor_call t args i) g h = grind (arith, all_pure args g.1 h.1)
    calls_pure (pick_of a) g h = calls_pure a g.1 h
    calls_pure (variant_made ty variant fields) g h = all_pure fields g h
    calls_pure (variant_field a variant i) g h = calls_pure a g.1 h
    calls_pure (struct_made ty fields) g h = all_pure fields g h
    calls_pure (struct_field a i) g h = calls_pure a g.1 h
    calls_pure (some_made a) g h = calls_pure a g h
    calls_pure (some_part a) g h = calls_pure a g.1 h
    calls_pure (tuple_part a i) g h = calls_pure a g h
    calls_pure s g h = grind (arith, common_steps)

    all_pure : (ss : SiteTerms) → AllGatesDemanded true true cs calls ss → AllCallsAre P ss → AllCallsAre IsPure ss
    all_pure no_site_term g h = tt
    all_pure (site_term_and a rest) g h = (calls_pure a g.0 h.0, all_pure rest g.1 h.1)

-- 2. the visit of a rule
abbrev pub IsMadeBy : Demands → SiteTerm → Type 0
IsMadeBy d u = In d.made u

-- all calls at and below a site are made
abbrev pub AreMadeBelow : Demands → SiteTerm → Type 0
AreMadeBelow d s = CallsAre (IsMadeBy d) s

-- those of what is asked, of what is equated, and of impure calls
pub record MakesCalls (d : Demands) : Type 0 where
  pub asked : (e : SiteTerm × Constraint) → In d.constraints e → AreMadeBelow d e.0
  pub equal : (e : SiteTerm × SiteTerm) → In d.equalities e → AreMadeBelow d e.0 × AreMadeBelow d e.1
  pub impure : (u : SiteTerm) → In d.impure u → AreMadeBelow d u

abbrev OnwardMade : Demands → Demands → Type 0
OnwardMade = Onward MakesCalls AreMadeBelow

asking_on : (s : SiteTerm) (c : Constraint) (v : Visit) → AreMadeBelow v.demands s → MakesCalls v.demands → OnwardMade v.demands (asking s c v).demands
asking_on s c v m h = grind (arith, common_steps, in_either)

asking_all_on : (ss : List SiteTerm) (v : Visit) → ((s : SiteTerm) → In ss s → AreMadeBelow v.demands s) → MakesCalls v.demands → OnwardMade v.demands (asking_all ss v).demands
asking_all_on [] v f h = no_step MakesCalls AreMadeBelow v.demands h
asking_all_on (s ∷ ss) v f h = grind (arith, common_steps, asking_all_on ss, asking_on, then_onward)

iterating_on : (s : SiteTerm) (v : Visit) → MakesCalls v.demands → OnwardMade v.demands (iterating s v).demands
iterating_on s v h = record { holds = record { asked = h.asked; equal = h.equal; impure = h.impure }; stays = λ u k. k }

each_made : (d : Demands) (ss : SiteTerms) → AtEach MakesCalls AreMadeBelow d ss → AllCallsAre (IsMadeBy d) ss
each_made d no_site_term h = tt
each_made d (site_term_and s ss) h = (h.0, each_made d ss h.1)

-- what a site unwraps is below it
mutual
  unwrapped_made : (P : SiteTerm → Type 0) (s : SiteTerm) → CallsAre P s → (u : SiteTerm) → In (unwraps s) u → CallsAre P u
  unwrapped_made P (extractor_call t a) h u i = unwrapped_made P a h.1 u i
  unwrapped_made P (constructor_call t args n) h u i = all_unwrapped_made P args h.1 u i
  unwrapped_made P (pick_of a) h u i = unwrapped_made P a h u i
  unwrapped_made P (variant_made ty variant fields) h u i = all_unwrapped_made P fields h u i
  unwrapped_made P (variant_field a variant n) h u i = unwrapped_made P a h u i
  unwrapped_made P (struct_made ty fields) h u i = all_unwrapped_made P fields h u i
  unwrapped_made P (struct_field a n) h u i = unwrapped_made P a h u i
  unwrapped_made P (some_made a) h u i = unwrapped_made P a h u i
  unwrapped_made P (some_part a) h u i = elim i [ inl q ↦ subst (CallsAre P) q h | inr j ↦ unwrapped_made P a h u j ]
  unwrapped_made P (tuple_part a n) h u i = unwrapped_made P a h u i
  unwrapped_made P s h u i = grind (arith, common_steps)

  all_unwrapped_made : (P : SiteTerm → Type 0) (ss : SiteTerms) → AllCallsAre P ss → (u : SiteTerm) → In (unwraps_all ss) u → CallsAre P u
  all_unwrapped_made P (site_term_and a rest) h u i = grind (arith, common_steps, unwrapped_made P a h.0 u, all_unwrapped_made P rest h.1 u, in_either)
  all_unwrapped_made P no_site_term h u i = absurd i

calls_kept : (p : Program) → KeptWithSites MakesCalls AreMadeBelow p
calls_kept p = record {
  unbound = λ d. tt;
  leaf = λ d s l n. by_leaf (λ u. In d.made u → AreMadeBelow d u) (λ i m. tt) (λ b ty m. tt) (λ z ty m. tt) (λ name m. m) s l n;
  variant = λ d ty variant ss n m. each_made d ss m;
  struct = λ d ty ss n m. each_made d ss m;
  result = λ d s n m. m;
  tuple = λ d s i n m. m;
  field = λ d c s x n a i m. by_field (AreMadeBelow d) s (λ variant j. m) (λ j. m) c x i;
  extracted = λ d t s flags e f n m. (n, m);
  answer = λ d t i ss flags b e f c n m. (c, each_made d ss m);
  pick = λ d t i ss c n m. (c, each_made d ss m);
  call = λ d t i ss flags b e f g n m. (n, each_made d ss m);
  counts = λ c v h. record { holds = record { asked = h.asked; equal = h.equal; impure = h.impure }; stays = λ s m. m };
  makes = grind (arith, calls_weaken, in_left);
  calls = λ s v h m. grind (arith, common_steps, in_either);
  equates = λ a b v h m n. by_equating (λ w. OnwardMade v.demands w.demands) a b v (no_step MakesCalls AreMadeBelow v.demands h) (grind (arith, in_either));
  asks = λ s c v f h m. asking_on s c v m h;
  asks_all = λ s v h m. asking_all_on (unwraps s) v (unwrapped_made (IsMadeBy v.demands) s m) h;
  asks_call = grind (arith, common_steps, asking_on);
  iterates_extractor = grind (arith, common_steps, iterating_on);
  iterates_constructor = λ t i ss v flags b e f n m h. iterating_on (constructor_call t ss i) v h;
}

pub rule_makes_calls : (p : Program) (r : TypedRule) → MakesCalls (demands_of p r) × AreMadeBelow (demands_of p r) (result_of p r)
rule_makes_calls p r = rule_given p MakesCalls AreMadeBelow (calls_kept p) r (record { asked = λ e i. absurd i; equal = λ e i. absurd i; impure = λ u i. absurd i })

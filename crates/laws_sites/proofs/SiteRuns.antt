-- The run of the visitor of sites gives what the functions of the visit compute: it follows itself, whatever variables it has.
use Rattle.std.proofs.Common.{◌≡◌, ℕ, List, [], ◌∷◌, length, None, Result, Ok, refl, sym, ap₂, subst, arith}
use Rattle.std.specs.List.{AllZip}
use Rattle.std.proofs.lemmas.Grind.{common_steps}
use Rattle.model.specs.sites.Sites.{Constraint, is_present, SiteTerm, SiteTerms, site_term_and, is_bool, is_int, is_prim, is_variant, is_struct}
use Rattle.model.specs.visits.Demands.{Visit, visit_start, asking, asking_all, Opened, Valued, fields_opened}
use Rattle.model.specs.visits.Runs.{done}
use Rattle.model.specs.visits.SiteVisitor.{extractor_opened, sites_of_inputs, site_patterns, site_exprs, site_rules}
use Rattle.model.proofs.Elements.{none_some}
use Rattle.laws_sites.specs.Followers.{Follower, GoesOn, GivesParts, Gives, NameInputs, FollowsSites, FollowsPatterns, FollowsExprs, SiteRunsVisit}
use Rattle.laws_sites.proofs.FollowedRules.{visits_follow_lem}

-- 1. visits that are alike but for their variables
abbrev Alike : Visit → Visit → Type 0
Alike s v = (s.demands ≡ v.demands) × (s.impure_calls ≡ v.impure_calls)

abbrev with_vars : List (ℕ × SiteTerm) → Visit → Visit
with_vars xs v = record { vars = xs; impure_calls = v.impure_calls; demands = v.demands }

-- what no variables change
by_vars : (P : Visit → Type 0) (s v : Visit) → Alike s v → P (with_vars s.vars v) → P s
by_vars P s v h k = grind (arith, common_steps)

-- what a term's pattern is opened to, and values
abbrev AlikeOpened : Opened → Opened → Type 0
AlikeOpened a b = (a.inputs ≡ b.inputs) × Alike a.visit b.visit

abbrev AlikeValued : Valued → Valued → Type 0
AlikeValued a b = (a.site ≡ b.site) × Alike a.visit b.visit

asking_alike : (us : List SiteTerm) (s v : Visit) → Alike s v → Alike (asking_all us s) (asking_all us v)
asking_alike [] s v h = h
asking_alike (u ∷ us) s v h = asking_alike us (asking u is_present s) (asking u is_present v) (by_vars (λ z. Alike (asking u is_present z) (asking u is_present v)) s v h (refl, refl))

-- 2. the visitor of sites as a follower: its state stands where a visit does but for variables, its ids are sites, and it
-- never ends on the way
abbrev pub site_follower : Follower ⊥ Visit SiteTerm
site_follower = record { Stands = Alike; Names = λ s u n. n ≡ u; Ends = λ s v e. ⊥ }

-- 3. its steps follow themselves
zip_same : (us : List SiteTerm) → AllZip (λ u n. n ≡ u) us us
zip_same [] = tt
zip_same (u ∷ us) = (refl, zip_same us)

module _ (s t : Visit) where
  opens : (a b : Opened) (r : Result (List SiteTerm) ⊥) → AlikeOpened a b → done a.inputs a.visit r t → GivesParts site_follower s r t b
  opens a b r h step = grind (arith, common_steps, zip_same)

  gives : (a b : Valued) (r : Result SiteTerm ⊥) → AlikeValued a b → done a.site a.visit r t → Gives site_follower s r t b
  gives a b r h step = subst (λ z. Gives site_follower s z t b) (sym step.0) (record { stands = subst (λ z. Alike z b.visit) (sym step.1) h.1; kept = λ u n k. k }, h.0)

inputs_are : (s : Visit) (us : SiteTerms) (inputs : List (SiteTerm × ℕ)) → NameInputs site_follower s us inputs → sites_of_inputs inputs ≡ us
inputs_are s (site_term_and u us) (x ∷ xs) h = ap₂ site_term_and h.0 (inputs_are s us xs h.1)
inputs_are s k inputs h = grind (arith, common_steps)

site_patterns_follow : FollowsPatterns site_follower site_patterns
site_patterns_follow = record {
  equal = grind (arith, common_steps);
  bool = λ s w u n ty b r t h e step. asked s w u n (is_bool b ty) r t h e step;
  int = λ s w u n ty z r t h e step. asked s w u n (is_int z ty) r t h e step;
  prim = λ s w u n ty name r t h e step. asked s w u n (is_prim name) r t h e step;
  variant = λ s w u n ty tys variant r t h e step. fields s w u n (is_variant ty variant (length tys)) (length tys) r t h e step;
  struct = λ s w u n ty tys r t h e step. fields s w u n (is_struct ty (length tys)) (length tys) r t h e step;
  extractor = λ s w u n ty tys term infallible multi r t h e step.
      let parts = λ (z : SiteTerm). extractor_opened term (length tys) infallible multi z in
      opens s t (parts n s) (parts u w) r (subst (λ z. AlikeOpened (parts z s) (parts u w)) (sym e) (grind (arith, by_vars))) step;
}
  where
    asked : (s w : Visit) (u n : SiteTerm) (c : Constraint) (r : Result (Unit {0}) ⊥) (t : Visit) → Alike s w → n ≡ u → done tt (asking n c s) r t → GoesOn site_follower s r t (asking u c w)
    asked s w u n c r t h e step = grind (arith, by_vars)

    fields : (s w : Visit) (u n : SiteTerm) (c : Constraint) (m : ℕ) (r : Result (List SiteTerm) ⊥) (t : Visit) → Alike s w → n ≡ u
        → done (fields_opened c m n s).inputs (fields_opened c m n s).visit r t → GivesParts site_follower s r t (fields_opened c m u w)
    fields s w u n c m r t h e step = grind (arith, common_steps, opens s t (fields_opened c m n s) (fields_opened c m u w) r, by_vars)

site_exprs_follow : FollowsExprs site_follower site_exprs
site_exprs_follow = grind (arith, common_steps, gives, inputs_are)

site_follows : FollowsSites site_follower None site_rules site_patterns site_exprs
site_follows = grind (arith, common_steps, site_patterns_follow, site_exprs_follow, none_some, gives, by_vars, asking_alike)

-- 4. so for a rule
pub site_runs_visit_lem : SiteRunsVisit
site_runs_visit_lem p r s v formed run =
    let a = visits_follow_lem ⊥ Visit SiteTerm site_follower None site_rules site_patterns site_exprs site_follows p r visit_start (Ok s) v formed (refl, refl) run in
    record { site = a.1; demands = a.0.stands.0; calls = a.0.stands.1 }

-- Every total meaning that is well typed for what rules use serves them, and so trees run by total functions as rules choose.
use Rattle.std.proofs.Common.{◌≡◌, ℕ, suc, true, false, List, ◌++◌, Some, Contains, flat_map, refl, sym, ap, subst, inl, inr, arith}
use Rattle.std.proofs.lemmas.Grind.{common_steps}
use Rattle.model.specs.rules.Values.{Value, of_variant, Values, of_list, all_well_typed}
use Rattle.model.specs.rules.Meaning.{one, Meaning, TotalMeaning, total}
use Rattle.model.specs.rules.Program.{Program, kind, arg_types, rules_of}
use Rattle.model.specs.rules.Picks.{Pick, site_values}
use Rattle.model.specs.rules.Typed.{TypedRule}
use Rattle.model.specs.sites.Sites.{Constraint, is_prim, SiteTerm, bool_term, int_term, prim_term, extractor_call, constructor_call, variant_made, SiteTerms}
use Rattle.model.specs.visits.Demands.{demands_of}
use Rattle.model.specs.claims.Environments.{program_of}
use Rattle.model.specs.sites.Serves.{Holds, holds_variant, HoldsAll, asked_by, asked, constant_site, constant_type, typed_as, fits_extractor, fits_constructor, Serves}
use Rattle.model.proofs.Elements.{in_from_contains, contains_from_in, in_either, in_left, in_right, in_flat_map, from_flat_map}
use Rattle.laws_typing.specs.WellTypedPrograms.{IsWellTypedProgram}
use Rattle.laws_typing.proofs.WellTypedRules.{elaborated_programs_are_well_typed_lem}
use Rattle.laws_trees.proofs.picks.HeldContents.{contents_are_held_lem}
use Rattle.laws_sites.proofs.built.BuiltSets.{of_term}
use Rattle.laws_sites.specs.RuleUses.{a_constant, matched_in, called_in}
use Rattle.laws_trees.specs.TotalLaws.{matched_by, called_by, IsTotalFor, TotalMeaningsServe, RunsByFunctionsAsChosen}
use Rattle.laws_trees.proofs.total.Shaped.{Uses, TypedFunctions, HasShape, held_fits, all_held_fit, bool_shape, int_shape, prim_shape, ExtractorShape, extractor_shape, ConstructorShape, pure_shape, impure_shape}
use Rattle.laws_trees.proofs.total.ShapedSites.{rule_shaped}

-- 1. what a pick gives can be held
made_held : {m : Meaning} {args : List Value} {ss : SiteTerms} {vs : Values} → Holds m args (variant_made 0 0 ss) (one (of_variant 0 0 vs)) → HoldsAll m args ss vs
made_held (holds_variant h) = h

values_held : (m : Meaning) (args : List Value) (k : Pick) (ss : SiteTerms) (vs : Values) → site_values m args k ss ≡ Some vs → HoldsAll m args ss vs
values_held m args k ss vs e = grind (arith, common_steps, made_held, contents_are_held_lem m args k (variant_made 0 0 ss) (one (of_variant 0 0 vs)))

-- 2. the functions serve
module _ (p : Program) (h : IsWellTypedProgram p) (t : ℕ) where
  abbrev rs : List TypedRule
  rs = rules_of p t

  abbrev uses : Uses
  uses = record { args = arg_types p t; matched = matched_by rs; called = called_by rs }

  -- each site that is asked has a shape
  asked_shaped : (u : SiteTerm) → Contains (asked p rs) u → HasShape p uses u
  asked_shaped u c =
      let a = from_flat_map (λ (r : TypedRule). asked_by (demands_of p r)) rs u (in_from_contains (asked p rs) u c) in
      let b = of_term p t a.0 (contains_from_in rs a.0 a.1) in
      let s = rule_shaped p uses h a.0 (h.rules a.0 b.0).formed
      (λ x i. contains_from_in (matched_by rs) x (in_flat_map matched_in rs a.0 x a.1 i)) (λ x i. contains_from_in (called_by rs) x (in_flat_map called_in rs a.0 x a.1 i)) (ap (arg_types p) b.1) in
      elim (in_either (demands_of p a.0).made (flat_map (λ (x : SiteTerm × Constraint). constant_site x.1) (demands_of p a.0).constraints) u a.2) [
        | inl i ↦ s.0 u i
        | inr i ↦ let d = from_flat_map (λ (x : SiteTerm × Constraint). constant_site x.1) (demands_of p a.0).constraints u i in s.1 d.0 d.1 u d.2
      ]

  -- a constant that a pattern tests is one that the rules use
  pub tested_constant_used : (r : TypedRule) (s : SiteTerm) (name : ℕ) → Contains rs r → Contains (demands_of p r).constraints (s, is_prim name) → Contains (matched_by rs ++ called_by rs) (a_constant name)
  tested_constant_used r s name c i =
      let named = in_flat_map (λ (x : SiteTerm × Constraint). constant_site x.1) (demands_of p r).constraints (s, is_prim name) (prim_term name) (in_from_contains (demands_of p r).constraints (s, is_prim name) i) (inl refl) in
      let its = in_flat_map (λ (q : TypedRule). asked_by (demands_of p q)) rs r (prim_term name) (in_from_contains rs r c)
      (in_right (demands_of p r).made (flat_map (λ (x : SiteTerm × Constraint). constant_site x.1) (demands_of p r).constraints) (prim_term name) named) in
      (prim_shape (asked_shaped (prim_term name) (contains_from_in (asked p rs) (prim_term name) its)).shaped).0

  module _ (f : TotalMeaning) (well : IsTotalFor p t f) (args : List Value) (given : all_well_typed p.types (Some (arg_types p t)) (of_list args) ≡ true) where
    abbrev m : Meaning
    m = total f

    abbrev typed : TypedFunctions p uses
    typed = record { functions = f; typed = well; args = args; given = given }

    constant_fits : (name ty : ℕ) → Contains (matched_by rs ++ called_by rs) (a_constant name) → constant_type p name ≡ Some ty → typed_as p (constant_type p name) (f.constants name) ≡ true
    constant_fits name ty used there = subst (λ o. typed_as p o (f.constants name) ≡ true) (sym there) (well.constants name ty used there)

    extractor_fits : (u : ℕ) (s : SiteTerm) (v : Value) → ExtractorShape p uses u s → Holds m args s (one v) → fits_extractor p u (kind p u) (f.extractors u v) ≡ true
    extractor_fits u s v x g = well.extractors u x.entry v x.used x.there x.can (held_fits p uses typed s x.of (one v) g)

    pure_fits : (u : ℕ) (ss : SiteTerms) (vs : Values) → ConstructorShape p uses u ss true → HoldsAll m args ss vs → fits_constructor p u (kind p u) (f.pures u vs) ≡ true
    pure_fits u ss vs x g = well.pures u x.entry vs x.used x.there x.can x.is (all_held_fit p uses typed ss x.of vs g)

    impure_fits : (u before : ℕ) (ss : SiteTerms) (vs : Values) → ConstructorShape p uses u ss false → HoldsAll m args ss vs → fits_constructor p u (kind p u) (f.impures u before) ≡ true
    impure_fits u before ss vs x g = well.impures u before x.entry vs x.used x.there x.can x.is (all_held_fit p uses typed ss x.of vs g)

    made_asked : (r : TypedRule) (u : SiteTerm) → Contains rs r → Contains (demands_of p r).made u → Contains (asked p rs) u
    made_asked r u c i =
        contains_from_in (asked p rs) u
        (in_flat_map (λ (q : TypedRule). asked_by (demands_of p q)) rs r u (in_from_contains rs r c)
        (in_left (demands_of p r).made (flat_map (λ (x : SiteTerm × Constraint). constant_site x.1) (demands_of p r).constraints) u (in_from_contains (demands_of p r).made u i)))

    pub functions_serve : Serves p m args rs
    functions_serve = record {
      bools = λ b ty c. well.bools b ty (bool_shape (asked_shaped (bool_term b ty) c).shaped);
      ints = λ z ty c. well.ints z ty (int_shape (asked_shaped (int_term z ty) c).shaped);
      written_bools = λ b ty c. ap Some (well.written_bools b ty (bool_shape (asked_shaped (bool_term b ty) c).shaped));
      written_ints = λ z ty c own. ap Some (well.written_ints z ty own);
      prims = λ name c. (let x = prim_shape (asked_shaped (prim_term name) c).shaped in constant_fits name x.1 x.0 x.2);
      extractors = λ k u s v c i. extractor_fits u s v (extractor_shape (asked_shaped (extractor_call u s) c).shaped) (contents_are_held_lem m args k s (one v) i);
      pures = λ k u ss vs c i. pure_fits u ss vs (pure_shape (asked_shaped (constructor_call u ss 0) c).shaped) (values_held m args k ss vs i);
      impures = λ k r u before ss vs c matched i had j.
          impure_fits u before ss vs (impure_shape (asked_shaped (constructor_call u ss (suc before)) (made_asked r (constructor_call u ss (suc before)) c i)).shaped) (values_held m args k ss vs j);
    }

pub total_meanings_serve_lem : TotalMeaningsServe
total_meanings_serve_lem p t f args h well given = functions_serve p h t f well args given

-- 3. so trees run by them as rules choose
pub runs_by_functions_as_chosen_lem : RunsByFunctionsAsChosen
runs_by_functions_as_chosen_lem e defs expand rules t sites tree f args h single runs well apart typed =
    let served = total_meanings_serve_lem (program_of e defs rules.rules) t f args (elaborated_programs_are_well_typed_lem e defs expand rules h) well typed in
    let a = runs single (total f) args typed served apart in
    record { as_chosen = a.0; once = a.1 }

-- A set that is built of a well-typed program is typed, where its rules constrain by types.
use Rattle.std.proofs.Common.{◌≡◌, ◌∷◌, ◌+◌, [], ℕ, zero, suc, Bool, true, false, List, Option, Some, slice_get, Contains, flat_map, refl, sym, ap, ◌∙◌, inl, inr, arith}
use Rattle.std.proofs.lemmas.Grind.{common_steps}
use Rattle.std.proofs.lemmas.Bool.{and_from}
use Rattle.std.proofs.lemmas.Option.{slice_get_within}
use Rattle.model.specs.lists.Tables.{TermEntry}
use Rattle.model.specs.rules.Program.{Program, arg_types, rules_of}
use Rattle.model.specs.rules.Typed.{TypedRule}
use Rattle.model.specs.rules.Values.{struct_types}
use Rattle.model.specs.sites.Serves.{term_args, term_results, asked, asked_by, constant_site}
use Rattle.model.specs.sites.Sites.{Site, bool_site, extractor_site, constructor_site, iterator_site, make_variant_site, match_variant_site, make_struct_site, extract_struct_site, make_some_site, match_some_site, Constraint, SiteTerm, bool_term, int_term, prim_term, argument, extractor_call, constructor_call, pick_of, variant_made, variant_field, struct_made, struct_field, some_made, some_part, tuple_part, no_site, SiteTerms, site_term_and, each_term, layer, unfold_site}
use Rattle.model.specs.visits.Demands.{demands_of}
use Rattle.model.proofs.Elements.{in_from_contains, contains_from_in, in_either, from_flat_map}
use Rattle.laws_typing.specs.WellTypedPrograms.{IsWellTypedProgram}
use Rattle.laws_sites.specs.RuleUses.{matched_in, called_in}
use Rattle.laws_sites.proofs.built.BuiltSets.{BuiltSet, of_term}
use Rattle.laws_trees.proofs.runs.Contents.{unfolded_layer}
use Rattle.laws_trees.proofs.total.Shaped.{Uses, Shaped, shaped_bool, shaped_int, shaped_prim, shaped_argument, shaped_extractor, shaped_pure, shaped_impure, shaped_pick, shaped_variant, shaped_variant_field, shaped_struct, shaped_struct_field, shaped_some, shaped_part, shaped_tuple, ShapedAll, shaped_and, HasShape, extractor_shape, pure_shape, impure_shape}
use Rattle.laws_trees.proofs.total.ShapedSites.{AreShaped, rule_shaped}
use Rattle.laws_trees.proofs.taken.BuiltSites.{sites_stand}
use Rattle.laws_trees.proofs.taken.Fits.{IsField}
use Rattle.model_code.specs.Modes.{Types, is_typed_at, argument_typed, arguments_typed, fields_typed, site_typed, pattern_typed, place_in, IsTypedSet}
use Rattle.model_code.specs.SiteTypes.{one_type, or_no_types, field_type, types_at, is_composed, is_one_composed, are_copied, types_of}
use Rattle.laws_code.specs.TypedTrees.{ConstrainsByTypes, BuiltSetsAreTyped}
use Rattle.laws_code.proofs.PickedCalls.{called_is_multi}

-- 1. a shape says which types
pub field_of_type : (fields : ℕ → Option (List ℕ)) (ts : List ℕ) (ty i u : ℕ) (tys : List ℕ) → ts ≡ ty ∷ [] → fields ty ≡ Some tys → slice_get tys i ≡ Some u → field_type fields ts i ≡ u ∷ []
field_of_type fields ts ty i u tys e f g = ap (λ l. field_type fields l i) e ∙ ap (λ o. one_type (slice_get (or_no_types o) i)) f ∙ ap one_type g

pub shaped_types : (p : Program) (uses : Uses) {multi optional : Bool} {tys : List ℕ} (s : SiteTerm) → Shaped p uses s multi optional tys → types_at p uses.args s ≡ tys
shaped_types p uses (bool_term b ty) (shaped_bool t) = refl
shaped_types p uses (int_term z ty) (shaped_int t) = refl
shaped_types p uses (prim_term name) (shaped_prim used t) = ap one_type t
shaped_types p uses (argument i) (shaped_argument t) = ap one_type t
shaped_types p uses (extractor_call t s) (shaped_extractor e flags infallible used there can k h) = ap term_args there
shaped_types p uses (constructor_call t ss zero) (shaped_pure e flags infallible used there can k pure h) = ap term_results there
shaped_types p uses (constructor_call t ss (suc before)) (shaped_impure e flags infallible used there can k pure h) = ap term_results there
shaped_types p uses (pick_of s) (shaped_pick h) = shaped_types p uses s h
shaped_types p uses (variant_made ty variant ss) (shaped_variant t h) = refl
shaped_types p uses (variant_field s variant i) (shaped_variant_field {ty = ty} {u = u} {tys = tys} h t a) = grind (arith, shaped_types p uses s h, field_of_type)
shaped_types p uses (struct_made ty ss) (shaped_struct t h) = refl
shaped_types p uses (struct_field s i) (shaped_struct_field {ty = ty} {u = u} {tys = tys} h t a) =
    field_of_type (λ ty. struct_types (slice_get p.types ty)) (types_at p uses.args s) ty i u tys (shaped_types p uses s h) t a
shaped_types p uses (some_made s) (shaped_some h) = shaped_types p uses s h
shaped_types p uses (some_part s) (shaped_part h) = shaped_types p uses s h
shaped_types p uses (tuple_part s i) (shaped_tuple k l h a) = ap (λ ts. one_type (slice_get ts i)) (shaped_types p uses s h) ∙ ap one_type a
shaped_types p uses no_site h = elim h [ ]

-- what a rule of a term may use, and so what its demands are
abbrev pub uses_of : Program → ℕ → TypedRule → Uses
uses_of p t r = record { args = arg_types p t; matched = matched_in r; called = called_in r }

pub demands_shaped : (p : Program) → IsWellTypedProgram p → (t : ℕ) (r : TypedRule) → Contains (rules_of p t) r → AreShaped p (uses_of p t r) (demands_of p r)
demands_shaped p h t r c =
    let own = of_term p t r c in
    rule_shaped p (uses_of p t r) h r (h.rules r own.0).formed (λ x i. contains_from_in (matched_in r) x i) (λ x i. contains_from_in (called_in r) x i) (ap (arg_types p) own.1)

none_shaped : {p : Program} {uses : Uses} {s : SiteTerm} {ss : SiteTerms} → ShapedAll p uses (site_term_and s ss) [] → ⊥
none_shaped h = elim h [ ]

both_shaped : {p : Program} {uses : Uses} {s : SiteTerm} {ss : SiteTerms} {ty : ℕ} {tys : List ℕ} → ShapedAll p uses (site_term_and s ss) (ty ∷ tys) → Shaped p uses s false false (ty ∷ []) × ShapedAll p uses ss tys
both_shaped (shaped_and h hs) = (h, hs)

-- 2. the sites of a set
module _ (b : BuiltSet) (h : IsWellTypedProgram b.program) (by_types : ConstrainsByTypes b.program b.term b.set) where
  abbrev p : Program
  p = b.program

  abbrev sites : List Site
  sites = b.set.sites

  abbrev args : List ℕ
  args = arg_types p b.term

  abbrev types : Types
  types = types_of p args sites

  abbrev U : ℕ → SiteTerm
  U s = unfold_site sites s

  abbrev copied : SiteTerm → Bool
  copied u = are_copied p (types_at p args u)

  unfolds : (s : ℕ) (x : Site) → slice_get sites s ≡ Some x → U s ≡ layer U x
  unfolds s x at = unfolded_layer sites b.built.sources s x at

  is_copied : (s : ℕ) → types.is_copy (place_in sites s) ≡ copied (U s)
  is_copied s = grind (arith, unfolds)

  typed_at : (s : ℕ) → is_typed_at types (place_in sites s) ≡ true
  typed_at s = grind arith

  -- what a call takes is of its parameter's type
  argument_is : (takes : Bool) (ty s : ℕ) → takes ≡ is_composed p ty → types_at p args (U s) ≡ ty ∷ [] → argument_typed types takes (place_in sites s) ≡ true
  argument_is takes ty s e t = grind (arith, common_steps, typed_at s, is_copied s, and_from, typed_at, is_copied)

  arguments_are : (uses : Uses) → uses.args ≡ args → (term i : ℕ) (ss tys : List ℕ) → ((j ty : ℕ) → slice_get tys j ≡ Some ty → types.takes_reference term (i + j) ≡ is_composed p ty)
      → ShapedAll p uses (each_term U ss) tys → arguments_typed types sites term i ss ≡ true
  arguments_are uses own term i (s ∷ ss) (ty ∷ tys) takes shaped =
      let parts = both_shaped shaped in
      let same : i + 0 ≡ i = omega arith in
      and_from _ _
      (argument_is (types.takes_reference term i) ty s (ap (types.takes_reference term) (sym same) ∙ takes 0 ty refl) (ap (λ l. types_at p l (U s)) (sym own) ∙ shaped_types p uses (U s) parts.0))
      (arguments_are uses own term (suc i) ss tys (λ j u e. let next : suc i + j ≡ i + suc j = omega arith in ap (types.takes_reference term) next ∙ takes (suc j) u e) parts.1)
  arguments_are uses own term i tys j takes shaped = grind (arith, common_steps, none_shaped)

  -- the shape of what isn't a field
  shape_of : (u : SiteTerm) → Contains (asked p (rules_of p b.term)) u → (uses : Uses) × (uses.args ≡ args) × HasShape p uses u
  shape_of u c =
      let r = from_flat_map (λ (q : TypedRule). asked_by (demands_of p q)) (rules_of p b.term) u (in_from_contains (asked p (rules_of p b.term)) u c) in
      let s = demands_shaped p h b.term r.0 (contains_from_in (rules_of p b.term) r.0 r.1) in (
        uses_of p b.term r.0,
        refl,
        elim (in_either (demands_of p r.0).made (flat_map (λ (x : SiteTerm × Constraint). constant_site x.1) (demands_of p r.0).constraints) u r.2) [
          | inl j ↦ s.0 u j
          | inr j ↦ let x = from_flat_map (λ (x : SiteTerm × Constraint). constant_site x.1) (demands_of p r.0).constraints u j in s.1 x.0 x.1 u x.2
        ],
      )

  asked_there : (s : ℕ) (x : Site) → slice_get sites s ≡ Some x → (IsField (layer U x) → ⊥) → (uses : Uses) × (uses.args ≡ args) × HasShape p uses (layer U x)
  asked_there s x at other = grind (arith, sites_stand, slice_get_within, shape_of, unfolds)

  extractor_is : (s term source : ℕ) → slice_get sites s ≡ Some (extractor_site term source) → argument_typed types (types.extracts_reference term) (place_in sites source) ≡ true
  extractor_is s term source at = grind (arith, common_steps, asked_there s (extractor_site term source) at, shaped_types p, asked_there, extractor_shape, argument_is, shaped_types)

  constructor_is : (s term instance : ℕ) (sources : List ℕ) → slice_get sites s ≡ Some (constructor_site term sources instance) → arguments_typed types sites term 0 sources ≡ true
  constructor_is s term instance sources at =
      let a = asked_there s (constructor_site term sources instance) at (λ f. f) in
      let e = called instance a.2.shaped in
      arguments_are a.0 a.1 term 0 sources e.0.arg_tys
      (λ j ty g. let same : 0 + j ≡ j = omega arith in ap (λ k. is_one_composed p (one_type (slice_get (term_args (slice_get p.terms term)) k))) same ∙ ap (λ o. is_one_composed p (one_type (slice_get (term_args o) j))) e.1 ∙ ap (λ o. is_one_composed p (one_type o)) g)
      e.2
    where
      called : {uses : Uses} {multi optional : Bool} {tys : List ℕ} (n : ℕ) → Shaped p uses (constructor_call term (each_term U sources) n) multi optional tys
          → (e : TermEntry) × (slice_get p.terms term ≡ Some e) × ShapedAll p uses (each_term U sources) e.arg_tys
      called zero k = let c = pure_shape k in (c.entry, c.there, c.of)
      called (suc n) k = let c = impure_shape k in (c.entry, c.there, c.of)

  fields_are : (ss : List ℕ) → fields_typed types sites ss ≡ true
  fields_are [] = refl
  fields_are (s ∷ ss) = and_from _ _ (typed_at s) (fields_are ss)

  site_is : (s : ℕ) (o : Option Site) → slice_get sites s ≡ o → site_typed types sites s o ≡ true
  site_is s (Some (bool_site v ty)) at = grind (arith, common_steps, unfolds)
  site_is s (Some (extractor_site term source)) at = extractor_is s term source at
  site_is s (Some (constructor_site term sources instance)) at = constructor_is s term instance sources at
  site_is s (Some (make_variant_site ty variant fields)) at = and_from _ _ (grind (arith, common_steps, unfolds)) (fields_are fields)
  site_is s (Some (make_struct_site ty fields)) at = and_from _ _ (grind (arith, common_steps, unfolds)) (fields_are fields)
  site_is s (Some (make_some_site source)) at = and_from _ _ (grind (arith, common_steps, unfolds)) (typed_at source)
  site_is s (Some (iterator_site source)) at = grind (arith, and_from, called_is_multi)
  site_is s (Some (match_variant_site source variant field)) at = grind (arith, common_steps, unfolds)
  site_is s (Some (extract_struct_site source field)) at = grind (arith, common_steps, unfolds)
  site_is s (Some (match_some_site source)) at = grind (arith, common_steps, and_from, typed_at, unfolds, is_copied)
  site_is s o at = refl

  pub set_is_typed : IsTypedSet types b.set
  set_is_typed = record {
    sites = λ s. site_is s (slice_get sites s) refl;
    places = typed_at;
    constrained = λ r s c i j. ap (pattern_typed c) (is_copied s) ∙ by_types r s c i j;
  }

pub built_sets_are_typed_lem : BuiltSetsAreTyped
built_sets_are_typed_lem p t set h b by_types = set_is_typed (record { program = p; term = t; set = set; built = b }) h by_types

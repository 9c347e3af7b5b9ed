-- Each call in the code of accepted definitions is impure as its function is.
use Rattle.std.proofs.Common.{◌≡◌, ◌&&◌, ℕ, suc, Bool, true, false, not, List, [], ◌∷◌, ◌++◌, Option, Some, slice_get, Contains, refl, ap, ◌∙◌, arith}
use Rattle.std.proofs.lemmas.Grind.{common_steps}
use Rattle.std.proofs.lemmas.Bool.{and_parts, and_from}
use Rattle.std.proofs.lemmas.Option.{slice_get_within}
use Rattle.model.specs.rules.Program.{Program, arg_types, is_multi, rules_of}
use Rattle.model.specs.rules.Typed.{TypedRule}
use Rattle.model.specs.sites.Sites.{Site, extractor_site, constructor_site, SiteTerm, extractor_call, constructor_call, layer, unfold_site}
use Rattle.model.specs.sites.Serves.{asked, asked_by}
use Rattle.model.specs.visits.Demands.{demands_of}
use Rattle.model.specs.trees.Trees.{Tree, no_step, step, Check, match_at, equal_at, loop_at, return_at, Arms, no_arm, arm}
use Rattle.model.specs.trees.Places.{field_sites}
use Rattle.model.specs.claims.Layers.{own_program}
use Rattle.model.proofs.Elements.{in_from_contains, contains_from_in, in_either, from_flat_map}
use Rattle.laws_typing.specs.WellTypedPrograms.{IsWellTypedProgram}
use Rattle.laws_typing.proofs.WellTypedRules.{read_programs_are_well_typed}
use Rattle.laws_sites.specs.RuleUses.{matched_in, called_in}
use Rattle.laws_sites.proofs.built.BuiltSets.{BuiltSet, of_term}
use Rattle.laws_trees.proofs.runs.Contents.{unfolded_layer}
use Rattle.laws_trees.proofs.taken.Fits.{IsField}
use Rattle.laws_trees.proofs.taken.BuiltSites.{sites_stand}
use Rattle.laws_trees.proofs.total.Shaped.{Uses, HasShape}
use Rattle.laws_trees.proofs.total.ShapedSites.{AreShaped, rule_shaped}
use Rattle.model_code.specs.Code.{Place, PlaceUse, Block, no_statement, statement, Statement, match_on, if_equal, for_each_of, labelled, CodeArms, no_code_arm, code_arm}
use Rattle.model_code.specs.TreeCode.{Passes, bind_code, binds_code, tree_code, check_code, arms_code}
use Rattle.model_code.specs.Flat.{within, flat, flat_at, flat_arms, leaving, leaving_last, leaving_match}
use Rattle.model_code.specs.Modes.{Types, passes_of}
use Rattle.model_code.specs.MovedOnce.{behind, movable_after, read_no_more, unlooked}
use Rattle.model_code.specs.Saving.{saved, saved_at, saved_arms}
use Rattle.model_code.specs.SiteTypes.{types_of}
use Rattle.model_code.specs.Notation.{Notation, extractor_of, constructor_of}
use Rattle.laws_code.specs.ShownLaws.{impure_call, calls_as, calls_as_at, arms_call_as}
use Rattle.laws_code.specs.CalledAlike.{AreCalledAlike, TreesCallAlike, CodeCallsAlike}

-- 1. labels and moves keep the calls
module _ (p : Notation) (is_impure : ℕ → Bool) where
  within_calls : (x : Bool) (a b : Block) → calls_as p is_impure a ≡ true → calls_as p is_impure b ≡ true → calls_as p is_impure (within x a b) ≡ true
  within_calls x a b h k = grind (arith, common_steps, and_from)

  module _ (deep : ℕ → Bool) where
    mutual
      flat_calls : (b : Block) (n : ℕ) → calls_as p is_impure b ≡ true → calls_as p is_impure (flat b deep n) ≡ true
      flat_calls (statement s rest) n h = grind (arith, common_steps, flat_calls_at s n, flat_calls rest n, and_parts, and_from)
      flat_calls no_statement n h = refl

      flat_calls_at : (s : Statement) (n : ℕ) → calls_as_at p is_impure s ≡ true → calls_as_at p is_impure (flat_at s deep n) ≡ true
      flat_calls_at (match_on u arms) n h = flat_calls_arms arms n h
      flat_calls_at (if_equal a b body) n h = within_calls (deep n) (leaving body deep (suc n)) (flat body deep (suc n)) (leaving_calls body (suc n) h) (flat_calls body (suc n) h)
      flat_calls_at (for_each_of v from body) n h = within_calls (deep n) (leaving body deep (suc n)) (flat body deep (suc n)) (leaving_calls body (suc n) h) (flat_calls body (suc n) h)
      flat_calls_at s n h = grind (arith, common_steps)

      flat_calls_arms : (arms : CodeArms) (n : ℕ) → arms_call_as p is_impure arms ≡ true → arms_call_as p is_impure (flat_arms arms deep n) ≡ true
      flat_calls_arms no_code_arm n h = refl
      flat_calls_arms (code_arm pattern fields body rest) n h =
          let hs = and_parts (calls_as p is_impure body) (arms_call_as p is_impure rest) h in
          and_from _ _ (within_calls (deep n) (leaving body deep (suc n)) (flat body deep (suc n)) (leaving_calls body (suc n) hs.0) (flat_calls body (suc n) hs.0)) (flat_calls_arms rest n hs.1)

      leaving_calls : (b : Block) (n : ℕ) → calls_as p is_impure b ≡ true → calls_as p is_impure (leaving b deep n) ≡ true
      leaving_calls no_statement n h = refl
      leaving_calls (statement s no_statement) n h = leaving_last_calls s n (and_parts (calls_as_at p is_impure s) true h).0
      leaving_calls (statement s (statement next rest)) n h =
          let hs = and_parts (calls_as_at p is_impure s) (calls_as p is_impure (statement next rest)) h in
          and_from _ _ (flat_calls_at s n hs.0) (leaving_calls (statement next rest) n hs.1)

      leaving_last_calls : (s : Statement) (n : ℕ) → calls_as_at p is_impure s ≡ true → calls_as p is_impure (leaving_last s deep n) ≡ true
      leaving_last_calls (match_on u arms) n h = leaving_match_calls u arms n h
      leaving_last_calls (if_equal a b body) n h = leaving_calls body n h
      leaving_last_calls (for_each_of v from body) n h = and_from _ _ (within_calls (deep n) (leaving body deep (suc n)) (flat body deep (suc n)) (leaving_calls body (suc n) h) (flat_calls body (suc n) h)) refl
      leaving_last_calls s n h = grind (arith, common_steps, and_from)

      leaving_match_calls : (u : PlaceUse) (arms : CodeArms) (n : ℕ) → arms_call_as p is_impure arms ≡ true → calls_as p is_impure (leaving_match u arms deep n) ≡ true
      leaving_match_calls u no_code_arm n h = refl
      leaving_match_calls u (code_arm pattern fields body no_code_arm) n h = leaving_calls body n (and_parts (calls_as p is_impure body) true h).0
      leaving_match_calls u (code_arm pattern fields body (code_arm p2 f2 b2 rest)) n h =
          let hs = and_parts (calls_as p is_impure body) (calls_as p is_impure b2 && arms_call_as p is_impure rest) h in
          let ks = and_parts (calls_as p is_impure b2) (arms_call_as p is_impure rest) hs.1 in
          and_from _ _
          (and_from _ _ (within_calls (deep n) (leaving body deep (suc n)) (flat body deep (suc n)) (leaving_calls body (suc n) hs.0) (flat_calls body (suc n) hs.0))
          (and_from _ _ (within_calls (deep n) (leaving b2 deep (suc n)) (flat b2 deep (suc n)) (leaving_calls b2 (suc n) ks.0) (flat_calls b2 (suc n) ks.0)) (flat_calls_arms rest n ks.1))) refl

  module _ (types : Types) where
    mutual
      saved_calls : (b : Block) (inside : List ℕ) (after : Place → Bool) → calls_as p is_impure (saved types inside after b) ≡ calls_as p is_impure b
      saved_calls no_statement inside after = refl
      saved_calls (statement s rest) inside after = λ i. saved_calls_at s inside (behind s rest after) i && saved_calls rest (movable_after inside s) after i

      saved_calls_at : (s : Statement) (inside : List ℕ) (later : Place → Bool) → calls_as_at p is_impure (saved_at types inside later s) ≡ calls_as_at p is_impure s
      saved_calls_at (match_on u arms) inside later = saved_calls_arms arms (unlooked inside u.place) later
      saved_calls_at (if_equal a b body) inside later = saved_calls body inside later
      saved_calls_at (for_each_of v from body) inside later = saved_calls body (v ∷ []) read_no_more
      saved_calls_at (labelled body) inside later = saved_calls body inside later
      saved_calls_at s inside later = grind (arith, common_steps)

      saved_calls_arms : (arms : CodeArms) (inside : List ℕ) (later : Place → Bool) → arms_call_as p is_impure (saved_arms types inside later arms) ≡ arms_call_as p is_impure arms
      saved_calls_arms no_code_arm inside later = refl
      saved_calls_arms (code_arm pattern fields body rest) inside later = λ i. saved_calls body (field_sites fields ++ inside) later i && saved_calls_arms rest inside later i

-- 2. the calls of sites are those of their terms
module _ (p : Program) (n : Notation) (is_impure : ℕ → Bool) (alike : AreCalledAlike p n is_impure) where
  abbrev IsAlike : SiteTerm → Type 0
  IsAlike (extractor_call t s) = is_impure (n.function (extractor_of t)) ≡ false
  IsAlike (constructor_call t ss i) = impure_call i (is_impure (n.function (constructor_of t))) ≡ true
  IsAlike s = Unit {0}

  shape_alike : (uses : Uses) (u : SiteTerm) → HasShape p uses u → IsAlike u
  shape_alike uses u found = grind arith

module _ (b : BuiltSet) (h : IsWellTypedProgram b.program) (n : Notation) (is_impure : ℕ → Bool) (alike : AreCalledAlike b.program n is_impure) (passes : Passes) where
  abbrev p : Program
  p = b.program

  abbrev sites : List Site
  sites = b.set.sites

  abbrev rs : List TypedRule
  rs = rules_of p b.term

  abbrev Alike : SiteTerm → Type 0
  Alike = IsAlike p n is_impure alike

  asked_alike : (u : SiteTerm) → Contains (asked p rs) u → Alike u
  asked_alike u c =
      let r = from_flat_map (λ (q : TypedRule). asked_by (demands_of p q)) rs u (in_from_contains (asked p rs) u c) in
      let o = of_term p b.term r.0 (contains_from_in rs r.0 r.1) in
      let uses : Uses = record { args = arg_types p r.0.root_term; matched = matched_in r.0; called = called_in r.0 } in
      let shaped : AreShaped p uses (demands_of p r.0) = rule_shaped p uses h r.0 (h.rules r.0 o.0).formed (λ t i. contains_from_in (matched_in r.0) t i) (λ t i. contains_from_in (called_in r.0) t i) refl in
      let found : HasShape p uses u = grind (arith, common_steps, in_either, from_flat_map) in
      shape_alike p n is_impure alike uses u found

  site_alike : (s : ℕ) (x : Site) → slice_get sites s ≡ Some x → (IsField (layer (unfold_site sites) x) → ⊥) → Alike (layer (unfold_site sites) x)
  site_alike s x at no_field = grind (arith, common_steps, sites_stand b h s, unfolded_layer, sites_stand, slice_get_within, asked_alike)

  bind_calls : (s : ℕ) (o : Option Site) → slice_get sites s ≡ o → calls_as_at n is_impure (bind_code sites passes s o) ≡ true
  bind_calls s (Some (extractor_site t source)) at = ap not (site_alike s (extractor_site t source) at (λ f. f))
  bind_calls s (Some (constructor_site t sources i)) at = site_alike s (constructor_site t sources i) at (λ f. f)
  bind_calls s o at = refl

  binds_calls : (ss : List ℕ) (rest : Block) → calls_as n is_impure rest ≡ true → calls_as n is_impure (binds_code sites passes ss rest) ≡ true
  binds_calls [] rest w = w
  binds_calls (s ∷ ss) rest w = and_from _ _ (bind_calls s (slice_get sites s) refl) (binds_calls ss rest w)

  mutual
    tree_calls : (tree : Tree) → calls_as n is_impure (tree_code tree sites passes) ≡ true
    tree_calls no_step = refl
    tree_calls (step binds check rest) = binds_calls binds (statement (check_code check sites passes) (tree_code rest sites passes)) (and_from _ _ (check_calls check) (tree_calls rest))

    check_calls : (check : Check) → calls_as_at n is_impure (check_code check sites passes) ≡ true
    check_calls (match_at source arms) = arms_calls arms
    check_calls (equal_at x y body) = tree_calls body
    check_calls (loop_at result body) = grind (arith, tree_calls body)
    check_calls (return_at at result) = refl

    arms_calls : (arms : Arms) → arms_call_as n is_impure (arms_code arms sites passes) ≡ true
    arms_calls no_arm = refl
    arms_calls (arm constraint fields body rest) = and_from _ _ (tree_calls body) (arms_calls rest)

pub trees_call_alike_lem : TreesCallAlike
trees_call_alike_lem p t set h built n is_impure alike tree passes = tree_calls (record { program = p; term = t; set = set; built = built }) h n is_impure alike passes tree

pub code_calls_alike_lem : TreesCallAlike → CodeCallsAlike
code_calls_alike_lem trees defs expand rules l accepted built best n is_impure alike deep d =
    let p = own_program defs rules in
    let types : Types = types_of p (arg_types p l.term) l.set.sites in
    let passes = passes_of types (is_multi p l.term) l.set.sites in
    let code = tree_code l.tree l.set.sites passes in
    saved_calls n is_impure types (flat code deep d) [] read_no_more
    ∙ flat_calls n is_impure deep code d (trees p l.term l.set (read_programs_are_well_typed accepted.read) built n is_impure alike l.tree passes)

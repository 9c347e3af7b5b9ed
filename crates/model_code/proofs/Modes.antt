-- Uses fit: in flat code as before, and in the code of a typed tree by its types.
use Rattle.std.proofs.Common.{◌≡◌, ◌&&◌, ◌∷◌, [], ℕ, suc, Bool, true, false, List, Option, Some, None, refl, ap, ◌∙◌, sym, arith}
use Rattle.std.proofs.lemmas.Bool.{and_parts, and_from, false≢true}
use Rattle.std.proofs.lemmas.Grind.{common_steps}
use Rattle.model.specs.sites.Sites.{Site, bool_site, extractor_site, constructor_site, make_variant_site, make_struct_site, make_some_site, match_some_site, Constraint}
use Rattle.model.specs.trees.Trees.{Tree, no_step, step, Check, match_at, equal_at, loop_at, return_at, Arms, no_arm, arm}
use Rattle.model_code.specs.Code.{PlaceUse, Block, no_statement, statement, Statement, bind, bind_some, no_way, match_on, if_equal, for_each_of, give, CodeArms, no_code_arm, code_arm}
use Rattle.model_code.specs.TreeCode.{Passes, use_at, arguments_from, fields_of, bind_code, binds_code, tree_code, check_code, arms_code, to_match}
use Rattle.model_code.specs.Flat.{unlabelled, unlabelled_at, unlabelled_arms, within, flat, flat_at, flat_arms, leaving, leaving_last, leaving_match}
use Rattle.model_code.specs.Modes.{BindingMode, Types, is_value, Given, gives_value, gives_reference, given_by, given, fits_equal, fits_pattern, fits_inside, fits_fields, fits_parameters, fit_values, block_fits, statement_fits, arms_fit, look_at, place_in, passes_of, is_typed_at, arguments_typed, fields_typed, inside_typed, site_typed, binds_typed, brought_typed, tree_typed, check_typed, arms_typed, FlatKeepsModes, PassesByTypesFit}
use Rattle.model_code.proofs.PrintedCode.{tree_unlabelled}

-- 1. labels
module _ (types : Types) (multi away : Bool) where
  within_fits : (deep : Bool) (inner plain : Block) → block_fits types multi away inner ≡ true → block_fits types multi away plain ≡ true → block_fits types multi away (within deep inner plain) ≡ true
  within_fits deep inner plain h k = grind (arith, common_steps, and_from)

  module _ (deep : ℕ → Bool) where
    mutual
      flat_fits : (b : Block) (n : ℕ) → unlabelled b ≡ true → block_fits types multi away b ≡ true → block_fits types multi away (flat b deep n) ≡ true
      flat_fits no_statement n u h = refl
      flat_fits (statement s rest) n u h = grind (arith, common_steps, flat_fits_at s n, flat_fits rest n, and_parts, and_from)

      flat_fits_at : (s : Statement) (n : ℕ) → unlabelled_at s ≡ true → statement_fits types multi away s ≡ true → statement_fits types multi away (flat_at s deep n) ≡ true
      flat_fits_at (match_on x arms) n u h = flat_fits_arms arms n (given types x) u h
      flat_fits_at (if_equal a b body) n u h =
          let hs = and_parts (fits_equal (given types a) (given types b)) (block_fits types multi away body) h in
          and_from _ _ hs.0 (within_fits (deep n) (leaving body deep (suc n)) (flat body deep (suc n)) (leaving_fits body (suc n) u hs.1) (flat_fits body (suc n) u hs.1))
      flat_fits_at (for_each_of v from body) n u h =
          let hs = and_parts (is_value (types.variables v) && is_value (types.variables from)) (block_fits types multi away body) h in
          and_from _ _ hs.0 (within_fits (deep n) (leaving body deep (suc n)) (flat body deep (suc n)) (leaving_fits body (suc n) u hs.1) (flat_fits body (suc n) u hs.1))
      flat_fits_at s n u h = grind (arith, common_steps)

      flat_fits_arms : (arms : CodeArms) (n : ℕ) (g : Given) → unlabelled_arms arms ≡ true → arms_fit types multi away g arms ≡ true → arms_fit types multi away g (flat_arms arms deep n) ≡ true
      flat_fits_arms no_code_arm n g u h = refl
      flat_fits_arms (code_arm pattern fields body rest) n g u h =
          let us = and_parts (unlabelled body) (unlabelled_arms rest) u in
          let hs = and_parts (fits_pattern pattern g && fits_fields types pattern g fields) (block_fits types multi away body && arms_fit types multi away g rest) h in
          let ks = and_parts (block_fits types multi away body) (arms_fit types multi away g rest) hs.1 in
          and_from _ _ hs.0 (and_from _ _
          (within_fits (deep n) (leaving body deep (suc n)) (flat body deep (suc n)) (leaving_fits body (suc n) us.0 ks.0) (flat_fits body (suc n) us.0 ks.0))
          (flat_fits_arms rest n g us.1 ks.1))

      leaving_fits : (b : Block) (n : ℕ) → unlabelled b ≡ true → block_fits types multi away b ≡ true → block_fits types multi away (leaving b deep n) ≡ true
      leaving_fits no_statement n u h = refl
      leaving_fits (statement s no_statement) n u h = leaving_fits_last s n (and_parts (unlabelled_at s) true u).0 (and_parts (statement_fits types multi away s) true h).0
      leaving_fits (statement s (statement next rest)) n u h =
          let us = and_parts (unlabelled_at s) (unlabelled (statement next rest)) u in
          let hs = and_parts (statement_fits types multi away s) (block_fits types multi away (statement next rest)) h in
          and_from _ _ (flat_fits_at s n us.0 hs.0) (leaving_fits (statement next rest) n us.1 hs.1)

      leaving_fits_last : (s : Statement) (n : ℕ) → unlabelled_at s ≡ true → statement_fits types multi away s ≡ true → block_fits types multi away (leaving_last s deep n) ≡ true
      leaving_fits_last (bind v e) n u h = and_from _ _ h refl
      leaving_fits_last (bind_some v x) n u h = and_from _ _ h refl
      leaving_fits_last no_way n u h = refl
      leaving_fits_last (match_on x arms) n u h = leaving_fits_match x arms n u h
      leaving_fits_last (if_equal a b body) n u h =
          let hs = and_parts (fits_equal (given types a) (given types b)) (block_fits types multi away body) h in and_from _ _ hs.0 (leaving_fits body n u hs.1)
      leaving_fits_last (for_each_of v from body) n u h =
          let hs = and_parts (is_value (types.variables v) && is_value (types.variables from)) (block_fits types multi away body) h in
          and_from _ _ (and_from _ _ hs.0 (within_fits (deep n) (leaving body deep (suc n)) (flat body deep (suc n)) (leaving_fits body (suc n) u hs.1) (flat_fits body (suc n) u hs.1))) refl
      leaving_fits_last (give at x) n u h = and_from _ _ h refl
      leaving_fits_last _ n u h = absurd (false≢true u)

      leaving_fits_match : (x : PlaceUse) (arms : CodeArms) (n : ℕ) → unlabelled_arms arms ≡ true → arms_fit types multi away (given types x) arms ≡ true → block_fits types multi away (leaving_match x arms deep n) ≡ true
      leaving_fits_match x no_code_arm n u h = refl
      leaving_fits_match x (code_arm pattern fields body no_code_arm) n u h =
          let hs = and_parts (fits_pattern pattern (given types x) && fits_fields types pattern (given types x) fields) (block_fits types multi away body && true) h in
          and_from _ _ hs.0 (leaving_fits body n (and_parts (unlabelled body) true u).0 (and_parts (block_fits types multi away body) true hs.1).0)
      leaving_fits_match x (code_arm pattern fields body (code_arm p2 f2 b2 rest)) n u h =
          let g = given types x in
          let us = and_parts (unlabelled body) (unlabelled b2 && unlabelled_arms rest) u in
          let vs = and_parts (unlabelled b2) (unlabelled_arms rest) us.1 in
          let hs = and_parts (fits_pattern pattern g && fits_fields types pattern g fields) (block_fits types multi away body && ((fits_pattern p2 g && fits_fields types p2 g f2) && (block_fits types multi away b2 && arms_fit types multi away g rest))) h in
          let is = and_parts (block_fits types multi away body) ((fits_pattern p2 g && fits_fields types p2 g f2) && (block_fits types multi away b2 && arms_fit types multi away g rest)) hs.1 in
          let js = and_parts (fits_pattern p2 g && fits_fields types p2 g f2) (block_fits types multi away b2 && arms_fit types multi away g rest) is.1 in
          let ks = and_parts (block_fits types multi away b2) (arms_fit types multi away g rest) js.1 in
          and_from _ _ (and_from _ _ hs.0 (and_from _ _
          (within_fits (deep n) (leaving body deep (suc n)) (flat body deep (suc n)) (leaving_fits body (suc n) us.0 is.0) (flat_fits body (suc n) us.0 is.0))
          (grind (arith, leaving_fits b2 (suc n) vs.0 ks.0, flat_fits b2 (suc n) vs.0 ks.0, flat_fits_arms rest n g vs.1 ks.1, and_from, within_fits)))) refl

pub flat_keeps_modes_lem : FlatKeepsModes
flat_keeps_modes_lem types multi away b deep n u h = flat_fits types multi away deep b n u h

-- 2. each way to hand on gives what is wanted: by mode, whether it is Copy, and whether it is made on the spot
seen_fits : (m q : BindingMode) (keep owned keep' owned' : Bool) → fits_equal (given_by m keep owned (look_at m q)) (given_by q keep' owned' (look_at q m)) ≡ true
seen_fits m q keep owned keep' owned' = grind (arith, common_steps)

-- what is matched is a value where it is Copy, else a reference
abbrev matched : Bool → Given
matched true = gives_value
matched false = gives_reference

brought_fit : (types : Types) (c : Constraint) (copy : Bool) (fields : List (Option ℕ)) → brought_typed types c copy fields ≡ true → fits_fields types c (matched copy) fields ≡ true
brought_fit types c copy [] h = refl
brought_fit types c copy (None ∷ rest) h = brought_fit types c copy rest h
brought_fit types c copy (Some v ∷ rest) h = grind (arith, common_steps, brought_fit types c copy rest, and_parts, and_from)

-- 3. by induction on the tree
module _ (types : Types) (multi : Bool) (sites : List Site) where
  abbrev p : Passes
  p = passes_of types multi sites

  arguments_fit : (term i : ℕ) (ss : List ℕ) → arguments_typed types sites term i ss ≡ true → fits_parameters types term i (arguments_from sites p term i ss) ≡ true
  arguments_fit term i [] h = refl
  arguments_fit term i (s ∷ ss) h = grind (arith, common_steps, arguments_fit term (suc i) ss, and_parts, and_from)

  fields_fit : (ss : List ℕ) → fields_typed types sites ss ≡ true → fit_values types false (fields_of sites p ss) ≡ true
  fields_fit [] h = refl
  fields_fit (s ∷ ss) h = grind (arith, common_steps, fields_fit ss, and_parts, and_from)

  match_is : (s : ℕ) → is_typed_at types (place_in sites s) ≡ true → matched (types.is_copy (place_in sites s)) ≡ given types (use_at sites p to_match s)
  match_is s h = grind arith

  bind_fits : (s : ℕ) (o : Option Site) → site_typed types sites s o ≡ true → statement_fits types multi false (bind_code sites p s o) ≡ true
  bind_fits s (Some (bool_site b ty)) h = h
  bind_fits s (Some (extractor_site term source)) h = grind (arith, and_parts)
  bind_fits s (Some (constructor_site term sources instance)) h = arguments_fit term 0 sources h
  bind_fits s (Some (make_variant_site ty variant fields)) h = let hs = and_parts (is_value (types.variables s)) (fields_typed types sites fields) h in and_from _ _ hs.0 (fields_fit fields hs.1)
  bind_fits s (Some (make_struct_site ty fields)) h = let hs = and_parts (is_value (types.variables s)) (fields_typed types sites fields) h in and_from _ _ hs.0 (fields_fit fields hs.1)
  bind_fits s (Some (make_some_site source)) h =
      let place = place_in sites source in
      let hs = and_parts (is_value (types.variables s)) (is_typed_at types place) h in
      and_from _ _ hs.0 (grind (arith, common_steps))
  bind_fits s (Some (match_some_site source)) h =
      let hs = and_parts (is_typed_at types (place_in sites source)) (inside_typed types (types.is_copy (place_in sites source)) s) h in
      ap (λ g. fits_inside types g s) (sym (match_is source hs.0)) ∙ (grind (arith, common_steps))
  bind_fits s _ h = refl

  binds_fit : (ss : List ℕ) (rest : Block) → binds_typed types sites ss ≡ true → block_fits types multi false rest ≡ true → block_fits types multi false (binds_code sites p ss rest) ≡ true
  binds_fit [] rest h k = k
  binds_fit (s ∷ ss) rest h k = grind (arith, common_steps, binds_fit ss rest, and_parts, and_from, bind_fits)

  mutual
    tree_fits : (tree : Tree) → tree_typed types sites tree ≡ true → block_fits types multi false (tree_code tree sites p) ≡ true
    tree_fits no_step h = refl
    tree_fits (step binds check rest) h = grind (arith, common_steps, check_fits check, tree_fits rest, and_parts, binds_fit, and_from)

    check_fits : (check : Check) → check_typed types sites check ≡ true → statement_fits types multi false (check_code check sites p) ≡ true
    check_fits (match_at source arms) h = grind (arith, common_steps, arms_are_fit arms (types.is_copy (place_in sites source)), and_parts, match_is)
    check_fits (equal_at a b body) h = grind (arith, common_steps, tree_fits body h, and_from, seen_fits)
    check_fits (loop_at result body) h = grind (arith, common_steps, tree_fits body, and_parts)
    check_fits (return_at at result) h = grind (arith, common_steps)

    arms_are_fit : (arms : Arms) (copy : Bool) → arms_typed types sites copy arms ≡ true → arms_fit types multi false (matched copy) (arms_code arms sites p) ≡ true
    arms_are_fit no_arm copy h = refl
    arms_are_fit (arm constraint fields body rest) copy h = grind (arith, tree_fits body, arms_are_fit rest copy, and_parts, and_from, brought_fit)

pub passes_by_types_fit_lem : PassesByTypesFit
passes_by_types_fit_lem types multi sites tree deep n h = grind (arith, common_steps, flat_keeps_modes_lem, tree_unlabelled, tree_fits)

-- The code of a tree with labels, step by step.
use Rattle.std.proofs.Common.{◌≡◌, ℕ, suc, Bool, true, false, List, [], ◌∷◌, Option, Some, None, slice_get, refl, ap, ◌∙◌}
use Rattle.std.proofs.lemmas.Bool.{false≢true}
use Rattle.model.specs.sites.Sites.{Site, bool_site, int_site, prim_site, argument_site, extractor_site, constructor_site, iterator_site, make_variant_site, match_variant_site, make_struct_site, extract_struct_site, make_some_site, match_some_site, match_tuple_site}
use Rattle.model.specs.trees.Trees.{Tree, no_step, step, Check}
use Rattle.model_code.specs.Code.{Block, no_statement, statement, Statement}
use Rattle.model_code.specs.TreeCode.{Passes, bind_code, binds_code, loop_code, tree_code, check_code}
use Rattle.model_code.specs.Flat.{within, flat, flat_at, leaving, leaving_last}

abbrev is_some_statement : Block → Bool
is_some_statement no_statement = false
is_some_statement (statement s rest) = true

abbrev pub is_some_step : Tree → Bool
is_some_step no_step = false
is_some_step (step binds check rest) = true

module _ (deep : ℕ → Bool) (n : ℕ) where
  -- a body at this depth
  abbrev pub body_at : Block → Block
  body_at b = within (deep n) (leaving b deep (suc n)) (flat b deep (suc n))

  leaving_more : (s : Statement) (b : Block) → is_some_statement b ≡ true → leaving (statement s b) deep n ≡ statement (flat_at s deep n) (leaving b deep n)
  leaving_more s no_statement h = absurd (false≢true h)
  leaving_more s (statement t rest) h = refl

  module _ (sites : List Site) (p : Passes) where
    -- 1. binds have no bodies
    bind_same : (s : ℕ) (o : Option Site) → flat_at (bind_code sites p s o) deep n ≡ bind_code sites p s o
    bind_same s None = refl
    bind_same s (Some (bool_site b ty)) = refl
    bind_same s (Some (int_site z ty)) = refl
    bind_same s (Some (prim_site name)) = refl
    bind_same s (Some (argument_site i)) = refl
    bind_same s (Some (extractor_site term source)) = refl
    bind_same s (Some (constructor_site term sources instance)) = refl
    bind_same s (Some (iterator_site source)) = refl
    bind_same s (Some (make_variant_site ty variant fields)) = refl
    bind_same s (Some (match_variant_site source variant field)) = refl
    bind_same s (Some (make_struct_site ty fields)) = refl
    bind_same s (Some (extract_struct_site source field)) = refl
    bind_same s (Some (make_some_site source)) = refl
    bind_same s (Some (match_some_site source)) = refl
    bind_same s (Some (match_tuple_site source field)) = refl

    flat_binds : (binds : List ℕ) (rest : Block) → flat (binds_code sites p binds rest) deep n ≡ binds_code sites p binds (flat rest deep n)
    flat_binds [] rest = refl
    flat_binds (s ∷ ss) rest =
        ap (λ x. statement x (flat (binds_code sites p ss rest) deep n)) (bind_same s (slice_get sites s))
        ∙ ap (statement (bind_code sites p s (slice_get sites s))) (flat_binds ss rest)

    some_binds : (binds : List ℕ) (rest : Block) → is_some_statement rest ≡ true → is_some_statement (binds_code sites p binds rest) ≡ true
    some_binds [] rest h = h
    some_binds (s ∷ ss) rest h = refl

    leaving_binds : (binds : List ℕ) (rest : Block) → is_some_statement rest ≡ true → leaving (binds_code sites p binds rest) deep n ≡ binds_code sites p binds (leaving rest deep n)
    leaving_binds [] rest h = refl
    leaving_binds (s ∷ ss) rest h =
        leaving_more (bind_code sites p s (slice_get sites s)) (binds_code sites p ss rest) (some_binds ss rest h)
        ∙ ap (λ x. statement x (leaving (binds_code sites p ss rest) deep n)) (bind_same s (slice_get sites s))
        ∙ ap (statement (bind_code sites p s (slice_get sites s))) (leaving_binds ss rest h)

    -- 2. a step before others, and the last one within a label
    some_tree : (t : Tree) → is_some_step t ≡ true → is_some_statement (tree_code t sites p) ≡ true
    some_tree no_step h = absurd (false≢true h)
    some_tree (step b c rest) h = some_binds b _ refl

    pub flat_step : (binds : List ℕ) (check : Check) (rest : Tree)
        → flat (tree_code (step binds check rest) sites p) deep n ≡ binds_code sites p binds (statement (flat_at (check_code check sites p) deep n) (flat (tree_code rest sites p) deep n))
    flat_step binds check rest = flat_binds binds (statement (check_code check sites p) (tree_code rest sites p))

    pub leaving_step : (binds : List ℕ) (check : Check) (rest : Tree) → is_some_step rest ≡ true
        → leaving (tree_code (step binds check rest) sites p) deep n ≡ binds_code sites p binds (statement (flat_at (check_code check sites p) deep n) (leaving (tree_code rest sites p) deep n))
    leaving_step binds check rest h =
        leaving_binds binds (statement (check_code check sites p) (tree_code rest sites p)) refl
        ∙ ap (binds_code sites p binds) (leaving_more (check_code check sites p) (tree_code rest sites p) (some_tree rest h))

    pub leaving_end : (binds : List ℕ) (check : Check) → leaving (tree_code (step binds check no_step) sites p) deep n ≡ binds_code sites p binds (leaving_last (check_code check sites p) deep n)
    leaving_end binds check = leaving_binds binds (statement (check_code check sites p) no_statement) refl

  -- 3. a loop
  pub loop_same : (o : Option Site) (s : ℕ) (body : Block) → flat_at (loop_code o s body) deep n ≡ loop_code o s (body_at body)
  loop_same None s body = refl
  loop_same (Some (bool_site b ty)) s body = refl
  loop_same (Some (int_site z ty)) s body = refl
  loop_same (Some (prim_site name)) s body = refl
  loop_same (Some (argument_site i)) s body = refl
  loop_same (Some (extractor_site term source)) s body = refl
  loop_same (Some (constructor_site term sources instance)) s body = refl
  loop_same (Some (iterator_site source)) s body = refl
  loop_same (Some (make_variant_site ty variant fields)) s body = refl
  loop_same (Some (match_variant_site source variant field)) s body = refl
  loop_same (Some (make_struct_site ty fields)) s body = refl
  loop_same (Some (extract_struct_site source field)) s body = refl
  loop_same (Some (make_some_site source)) s body = refl
  loop_same (Some (match_some_site source)) s body = refl
  loop_same (Some (match_tuple_site source field)) s body = refl

  pub loop_stays : (o : Option Site) (s : ℕ) (body : Block) → leaving_last (loop_code o s body) deep n ≡ statement (flat_at (loop_code o s body) deep n) no_statement
  loop_stays None s body = refl
  loop_stays (Some (bool_site b ty)) s body = refl
  loop_stays (Some (int_site z ty)) s body = refl
  loop_stays (Some (prim_site name)) s body = refl
  loop_stays (Some (argument_site i)) s body = refl
  loop_stays (Some (extractor_site term source)) s body = refl
  loop_stays (Some (constructor_site term sources instance)) s body = refl
  loop_stays (Some (iterator_site source)) s body = refl
  loop_stays (Some (make_variant_site ty variant fields)) s body = refl
  loop_stays (Some (match_variant_site source variant field)) s body = refl
  loop_stays (Some (make_struct_site ty fields)) s body = refl
  loop_stays (Some (extract_struct_site source field)) s body = refl
  loop_stays (Some (make_some_site source)) s body = refl
  loop_stays (Some (match_some_site source)) s body = refl
  loop_stays (Some (match_tuple_site source field)) s body = refl

-- A sample of code, and near ones that the judges of scopes, modes and moves refuse.
--   (type E (enum (A (x u32)) (B (e E) (x u32))))
--   (decl pick (E) E)
--   (extern constructor pick pick)
--   (decl f (E) E)
--   (rule (f e @ (E.A x)) (E.B (pick e) x))
use Rattle.std.specs.Prelude.{◌≡◌, ◌∷◌, [], ℕ, pos, Bool, true, false, List, Option, Some, if◌then◌else◌}
use Rattle.std.specs.Bool.{◌==◌}
use Rattle.model.specs.lists.Syntax.{Position}
use Rattle.model.specs.sites.Sites.{Site, argument_site, match_variant_site, constructor_site, make_variant_site, Constraint, is_variant, is_int}
use Rattle.model.specs.trees.Trees.{Tree, no_step, step, match_at, return_at, no_arm, arm}
use Rattle.model_code.specs.Code.{Place, variable, parameter, part_of, Pass, as_it_is, lent, cloned, seen_through, PlaceUse, call, variant_of, Block, no_statement, statement, Statement, bind, bind_some, match_on, if_equal, for_each_of, give, labelled, unless_let, unless_equal, no_code_arm, code_arm}
use Rattle.model_code.specs.TreeCode.{tree_code}
use Rattle.model_code.specs.Scopes.{block_scoped}
use Rattle.model_code.specs.Moves.{block_takes}
use Rattle.model_code.specs.Modes.{BindingMode, a_value, a_reference, Types, block_fits, passes_of, tree_typed}

abbrev pub somewhere : Position
somewhere = record { file = 0; offset = 0 }

abbrev pub sites : List Site
sites = argument_site 0 ∷ match_variant_site 0 0 0 ∷ constructor_site 0 (0 ∷ []) 1 ∷ make_variant_site 1 1 (2 ∷ (1 ∷ [])) ∷ []

abbrev pub is_a : Constraint
is_a = is_variant 1 0 1

abbrev pub tree : Tree
tree = step [] (match_at 0 (arm is_a (Some 1 ∷ []) (step (2 ∷ (3 ∷ [])) (return_at somewhere 3) no_step) no_arm)) no_step

-- v1 is a number, v2 what `pick` answers, v3 what is made
abbrev pub modes : ℕ → BindingMode
modes v = if v == 2 then a_reference else a_value

abbrev pub only_v1 : Place → Bool
only_v1 (variable v) = v == 1
only_v1 place = false

abbrev pub types : Types
types = record { variables = modes; parameters = λ i. a_reference; is_copy = only_v1; extracts_reference = λ term. true; takes_reference = λ term i. true }

abbrev pub use_of : Place → Pass → PlaceUse
use_of place pass = record { place = place; pass = pass }

abbrev pub plain : ℕ → PlaceUse
plain v = use_of (variable v) as_it_is

abbrev pub arg0 : PlaceUse
arg0 = use_of (parameter 0) as_it_is

-- in the arm: the call on this, the field handed on so, and what follows
abbrev pub in_arm : PlaceUse → Pass → Block → Block
in_arm argument pass rest = statement (bind 2 (call 0 (argument ∷ []) 1)) (statement (bind 3 (variant_of 1 1 (use_of (variable 2) pass ∷ (plain 1 ∷ [])))) rest)

-- match arg0 { &E::A { x: v1 } => { let v2 = &C::pick(ctx, arg0); let v3 = E::B { e: v2.clone(), x: v1 }; return v3; } _ => {} }
abbrev pub matching : Block → Block → Block
matching body rest = statement (match_on arg0 (code_arm is_a (Some 1 ∷ []) body no_code_arm)) rest

abbrev pub give_v3 : Block
give_v3 = statement (give somewhere (plain 3)) no_statement

abbrev pub code : Block
code = matching (in_arm arg0 cloned give_v3) no_statement

-- 'a: { let &E::A { x: v1 } = arg0 else { break 'a }; .. return v3; }
abbrev pub with_label : Block
with_label = statement (labelled (statement (unless_let arg0 is_a (Some 1 ∷ [])) (in_arm arg0 cloned give_v3))) no_statement

-- let v1 = C::m(ctx, arg0); and a loop over it that gives each v2
abbrev pub let_v1 : Block → Block
let_v1 rest = statement (bind 1 (call 1 (arg0 ∷ []) 0)) rest

abbrev pub each_v1 : Block → Block
each_v1 rest = statement (for_each_of 2 1 (statement (give somewhere (plain 2)) no_statement)) rest

abbrev pub v1_taken : ℕ → Bool
v1_taken v = v == 1

abbrev pub is_b : Constraint
is_b = is_variant 1 1 2

abbrev pub lent_v3 : PlaceUse
lent_v3 = use_of (variable 3) lent

-- match u { P { .. } => {} _ => {} }
abbrev pub against : PlaceUse → Constraint → List (Option ℕ) → Block
against u pattern fields = statement (match_on u (code_arm pattern fields no_statement no_code_arm)) no_statement

abbrev pub fits_alone : Block → Bool
fits_alone code = block_fits types false false code

abbrev pub one_statement : Statement → Block
one_statement s = statement s no_statement

pub record SamplesAreJudged : Type 0 where
  -- the sample's tree has that code, is typed, and what it reads is in scope, and fits
  pub made : tree_code tree sites (passes_of types false sites) ≡ code
  pub typed : tree_typed types sites tree ≡ true
  pub scoped : block_scoped false [] code ≡ true
  pub fits : block_fits types false false code ≡ true
  -- with a label too; behind the label nothing of it is in scope, and without it there is none to leave
  pub label_scoped : block_scoped false [] with_label ≡ true
  pub behind_label : block_scoped false [] (statement (labelled (statement (unless_let arg0 is_a (Some 1 ∷ [])) (in_arm arg0 cloned no_statement))) give_v3) ≡ false
  pub no_label : block_scoped false [] (statement (unless_let arg0 is_a (Some 1 ∷ [])) (in_arm arg0 cloned give_v3)) ≡ false
  -- what an arm binds isn't in scope behind it, nor before it is bound
  pub behind_arm : block_scoped false [] (matching (in_arm arg0 cloned no_statement) give_v3) ≡ false
  pub before_bound : block_scoped false [] (matching (in_arm (plain 3) cloned give_v3) no_statement) ≡ false
  -- nor is a part of it; a loop's source has to be in scope, and its variable isn't behind it
  pub part_known : block_scoped false [] (let_v1 (one_statement (give somewhere (use_of (part_of 1 0) as_it_is)))) ≡ true
  pub part_unknown : block_scoped false [] (let_v1 (one_statement (give somewhere (use_of (part_of 2 0) as_it_is)))) ≡ false
  pub source_known : block_scoped false [] (let_v1 (each_v1 no_statement)) ≡ true
  pub source_unknown : block_scoped false [] (each_v1 no_statement) ≡ false
  pub behind_loop : block_scoped false [] (let_v1 (each_v1 (one_statement (give somewhere (plain 2))))) ≡ false
  -- two values that differ leave a label too
  pub equal_in_label : block_scoped false [] (let_v1 (one_statement (labelled (one_statement (unless_equal (plain 1) arg0))))) ≡ true
  pub equal_no_label : block_scoped false [] (let_v1 (one_statement (unless_equal (plain 1) arg0))) ≡ false
  -- a reference isn't kept in a field, nor is its place; it is lent once alone; a parameter that is a reference takes no clone
  pub reference_kept : block_fits types false false (matching (in_arm arg0 as_it_is give_v3) no_statement) ≡ false
  pub place_kept : block_fits types false false (matching (in_arm arg0 seen_through give_v3) no_statement) ≡ false
  pub lent_twice : block_fits types false false (matching (in_arm (use_of (parameter 0) lent) cloned give_v3) no_statement) ≡ false
  pub clone_taken : block_fits types false false (matching (in_arm (use_of (parameter 0) cloned) cloned give_v3) no_statement) ≡ false
  -- a reference is compared with another, or with what it refers to
  pub unlike_compared : block_fits types false false (statement (if_equal (plain 2) (plain 3) no_statement) no_statement) ≡ false
  pub alike_compared : block_fits types false false (statement (if_equal (use_of (variable 2) seen_through) (plain 3) no_statement) no_statement) ≡ true
  -- a variant is matched by reference, and a field that isn't Copy is bound by `ref`
  pub field_by_reference : fits_alone (against arg0 is_b (Some 2 ∷ (Some 1 ∷ []))) ≡ true
  pub field_by_value : fits_alone (against arg0 is_b (Some 3 ∷ (Some 1 ∷ []))) ≡ false
  pub variant_lent : fits_alone (against lent_v3 is_a (Some 1 ∷ [])) ≡ true
  pub variant_by_value : fits_alone (against (plain 3) is_a (Some 1 ∷ [])) ≡ false
  pub variant_left_by_value : fits_alone (one_statement (labelled (one_statement (unless_let (plain 3) is_a (Some 1 ∷ []))))) ≡ false
  -- a constant by value
  pub constant_by_value : fits_alone (against (plain 1) (is_int (pos 5) 2) []) ≡ true
  pub constant_by_reference : fits_alone (against (use_of (variable 1) lent) (is_int (pos 5) 2) []) ≡ false
  -- an option that isn't Copy is looked into by reference, and what is in it is one
  pub option_lent : fits_alone (one_statement (bind_some 2 lent_v3)) ≡ true
  pub option_by_value : fits_alone (one_statement (bind_some 2 (plain 3))) ≡ false
  pub inside_by_value : fits_alone (one_statement (bind_some 3 lent_v3)) ≡ false
  -- a part of a tuple that is a reference isn't given back, and a clone of it is
  pub part_given : fits_alone (one_statement (give somewhere (use_of (part_of 3 0) as_it_is))) ≡ true
  pub part_behind_given : fits_alone (one_statement (give somewhere (use_of (part_of 2 0) as_it_is))) ≡ false
  pub part_behind_cloned : fits_alone (one_statement (give somewhere (use_of (part_of 2 0) cloned))) ≡ true
  -- a loop goes over a value, and each answer is one
  pub loop_of_values : fits_alone (one_statement (for_each_of 4 3 no_statement)) ≡ true
  pub loop_over_reference : fits_alone (one_statement (for_each_of 4 2 no_statement)) ≡ false
  pub loop_into_reference : fits_alone (one_statement (for_each_of 2 3 no_statement)) ≡ false
  -- what isn't Copy is given away where that ends the function: not in a multi term
  pub given_on : block_fits types true false code ≡ false
  pub cloned_on : block_fits types true false (matching (in_arm arg0 cloned (statement (give somewhere (use_of (variable 3) cloned)) no_statement)) no_statement) ≡ true
  -- a loop takes what was bound right before, once; nothing else reads that, and no loop within takes what was bound outside
  pub taken_once : block_takes v1_taken [] (let_v1 (each_v1 (let_v1 (each_v1 no_statement)))) ≡ true
  pub taken_twice : block_takes v1_taken [] (let_v1 (each_v1 (each_v1 no_statement))) ≡ false
  pub taken_and_read : block_takes v1_taken [] (let_v1 (each_v1 (statement (give somewhere (plain 1)) no_statement))) ≡ false
  pub taken_within : block_takes v1_taken [] (let_v1 (matching (each_v1 no_statement) no_statement)) ≡ false

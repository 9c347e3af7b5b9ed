-- Code that moves a value once, near code that doesn't, and what moves in place of clones leave.
use Rattle.std.specs.Prelude.{◌≡◌, ◌∷◌, [], Bool, true, false, Some, None}
use Rattle.model_code.specs.Code.{variable, parameter, part_of, Pass, as_it_is, lent, cloned, PlaceUse, Block, no_statement, statement, bind, bind_some, variant_of, call, match_on, if_equal, for_each_of, give, labelled, unless_let, no_code_arm, code_arm}
use Rattle.model_code.specs.Modes.{a_value, Types, block_fits}
use Rattle.model_code.specs.MovedOnce.{touches, block_moves, read_no_more}
use Rattle.model_code.specs.Saving.{with_moves}
use Rattle.model_code.specs.Samples.{arg0, give_v3, is_a, is_b, matching, plain, somewhere, types, use_of}

-- let v3 = E::A { x: v1 };
abbrev pub let_v3 : Block → Block
let_v3 rest = statement (bind 3 (variant_of 1 0 (plain 1 ∷ []))) rest

-- let v4 = E::B { e: v3, x: v1 }; with v3 handed on so
abbrev pub keep_v3 : Pass → Block → Block
keep_v3 pass rest = statement (bind 4 (variant_of 1 1 (use_of (variable 3) pass ∷ (plain 1 ∷ [])))) rest

-- the same of a type whose variant has v3 twice
abbrev pub keep_both : Pass → Pass → Block
keep_both first second = statement (bind 4 (variant_of 2 0 (use_of (variable 3) first ∷ (use_of (variable 3) second ∷ [])))) no_statement

-- let v6 = C::m(ctx, arg0); and a loop over it
abbrev pub in_each : Block → Block
in_each body = statement (bind 6 (call 1 (arg0 ∷ []) 0)) (statement (for_each_of 5 6 body) no_statement)

-- match &v3 { &E::A { x: v1 } => { .. } _ => {} }
abbrev pub looking : Block → Block → Block
looking body rest = statement (match_on (use_of (variable 3) lent) (code_arm is_a (Some 1 ∷ []) body no_code_arm)) rest

-- two loops over one call
abbrev pub over_twice : Block
over_twice = statement (bind 6 (call 1 (arg0 ∷ []) 0)) (statement (for_each_of 5 6 no_statement) (statement (for_each_of 5 6 no_statement) no_statement))

-- let v7 = C::k(ctx, arg0); let Some(v2) = &v7 else { .. };
abbrev pub inside_v7 : Block → Block
inside_v7 rest = statement (bind 7 (call 2 (arg0 ∷ []) 0)) (statement (bind_some 2 (use_of (variable 7) lent)) rest)

-- let v4 = E::B { e: u, x: v1 };
abbrev pub keep : PlaceUse → Block → Block
keep u rest = statement (bind 4 (variant_of 1 1 (u ∷ (plain 1 ∷ [])))) rest

-- let &E::A { x: v1 } = &v3 else { break };
abbrev pub unless_a : Block → Block
unless_a rest = statement (unless_let (use_of (variable 3) lent) is_a (Some 1 ∷ [])) rest

abbrev pub in_label : Block → Block → Block
in_label body rest = statement (labelled body) rest

-- if v1 == v1 { .. }
abbrev pub if_same : Block → Block → Block
if_same body rest = statement (if_equal (plain 1) (plain 1) body) rest

-- two arms
abbrev pub either : Block → Block → Block
either first second = statement (match_on arg0 (code_arm is_a (Some 1 ∷ []) first (code_arm is_b (None ∷ (None ∷ [])) second no_code_arm))) no_statement

-- a parameter that is a value
abbrev pub owned_types : Types
owned_types = record types { parameters = λ i. a_value }

-- of a term that isn't multi
abbrev pub moves_alone : Block → Bool
moves_alone code = block_moves types false [] read_no_more code

abbrev pub moves : Block → Bool
moves code = block_moves types true [] read_no_more code

pub record MovesAreJudged : Type 0 where
  -- a clone, then a move; not a move, then another, or a clone
  pub last : moves (let_v3 (keep_v3 cloned (keep_v3 as_it_is no_statement))) ≡ true
  pub twice : moves (let_v3 (keep_v3 as_it_is (keep_v3 as_it_is no_statement))) ≡ false
  pub read_after : moves (let_v3 (keep_v3 as_it_is (keep_v3 cloned no_statement))) ≡ false
  -- nor both at once; two clones are fine
  pub both : moves (let_v3 (keep_both as_it_is as_it_is)) ≡ false
  pub one_of_both : moves (let_v3 (keep_both cloned as_it_is)) ≡ false
  pub both_cloned : moves (let_v3 (keep_both cloned cloned)) ≡ true
  -- a loop moves what it binds itself, and nothing that was bound before it
  pub in_turn : moves (in_each (let_v3 (keep_v3 as_it_is no_statement))) ≡ true
  pub each_turn : moves (let_v3 (in_each (keep_v3 as_it_is no_statement))) ≡ false
  -- it takes what it goes over: uses may fit, and two loops over one call move it twice
  pub over_fits : block_fits types true false over_twice ≡ true
  pub over_moves : moves over_twice ≡ false
  -- a result of a multi term may be moved where nothing reads it after
  pub given_last : moves (let_v3 (statement (give somewhere (plain 3)) no_statement)) ≡ true
  pub given_first : moves (let_v3 (statement (give somewhere (plain 3)) (keep_v3 cloned no_statement))) ≡ false
  -- what is looked into isn't moved where what is within it has a name; and is again behind the arms
  pub looked_into : moves (let_v3 (looking (keep_v3 as_it_is no_statement) no_statement)) ≡ false
  pub looked_before : moves (let_v3 (looking no_statement (keep_v3 as_it_is no_statement))) ≡ true
  -- nor is it after a test that leaves a label, or an unwrap, up to the end of the block; and is again behind the label
  pub opened_into : moves (let_v3 (in_label (unless_a (keep_v3 as_it_is no_statement)) no_statement)) ≡ false
  pub opened_cloned : moves (let_v3 (in_label (unless_a (keep_v3 cloned no_statement)) no_statement)) ≡ true
  pub opened_before : moves (let_v3 (in_label (unless_a no_statement) (keep_v3 as_it_is no_statement))) ≡ true
  pub unwrapped_into : moves (inside_v7 (keep (plain 7) no_statement)) ≡ false
  pub unwrapped_cloned : moves (inside_v7 (keep (use_of (variable 7) cloned) no_statement)) ≡ true
  -- what is moved in a label, in an arm or in the body of a test isn't read behind it
  pub behind_label : moves (let_v3 (in_label (keep_v3 as_it_is no_statement) (keep_v3 cloned no_statement))) ≡ false
  pub behind_arm : moves (let_v3 (matching (keep_v3 as_it_is no_statement) (keep_v3 cloned no_statement))) ≡ false
  pub behind_equal : moves (let_v3 (if_same (keep_v3 as_it_is no_statement) (keep_v3 cloned no_statement))) ≡ false
  -- nor is what was moved before it read there
  pub in_later_label : moves (let_v3 (keep_v3 as_it_is (in_label (keep_v3 cloned no_statement) no_statement))) ≡ false
  pub in_later_arm : moves (let_v3 (keep_v3 as_it_is (matching (keep_v3 cloned no_statement) no_statement))) ≡ false
  pub in_later_equal : moves (let_v3 (keep_v3 as_it_is (if_same (keep_v3 cloned no_statement) no_statement))) ≡ false
  -- each of two arms may move it
  pub in_each_arm : moves (let_v3 (either (keep_v3 as_it_is no_statement) (keep_v3 as_it_is no_statement))) ≡ true
  -- a loop's body doesn't read the call that the loop goes over
  pub over_itself : moves (in_each (keep (use_of (variable 6) cloned) no_statement)) ≡ false
  -- a parameter isn't moved
  pub parameter_moved : block_moves owned_types true [] read_no_more (keep (use_of (parameter 0) as_it_is) no_statement) ≡ false
  pub parameter_cloned : block_moves owned_types true [] read_no_more (keep (use_of (parameter 0) cloned) no_statement) ≡ true
  -- a part is moved, and then another one; but not the whole after a part, nor a part after the whole
  pub part_then_part : moves (let_v3 (keep (use_of (part_of 3 0) as_it_is) (keep (use_of (part_of 3 1) as_it_is) no_statement))) ≡ true
  pub part_then_whole : moves (let_v3 (keep (use_of (part_of 3 0) as_it_is) (keep_v3 cloned no_statement))) ≡ false
  pub whole_then_part : moves (let_v3 (keep_v3 as_it_is (keep (use_of (part_of 3 0) cloned) no_statement))) ≡ false
  -- the return of a term that isn't multi may move what is looked into, and no other statement may; it reads what it returns
  pub returned_inside : moves_alone (let_v3 (looking give_v3 no_statement)) ≡ true
  pub given_inside : moves (let_v3 (looking give_v3 no_statement)) ≡ false
  pub kept_inside : moves_alone (let_v3 (looking (keep_v3 as_it_is no_statement) no_statement)) ≡ false
  pub returned_after : moves_alone (let_v3 (keep_v3 as_it_is give_v3)) ≡ false
  -- the last clone becomes a move, and no other
  pub saved_last : with_moves types (let_v3 (keep_v3 cloned (keep_v3 cloned no_statement))) ≡ let_v3 (keep_v3 cloned (keep_v3 as_it_is no_statement))
  pub saved_none : with_moves types (let_v3 (in_each (keep_v3 cloned no_statement))) ≡ let_v3 (in_each (keep_v3 cloned no_statement))
  -- the whole touches its parts, and no part another one
  pub whole_and_part : touches (variable 3) (part_of 3 0) ≡ true
  pub part_and_whole : touches (part_of 3 1) (variable 3) ≡ true
  pub two_parts : touches (part_of 3 0) (part_of 3 1) ≡ false
  pub two_parameters : touches (parameter 0) (parameter 1) ≡ false

-- Moves in place of clones, wherever a move may stand.
use Rattle.std.specs.Prelude.{[], ◌≡◌, ◌&&◌, ◌++◌, ◌∷◌, ℕ, Bool, true, false, List, Option}
use Rattle.model.specs.trees.Run.{World, Env, Trace}
use Rattle.model.specs.trees.Places.{field_sites}
use Rattle.model_code.specs.Code.{Place, Pass, as_it_is, cloned, PlaceUse, Expr, variant_of, struct_of, some_of, Block, no_statement, statement, Statement, bind, match_on, if_equal, for_each_of, give, labelled, CodeArms, no_code_arm, code_arm}
use Rattle.model_code.specs.CodeRuns.{run_block}
use Rattle.model_code.specs.Scopes.{block_scoped}
use Rattle.model_code.specs.Modes.{Types, mode_at, is_value, is_owned, block_fits}
use Rattle.model_code.specs.MovedOnce.{may_move, beside, unlooked, movable_after, behind, read_no_more, block_moves}
use Rattle.model_code.specs.Moves.{block_takes}

-- a value that isn't behind a reference, and that a move may take
abbrev pub may_save : Types → List ℕ → (Place → Bool) → Place → Bool
may_save types inside later place = (is_value (mode_at types place) && is_owned types place) && may_move inside later place

abbrev pub saved_pass : Bool → Pass → Pass
saved_pass false pass = pass
saved_pass true cloned = as_it_is
saved_pass true pass = pass

abbrev pub saved_use : Types → List ℕ → (Place → Bool) → PlaceUse → PlaceUse
saved_use types inside later u = record { place = u.place; pass = saved_pass (may_save types inside later u.place) u.pass }

abbrev pub all_saved : Types → List ℕ → (Place → Bool) → List PlaceUse → List PlaceUse → List PlaceUse
all_saved types inside later before [] = []
all_saved types inside later before (u ∷ us) = saved_use types inside (beside before us later) u ∷ all_saved types inside later (u ∷ before) us

abbrev pub saved_expr : Types → List ℕ → (Place → Bool) → Expr → Expr
saved_expr types inside later (variant_of ty variant us) = variant_of ty variant (all_saved types inside later [] us)
saved_expr types inside later (struct_of ty us) = struct_of ty (all_saved types inside later [] us)
saved_expr types inside later (some_of u) = some_of (saved_use types inside later u)
saved_expr types inside later e = e

-- in what is made, and in what is given
abbrev mutual
  pub saved : Types → List ℕ → (Place → Bool) → Block → Block
  saved types inside after no_statement = no_statement
  saved types inside after (statement s rest) = statement (saved_at types inside (behind s rest after) s) (saved types (movable_after inside s) after rest)

  pub saved_at : Types → List ℕ → (Place → Bool) → Statement → Statement
  saved_at types inside later (bind v e) = bind v (saved_expr types inside later e)
  saved_at types inside later (match_on u arms) = match_on u (saved_arms types (unlooked inside u.place) later arms)
  saved_at types inside later (if_equal a b body) = if_equal a b (saved types inside later body)
  saved_at types inside later (for_each_of v from body) = for_each_of v from (saved types (v ∷ []) read_no_more body)
  saved_at types inside later (give at u) = give at (saved_use types inside later u)
  saved_at types inside later (labelled body) = labelled (saved types inside later body)
  saved_at types inside later s = s

  pub saved_arms : Types → List ℕ → (Place → Bool) → CodeArms → CodeArms
  saved_arms types inside later no_code_arm = no_code_arm
  saved_arms types inside later (code_arm pattern fields body rest) = code_arm pattern fields (saved types (field_sites fields ++ inside) later body) (saved_arms types inside later rest)

-- a whole function
abbrev pub with_moves : Types → Block → Block
with_moves types code = saved types [] read_no_more code

-- the run, the scopes and what loops take stay as they were
pub record MovesSaySame (types : Types) (code : Block) : Type 0 where
  pub runs : (w : World) (most : Option ℕ) (env : Env) (t : Trace) → run_block (with_moves types code) w most env t ≡ run_block code w most env t
  pub scoped : (label : Bool) (scope : List ℕ) → block_scoped label scope (with_moves types code) ≡ block_scoped label scope code
  pub takes : (taken : ℕ → Bool) (fresh : List ℕ) → block_takes taken fresh (with_moves types code) ≡ block_takes taken fresh code

abbrev pub WithMovesSaysSame : Type 0
WithMovesSaysSame = (types : Types) (code : Block) → MovesSaySame types code

-- what moved once does so still, and what fitted does so where what isn't Copy may be given away
pub record MovesAreMadeWell (types : Types) (multi : Bool) (code : Block) : Type 0 where
  pub once : block_moves types multi [] read_no_more code ≡ true → block_moves types multi [] read_no_more (with_moves types code) ≡ true
  pub fits : block_fits types multi false code ≡ true → block_fits types multi true (with_moves types code) ≡ true

abbrev pub WithMovesIsMadeWell : Type 0
WithMovesIsMadeWell = (types : Types) (multi : Bool) (code : Block) → MovesAreMadeWell types multi code

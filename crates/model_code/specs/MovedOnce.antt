-- Moves, on code as data: what isn't Copy is moved once at most on each way, in the turn of the loop around that bound it, and nothing
-- reads it after; nor is it moved while names for what is within it are in scope. A return that ends the function is left out.
use Rattle.std.specs.Prelude.{[], ◌≡◌, ◌&&◌, ◌||◌, ◌++◌, ◌∷◌, ℕ, Bool, true, false, not, if◌then◌else◌, List}
use Rattle.std.specs.Bool.{◌==◌}
use Rattle.model.specs.trees.Places.{is_in, field_sites}
use Rattle.model_code.specs.Code.{Place, variable, parameter, part_of, PlaceUse, Expr, truth_written, read, extraction, call, variant_of, struct_of, some_of, Block, no_statement, statement, Statement, bind, bind_some, no_way, match_on, if_equal, for_each_of, give, labelled, unless_let, unless_equal, CodeArms, no_code_arm, code_arm}
use Rattle.model_code.specs.Scopes.{unless_ended}
use Rattle.model_code.specs.Modes.{Types, Given, gives_away, given, block_fits}
use Rattle.model_code.specs.Moves.{block_takes}

-- to read one place reads of the other: it is the same, or a part of it, or the whole
abbrev pub touches : Place → Place → Bool
touches (variable v) (variable w) = v == w
touches (variable v) (part_of w i) = v == w
touches (part_of v i) (variable w) = v == w
touches (part_of v i) (part_of w j) = (v == w) && (i == j)
touches (parameter i) (parameter j) = i == j
touches place other = false

abbrev pub any_touch : Place → List PlaceUse → Bool
any_touch q [] = false
any_touch q (u ∷ us) = touches q u.place || any_touch q us

abbrev pub expr_reads : Place → Expr → Bool
expr_reads q (truth_written b ty) = false
expr_reads q (read u) = touches q u.place
expr_reads q (extraction term u) = touches q u.place
expr_reads q (call term us instance) = any_touch q us
expr_reads q (variant_of ty variant us) = any_touch q us
expr_reads q (struct_of ty us) = any_touch q us
expr_reads q (some_of u) = touches q u.place

-- one of these variables, or a part of one
abbrev pub is_of : List ℕ → Place → Bool
is_of vs (variable v) = is_in v vs
is_of vs (part_of v i) = is_in v vs
is_of vs place = false

-- read by what follows a statement in its block: of a variable that the statement binds, another is meant there
abbrev pub read_behind : Place → Statement → Bool → Bool
read_behind q no_way later = false
read_behind q (bind v e) later = not (is_of (v ∷ []) q) && later
read_behind q (bind_some v u) later = not (is_of (v ∷ []) q) && later
read_behind q (unless_let u pattern fields) later = not (is_of (field_sites fields) q) && later
read_behind q s later = later

abbrev mutual
  pub block_reads : Place → Block → Bool
  block_reads q no_statement = false
  block_reads q (statement s rest) = statement_reads q s || read_behind q s (block_reads q rest)

  pub statement_reads : Place → Statement → Bool
  statement_reads q (bind v e) = expr_reads q e
  statement_reads q (bind_some v u) = touches q u.place
  statement_reads q no_way = false
  statement_reads q (match_on u arms) = touches q u.place || arms_read q arms
  statement_reads q (if_equal a b body) = (touches q a.place || touches q b.place) || block_reads q body
  statement_reads q (for_each_of v from body) = touches q (variable from) || (not (is_of (v ∷ []) q) && block_reads q body)
  statement_reads q (give at u) = touches q u.place
  statement_reads q (labelled body) = block_reads q body
  statement_reads q (unless_let u pattern fields) = touches q u.place
  statement_reads q (unless_equal a b) = touches q a.place || touches q b.place

  pub arms_read : Place → CodeArms → Bool
  arms_read q no_code_arm = false
  arms_read q (code_arm pattern fields body rest) = (not (is_of (field_sites fields) q) && block_reads q body) || arms_read q rest

abbrev pub is_away : Given → Bool
is_away gives_away = true
is_away g = false

-- a move may stand: of what can be moved, and is read no more
abbrev pub may_move : List ℕ → (Place → Bool) → Place → Bool
may_move inside later place = is_of inside place && not (later place)

abbrev pub moves_well : Types → List ℕ → (Place → Bool) → PlaceUse → Bool
moves_well types inside later u = not (is_away (given types u)) || may_move inside later u.place

-- of several that are handed on together, no other one reads it
abbrev pub beside : List PlaceUse → List PlaceUse → (Place → Bool) → Place → Bool
beside before behind later q = (any_touch q before || any_touch q behind) || later q

abbrev pub all_move_well : Types → List ℕ → (Place → Bool) → List PlaceUse → List PlaceUse → Bool
all_move_well types inside later before [] = true
all_move_well types inside later before (u ∷ us) = moves_well types inside (beside before us later) u && all_move_well types inside later (u ∷ before) us

abbrev pub expr_moves : Types → List ℕ → (Place → Bool) → Expr → Bool
expr_moves types inside later (truth_written b ty) = true
expr_moves types inside later (read u) = moves_well types inside later u
expr_moves types inside later (extraction term u) = moves_well types inside later u
expr_moves types inside later (call term us instance) = all_move_well types inside later [] us
expr_moves types inside later (variant_of ty variant us) = all_move_well types inside later [] us
expr_moves types inside later (struct_of ty us) = all_move_well types inside later [] us
expr_moves types inside later (some_of u) = moves_well types inside later u

abbrev pub without : ℕ → List ℕ → List ℕ
without v [] = []
without v (x ∷ xs) = if x == v then without v xs else x ∷ without v xs

-- what is looked into can't be moved: a pattern may see what is within it by reference
abbrev pub unlooked : List ℕ → Place → List ℕ
unlooked inside (variable v) = without v inside
unlooked inside (part_of v i) = without v inside
unlooked inside place = inside

-- what can be moved from a statement to the end of its block
abbrev pub movable_after : List ℕ → Statement → List ℕ
movable_after inside (bind v e) = v ∷ inside
movable_after inside (bind_some v u) = v ∷ unlooked inside u.place
movable_after inside (unless_let u pattern fields) = field_sites fields ++ unlooked inside u.place
movable_after inside s = inside

-- what is read behind a statement: by the rest of its block, and by what follows that
abbrev pub behind : Statement → Block → (Place → Bool) → Place → Bool
behind s rest after q = read_behind q s (block_reads q rest) || after q

-- read by the body of a loop, or behind it
abbrev pub around_loop : ℕ → Block → (Place → Bool) → Place → Bool
around_loop v body later q = (not (is_of (v ∷ []) q) && block_reads q body) || later q

abbrev pub around_arms : CodeArms → (Place → Bool) → Place → Bool
around_arms arms later q = arms_read q arms || later q

-- nothing is read behind a turn of a loop of what it bound
abbrev pub read_no_more : Place → Bool
read_no_more q = false

-- `inside` are the variables that can be moved, which were bound in this turn; `after` and `later` say what is read behind. A loop takes what it goes over. A
-- return that ends the function may give away what it likes
abbrev mutual
  pub block_moves : Types → Bool → List ℕ → (Place → Bool) → Block → Bool
  block_moves types multi inside after no_statement = true
  block_moves types multi inside after (statement s rest) = statement_moves types multi inside (behind s rest after) s && unless_ended s (block_moves types multi (movable_after inside s) after rest)

  pub statement_moves : Types → Bool → List ℕ → (Place → Bool) → Statement → Bool
  statement_moves types multi inside later (bind v e) = expr_moves types inside later e
  statement_moves types multi inside later (bind_some v u) = moves_well types inside later u
  statement_moves types multi inside later no_way = true
  statement_moves types multi inside later (match_on u arms) = arms_move types multi (unlooked inside u.place) later (moves_well types inside (around_arms arms later) u) arms
  statement_moves types multi inside later (if_equal a b body) = block_moves types multi inside later body
  statement_moves types multi inside later (for_each_of v from body) = may_move inside (around_loop v body later) (variable from) && block_moves types multi (v ∷ []) read_no_more body
  statement_moves types multi inside later (give at u) = not multi || moves_well types inside later u
  statement_moves types multi inside later (labelled body) = block_moves types multi inside later body
  statement_moves types multi inside later (unless_let u pattern fields) = moves_well types inside later u
  statement_moves types multi inside later (unless_equal a b) = true

  pub arms_move : Types → Bool → List ℕ → (Place → Bool) → Bool → CodeArms → Bool
  arms_move types multi inside later well no_code_arm = true
  arms_move types multi inside later well (code_arm pattern fields body rest) =
      (well && block_moves types multi (field_sites fields ++ inside) later body) && arms_move types multi inside later well rest

-- a whole function
abbrev pub IsMovedOnce : Types → Bool → Block → Type 0
IsMovedOnce types multi code = block_moves types multi [] read_no_more code ≡ true

-- code whose uses fit, with clones of all that is kept, and whose loops take each what was bound right before, moves once
abbrev pub FittingCodeMovesOnce : Type 0
FittingCodeMovesOnce =
    (types : Types) (multi : Bool) (taken : ℕ → Bool) (code : Block) → block_fits types multi false code ≡ true → block_takes taken [] code ≡ true
    → IsMovedOnce types multi code

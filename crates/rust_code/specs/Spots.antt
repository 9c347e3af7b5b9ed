-- Where code stands, as a move is judged by it: how variables are held, which may be moved, and what follows.
use Rattle.std.specs.Prelude.{◌≡◌, ℕ, Bool, List}
use Rattle.std.specs.List.{list_any}
use Rattle.model.specs.trees.Places.{is_in}
use Rattle.model_code.specs.Code as M
use Rattle.model_code.specs.Code.{no_statement}
use Rattle.model_code.specs.Modes.{Types}
use Rattle.model_code.specs.MovedOnce.{behind, block_reads}
use Rattle.rust_code.specs.declared.code.Statement.{Statement}
use Rattle.rust_code.specs.declared.held.Held.{Held}
use Rattle.rust_code.specs.declared.moves.Left.{Left}
use Rattle.rust_code.specs.declared.moves.Spot.{Spot}
use Rattle.rust_code.specs.CodeViews.{before, statement_view}
use Rattle.rust_code.specs.HeldViews.{hold_in}

-- what is known of sites says which variables are references
abbrev pub SaysModes : List Held → Types → Type 0
SaysModes held types = (s : ℕ) → (hold_in held s).mode ≡ types.variables s

-- the same variables, in whatever order
abbrev pub HasSame : List ℕ → List ℕ → Type 0
HasSame xs ys = (v : ℕ) → is_in v xs ≡ is_in v ys

-- what holds of all types that are said so, and of all lists of these variables
abbrev pub OfSpots : List Held → List ℕ → (Types → List ℕ → Type 0) → Type 0
OfSpots held inside P = (types : Types) (movable : List ℕ) → SaysModes held types → HasSame inside movable → P types movable

-- read by what is left of blocks
abbrev pub left_reads : List Left → M.Place → Bool
left_reads after q = list_any (λ l. block_reads q (before l.statements.now no_statement)) after

-- read behind a statement
abbrev pub later_at : Statement → Spot → M.Place → Bool
later_at s spot = behind (statement_view s) (before spot.rest.now no_statement) (left_reads spot.after.now)

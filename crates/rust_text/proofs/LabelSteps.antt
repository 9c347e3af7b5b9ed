-- Which labels are left, statement by statement.
use Rattle.std.proofs.Common.{◌≡◌, Bool, true, false}
use Rattle.model_code.specs.Code.{Block, statement, Statement}
use Rattle.model_code.specs.Pieces.{is_left, leaves_at, is_end}

pub left_here : (ends : Bool) (s : Statement) (later : Block) → leaves_at ends s ≡ true → is_left ends (statement s later) ≡ true
left_here ends s later h = rw h

pub left_ended : (ends : Bool) (s : Statement) (later : Block) → leaves_at ends s ≡ false → is_end ends s ≡ true → is_left ends (statement s later) ≡ false
left_ended ends s later h k = rw (h, k)

pub left_later : (ends : Bool) (s : Statement) (later : Block) → leaves_at ends s ≡ false → is_end ends s ≡ false → is_left ends (statement s later) ≡ is_left ends later
left_later ends s later h k = rw (h, k)

pub ruleset left_steps = (left_here, left_ended, left_later)

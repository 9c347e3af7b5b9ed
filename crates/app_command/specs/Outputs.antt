-- What standard output has, where its bytes are known, when the command ends.
use Rattle.std.specs.Prelude.{ℕ, ◌≡◌, ◌≢◌, ◌⊎◌, true, false, List, [], Option}
use Rattle.std.specs.Io.KnownBytes.{Appends, Keeps}
use Rattle.app_command.specs.declared.output.Ending.{Ending}

-- it ends with this status, and the sink has what it had
abbrev pub IsNothingWritten : (old new : Option (List ℕ)) (status : ℕ) → Ending → Type 0
IsNothingWritten old new status ending = (ending.status ≡ status) × (ending.is_cut ≡ false) × Keeps old new

-- this status is that of a text: the sink has what it had and exactly the text; or, of a text that isn't empty, nobody reads any
-- more, or it can't be written, which is the status 4
abbrev pub IsWrittenOut : (old new : Option (List ℕ)) (text : List ℕ) (status : ℕ) → Ending → Type 0
IsWrittenOut old new text status ending =
    ((ending.status ≡ status) × (ending.is_cut ≡ false) × Appends old new text)
    ⊎ ((text ≢ []) × (((ending.status ≡ status) × (ending.is_cut ≡ true)) ⊎ ((ending.status ≡ 4) × (ending.is_cut ≡ false))))

-- Where an error stands: in that file, at an offset of at most the text's length. The list that it says is not ended begins
-- before it, in that file. Want of memory stands nowhere.
use Rattle.std.specs.Prelude.{◌≡◌, ◌≤◌, ℕ, ⊤}
use Rattle.text_reader.specs.declared.errors.Problem.{Problem}
use Rattle.text_reader.specs.declared.errors.Problem.TheVariants as P
use Rattle.text_reader.specs.declared.errors.ReadFault.{ReadFault}
use Rattle.text_reader.specs.declared.errors.ReadFault.TheVariants.{Memory, Text}
use Rattle.text_reader.specs.Forms.{PosIsWithin}

abbrev pub BeginsBefore : (file offset : ℕ) → Problem → Type 0
BeginsBefore file offset (P.Expected m) = ⊤
BeginsBefore file offset (P.Unclosed open_at) = PosIsWithin file offset open_at
BeginsBefore file offset (P.UnknownDefinition w) = ⊤

abbrev pub FaultIsWithin : (file size : ℕ) → ReadFault → Type 0
FaultIsWithin file size (Memory e) = ⊤
FaultIsWithin file size (Text e) = (e.pos.file ≡ file) × (e.pos.offset ≤ size) × BeginsBefore file e.pos.offset e.problem

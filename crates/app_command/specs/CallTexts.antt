-- What the command says of a call that is run.
use Rattle.std.specs.Prelude.{ℕ, ◌≡◌, ⊤, List, is_none, string_bytes}
use Rattle.cranelift_isle.specs.declared.lower.Lowered.{Lowered}
use Rattle.cranelift_isle.specs.Layers.{LoweredTerm}
use Rattle.cranelift_isle.specs.Values.{Value}
use Rattle.report_traces.specs.CallAnswers.{IsEntry}
use Rattle.report_traces.specs.RunTexts.{answers_as_echo, IsRunText}
use Rattle.report_traces.specs.declared.replies.Replies.{Replies}
use Rattle.app_command.specs.declared.calls.Told.{Told}
use Rattle.app_command.specs.declared.calls.Told.TheVariants.{Text, Wrong}
use Rattle.app_words.specs.declared.request.Request.{Request}

-- what is told of the run of a call of a term with rules. Where no file of answers is given, echoes answer
abbrev pub IsTextOfRun : Request → Lowered → List ℕ → Type 0
IsTextOfRun asked l text =
    (replies : Replies) × (answers_as_echo replies ≡ is_none asked.answers) × (t : LoweredTerm) × (args : List Value) × IsEntry l t
    × IsRunText l replies asked.trace t args text

-- or something is wrong
abbrev pub IsToldOfRun : Request → Lowered → Told → Type 0
IsToldOfRun asked l (Text text) = IsTextOfRun asked l (string_bytes text)
IsToldOfRun asked l (Wrong why) = ⊤

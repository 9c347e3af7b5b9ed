-- What is told where echoes answer.
use Rattle.std.proofs.Common.{◌≡◌, ◌++◌, Bool, true, false, List, ℕ, [], refl}
use Rattle.cranelift_isle.specs.declared.lower.Lowered.{Lowered}
use Rattle.cranelift_isle.specs.Layers.{LoweredTerm}
use Rattle.cranelift_isle.specs.Values.{Value}
use Rattle.report_traces.specs.CallAnswers.{answer_words}
use Rattle.report_traces.specs.RunTexts.{IsRunText, answers_as_echo, told_if}
use Rattle.report_traces.specs.declared.replies.Replies.{Replies}
use Rattle.report_traces.specs.declared.replies.Replies.TheVariants.{Echoes, Lines}

-- nothing stands above a line
pub told_none : (tells : Bool) (line : List ℕ) → line ≡ told_if tells [] ++ line
told_none true line = refl
told_none false line = refl

-- where echoes answer, their words alone may be told
pub echoed_run : (l : Lowered) (replies : Replies) (tells : Bool) (t : LoweredTerm) (args : List Value) (line : List ℕ)
    → answers_as_echo replies ≡ true → line ≡ answer_words l t args → IsRunText l replies tells t args line
echoed_run l Echoes tells t args line echo is = ([], line, ([], [], [], [], is), told_none tells line)
echoed_run l (Lines lines) tells t args line echo is = absurd (cc echo)

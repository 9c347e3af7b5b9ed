-- What answers say of questions. An answer is one to the text that the solver was asked, and to no other.
use Rattle.std.specs.Prelude.{ℕ, Bool, true, false, not, ◌&&◌, ◌||◌, List, Option, None, Some, String, length, nat_lt}
use Rattle.std.specs.List.{list_all, list_any}
use Rattle.std.specs.Str.{bytes_eq}
use Rattle.std.specs.declared.alloc.Global.{Global}
use Rattle.spec_questions.specs.declared.answers.Answer.{Answer}
use Rattle.spec_questions.specs.declared.questions.Question.{Question}
use Rattle.spec_questions.specs.declared.replies.Reply.{Reply}
use Rattle.spec_questions.specs.declared.replies.Reply.TheVariants as R
use Rattle.spec_questions.specs.declared.verdicts.Verdict.{Verdict}
use Rattle.spec_questions.specs.declared.verdicts.Verdict.TheVariants as V

abbrev pub is_unsat : Reply → Bool
is_unsat R.Unsat = true
is_unsat (R.Sat values) = false
is_unsat (R.Other said) = false

abbrev pub is_sat : Reply → Bool
is_sat R.Unsat = false
is_sat (R.Sat values) = true
is_sat (R.Other said) = false

-- whether a solver said `unsat` to exactly this text
abbrev pub says_unsat : List ℕ → Answer → Bool
says_unsat text answer = bytes_eq answer.text.bytes.items text && is_unsat answer.reply

-- whether a solver said `sat` to exactly this text
abbrev pub says_sat : List ℕ → Answer → Bool
says_sat text answer = bytes_eq answer.text.bytes.items text && is_sat answer.reply

-- a solver said `unsat` to this text, and none said `sat`
abbrev pub is_refuted_by : List Answer → List ℕ → Bool
is_refuted_by answers text = list_any (says_unsat text) answers && not (list_any (says_sat text) answers)

-- a solver said `sat` to this text, and none said `unsat`
abbrev pub is_possible_by : List Answer → List ℕ → Bool
is_possible_by answers text = list_any (says_sat text) answers && not (list_any (says_unsat text) answers)

-- what a text asks for is so: it needs no text, or that it isn't so is refuted by an answer to this very text
abbrev pub is_so_by : List Answer → Option (String Global) → Bool
is_so_by answers None = true
is_so_by answers (Some text) = is_refuted_by answers text.bytes.items

-- it may not be so
abbrev pub may_fail_by : List Answer → Option (String Global) → Bool
may_fail_by answers None = false
may_fail_by answers (Some text) = is_possible_by answers text.bytes.items

-- what a question asks for is so
abbrev pub is_right_by : List Answer → Question → Bool
is_right_by answers question = is_so_by answers question.wrong

-- nor is it where all is followed
abbrev pub fails_by : List Answer → Option (String Global) → Bool
fails_by answers None = true
fails_by answers (Some text) = is_possible_by answers text.bytes.items

-- what a question asks for may not be so, where all is followed that is said of it
abbrev pub is_wrong_by : List Answer → Question → Bool
is_wrong_by answers question = may_fail_by answers question.wrong && fails_by answers question.elsewhere

-- on the way of a question a call may take the rule
abbrev pub is_taken_by : List Answer → Question → Bool
is_taken_by answers question = is_possible_by answers question.taken.bytes.items

-- on the way of a question no call takes the rule
abbrev pub is_untaken_by : List Answer → Question → Bool
is_untaken_by answers question = is_refuted_by answers question.taken.bytes.items

-- there is a question, what each asks for is so, and it is known whether a call takes the rule
abbrev pub are_answered : List Answer → List Question → Bool
are_answered answers questions =
    nat_lt 0 (length questions) && list_all (is_right_by answers) questions
    && (list_any (is_taken_by answers) questions || list_all (is_untaken_by answers) questions)

-- what is said where something may not be so: that the rule is wrong, if all that it calls is followed
abbrev pub wrong_by : Bool → Verdict
wrong_by true = V.Wrong
wrong_by false = V.Unfollowed

-- what a verdict on a rule says is so: by answers to the texts of its questions, and by whether all that it calls is followed
abbrev pub is_shown : List Answer → List Question → (is_followed : Bool) → Verdict → Bool
is_shown answers questions followed V.Right =
    are_answered answers questions && list_any (is_taken_by answers) questions
is_shown answers questions followed V.Idle =
    are_answered answers questions && list_all (is_untaken_by answers) questions
is_shown answers questions followed V.Wrong =
    list_any (is_wrong_by answers) questions && followed
is_shown answers questions followed V.Unfollowed =
    list_any (is_wrong_by answers) questions && not followed
is_shown answers questions followed V.Unknown =
    not (list_any (is_wrong_by answers) questions) && not (are_answered answers questions)

-- the same, where some pure calls are to be as their terms require, by the questions about them: a rule is right only if each of these is
-- refuted too, and wrong also if one of them may fail
abbrev pub is_shown_with : List Answer → List Question → (required : List Question) → (is_followed : Bool) → Verdict → Bool
is_shown_with answers questions required followed V.Right =
    is_shown answers questions followed V.Right && list_all (is_right_by answers) required
is_shown_with answers questions required followed V.Idle =
    is_shown answers questions followed V.Idle
is_shown_with answers questions required followed V.Wrong =
    (list_any (is_wrong_by answers) questions || list_any (is_wrong_by answers) required) && followed
is_shown_with answers questions required followed V.Unfollowed =
    (list_any (is_wrong_by answers) questions || list_any (is_wrong_by answers) required) && not followed
is_shown_with answers questions required followed V.Unknown =
    not (list_any (is_wrong_by answers) questions || list_any (is_wrong_by answers) required)
    && not (are_answered answers questions && list_all (is_right_by answers) required)

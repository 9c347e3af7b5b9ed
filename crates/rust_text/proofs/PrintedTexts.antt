-- Printed texts are read back, since their names are read by themselves.
use Rattle.laws_code.specs.WritableCode.{TextOfAcceptedIsReadBack}
use Rattle.rust_text.specs.ProgramNames.{names_of}
use Rattle.rust_text.specs.WholeNames.{NamesAreWhole}
use Rattle.laws_code.specs.TextRuns.{EachTermHasItsText}
use Rattle.rust_text.specs.PrintedTexts.{PrintedTextsAreReadBack, EachTermHasItsPrintedText}

pub printed_texts_are_read_back_lem : TextOfAcceptedIsReadBack → NamesAreWhole → PrintedTextsAreReadBack
printed_texts_are_read_back_lem texts whole defs expand rules l accepted built best s kind is_logged deep n = texts defs expand rules l accepted built best (names_of s) (whole s) kind is_logged deep n

pub each_term_has_its_printed_text_lem : EachTermHasItsText → NamesAreWhole → EachTermHasItsPrintedText
each_term_has_its_printed_text_lem texts whole defs expand types terms rules lowered answers t known =
    let x = texts defs expand types terms rules lowered answers t known in
    (x.0, x.1, x.2, λ s is_logged deep d. x.3 (names_of s) (whole s) is_logged deep d)

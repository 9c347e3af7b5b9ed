use Rattle.std.proofs.Common.{◌∙◌, sym}
use Rattle.app_words.specs.Asked.{none_read}
use Rattle.app_words.proofs.Reading.{call_given, read_on, told}
use Rattle.app_words.proofs.given.given_by.Goals as goal

pub loop-word-init : goal.loop-word-init
loop-word-init c = rw c.new-items.ensures.items none_read

pub loop-word-preserved : goal.loop-word-preserved
loop-word-preserved c =
    rw c.in_ok-push.ensures.items
    (read_on _ _ _ _ _ _ _ _ _ c.loop-word.invariant c.in-Some.ensures c.first_item.ensures c.as_slice.ensures.value
    c.in_default-check_item.ensures)

pub returns-then-begins_call : goal.returns-then-begins_call
returns-then-begins_call c =
    call_given _ _ _ _ _ _ c.loop-word.invariant c.in-Some.ensures (sym c.begins_call.ensures ∙ c.if-begins_call.true)

pub returns-in-Err : goal.returns-in-Err
returns-in-Err c =
    told _ _ _ _ _ _ _ _ _ _ c.loop-word.invariant c.in-Some.ensures c.first_item.ensures c.as_slice.ensures.value c.in-Err.ensures

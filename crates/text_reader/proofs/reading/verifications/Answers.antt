use Rattle.std.proofs.Common.{map, arith}
use Rattle.std.specs.Prelude.{option_map}
use Rattle.text_reader.specs.FormViews.{all_view}
use Rattle.text_reader.proofs.ReadLists.{handed-on}
use Rattle.text_reader.specs.SpecViews.{numbered_view, verification_view}
use Rattle.text_reader.specs.Verifying.{said_from}
use Rattle.text_reader.proofs.Numbered.{said-begun, said-more, said-failed, said-done}
use Rattle.text_reader.proofs.reading.verifications.Goals as goal

pub loop-i-init : goal.loop-i-init
loop-i-init c = said-begun c.args.forms.now _ c.new-found.ensures.items

pub loop-i-preserved : goal.loop-i-preserved
loop-i-preserved c =
    said-more c.args.forms.now c.loop-i.i c.loop-i.found.items c.push_said.new.found.items c.index-forms-i.result (option_map verification_view c.in_ok-said.said)
    c.loop-i-test.true c.index-forms-i.is c.in_ok-said.ensures c.in_ok-push_said.ensures c.loop-i.invariant

pub returns-in_err-said : goal.returns-in_err-said
returns-in_err-said c =
    handed-on (λ vs. map numbered_view vs.items) c.from_residual.result c.in_err-said.field-0.0 (said_from 0 (all_view c.args.forms.now)) c.from_residual.ensures
    (said-failed c.args.forms.now c.loop-i.i (map numbered_view c.loop-i.found.items) c.index-forms-i.result c.in_err-said.field-0.0 c.loop-i-test.true c.index-forms-i.is c.in_err-said.ensures
    c.loop-i.invariant)

pub returns : goal.returns
returns c = said-done c.args.forms.now c.loop-i.i c.loop-i.found.items (omega (arith, c.loop-i-test.false)) c.loop-i.invariant

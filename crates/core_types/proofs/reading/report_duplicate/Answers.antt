use Rattle.std.proofs.Common.{◌<◌, inl, rules}
use Rattle.std.proofs.lemmas.Result.{on_ok_weaker}
use Rattle.core_types.proofs.ToldErrors.{both_noted}
use Rattle.core_types.proofs.reading.report_duplicate.Goals as goal

pub returns : goal.returns
returns c =
    let less : c.args.existing.0 < 13 = search rules in
    record { told = on_ok_weaker c.report_name-2.result (λ r. inl (less, both_noted _ 1 1 _ _ _ c.in_ok-report_name.ensures.told r)) c.report_name-2.ensures.told }

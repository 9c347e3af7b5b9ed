use Rattle.std.proofs.Common.{drop, string_bytes}
use Rattle.text_documents.proofs.ChangeLemmas.{LeadTo}
use Rattle.text_documents.proofs.changes.changed.Given as goal

abbrev pub invariant-loop-change : goal.invariant-loop-change
invariant-loop-change l = LeadTo l.text l.changes (string_bytes l.now) (drop l.change-index l.changes)

use Rattle.std.proofs.Common.{◌≡◌, length, ◌∙◌}
use Rattle.core_terms.proofs.TermMaps.{read_ids}
use Rattle.core_terms.proofs.term_table.TermTable.push_term.Goals as goal

pub returns-clause-ids : goal.returns-clause-ids
returns-clause-ids c =
    let n : c.len.result ≡ length c.args.self.now.terms.items = c.len.ensures ∙ c.args.self.now.terms.ok.0 in
    λ k. rw (← n) (read_ids c.args.self.now.term_map c.insert.new.self c.args.name _ c.in_ok-insert.ensures.has k)

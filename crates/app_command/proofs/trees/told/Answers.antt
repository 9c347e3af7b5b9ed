use Rattle.std.proofs.Common.{rules, ◌≡◌, ◌++◌, ◌∙◌, ap, ℕ, List, string_bytes}
use Rattle.cranelift_isle.specs.declared.lower.LoweredTerm.{LoweredTerm}
use Rattle.report_queries.specs.TermTexts.{term_text}
use Rattle.app_command.proofs.TermTexts.{one_text_more}
use Rattle.app_command.proofs.trees.told.Goals as goal

pub loop-term-preserved : goal.loop-term-preserved
loop-term-preserved g c =
    let text : LoweredTerm → List ℕ = λ t. string_bytes c.loop-term.out ++ term_text c.in_ok-lines.lines.files.now c.args.lowered.now t in
    let written : string_bytes c.push_tree.new.out ≡ text c.term-item.result.now = search rules in
    one_text_more c.args.files.now c.args.lowered.now c.args.terms.now c.loop-term.term-index c.term-item.result c.in_ok-lines.lines.files.now _ _ _
    c.loop-term-test.true c.in_ok-lines.ensures (written ∙ ap (λ t. text t.now) c.term-item.is) c.loop-term.invariant

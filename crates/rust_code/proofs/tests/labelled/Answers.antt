use Rattle.std.proofs.Common.{◌∷◌, ◌++◌, ◌∙◌, [], ap}
use Rattle.model_code.specs.Code.{no_statement, statement}
use Rattle.rust_code.specs.declared.code.CodeBlock.{CodeBlock, roll-CodeBlock}
use Rattle.rust_code.specs.declared.code.Statement.{Labelled}
use Rattle.rust_code.specs.CodeViews.{before}
use Rattle.rust_code.proofs.CodeBridges.{labelled_seen}
use Rattle.rust_code.proofs.tests.labelled.Goals as goal

pub returns : goal.returns
returns c =
    let body : CodeBlock = roll-CodeBlock record { statements = c.args.statements } in
    ap (λ l. before l no_statement) c.in_ok-push.ensures.items ∙ ap (λ l. before (l ++ Labelled body ∷ []) no_statement) c.new-out.ensures.items ∙ ap (λ x. statement x no_statement) (labelled_seen body)

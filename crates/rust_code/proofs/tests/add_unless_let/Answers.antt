use Rattle.std.proofs.Common.{◌∙◌, ap}
use Rattle.model_code.specs.Code.{statement}
use Rattle.rust_code.specs.CodeViews.{before}
use Rattle.rust_code.proofs.StatementSteps.{before_pushed}
use Rattle.rust_code.proofs.tests.add_unless_let.Goals as goal

pub returns : goal.returns
returns c = λ rest.
    before_pushed c.args.out.now.items c.push.new.self.items c.in_ok-tested.tested rest c.in_ok-push.ensures.items ∙ ap (λ x. before c.args.out.now.items (statement x rest)) c.in_ok-tested.ensures

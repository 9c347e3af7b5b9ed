use Rattle.std.proofs.Common.{[], ◌∙◌, ap}
use Rattle.model.specs.trees.Places.{is_in}
use Rattle.model_code.specs.Code.{no_statement}
use Rattle.model_code.specs.MovedOnce.{read_no_more}
use Rattle.model_code.specs.Saving.{saved}
use Rattle.rust_code.specs.CodeViews.{before}
use Rattle.rust_code.proofs.moves.with_moves.Goals as goal

pub returns : goal.returns
returns c = λ types modes.
    c.in_ok-block_with_moves.ensures types [] modes (λ v. ap (is_in v) c.new.ensures.items) ∙ ap (λ l. saved types [] read_no_more (before l no_statement)) c.deref.ensures.value

use Rattle.std.specs.Prelude.{string_bytes}
use Rattle.model.specs.claims.Layers.{own_program}
use Rattle.core_terms.specs.TermViews.{term_views}
use Rattle.cranelift_isle.specs.Lowerings.{lowered_views}
use Rattle.rust_items.specs.ItemViews.{items_by}
use Rattle.rust_items.specs.WrittenItems.{items_before}
use Rattle.rust_items.proofs.GrownTexts.{then_more}
use Rattle.rust_items.proofs.Turns.{err_is}
use Rattle.rust_text.specs.Settings.{setting_by_program}
use Rattle.rust_text.specs.WrittenFunctions.{functions_in}
use Rattle.rust_text.proofs.code.push_code.Goals as goal

pub returns-in_err-push_items-clause-wrong : goal.returns-in_err-push_items-clause-wrong
returns-in_err-push_items-clause-wrong c = rw (err_is c.from_residual.result c.in_err-push_items.field-0.0 c.from_residual.ensures) c.in_err-push_items.ensures.wrong

pub returns-clause-written : goal.returns-clause-written
returns-clause-written c =
    λ defs expand rules answers.
    then_more (string_bytes c.args.out.now) (string_bytes c.push_items.new.out) (string_bytes c.push_functions.new.out)
    (items_before (items_by c.args.program) c.args.options.now.exclude_global_allow_pragmas (term_views c.args.program.terms.now))
    (functions_in (setting_by_program c.args.program) (own_program defs rules) (lowered_views c.args.lowered.now.terms.items)) c.in_ok-push_items.ensures.written
    (c.in_ok-push_functions.ensures defs expand rules answers)

use Rattle.std.proofs.Common.{◌∙◌, ◌++◌, refl, ap}
use Rattle.std.specs.Prelude.{string_bytes}
use Rattle.rust_items.proofs.Turns.{err_is, tells_more}
use Rattle.rust_text.specs.Settings.{setting_by_program}
use Rattle.rust_text.specs.WholeCode.{first_line}
use Rattle.rust_text.proofs.WholeCode.{names_told, signatures_told, whole}
use Rattle.rust_text.proofs.code.code_in.Goals as goal

pub returns-in_err-check_program-clause-wrong : goal.returns-in_err-check_program-clause-wrong
returns-in_err-check_program-clause-wrong c =
    rw (err_is c.from_residual.result c.in_err-check_program.field-0.0 c.from_residual.ensures)
    (tells_more c.in_err-check_program.field-0.0 _ _ c.in_err-check_program.ensures.wrong
    (λ text h. names_told c.args.program c.args.lowered.now c.requires.tyenv c.requires.terms c.deref.result.now text c.deref.ensures.value h))

pub returns-in_err-push_code-clause-wrong : goal.returns-in_err-push_code-clause-wrong
returns-in_err-push_code-clause-wrong c =
    rw (err_is c.from_residual-in_err-push_code.result c.in_err-push_code.field-0.0 c.from_residual-in_err-push_code.ensures)
    (tells_more c.in_err-push_code.field-0.0 _ _ c.in_err-push_code.ensures.wrong
    (λ text h. signatures_told c.args.program c.args.lowered.now c.requires.tyenv c.requires.terms text h))

pub returns-clause-code : goal.returns-clause-code
returns-clause-code c =
    whole c.args.program c.args.lowered.now c.requires.tyenv c.requires.terms (setting_by_program c.args.program) c.args.options.now.exclude_global_allow_pragmas c.deref.result.now
    (string_bytes c.in_ok-items.items) (string_bytes c.push_code.new.out) (string_bytes c.in_ok-code.code) refl c.deref.ensures.value c.in_ok-items.ensures.ok
    (c.in_ok-code.ensures ∙ ap (λ x. first_line ++ x) c.deref-2.ensures)
    c.in_ok-push_code.ensures.written c.in_ok-check_program.ensures.named c.in_ok-push_code.ensures.alike c.in_ok-check_program.ensures.expanded

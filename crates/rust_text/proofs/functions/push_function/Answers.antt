use Rattle.std.proofs.Common.{◌≡◌, ◌∙◌, Some, None, refl, slice_get, ap, sym}
use Rattle.std.specs.Prelude.{string_bytes}
use Rattle.std.proofs.lemmas.Option.{slice_get-get_or, slice_get_past}
use Rattle.std.proofs.lemmas.Result.{on_ok_weaker}
use Rattle.core_terms.specs.declared.signature.ReturnKind.TheVariants as R
use Rattle.rust_text.specs.Settings.{setting_by_program}
use Rattle.rust_text.proofs.WrittenFunctions.{function_there, no_function}
use Rattle.rust_text.proofs.functions.push_function.Goals as goal

pub returns-in-Some : goal.returns-in-Some
returns-in-Some c =
    let terms = c.args.program.terms.now in
    let found = c.in-Some.ensures.lookup in
    let at : slice_get terms c.args.of.now.id.0 ≡ Some c.in-Some.term.now =
    ap (slice_get terms) (sym c.index.ensures) ∙ slice_get-get_or terms c.index.result c.in-Some.term.now found.3.0 ∙ ap Some (sym found.1) in
    on_ok_weaker c.push_function_of.result
    (function_there (record { program = c.args.program; gives = R.Plain }) c.args.lowered.now c.args.of.now (setting_by_program c.args.program) (string_bytes c.args.out.now) (string_bytes c.push_function_of.new.out)
    c.requires.tyenv c.requires.terms c.in-Some.term.now at)
    c.push_function_of.ensures

pub returns-in-None : goal.returns-in-None
returns-in-None c =
    let terms = c.args.program.terms.now in
    no_function (record { program = c.args.program; gives = R.Plain }) c.args.lowered.now c.args.of.now (setting_by_program c.args.program) (string_bytes c.args.out.now) (string_bytes c.args.out.now) c.requires.tyenv
    c.requires.terms (ap (slice_get terms) (sym c.index.ensures) ∙ slice_get_past terms c.index.result c.in-None.ensures.lookup.3) refl

use Rattle.std.proofs.Common.{◌≡◌, ◌++◌, map, drop, string_bytes}
use Rattle.text_writer.specs.SpecForms.{printed}
use Rattle.text_reader.specs.SpecViews.{verification_view}
use Rattle.text_writer.proofs.verification.push_forms.Given as goal

abbrev pub invariant-loop-form : goal.invariant-loop-form
invariant-loop-form l = string_bytes l.out ++ printed (map verification_view (drop l.form-index l.forms)) ≡ string_bytes l.fn.out ++ printed (map verification_view l.forms)

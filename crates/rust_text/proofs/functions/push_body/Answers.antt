use Rattle.std.proofs.Common.{◌≡◌, ◌∙◌, ◌++◌, ap, refl}
use Rattle.std.specs.Prelude.{string_bytes}
use Rattle.model_code.specs.Spelling.{spelled}
use Rattle.model_code.specs.Written.{function_body}
use Rattle.rust_code.specs.CodeViews.{block_view}
use Rattle.rust_text.specs.ProgramNames.{names_of}
use Rattle.rust_text.specs.TokenViews.{piece_views}
use Rattle.rust_text.specs.Settings.{setting_by}
use Rattle.rust_text.specs.Writers.{gives_view, notation_by, program_by}
use Rattle.rust_text.proofs.ProgramSteps.{said}
use Rattle.rust_text.proofs.functions.push_body.Goals as goal

pub returns : goal.returns
returns c =
    let w = c.args.writer.now in
    let names = names_of (setting_by w c.args.term.now) in
    said w (λ p. string_bytes c.push_pieces.new.out ≡ string_bytes c.args.out.now ++ spelled names (function_body p (block_view c.args.code.now)))
    (λ constants rules types.
    c.in_ok-push_pieces.ensures (program_by w constants rules) (gives_view w.gives) w.program.is_logged (record { types = refl; terms = refl })
    ∙ (ap (λ items. string_bytes c.args.out.now ++ spelled names (piece_views (notation_by w constants rules) items)) c.deref.ensures.value
    ∙ ap (λ ps. string_bytes c.args.out.now ++ spelled names ps)
    (c.in_ok-pieces.ensures (notation_by w constants rules) (record { constants = constants; rules = rules; types = types; is = refl }))))

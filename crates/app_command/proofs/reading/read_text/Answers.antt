use Rattle.std.proofs.Common.{rules, ◌≡◌, ◌++◌, ◌∷◌, [], ap, ◌∙◌, sym, subst, append-nil, length, Err}
use Rattle.std.proofs.lemmas.List.{map-append}
use Rattle.std.proofs.lemmas.List.Elements.{All-cons, All-nil}
use Rattle.cranelift_isle.specs.SyntaxViews.{definition_view, definition_views}
use Rattle.text_reader.specs.declared.errors.ReadFault.TheVariants.{Text}
use Rattle.text_reader.specs.Definitions.{reading}
use Rattle.text_reader.specs.Faults.{FaultIsWithin}
use Rattle.text_reader.specs.Views.{Fails}
use Rattle.text_reader.specs.Within.{DefinitionIsWithin}
use Rattle.app_command.specs.Readings.{error_view, mistake_in, StandsIn}
use Rattle.app_command.proofs.Texts.{ended}
use Rattle.app_command.proofs.reading.read_text.Goals as goal

pub returns-in_ok-append-in-Ok-clause-read : goal.returns-in_ok-append-in-Ok-clause-read
returns-in_ok-append-in-Ok-clause-read c =
    let added : c.append.new.self.items ≡ c.args.defs.now.items ++ c.in-Ok.read.items = search rules in (
      definition_views c.in-Ok.read.items,
      ap definition_views added ∙ map-append definition_view c.args.defs.now.items c.in-Ok.read.items,
      c.in-Ok.ensures.within,
      λ none. (none, c.in-Ok.ensures.found),
    )

pub returns-in_ok-append-in-Ok-clause-exact : goal.returns-in_ok-append-in-Ok-clause-exact
returns-in_ok-append-in-Ok-clause-exact c =
    ([], sym (append-nil c.args.mistakes.now.items), sym (ap mistake_in c.in-Ok.ensures.exact), All-nil (StandsIn c.args.number c.args.text.now))

pub returns-in_ok-push-in-Err-Text-clause-read : goal.returns-in_ok-push-in-Err-Text-clause-read
returns-in_ok-push-in-Err-Text-clause-read c =
    let pushed : c.push.new.self.items ≡ c.args.mistakes.now.items ++ (c.in-Err-Text.mistake ∷ []) = search rules in (
      [],
      sym (append-nil (definition_views c.args.defs.now.items)),
      All-nil (DefinitionIsWithin c.args.number (length c.args.text.now)),
      λ none. absurd (ended c.args.mistakes.now.items c.in-Err-Text.mistake (sym pushed ∙ none)),
    )

pub returns-in_ok-push-in-Err-Text-clause-exact : goal.returns-in_ok-push-in-Err-Text-clause-exact
returns-in_ok-push-in-Err-Text-clause-exact c =
    let pushed : c.push.new.self.items ≡ c.args.mistakes.now.items ++ (c.in-Err-Text.mistake ∷ []) = search rules in
    let fault : c.in-Err-Text.field-0 ≡ Text c.in-Err-Text.mistake = search rules in
    let exact : reading c.args.number c.args.text.now ≡ Err (error_view c.in-Err-Text.mistake)
    = subst (λ f. Fails f (reading c.args.number c.args.text.now)) fault c.in-Err-Text.ensures.exact in
    let within : StandsIn c.args.number c.args.text.now c.in-Err-Text.mistake
    = subst (λ f. FaultIsWithin c.args.number (length c.args.text.now) f) fault c.in-Err-Text.ensures.within in (
      c.in-Err-Text.mistake ∷ [],
      pushed,
      sym (ap mistake_in exact),
      All-cons (StandsIn c.args.number c.args.text.now) c.in-Err-Text.mistake [] within (All-nil (StandsIn c.args.number c.args.text.now)),
    )

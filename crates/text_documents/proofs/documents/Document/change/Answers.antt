use Rattle.std.proofs.Common.{◌≡◌, refl, sym, ap, ap₂, ◌∙◌, subst, string_bytes, to_z-of_z, w64}
use Rattle.text_documents.specs.Contents.{DocumentContents, contents}
use Rattle.text_documents.specs.Changes.{AreEdits}
use Rattle.text_documents.proofs.documents.Document.change.Goals as goal

pub returns-in-Some-clause-only : goal.returns-in-Some-clause-only
returns-in-Some-clause-only c = λ bytes h.
    let e : c.deref.result.now ≡ c.args.self.now.text = c.deref.ensures ∙ ap (λ (d : DocumentContents). d.text) c.self.view_is in
    let made = c.in_ok-text.ensures.only bytes (subst (λ t. AreEdits t c.args.changes.now bytes) (sym e) h) in
    let same : string_bytes c.in-Some.text ≡ bytes = rw c.in-Some.is at made in
    (refl, c.replace.ensures ∙ ap₂ contents (to_z-of_z {w = w64} {z = c.args.version} (record { sfits = c.ranges.version.sfits })) same)

pub returns-in-Some-clause-refused : goal.returns-in-Some-clause-refused
returns-in-Some-clause-refused c = λ never.
    let e : c.deref.result.now ≡ c.args.self.now.text = c.deref.ensures ∙ ap (λ (d : DocumentContents). d.text) c.self.view_is in
    let made : AreEdits c.deref.result.now c.args.changes.now (string_bytes c.in-Some.text) = rw c.in-Some.is at c.in_ok-text.ensures.made in
    absurd (never (string_bytes c.in-Some.text) (subst (λ t. AreEdits t c.args.changes.now (string_bytes c.in-Some.text)) e made))

pub returns-in-None-clause-only : goal.returns-in-None-clause-only
returns-in-None-clause-only c = λ bytes h.
    let e : c.deref.result.now ≡ c.args.self.now.text = c.deref.ensures ∙ ap (λ (d : DocumentContents). d.text) c.self.view_is in
    let made = c.in_ok-text.ensures.only bytes (subst (λ t. AreEdits t c.args.changes.now bytes) (sym e) h) in
    let impossible : ⊥ = rw c.in-None.is at made in
    absurd impossible

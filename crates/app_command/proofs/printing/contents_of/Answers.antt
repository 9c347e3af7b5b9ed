use Rattle.std.proofs.Common.{rules, ◌≡◌, ◌≤◌, ◌<◌, ◌+◌, ◌++◌, ◌∷◌, ◌∙◌, [], List, Some, ap, arith, length, map, refl, slice_get, string_bytes, subst, sym, take, ℕ}
use Rattle.std.proofs.lemmas.List.{length-map, length-take-le, take_all, take_more}
use Rattle.std.proofs.lemmas.Option.{get_or_from_slice_get, slice_get_read, slice_get_within}
use Rattle.model.proofs.Mapped.{get_map}
use Rattle.text_writer.specs.Contents.{TextContents, contents_of_text, contents_of_texts, contents_view, followed_by}
use Rattle.app_command.proofs.printing.contents_of.Goals as goal

-- the texts before a number, and the text of this number
one_more : ((texts : List (List ℕ)) (text : List ℕ) → contents_of_texts 0 (texts ++ text ∷ []) ≡ followed_by (contents_of_texts 0 texts) (contents_of_text (length texts) text))
    → (texts : List (List ℕ)) (number : ℕ) (text : List ℕ) (before after : TextContents)
    → slice_get texts number ≡ Some text → after ≡ followed_by before (contents_of_text number text)
    → before ≡ contents_of_texts 0 (take number texts) → after ≡ contents_of_texts 0 (take (number + 1) texts)
one_more follow texts number text before after at e old =
    let within = slice_get_within texts number text at in
    e ∙ ap (λ c. followed_by c (contents_of_text number text)) old
    ∙ ap (λ n. followed_by (contents_of_texts 0 (take number texts)) (contents_of_text n text)) (sym (length-take-le number texts (omega (arith, within))))
    ∙ sym (follow (take number texts) text)
    ∙ ap (λ t. contents_of_texts 0 (take number texts ++ t ∷ [])) (sym (get_or_from_slice_get texts number text text at))
    ∙ ap (contents_of_texts 0) (sym (take_more texts number text within))

pub loop-number-preserved : goal.loop-number-preserved
loop-number-preserved g c =
    let texts = map string_bytes c.args.files.now.texts.items in
    let number = c.loop-number.number in
    let same : c.deref-text-items.result.now ≡ c.args.files.now.texts.items = search rules in
    let at : slice_get texts number ≡ Some (string_bytes c.text-item.result)
    = subst (λ ts. slice_get (map string_bytes ts) number ≡ Some (string_bytes c.text-item.result)) same
    (get_map string_bytes c.deref-text-items.result.now number c.text-item.result
    (slice_get_read c.deref-text-items.result.now (length c.deref-text-items.result.now) number c.text-item.result
    refl c.loop-number-test.true c.text-item.is)) in
    let here : slice_get texts number ≡ Some c.deref.result.now = search rules in
    one_more c.texts_follow.ensures texts number c.deref.result.now _ _ here c.in_ok-add_text.ensures c.loop-number.invariant

pub returns : goal.returns
returns g c =
    let texts = map string_bytes c.args.files.now.texts.items in
    let number = c.loop-number.number in
    let same : c.deref-text-items.result.now ≡ c.args.files.now.texts.items = search rules in
    let all : length texts ≤ number
    = subst (λ n. n ≤ number) (sym (length-map c.args.files.now.texts.items string_bytes)) (subst (λ ts. length ts ≤ number) same c.loop-number-test.false) in
    c.loop-number.invariant ∙ ap (contents_of_texts 0) (take_all number texts all)

use Rattle.std.proofs.Common.{◌+◌, ◌∷◌, sym, ap, ◌∙◌, subst, drop, string_bytes}
use Rattle.std.proofs.lemmas.List.{drop_more}
use Rattle.text_documents.specs.Changes.{IsEditBy}
use Rattle.text_documents.proofs.ChangeLemmas.{one_made}
use Rattle.text_documents.proofs.changes.changed.Goals as goal

pub loop-change-preserved : goal.loop-change-preserved
loop-change-preserved c =
    let all = c.args.changes.now in let i = c.loop-change.change-index in let change = c.change-item.result in
    let next = string_bytes c.in-Some.next in
    let made : IsEditBy c.as_str.result.now change next = rw c.in-Some.is at c.in_ok-next.ensures.made in
    one_made _ _ next all (drop (i + 1) all) change i
    (drop_more all i change c.loop-change-test.true ∙ ap (λ x. x ∷ drop (i + 1) all) (sym c.change-item.is))
    (subst (λ t. IsEditBy t change next) c.as_str.ensures.value made)
    c.loop-change.invariant

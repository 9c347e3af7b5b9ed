use Rattle.std.proofs.Common.{◌≡◌, ◌∙◌, ◌++◌, Some, None, option_map, cond, sym, ap}
use Rattle.std.specs.Prelude.{string_bytes}
use Rattle.std.specs.HashMap.{get_by_text}
use Rattle.std.specs.Str.{bytes_eq}
use Rattle.std.proofs.lemmas.List.{append-nil}
use Rattle.std.proofs.lemmas.Map.Text.{hash_map_updates_text}
use Rattle.std.proofs.lemmas.Result.{IfErr-weaker, on_ok_weaker}
use Rattle.rust_items.specs.ItemViews.{added_view, held_in}
use Rattle.rust_items.specs.WrittenItems.{ContextFunction, kept_or_new, new_lines}
use Rattle.rust_items.proofs.HeldNames.{read_updated}
use Rattle.rust_items.proofs.Turns.{tells_more}
use Rattle.rust_items.proofs.context.push_once.Goals as goal

pub returns-in-Some-clause-lines : goal.returns-in-Some-clause-lines
returns-in-Some-clause-lines c =
    let old = c.args.held.now in let f = added_view c.args.function.now in
    let at = ap (held_in old) (sym c.as_str.ensures.value) ∙ ap (option_map added_view) (sym c.in-Some.ensures.value) in
    on_ok_weaker c.check_alike.result (λ _. sym (append-nil (string_bytes c.args.out.now)) ∙ ap (λ o. string_bytes c.args.out.now ++ new_lines o f) (sym at)) c.check_alike.ensures.same

pub returns-in-Some-clause-held : goal.returns-in-Some-clause-held
returns-in-Some-clause-held c =
    let old = c.args.held.now in let f = added_view c.args.function.now in
    let at = ap (held_in old) (sym c.as_str.ensures.value) ∙ ap (option_map added_view) (sym c.in-Some.ensures.value) in
    on_ok_weaker c.check_alike.result (λ _ q. ap (λ o. kept_or_new o f q (held_in old q)) (sym at)) c.check_alike.ensures.same

pub returns-in-Some-clause-same : goal.returns-in-Some-clause-same
returns-in-Some-clause-same c =
    let old = c.args.held.now in
    let at = ap (held_in old) (sym c.as_str.ensures.value) ∙ ap (option_map added_view) (sym c.in-Some.ensures.value) in
    on_ok_weaker c.check_alike.result
    (λ h g e.
    let both : Some (added_view c.in-Some.earlier.now) ≡ Some g = sym at ∙ e in
    let one : added_view c.in-Some.earlier.now ≡ g = cc in
    ap (λ (x : ContextFunction). x.text) (sym one) ∙ h)
    c.check_alike.ensures.same

pub returns-in-Some-clause-unlike : goal.returns-in-Some-clause-unlike
returns-in-Some-clause-unlike c =
    let old = c.args.held.now in
    let at = ap (held_in old) (sym c.as_str.ensures.value) ∙ ap (option_map added_view) (sym c.in-Some.ensures.value) in
    IfErr-weaker c.check_alike.result _ _ (λ e h. tells_more e _ _ h (λ text x. (added_view c.in-Some.earlier.now, at, x.0, x.1))) c.check_alike.ensures.other

pub returns-clause-lines : goal.returns-clause-lines
returns-clause-lines c =
    let old = c.args.held.now in let f = added_view c.args.function.now in
    let none = ap (held_in old) (sym c.as_str.ensures.value) ∙ ap (option_map added_view) (sym c.in_default.ensures.value) in
    c.in_ok-push_str.ensures.bytes ∙ ap (λ t. string_bytes c.args.out.now ++ t) c.deref.ensures ∙ ap (λ o. string_bytes c.args.out.now ++ new_lines o f) (sym none)

pub returns-clause-held : goal.returns-clause-held
returns-clause-held c = λ q.
    let old = c.args.held.now in let f = added_view c.args.function.now in
    let none = ap (held_in old) (sym c.as_str.ensures.value) ∙ ap (option_map added_view) (sym c.in_default.ensures.value) in
    let sets = hash_map_updates_text (string_bytes c.in_ok-name.name) old c.insert.new.self _ c.in_ok-insert.ensures.updates in
    read_updated added_view (get_by_text old) (get_by_text c.insert.new.self) (string_bytes c.in_ok-name.name) c.in_ok-copy.copy sets q
    ∙ ap (λ w. cond (bytes_eq w q) (Some (added_view c.in_ok-copy.copy)) (held_in old q)) c.in_ok-name.ensures.cases
    ∙ ap (λ o. cond (bytes_eq (string_bytes c.args.function.now.name) q) (Some o) (held_in old q)) c.in_ok-copy.ensures
    ∙ ap (λ o. kept_or_new o f q (held_in old q)) (sym none)

pub returns-clause-same : goal.returns-clause-same
returns-clause-same c = λ g e.
    let none = ap (held_in c.args.held.now) (sym c.as_str.ensures.value) ∙ ap (option_map added_view) (sym c.in_default.ensures.value) in
    let clash : None ≡ Some g = sym none ∙ e in absurd (cc)

use Rattle.std.proofs.Common.{◌≡◌, cond, Some, None, option_map, sym, ap, ◌∙◌}
use Rattle.std.specs.Prelude.{string_bytes}
use Rattle.std.specs.HashMap.{get_by_text}
use Rattle.std.specs.Str.{bytes_eq}
use Rattle.std.proofs.lemmas.Map.Text.{hash_map_updates_text}
use Rattle.rust_items.specs.ClaimViews.{owner_in}
use Rattle.rust_items.proofs.HeldNames.{read_updated, free_kept, nothing_found}
use Rattle.rust_items.proofs.claims.note.Goals as goal

pub returns-in-Some-clause-free : goal.returns-in-Some-clause-free
returns-in-Some-clause-free c =
    free_kept c.check_same.result _ c.as_str-in-Some.result.now _
    (ap (λ w. owner_in c.args.owners.now w) (sym c.as_str.ensures.value) ∙ ap (λ x. option_map string_bytes x) (sym c.in-Some.ensures.value) ∙ ap Some (sym c.as_str-in-Some.ensures.value))
    c.check_same.ensures.same

pub returns-clause-held : goal.returns-clause-held
returns-clause-held c = λ q.
    let old = c.args.owners.now in
    let sets = hash_map_updates_text (string_bytes c.in_ok-written.written) old c.insert.new.self _ c.in_ok-insert.ensures.updates in
    read_updated (λ x. string_bytes x) (get_by_text old) (get_by_text c.insert.new.self) (string_bytes c.in_ok-written.written) c.in_ok-owner.owner sets q
    ∙ ap (λ w. cond (bytes_eq w q) (Some (string_bytes c.in_ok-owner.owner)) (owner_in old q)) c.in_ok-written.ensures.cases
    ∙ ap (λ o. cond (bytes_eq (string_bytes c.args.claim.now.written) q) (Some o) (owner_in old q)) c.in_ok-owner.ensures.cases

pub returns-clause-free : goal.returns-clause-free
returns-clause-free c = λ o h.
    nothing_found _ o _ (ap (λ w. owner_in c.args.owners.now w) (sym c.as_str.ensures.value) ∙ ap (λ x. option_map string_bytes x) (sym c.in_default.ensures.value)) h

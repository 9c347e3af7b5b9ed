use Rattle.std.proofs.Common.{ℕ, Some, ap₂, arith}
use Rattle.std.proofs.lemmas.Option.{none-some, same_Some}
use Rattle.text_documents.proofs.edits.range_at.Goals as goal

pub returns-in_err-from-clause-only : goal.returns-in_err-from-clause-only
returns-in_err-from-clause-only c = λ a b h. absurd (none-some a (c.in_err-from.ensures.only a h.begins))

pub returns-in_err-to-clause-only : goal.returns-in_err-to-clause-only
returns-in_err-to-clause-only c = λ a b h. absurd (none-some b (c.in_err-to.ensures.only b h.ends))

pub returns-then-to-from-clause-only : goal.returns-then-to-from-clause-only
returns-then-to-from-clause-only c = λ a b h.
    let x = same_Some c.in_ok-from.from a (c.in_ok-from.ensures.only a h.begins) in
    let y = same_Some c.in_ok-to.to b (c.in_ok-to.ensures.only b h.ends) in
    absurd (omega (arith, x, y, h.ordered, c.if-to-from.true))

pub returns-clause-only : goal.returns-clause-only
returns-clause-only c = λ a b h.
    let x = same_Some c.in_ok-from.from a (c.in_ok-from.ensures.only a h.begins) in
    let y = same_Some c.in_ok-to.to b (c.in_ok-to.ensures.only b h.ends) in
    ap₂ (λ (x y : ℕ). Some (x, y)) x y
